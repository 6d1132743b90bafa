mod Words
pub mod UniqueLaws
pub mod RightBlocks
pub mod Counts
pub mod RightRows
pub mod OtherRows
pub mod Exclusive
pub mod Worked
