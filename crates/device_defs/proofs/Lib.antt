pub mod Lasting
pub mod Splices
pub mod ImageLaws
pub mod PickLaws
pub mod TearLaws
pub mod WriteLaws
