pub mod Swept
pub mod Missed
