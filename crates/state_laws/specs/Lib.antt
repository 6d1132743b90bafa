pub mod Orders
pub mod Follows
pub mod SoundJobs
pub mod Sound
