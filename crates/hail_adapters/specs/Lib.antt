pub mod BlockNames
pub mod DiskCounts
pub mod FolderCounts
