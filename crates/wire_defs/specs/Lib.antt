pub mod Requests
pub mod Replies
pub mod Serving
pub mod Links
