pub mod Asking
pub mod Reading
pub mod Ends
pub mod Loops
pub mod Linked
pub mod LinkProviders
