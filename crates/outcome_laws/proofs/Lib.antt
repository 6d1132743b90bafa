mod Words
pub mod Listings
pub mod Begun
pub mod LostRepairs
pub mod Repairs
pub mod Unfailed
pub mod OneSums
pub mod Audits
pub mod NoFaults
pub mod Doubted
