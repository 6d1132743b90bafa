pub mod ByteLemmas
pub mod LeftLemmas
pub mod ReadLemmas
pub mod SeenLemmas
