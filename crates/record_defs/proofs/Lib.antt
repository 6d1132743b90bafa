mod Words
pub mod Standing
pub mod FilesLaws
pub mod OrderLaws
pub mod Sizes
pub mod SoundLaws
pub mod PackLaws
pub mod AreaLaws
pub mod TwoAreas
pub mod SizeLaws
