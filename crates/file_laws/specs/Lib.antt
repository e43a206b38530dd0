-- What the laws of this crate cite.
pub mod CutLaws
pub mod WrittenLaws
