-- What the laws of this crate cite.
pub mod StretchLaws
pub mod SlotLaws
pub mod NumberLaws
pub mod PlayLaws
pub mod CutLaws
pub mod PieceLaws
pub mod JoinLaws
