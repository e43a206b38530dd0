pub mod BlocksLemmas
pub mod NumbersLemmas
pub mod UndoTextLemmas
pub mod ItemsLemmas
pub mod UndoItemsLemmas
pub mod TagsLemmas
