pub mod FilesLemmas
pub mod CountsLemmas
pub mod PieceLemmas
pub mod FeedLemmas
pub mod BufferOutputLemmas
pub mod PassLemmas
pub mod SentLemmas
mod FileRoomsLemmas
pub mod ShortLemmas
pub mod KeptLemmas
