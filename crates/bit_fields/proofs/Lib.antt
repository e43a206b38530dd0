pub mod BitsLemmas
pub mod GroupsLemmas
mod GroupBytesLemmas
pub mod WordLemmas
