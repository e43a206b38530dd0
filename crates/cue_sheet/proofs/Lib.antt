-- The lemmas of this crate.
pub mod NumbersLemmas
pub mod PartsLemmas
pub mod LinesLemmas
pub mod WordsLemmas
pub mod RisingLemmas
pub mod CuesLemmas
pub mod StartsLemmas
