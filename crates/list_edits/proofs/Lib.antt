-- The lemmas of this crate.
pub mod PairsLemmas
pub mod DecimalLemmas
pub mod RateLemmas
pub mod ThingsLemmas
pub mod ListingLemmas
pub mod TextLemmas
pub mod InfoLemmas
pub mod TotalsLemmas
