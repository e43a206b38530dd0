-- What the contracts of this crate cite.
pub mod Decimals
pub mod TextCommand
pub mod Things
pub mod Listing
pub mod Totals
pub mod InfoText
