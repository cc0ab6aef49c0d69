-- Lemmas, by topic.
pub mod CellLists
pub mod Counting
pub mod Found
pub mod NumberBytes
pub mod Outside
pub mod Positions
pub mod RangeLemmas
pub mod ReachRows
pub mod ReadBack
pub mod SameReach
pub mod Subranges
