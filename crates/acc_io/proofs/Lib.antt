-- Lemmas on what a sink gains, how a file is found, and what is selected.
pub mod GainsLemmas
pub mod FilesLemmas
pub mod SelectionLemmas
