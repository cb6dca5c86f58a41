pub mod CommandLemmas
pub mod SpellingLemmas
pub mod TableLemmas
