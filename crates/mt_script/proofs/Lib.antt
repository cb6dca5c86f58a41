mod FaultLemmas
pub mod LineLemmas
mod ScriptLemmas
pub mod TextLemmas
