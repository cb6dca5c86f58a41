pub mod CheckLemmas
pub mod DumpLemmas
pub mod ExplainLemmas
pub mod HeldLemmas
pub mod MigrateLemmas
