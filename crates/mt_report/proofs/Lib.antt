pub mod AdviceLemmas
pub mod EventLemmas
pub mod ExcessLemmas
