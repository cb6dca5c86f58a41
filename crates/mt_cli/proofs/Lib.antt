pub mod AtOnceLemmas
pub mod Endings
pub mod Framed
pub mod ReadLemmas
pub mod ServeLemmas
pub mod Trials
