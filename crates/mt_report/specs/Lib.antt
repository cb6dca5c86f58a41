pub mod Advice
pub mod EventWords
pub mod Events
pub mod Excess
pub mod ReadFaults
pub mod AnswerLines
pub mod WholeEvents
