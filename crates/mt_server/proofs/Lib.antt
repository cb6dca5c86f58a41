mod HeardLemmas
mod HearingLemmas
mod AttemptLemmas
mod SessionRuns
mod CrewLemmas
mod ServingLemmas
