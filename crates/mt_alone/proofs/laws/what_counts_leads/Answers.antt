use Rattle.mt_alone.proofs.SavepointLemmas.{goes_back_alike, what_counts_leads}
use Rattle.mt_alone.proofs.laws.what_counts_leads.Goals as goal

pub returns-clause-leads : goal.returns-clause-leads
returns-clause-leads c = what_counts_leads

pub returns-clause-alike : goal.returns-clause-alike
returns-clause-alike c = goes_back_alike
