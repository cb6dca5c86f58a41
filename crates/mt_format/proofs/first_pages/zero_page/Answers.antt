use Rattle.mt_format.proofs.Zeros.{zero_at}
use Rattle.mt_format.proofs.first_pages.zero_page.Goals as goal

pub returns : goal.returns
returns c = λ i from to. zero_at 4096 i
