use Rattle.std.proofs.Common.{◌≢◌, ◌<◌, ◌^◌, ℕ}
use Rattle.std.specs.Fmt.{decimal}
use Rattle.mt_script.proofs.LineLemmas.{differs}
use Rattle.mt_report.proofs.EventLemmas.{no_number}
use Rattle.mt_report.proofs.schedules.event_with.Goals as goal

pub returns-in-None : goal.returns-in-None
returns-in-None c =
    let none : (n : ℕ) → n < 2 ^ 64 → c.args.words.now ≢ decimal n = rw c.in-None.is at c.in_ok-number.ensures in
    no_number c.args.word.now c.args.words.now c.requires (differs _ _ c.is_text_of.result c.is_text_of.ensures c.if-is_text_of.false)
    (differs _ _ c.is_text_of-2.result c.is_text_of-2.ensures c.if-is_text_of-2.false) none
