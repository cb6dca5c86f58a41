-- No event of a schedule has an LF in it: a law of its grammar.
use Rattle.std.specs.Prelude.{◌∷◌, ◌++◌, codes}
use Rattle.std.specs.Fmt.{decimal}
use Rattle.std.proofs.Common.{arith, refl}
use Rattle.mt_script.specs.Lines.{op_text}
use Rattle.mt_script.specs.Whole.{IsWhole, decimal_whole, is_without, op_whole, spaced}
use Rattle.mt_world.specs.declared.events.Event.{Event}
use Rattle.mt_world.specs.declared.events.Event.TheVariants.{Begin, Call, Step, Commit, AbortBegin, AbortStep, Back, BackStep, Force, Flush, Rotate}
use Rattle.mt_report.specs.Events.{IsEvent, event_text}

pub event_whole : (event : Event) → IsEvent event → IsWhole (event_text event)
event_whole (Begin session) s = spaced (codes "begin") (decimal session) (is_without 10 (codes "begin") refl)
    (decimal_whole session (omega (arith, s)))
event_whole (Call t op) s = spaced (codes "call" ++ 32 ∷ decimal t) (op_text op)
    (spaced (codes "call") (decimal t) (is_without 10 (codes "call") refl) (decimal_whole t s.0)) (op_whole op s.1)
event_whole (Step t) s = spaced (codes "step") (decimal t) (is_without 10 (codes "step") refl) (decimal_whole t s)
event_whole (Commit t) s = spaced (codes "commit") (decimal t) (is_without 10 (codes "commit") refl) (decimal_whole t s)
event_whole (AbortBegin t) s =
    spaced (codes "abort") (decimal t) (is_without 10 (codes "abort") refl) (decimal_whole t s)
event_whole (AbortStep t) s = spaced (codes "undo") (decimal t) (is_without 10 (codes "undo") refl) (decimal_whole t s)
event_whole (Back t first) s = spaced (codes "back" ++ 32 ∷ decimal t) (decimal first)
    (spaced (codes "back") (decimal t) (is_without 10 (codes "back") refl) (decimal_whole t s.0))
    (decimal_whole first (omega (arith, s.1)))
event_whole (BackStep t) s =
    spaced (codes "backstep") (decimal t) (is_without 10 (codes "backstep") refl) (decimal_whole t s)
event_whole Force s = is_without 10 (codes "force") refl
event_whole Flush s = is_without 10 (codes "flush") refl
event_whole Rotate s = is_without 10 (codes "rotate") refl
