use Rattle.std.proofs.Common.{◌≢◌, ◌<◌, ◌^◌, ℕ, sym, ◌∙◌}
use Rattle.std.specs.Fmt.{decimal}
use Rattle.mt_model.specs.declared.operations.Op.{Op}
use Rattle.mt_script.specs.Lines.{SpellsOp, op_text}
use Rattle.mt_script.proofs.LineLemmas.{decimal_unspaced, same_cut}
use Rattle.mt_report.proofs.EventLemmas.{call_spaced, no_call}
use Rattle.mt_report.proofs.schedules.call_of.Goals as goal

pub returns-in_default : goal.returns-in_default
returns-in_default c = no_call c.args.words.now (λ t op e wide spelled. call_spaced c.args.words.now c.in_default.ensures.none t op e)

pub returns-in_default-2 : goal.returns-in_default-2
returns-in_default-2 c =
    let none : (n : ℕ) → n < 2 ^ 64 → c.in-Some.word.now ≢ decimal n = rw c.in_default-2.is at c.in_ok-txn.ensures in
    let found = c.in-Some.ensures.found in
    no_call c.args.words.now (λ t op e wide spelled.
    none t wide (same_cut 32 c.in-Some.word.now (decimal t) c.in-Some.rest.now (op_text op) found.1 (decimal_unspaced t wide) (sym found.0 ∙ e)).0)

pub returns-in-None : goal.returns-in-None
returns-in-None c =
    let none : (op : Op) → SpellsOp c.in-Some.rest.now op → ⊥ = rw c.in-None.is at c.in_ok-op.ensures in
    let found = c.in-Some.ensures.found in
    no_call c.args.words.now (λ t op e wide spelled.
    none op ((same_cut 32 c.in-Some.word.now (decimal t) c.in-Some.rest.now (op_text op) found.1 (decimal_unspaced t wide) (sym found.0 ∙ e)).1, spelled))
