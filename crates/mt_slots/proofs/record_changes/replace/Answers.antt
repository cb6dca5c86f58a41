use Rattle.std.proofs.Common.{◌≡◌, subst, ℕ, Option, Some, None, arith}
use Rattle.std.specs.Option.{IfNone}
use Rattle.std.proofs.lemmas.Option.{IfSome_then}
use Rattle.mt_slots.specs.Page.{count, size}
use Rattle.mt_slots.proofs.Checked.{live_slot, sets_row, too_long}
use Rattle.mt_slots.proofs.Listed.{sets_list}
use Rattle.mt_slots.proofs.record_changes.replace.Goals as goal

pub replace_live-requires-clause-there : goal.replace_live-requires-clause-there
replace_live-requires-clause-there c =
    let same = c.from.ensures in
    let there = (live_slot c.args.page.now c.args.slot c.requires.live).0 in
    omega arith

pub replace_live-requires-clause-live : goal.replace_live-requires-clause-live
replace_live-requires-clause-live c = λ none. (live_slot c.args.page.now c.args.slot c.requires.live).1 (subst (λ (k : ℕ). size c.args.page.now k ≡ 0) c.from.ensures none)

pub returns-clause-done : goal.returns-clause-done
returns-clause-done c = IfSome_then c.replace_live.result c.replace_live.ensures.done (λ touched sets r is.
    sets_row c.args.page.now c.replace_live.new.page c.from.result c.args.slot (count c.args.page.now) c.args.value.now r c.from.ensures is sets)

pub returns-clause-list : goal.returns-clause-list
returns-clause-list c = IfSome_then c.replace_live.result c.replace_live.ensures.done (λ touched sets r is.
    sets_list c.args.page.now c.replace_live.new.page c.args.slot (Some (record r { value = c.args.value.now })) (live_slot c.args.page.now c.args.slot c.requires.live).0
    (sets_row c.args.page.now c.replace_live.new.page c.from.result c.args.slot (count c.args.page.now) c.args.value.now r c.from.ensures is sets))

-- what follows from what a clause says of no value
then_none : {X P Q : Type 0} (o : Option X) → IfNone o P → (P → Q) → IfNone o Q
then_none None is then = then is
then_none (Some x) is then = tt

pub returns-clause-full : goal.returns-clause-full
returns-clause-full c = then_none c.replace_live.result c.replace_live.ensures.full (λ full r is.
    too_long c.args.page.now c.from.result c.args.slot c.args.value.now r c.requires.shaped c.from.ensures is full)
