use Rattle.std.proofs.Common.{◌≡◌, ◌+◌, ◌++◌, ◌∷◌, [], ℕ, List, ap, arith, sym, subst, ◌∙◌}
use Rattle.mt_rows.specs.declared.rows.Row.{Row}
use Rattle.mt_slots.specs.Page.{count, slot}
use Rattle.mt_steps.proofs.Listed.{HasListedTo, empty_slot, first_slot, full_slot, last_slot}
use Rattle.mt_steps.proofs.listed_base.list_rows.Goals as goal
use Rattle.mt_steps.proofs.listed_base.list_rows.Goals.{in-Some+in_ok-row_copy+in_ok-push, in_default}

pub loop-slot-init : goal.loop-slot-init
loop-slot-init c = λ pages p m same records named was. first_slot pages p _ was

pub loop-slot-preserved : goal.loop-slot-preserved
loop-slot-preserved c =
    let i = c.loop-slot.slot in
    elim c.match-get.branch [
      | in-Some+in_ok-row_copy+in_ok-push w ↦ λ pages p m same records named was.
          let x : Row = record { relation = w.in-Some.view.relation; key = w.in-Some.view.key.now; value = w.in-Some.view.value.now } in
          let pushed : c.match-get.rows.items ≡ c.loop-slot.rows.items ++ x ∷ [] = ap (λ v. v.items) w.rows-is ∙ w.in_ok-push.ensures.items ∙ ap (λ (y : Row). c.loop-slot.rows.items ++ y ∷ []) w.in_ok-row_copy.ensures in
          full_slot pages m p i c.loop-slot.rows.items c.match-get.rows.items x records (ap (λ (bytes : List ℕ). slot bytes i) same ∙ w.in-Some.ensures.found) named pushed
          (c.loop-slot.invariant pages p m same records named was)
      | in_default w ↦ λ pages p m same records named was.
          subst (λ v. HasListedTo pages p (i + 1) v.items) (sym w.rows-is)
          (empty_slot pages p i c.loop-slot.rows.items records (ap (λ (bytes : List ℕ). slot bytes i) same ∙ w.in_default.ensures.none) (c.loop-slot.invariant pages p m same records named was))
    ]

pub returns : goal.returns
unfolding count
returns c = record {
  listed = λ pages p m same records named was.
      let size : count (pages p) ≡ c.u16_at-slot-end.result = ap count same ∙ sym c.u16_at-slot-end.ensures in
      last_slot pages p c.loop-slot.slot c.loop-slot.rows.items records (omega (arith, size, c.loop-slot-test.false)) (c.loop-slot.invariant pages p m same records named was);
}
