use Rattle.std.proofs.Common.{◌≡◌, ◌++◌, ◌∷◌, [], remove, Contains, subst, arith, to_z-of_z, SFits, w64}
use Rattle.std.proofs.lemmas.List.Edits.{length-remove}
use Rattle.mt_model.specs.declared.pending_add.Pending.{Pending}
use Rattle.mt_model.specs.Pending.{TakesOut}
use Rattle.mt_escrow.specs.Seen.{Escrowed, add_of, IsLastAdd}
use Rattle.mt_escrow.proofs.Removing.{takes_out, takes_none}
use Rattle.mt_escrow.proofs.Viewing.{kept_aside}
use Rattle.mt_escrow.proofs.accounts.Escrow.set_aside.Goals as goal

pub invariant_of-self : goal.invariant_of-self
invariant_of-self c =
    let adds = c.self.inside.pending.items in
    let p : Pending = add_of c.args.txn c.args.counter c.args.step in
    let step : SFits w64 c.args.step = c.ranges.step in
    let found : IsLastAdd c.deref.result.now p c.in-Some.place = simp to_z-of_z at c.in-Some.ensures in
    let at : IsLastAdd adds p c.in-Some.place = subst (λ ps. IsLastAdd ps p c.in-Some.place) c.deref.ensures.value found in
    let aside : c.push_reserved.new.self.items ≡ c.self.inside.aside.items ++ p ∷ [] = simp to_z-of_z at c.push_reserved.ensures.items in
    let fewer = length-remove adds c.in-Some.place at.there in
    let was = c.self.invariant.room in
    record {
      kept = rw (c.remove.ensures.items, aside) (kept_aside c.self.inside.rooms.items c.self.inside.aside.items adds p c.in-Some.place c.self.invariant.kept at);
      room = rw c.remove.ensures.items (omega (arith, fewer, was, c.push_reserved.ensures.len, c.push_reserved.ensures.capacity));
    }

pub returns-in-Some-clause-taken : goal.returns-in-Some-clause-taken
returns-in-Some-clause-taken c =
    let rooms = c.self.inside.rooms.items in
    let adds = c.self.inside.pending.items in
    let p : Pending = add_of c.args.txn c.args.counter c.args.step in
    let step : SFits w64 c.args.step = c.ranges.step in
    let found : IsLastAdd c.deref.result.now p c.in-Some.place = simp to_z-of_z at c.in-Some.ensures in
    let at : IsLastAdd adds p c.in-Some.place = subst (λ ps. IsLastAdd ps p c.in-Some.place) c.deref.ensures.value found in
    rw c.remove.ensures.items
    (subst (λ (e : Escrowed). TakesOut p e.pending (remove adds c.in-Some.place)) c.self.view_is (takes_out adds p c.in-Some.place at))

pub returns-in_default-clause-taken : goal.returns-in_default-clause-taken
returns-in_default-clause-taken c =
    let p : Pending = add_of c.args.txn c.args.counter c.args.step in
    let step : SFits w64 c.args.step = c.ranges.step in
    let apart : Contains c.deref.result.now p → ⊥ = simp to_z-of_z at c.in_default.ensures in
    let absent : Contains c.args.self.now.pending p → ⊥ =
    subst (λ (e : Escrowed). Contains e.pending p → ⊥) c.self.view_is (subst (λ ps. Contains ps p → ⊥) c.deref.ensures.value apart) in
    takes_none c.args.self.now.pending p absent
