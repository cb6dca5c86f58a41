use Rattle.std.proofs.Common.{◌≡◌, ◌<◌, ◌++◌, length, remove, Contains, ap, refl, sym, subst, ◌∙◌, arith, to_z-of_z, SFits, w64}
use Rattle.std.proofs.lemmas.List.Edits.{length-remove}
use Rattle.mt_base.specs.Limits.{IsStep}
use Rattle.mt_model.specs.declared.pending_add.Pending.{Pending}
use Rattle.mt_model.specs.Pending.{steps_at, TakesOut}
use Rattle.mt_escrow.specs.Seen.{Escrowed, add_of, IsLastAdd, LosesLast}
use Rattle.mt_escrow.specs.Rooms.{IsModest, let_go, room_at}
use Rattle.mt_escrow.proofs.Changing.{modest}
use Rattle.mt_escrow.proofs.Removing.{loses_last, loses_none, takes_out, takes_none}
use Rattle.mt_escrow.proofs.Viewing.{read, is_placed, kept_gone, same_counters}
use Rattle.mt_escrow.proofs.accounts.Escrow.taken_back.Goals as goal

pub without-requires-clause-modest : goal.without-requires-clause-modest
without-requires-clause-modest c =
    let rooms = c.self.inside.rooms.items in
    let adds = c.self.inside.pending.items in
    let p : Pending = add_of c.args.txn c.args.counter c.args.step in
    let step : SFits w64 c.args.step = c.ranges.step in
    let found : IsLastAdd c.deref.result.now p c.in-Some.place = simp to_z-of_z at c.in-Some.ensures in
    let at : IsLastAdd adds p c.in-Some.place = subst (λ ps. IsLastAdd ps p c.in-Some.place) c.deref.ensures.value found in
    let there : (c.args.counter < length rooms) × IsStep c.args.step = is_placed rooms c.self.inside.aside.items adds p c.in-Some.place c.self.invariant.kept at in
    let place : c.from.result ≡ c.args.counter = c.from.ensures ∙ c.get.ensures in
    let inside : c.from.result < length rooms = let lt = there.0 in omega arith in
    let now : c.index_mut-room.result.now ≡ room_at rooms c.args.counter =
    read rooms c.from.result c.index_mut-room.result.now inside c.index_mut-room.ensures.value ∙ ap (room_at rooms) place in
    subst (λ r. IsModest r) (sym now)
    (modest (room_at rooms c.args.counter) (steps_at c.args.counter (c.self.inside.aside.items ++ adds)) (c.self.invariant.kept.each c.args.counter))

pub index_mut-room-requires : goal.index_mut-room-requires
index_mut-room-requires c =
    let rooms = c.self.inside.rooms.items in
    let adds = c.self.inside.pending.items in
    let p : Pending = add_of c.args.txn c.args.counter c.args.step in
    let step : SFits w64 c.args.step = c.ranges.step in
    let found : IsLastAdd c.deref.result.now p c.in-Some.place = simp to_z-of_z at c.in-Some.ensures in
    let at : IsLastAdd adds p c.in-Some.place = subst (λ ps. IsLastAdd ps p c.in-Some.place) c.deref.ensures.value found in
    let there : (c.args.counter < length rooms) × IsStep c.args.step = is_placed rooms c.self.inside.aside.items adds p c.in-Some.place c.self.invariant.kept at in
    let place : c.from.result ≡ c.args.counter = c.from.ensures ∙ c.get.ensures in
    let lt = there.0 in
    omega arith

pub without-requires-clause-step : goal.without-requires-clause-step
without-requires-clause-step c =
    let rooms = c.self.inside.rooms.items in
    let adds = c.self.inside.pending.items in
    let p : Pending = add_of c.args.txn c.args.counter c.args.step in
    let step : SFits w64 c.args.step = c.ranges.step in
    let found : IsLastAdd c.deref.result.now p c.in-Some.place = simp to_z-of_z at c.in-Some.ensures in
    let at : IsLastAdd adds p c.in-Some.place = subst (λ ps. IsLastAdd ps p c.in-Some.place) c.deref.ensures.value found in
    simp to_z-of_z (is_placed rooms c.self.inside.aside.items adds p c.in-Some.place c.self.invariant.kept at).1

pub invariant_of-self : goal.invariant_of-self
invariant_of-self c =
    let rooms = c.self.inside.rooms.items in
    let adds = c.self.inside.pending.items in
    let p : Pending = add_of c.args.txn c.args.counter c.args.step in
    let step : SFits w64 c.args.step = c.ranges.step in
    let found : IsLastAdd c.deref.result.now p c.in-Some.place = simp to_z-of_z at c.in-Some.ensures in
    let at : IsLastAdd adds p c.in-Some.place = subst (λ ps. IsLastAdd ps p c.in-Some.place) c.deref.ensures.value found in
    let there : (c.args.counter < length rooms) × IsStep c.args.step = is_placed rooms c.self.inside.aside.items adds p c.in-Some.place c.self.invariant.kept at in
    let place : c.from.result ≡ c.args.counter = c.from.ensures ∙ c.get.ensures in
    let inside : c.from.result < length rooms = let lt = there.0 in omega arith in
    let now : c.index_mut-room.result.now ≡ room_at rooms c.args.counter =
    read rooms c.from.result c.index_mut-room.result.now inside c.index_mut-room.ensures.value ∙ ap (room_at rooms) place in
    let room : c.without.result ≡ let_go c.args.step (room_at rooms c.args.counter) =
    (simp to_z-of_z at c.without.ensures) ∙ ap (let_go c.args.step) now in
    let fewer = length-remove adds c.in-Some.place at.there in
    let was = c.self.invariant.room in
    record {
      kept = rw (c.remove.ensures.items, room, place) (kept_gone rooms c.self.inside.aside.items adds p c.in-Some.place c.self.invariant.kept at);
      room = rw c.remove.ensures.items (omega (arith, fewer, was));
    }

pub returns-in-Some-clause-committed : goal.returns-in-Some-clause-committed
returns-in-Some-clause-committed c =
    let rooms = c.self.inside.rooms.items in
    let adds = c.self.inside.pending.items in
    let p : Pending = add_of c.args.txn c.args.counter c.args.step in
    let step : SFits w64 c.args.step = c.ranges.step in
    let found : IsLastAdd c.deref.result.now p c.in-Some.place = simp to_z-of_z at c.in-Some.ensures in
    let at : IsLastAdd adds p c.in-Some.place = subst (λ ps. IsLastAdd ps p c.in-Some.place) c.deref.ensures.value found in
    let there : (c.args.counter < length rooms) × IsStep c.args.step = is_placed rooms c.self.inside.aside.items adds p c.in-Some.place c.self.invariant.kept at in
    let place : c.from.result ≡ c.args.counter = c.from.ensures ∙ c.get.ensures in
    let inside : c.from.result < length rooms = let lt = there.0 in omega arith in
    let now : c.index_mut-room.result.now ≡ room_at rooms c.args.counter =
    read rooms c.from.result c.index_mut-room.result.now inside c.index_mut-room.ensures.value ∙ ap (room_at rooms) place in
    let room : c.without.result ≡ let_go c.args.step (room_at rooms c.args.counter) =
    (simp to_z-of_z at c.without.ensures) ∙ ap (let_go c.args.step) now in
    rw (room, place) (same_counters rooms c.args.counter (let_go c.args.step (room_at rooms c.args.counter)) refl)
    ∙ ap (λ (e : Escrowed). e.committed) c.self.view_is

pub returns-in-Some-clause-gone : goal.returns-in-Some-clause-gone
returns-in-Some-clause-gone c =
    let rooms = c.self.inside.rooms.items in
    let adds = c.self.inside.pending.items in
    let p : Pending = add_of c.args.txn c.args.counter c.args.step in
    let step : SFits w64 c.args.step = c.ranges.step in
    let found : IsLastAdd c.deref.result.now p c.in-Some.place = simp to_z-of_z at c.in-Some.ensures in
    let at : IsLastAdd adds p c.in-Some.place = subst (λ ps. IsLastAdd ps p c.in-Some.place) c.deref.ensures.value found in
    rw c.remove.ensures.items
    (subst (λ (e : Escrowed). LosesLast p e.pending (remove adds c.in-Some.place)) c.self.view_is (loses_last adds p c.in-Some.place at))

pub returns-in-Some-clause-taken : goal.returns-in-Some-clause-taken
returns-in-Some-clause-taken c =
    let rooms = c.self.inside.rooms.items in
    let adds = c.self.inside.pending.items in
    let p : Pending = add_of c.args.txn c.args.counter c.args.step in
    let step : SFits w64 c.args.step = c.ranges.step in
    let found : IsLastAdd c.deref.result.now p c.in-Some.place = simp to_z-of_z at c.in-Some.ensures in
    let at : IsLastAdd adds p c.in-Some.place = subst (λ ps. IsLastAdd ps p c.in-Some.place) c.deref.ensures.value found in
    rw c.remove.ensures.items
    (subst (λ (e : Escrowed). TakesOut p e.pending (remove adds c.in-Some.place)) c.self.view_is (takes_out adds p c.in-Some.place at))

pub returns-in_default-clause-gone : goal.returns-in_default-clause-gone
returns-in_default-clause-gone c =
    let p : Pending = add_of c.args.txn c.args.counter c.args.step in
    let step : SFits w64 c.args.step = c.ranges.step in
    let apart : Contains c.deref.result.now p → ⊥ = simp to_z-of_z at c.in_default.ensures in
    let absent : Contains c.args.self.now.pending p → ⊥ =
    subst (λ (e : Escrowed). Contains e.pending p → ⊥) c.self.view_is (subst (λ ps. Contains ps p → ⊥) c.deref.ensures.value apart) in
    loses_none c.args.self.now.pending p absent

pub returns-in_default-clause-taken : goal.returns-in_default-clause-taken
returns-in_default-clause-taken c =
    let p : Pending = add_of c.args.txn c.args.counter c.args.step in
    let step : SFits w64 c.args.step = c.ranges.step in
    let apart : Contains c.deref.result.now p → ⊥ = simp to_z-of_z at c.in_default.ensures in
    let absent : Contains c.args.self.now.pending p → ⊥ =
    subst (λ (e : Escrowed). Contains e.pending p → ⊥) c.self.view_is (subst (λ ps. Contains ps p → ⊥) c.deref.ensures.value apart) in
    takes_none c.args.self.now.pending p absent
