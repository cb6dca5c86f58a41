use Rattle.std.proofs.Common.{◌≡◌, ◌<◌, [], ◌∷◌, ◌++◌, inr, refl, length, map, set, ap, sym, subst, ◌∙◌, append_assoc, arith, to_z-of_z, SFits, w64, true, false}
use Rattle.std.proofs.lemmas.List.{length-map, length-append}
use Rattle.mt_model.specs.declared.pending_add.Pending.{Pending}
use Rattle.mt_model.specs.Escrow.{IsAdmissible}
use Rattle.mt_model.specs.Pending.{steps_at}
use Rattle.mt_model.specs.Tables.{count_at}
use Rattle.mt_escrow.specs.Seen.{Escrowed, add_of, with_add}
use Rattle.mt_escrow.specs.Rooms.{IsModest, Fits, held, room_at, count_of, AreKept}
use Rattle.mt_escrow.proofs.Changing.{modest, modest_held}
use Rattle.mt_escrow.proofs.Viewing.{read, refused, admitted, kept_more, same_counters}
use Rattle.std.specs.Vec.{with_item}
use Rattle.mt_escrow.specs.contracts.accounts.Escrow.{the_view}
use Rattle.mt_escrow.proofs.accounts.Escrow.ask.Goals as goal

pub with-room-requires-clause-modest : goal.with-room-requires-clause-modest
with-room-requires-clause-modest c =
    let rooms = c.self.inside.rooms.items in
    let adds = c.self.inside.aside.items ++ c.self.inside.pending.items in
    let seen : c.args.counter < length (map count_of rooms) =
    subst (λ (e : Escrowed). c.args.counter < length e.committed) (sym c.self.view_is) c.requires.there in
    let there : c.args.counter < length rooms = let long = length-map rooms count_of in omega arith in
    let place : c.from-place.result ≡ c.args.counter = c.from-place.ensures ∙ c.get.ensures in
    let inside : c.from-place.result < length rooms = omega arith in
    let now : c.index.result.now ≡ room_at rooms c.args.counter =
    read rooms c.from-place.result c.index.result.now inside c.index.ensures ∙ ap (room_at rooms) place in
    subst (λ r. IsModest r) (sym now)
    (modest (room_at rooms c.args.counter) (steps_at c.args.counter adds) (c.self.invariant.kept.each c.args.counter))

pub fits-requires : goal.fits-requires
fits-requires c =
    let rooms = c.self.inside.rooms.items in
    let adds = c.self.inside.aside.items ++ c.self.inside.pending.items in
    let seen : c.args.counter < length (map count_of rooms) =
    subst (λ (e : Escrowed). c.args.counter < length e.committed) (sym c.self.view_is) c.requires.there in
    let there : c.args.counter < length rooms = let long = length-map rooms count_of in omega arith in
    let place : c.from-place.result ≡ c.args.counter = c.from-place.ensures ∙ c.get.ensures in
    let inside : c.from-place.result < length rooms = omega arith in
    let now : c.index.result.now ≡ room_at rooms c.args.counter =
    read rooms c.from-place.result c.index.result.now inside c.index.ensures ∙ ap (room_at rooms) place in
    let step : SFits w64 c.args.step = c.ranges.step in
    let room : c.with-room.result ≡ held c.args.step (room_at rooms c.args.counter) =
    (simp to_z-of_z at c.with-room.ensures) ∙ ap (held c.args.step) now in
    subst (λ r. IsModest r) (sym room)
    (modest_held c.args.step (room_at rooms c.args.counter) (steps_at c.args.counter adds) c.requires.step (c.self.invariant.kept.each c.args.counter))

pub returns-then-not-fits-clause-cause : goal.returns-then-not-fits-clause-cause
returns-then-not-fits-clause-cause c =
    let rooms = c.self.inside.rooms.items in
    let adds = c.self.inside.aside.items ++ c.self.inside.pending.items in
    let seen : c.args.counter < length (map count_of rooms) =
    subst (λ (e : Escrowed). c.args.counter < length e.committed) (sym c.self.view_is) c.requires.there in
    let there : c.args.counter < length rooms = let long = length-map rooms count_of in omega arith in
    let place : c.from-place.result ≡ c.args.counter = c.from-place.ensures ∙ c.get.ensures in
    let inside : c.from-place.result < length rooms = omega arith in
    let now : c.index.result.now ≡ room_at rooms c.args.counter =
    read rooms c.from-place.result c.index.result.now inside c.index.ensures ∙ ap (room_at rooms) place in
    let step : SFits w64 c.args.step = c.ranges.step in
    let room : c.with-room.result ≡ held c.args.step (room_at rooms c.args.counter) =
    (simp to_z-of_z at c.with-room.ensures) ∙ ap (held c.args.step) now in
    let over : Fits (held c.args.step (room_at rooms c.args.counter)) → ⊥ =
    λ fits. let wrong : c.fits.result ≡ true = c.fits.ensures.1 (subst (λ r. Fits r) (sym room) fits) in
    let so : c.fits.result ≡ false = c.if-not-fits.true in absurd cc in
    inr (
      refl,
      subst (λ (e : Escrowed). IsAdmissible (count_at e.committed c.args.counter) (steps_at c.args.counter ((e.aside ++ e.pending) ++ add_of c.args.txn c.args.counter c.args.step ∷ [])) → ⊥)
          c.self.view_is (refused rooms adds c.args.txn c.args.counter c.args.step c.self.invariant.kept over),
    )

pub invariant_of-self-2 : goal.invariant_of-self-2
invariant_of-self-2 c =
    let rooms = c.self.inside.rooms.items in
    let adds = c.self.inside.aside.items ++ c.self.inside.pending.items in
    let seen : c.args.counter < length (map count_of rooms) =
    subst (λ (e : Escrowed). c.args.counter < length e.committed) (sym c.self.view_is) c.requires.there in
    let there : c.args.counter < length rooms = let long = length-map rooms count_of in omega arith in
    let place : c.from-place.result ≡ c.args.counter = c.from-place.ensures ∙ c.get.ensures in
    let inside : c.from-place.result < length rooms = omega arith in
    let now : c.index.result.now ≡ room_at rooms c.args.counter =
    read rooms c.from-place.result c.index.result.now inside c.index.ensures ∙ ap (room_at rooms) place in
    let step : SFits w64 c.args.step = c.ranges.step in
    let room : c.with-room.result ≡ held c.args.step (room_at rooms c.args.counter) =
    (simp to_z-of_z at c.with-room.ensures) ∙ ap (held c.args.step) now in
    let fits : Fits (held c.args.step (room_at rooms c.args.counter)) =
    subst (λ r. Fits r) room (c.fits.ensures.0 (c.if-not-fits.false)) in
    let own : Pending = add_of c.args.txn c.args.counter c.args.step in
    let pending : c.push.new.self.items ≡ c.self.inside.pending.items ++ own ∷ [] =
    (simp to_z-of_z at c.in_ok-push.ensures.items) ∙ ap (λ ps. ps ++ own ∷ []) c.reserve.ensures.items in
    let joined : adds ++ own ∷ [] ≡ c.self.inside.aside.items ++ (c.self.inside.pending.items ++ own ∷ []) =
    append_assoc c.self.inside.aside.items c.self.inside.pending.items (own ∷ []) in
    let more : AreKept (set rooms c.args.counter (held c.args.step (room_at rooms c.args.counter))) (c.self.inside.aside.items ++ (c.self.inside.pending.items ++ own ∷ [])) =
    subst (λ qs. AreKept (set rooms c.args.counter (held c.args.step (room_at rooms c.args.counter))) qs) joined
    (kept_more rooms adds c.args.txn c.args.counter c.args.step there c.requires.step c.self.invariant.kept fits) in
    let longer = length-append c.self.inside.pending.items (own ∷ []) in
    let pushed = ap length pending in
    let first = ap length c.reserve.ensures.items in
    record {
      kept = rw (pending, c.reserve-2.ensures.items, room, place) more;
      room = omega (arith, longer, pushed, first, c.in_ok-reserve-2.ensures.ok, c.len.ensures);
    }

pub returns-clause-granted : goal.returns-clause-granted
returns-clause-granted c =
    let rooms = c.self.inside.rooms.items in
    let adds = c.self.inside.pending.items in
    let seen : c.args.counter < length (map count_of rooms) =
    subst (λ (e : Escrowed). c.args.counter < length e.committed) (sym c.self.view_is) c.requires.there in
    let there : c.args.counter < length rooms = let long = length-map rooms count_of in omega arith in
    let place : c.from-place.result ≡ c.args.counter = c.from-place.ensures ∙ c.get.ensures in
    let inside : c.from-place.result < length rooms = omega arith in
    let now : c.index.result.now ≡ room_at rooms c.args.counter =
    read rooms c.from-place.result c.index.result.now inside c.index.ensures ∙ ap (room_at rooms) place in
    let step : SFits w64 c.args.step = c.ranges.step in
    let room : c.with-room.result ≡ held c.args.step (room_at rooms c.args.counter) =
    (simp to_z-of_z at c.with-room.ensures) ∙ ap (held c.args.step) now in
    let pending : c.push.new.self.items ≡ adds ++ add_of c.args.txn c.args.counter c.args.step ∷ [] =
    (simp to_z-of_z at c.in_ok-push.ensures.items) ∙ ap (λ ps. ps ++ add_of c.args.txn c.args.counter c.args.step ∷ []) c.reserve.ensures.items in
    let counters : map count_of (set rooms c.from-place.result c.with-room.result) ≡ map count_of rooms =
    rw (room, place) (same_counters rooms c.args.counter (held c.args.step (room_at rooms c.args.counter)) refl) in
    let made : the_view record { rooms = with_item c.self.inside.rooms c.from-place.result c.with-room.result; pending = c.push.new.self; aside = c.reserve-2.new.self }
    ≡ with_add (add_of c.args.txn c.args.counter c.args.step) (the_view c.self.inside) =
    λ i. record { committed = counters i; pending = pending i; aside = c.reserve-2.ensures.items i } in
    made ∙ ap (with_add (add_of c.args.txn c.args.counter c.args.step)) c.self.view_is

pub returns-clause-admitted : goal.returns-clause-admitted
returns-clause-admitted c =
    let rooms = c.self.inside.rooms.items in
    let adds = c.self.inside.aside.items ++ c.self.inside.pending.items in
    let seen : c.args.counter < length (map count_of rooms) =
    subst (λ (e : Escrowed). c.args.counter < length e.committed) (sym c.self.view_is) c.requires.there in
    let there : c.args.counter < length rooms = let long = length-map rooms count_of in omega arith in
    let place : c.from-place.result ≡ c.args.counter = c.from-place.ensures ∙ c.get.ensures in
    let inside : c.from-place.result < length rooms = omega arith in
    let now : c.index.result.now ≡ room_at rooms c.args.counter =
    read rooms c.from-place.result c.index.result.now inside c.index.ensures ∙ ap (room_at rooms) place in
    let step : SFits w64 c.args.step = c.ranges.step in
    let room : c.with-room.result ≡ held c.args.step (room_at rooms c.args.counter) =
    (simp to_z-of_z at c.with-room.ensures) ∙ ap (held c.args.step) now in
    let fits : Fits (held c.args.step (room_at rooms c.args.counter)) =
    subst (λ r. Fits r) room (c.fits.ensures.0 (c.if-not-fits.false)) in
    subst (λ (e : Escrowed). IsAdmissible (count_at e.committed c.args.counter) (steps_at c.args.counter ((e.aside ++ e.pending) ++ add_of c.args.txn c.args.counter c.args.step ∷ [])))
    c.self.view_is (admitted rooms adds c.args.txn c.args.counter c.args.step c.self.invariant.kept fits)
