use Rattle.std.proofs.Common.{◌∙◌, ap, subst, set, arith}
use Rattle.std.specs.Vec.{vec_len, vec_capacity}
use Rattle.mt_live.specs.Lives.{Lives, IsFirst, IsChanged, calls_of, standing_by}
use Rattle.mt_live.specs.Members.{Member, with_room}
use Rattle.mt_live.proofs.Wells.{room_well, numbered_of, same_standing, changed, its_number}
use Rattle.mt_live.proofs.live.Live.room.Goals as goal

pub invariant_of-self-2 : goal.invariant_of-self-2
invariant_of-self-2 c =
    let ms = c.self.inside.transactions.items in
    let i = c.place_in-place.result in
    let m = c.index_mut.result.now in
    let first : IsFirst ms c.args.txn i = subst (λ xs. IsFirst xs c.args.txn i) c.deref.ensures.value c.place_in-place.ensures in
    let is = c.index_mut.ensures.value in
    let y = c.make_room.new.self in
    room_well _ ms _ _ _ c.args.txn i m y _ _ _ c.self.invariant first is c.in_ok-make_room.ensures.ok c.reserve.ensures.items
    (omega (arith, c.in_ok-reserve.ensures.ok, c.reserve.ensures.len, c.len.ensures))

pub returns-clause-member : goal.returns-clause-member
returns-clause-member c =
    let ms = c.self.inside.transactions.items in
    let i = c.place_in-place.result in
    let m = c.index_mut.result.now in
    let first : IsFirst ms c.args.txn i = subst (λ xs. IsFirst xs c.args.txn i) c.deref.ensures.value c.place_in-place.ensures in
    let is = c.index_mut.ensures.value in
    let y = c.make_room.new.self in
    let now = c.in_ok-make_room.ensures.ok in
    subst (λ (l : Lives). IsChanged l.members (set ms i y) c.args.txn with_room) c.self.view_is
    (changed ms c.args.txn i m y with_room first is now (ap (λ (x : Member). x.number) now ∙ its_number ms c.args.txn i m first is))

pub returns-clause-standing : goal.returns-clause-standing
returns-clause-standing c =
    let ms = c.self.inside.transactions.items in
    let i = c.place_in-place.result in
    let m = c.index_mut.result.now in
    let first : IsFirst ms c.args.txn i = subst (λ xs. IsFirst xs c.args.txn i) c.deref.ensures.value c.place_in-place.ensures in
    let is = c.index_mut.ensures.value in
    let y = c.make_room.new.self in
    let now = c.in_ok-make_room.ensures.ok in
    ap (standing_by (calls_of (set ms i y))) c.reserve.ensures.items
    ∙ (same_standing ms _ c.args.txn i m y first is (ap (λ (x : Member). x.number) now ∙ its_number ms c.args.txn i m first is) (ap (λ (x : Member). x.calls) now)
    ∙ ap (λ (l : Lives). l.standing) c.self.view_is)

pub returns-clause-numbered : goal.returns-clause-numbered
returns-clause-numbered c =
    let ms = c.self.inside.transactions.items in
    let i = c.place_in-place.result in
    let m = c.index_mut.result.now in
    let first : IsFirst ms c.args.txn i = subst (λ xs. IsFirst xs c.args.txn i) c.deref.ensures.value c.place_in-place.ensures in
    let y = c.make_room.new.self in
    numbered_of _ _ _ _ _ (room_well _ ms _ _ _ c.args.txn i m y c.reserve.new.self.items (vec_len c.reserve.new.self) (vec_capacity c.reserve.new.self) c.self.invariant first c.index_mut.ensures.value c.in_ok-make_room.ensures.ok c.reserve.ensures.items
    (omega (arith, c.in_ok-reserve.ensures.ok, c.reserve.ensures.len, c.len.ensures)))
