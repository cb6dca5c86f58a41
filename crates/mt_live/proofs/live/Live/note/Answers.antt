use Rattle.std.proofs.Common.{◌≡◌, ◌++◌, ◌∷◌, [], ◌∙◌, true, ap, subst, sym, set}
use Rattle.mt_live.specs.Lives.{Lives, IsFirst, IsChanged, member_of, has_room, IsAbove}
use Rattle.mt_live.specs.declared.transactions.Role.TheVariants.{Stands}
use Rattle.mt_live.specs.Members.{Member, noted, with_call}
use Rattle.mt_live.proofs.Wells.{numbered_of, room_there, place_left, noted_well, noted_standing, changed, its_number}
use Rattle.mt_live.proofs.live.Live.note.Goals as goal

pub note-requires : goal.note-requires
note-requires c =
    let ms = c.self.inside.transactions.items in
    let i = c.place_in-place.result in
    let m = c.index_mut.result.now in
    let first : IsFirst ms c.args.txn i = subst (λ xs. IsFirst xs c.args.txn i) c.deref.ensures.value c.place_in-place.ensures in
    let is = c.index_mut.ensures.value in
    room_there ms c.args.txn i m first is (subst (λ (l : Lives). has_room (member_of l.members c.args.txn) ≡ true) (sym c.self.view_is) c.requires.room)

pub push_reserved-requires : goal.push_reserved-requires
push_reserved-requires c =
    let ms = c.self.inside.transactions.items in
    let i = c.place_in-place.result in
    let m = c.index_mut.result.now in
    let first : IsFirst ms c.args.txn i = subst (λ xs. IsFirst xs c.args.txn i) c.deref.ensures.value c.place_in-place.ensures in
    let is = c.index_mut.ensures.value in
    place_left _ ms _ _ _ c.args.txn i m c.self.invariant first is
    (room_there ms c.args.txn i m first is (subst (λ (l : Lives). has_room (member_of l.members c.args.txn) ≡ true) (sym c.self.view_is) c.requires.room))

pub invariant_of-self : goal.invariant_of-self
invariant_of-self c =
    let ms = c.self.inside.transactions.items in
    let i = c.place_in-place.result in
    let m = c.index_mut.result.now in
    let l = c.index.result.now in
    let first : IsFirst ms c.args.txn i = subst (λ xs. IsFirst xs c.args.txn i) c.deref.ensures.value c.place_in-place.ensures in
    let is = c.index_mut.ensures.value in
    let lis = c.index.ensures in
    noted_well _ ms _ _ _ c.args.txn i m c.note.new.self l c.args.operation (noted Stands (c.args.op, c.args.reply)) c.len-index.result _ _ _ c.self.invariant first is c.note.ensures lis c.len-index.ensures
    (room_there ms c.args.txn i m first is (subst (λ (l : Lives). has_room (member_of l.members c.args.txn) ≡ true) (sym c.self.view_is) c.requires.room))
    (subst (λ (l : Lives). IsAbove c.args.operation (member_of l.members c.args.txn)) (sym c.self.view_is) c.requires.above)
    c.push_reserved.ensures.items c.push_reserved.ensures.len c.push_reserved.ensures.capacity

pub returns-clause-standing : goal.returns-clause-standing
returns-clause-standing c =
    let ms = c.self.inside.transactions.items in
    let i = c.place_in-place.result in
    let m = c.index_mut.result.now in
    let l = c.index.result.now in
    let first : IsFirst ms c.args.txn i = subst (λ xs. IsFirst xs c.args.txn i) c.deref.ensures.value c.place_in-place.ensures in
    let is = c.index_mut.ensures.value in
    let lis = c.index.ensures in
    noted_standing _ ms _ _ _ c.args.txn i m c.note.new.self l c.args.operation (noted Stands (c.args.op, c.args.reply)) c.len-index.result _ c.self.invariant first is c.note.ensures lis c.len-index.ensures c.push_reserved.ensures.items
    ∙ ap (λ (l : Lives). l.standing ++ record { txn = c.args.txn; op = c.args.op; reply = c.args.reply; role = Stands } ∷ []) c.self.view_is

pub returns-clause-member : goal.returns-clause-member
returns-clause-member c =
    let ms = c.self.inside.transactions.items in
    let i = c.place_in-place.result in
    let m = c.index_mut.result.now in
    let first : IsFirst ms c.args.txn i = subst (λ xs. IsFirst xs c.args.txn i) c.deref.ensures.value c.place_in-place.ensures in
    let is = c.index_mut.ensures.value in
    let y = c.note.new.self in
    subst (λ (l : Lives). IsChanged l.members (set ms i y) c.args.txn (λ x. with_call x c.args.operation (c.args.op, c.args.reply))) c.self.view_is
    (changed ms c.args.txn i m y (λ x. with_call x c.args.operation (c.args.op, c.args.reply)) first is c.note.ensures
    (ap (λ (x : Member). x.number) c.note.ensures ∙ its_number ms c.args.txn i m first is))

pub returns-clause-numbered : goal.returns-clause-numbered
returns-clause-numbered c =
    let ms = c.self.inside.transactions.items in
    let i = c.place_in-place.result in
    let m = c.index_mut.result.now in
    let first : IsFirst ms c.args.txn i = subst (λ xs. IsFirst xs c.args.txn i) c.deref.ensures.value c.place_in-place.ensures in
    let l = c.index.result.now in
    let is = c.index_mut.ensures.value in
    let lis = c.index.ensures in
    numbered_of _ _ _ _ _ (noted_well _ ms _ _ _ c.args.txn i m c.note.new.self l c.args.operation (noted Stands (c.args.op, c.args.reply)) c.len-index.result _ _ _ c.self.invariant first is c.note.ensures lis c.len-index.ensures
    (room_there ms c.args.txn i m first is (subst (λ (l : Lives). has_room (member_of l.members c.args.txn) ≡ true) (sym c.self.view_is) c.requires.room))
    (subst (λ (l : Lives). IsAbove c.args.operation (member_of l.members c.args.txn)) (sym c.self.view_is) c.requires.above)
    c.push_reserved.ensures.items c.push_reserved.ensures.len c.push_reserved.ensures.capacity)
