use Rattle.std.proofs.Common.{◌∙◌, ap, subst, set}
use Rattle.mt_live.specs.Lives.{Lives, IsFirst, IsChanged, rooms}
use Rattle.mt_live.specs.Members.{Member, with_state}
use Rattle.mt_live.proofs.Wells.{well_same, numbered_of, same_standing, changed, its_number, state_room}
use Rattle.mt_live.proofs.live.Live.set_state.Goals as goal

pub invariant_of-self : goal.invariant_of-self
invariant_of-self c =
    let ms = c.self.inside.transactions.items in
    let i = c.place_in-place.result in
    let m = c.index_mut.result.now in
    let y = c.set_state.new.self in
    let first : IsFirst ms c.args.txn i = subst (λ xs. IsFirst xs c.args.txn i) c.deref.ensures.value c.place_in-place.ensures in
    let same = c.set_state.ensures in
    well_same _ ms _ _ _ c.args.txn i m y _ c.self.invariant first c.index_mut.ensures.value
    (ap (λ (x : Member). x.number) same ∙ its_number ms c.args.txn i m first c.index_mut.ensures.value) (ap (λ (x : Member). x.operations) same) (ap (λ (x : Member). x.calls) same)
    (state_room ms m y i _ _ (ap rooms same) c.self.invariant.room)

pub returns-clause-member : goal.returns-clause-member
returns-clause-member c =
    let ms = c.self.inside.transactions.items in
    let i = c.place_in-place.result in
    let m = c.index_mut.result.now in
    let y = c.set_state.new.self in
    let first : IsFirst ms c.args.txn i = subst (λ xs. IsFirst xs c.args.txn i) c.deref.ensures.value c.place_in-place.ensures in
    let same = c.set_state.ensures in
    subst (λ (l : Lives). IsChanged l.members (set ms i y) c.args.txn (λ x. with_state x c.args.state)) c.self.view_is
    (changed ms c.args.txn i m y (λ x. with_state x c.args.state) first c.index_mut.ensures.value same
    (ap (λ (x : Member). x.number) same ∙ its_number ms c.args.txn i m first c.index_mut.ensures.value))

pub returns-clause-standing : goal.returns-clause-standing
returns-clause-standing c =
    let ms = c.self.inside.transactions.items in
    let i = c.place_in-place.result in
    let m = c.index_mut.result.now in
    let y = c.set_state.new.self in
    let first : IsFirst ms c.args.txn i = subst (λ xs. IsFirst xs c.args.txn i) c.deref.ensures.value c.place_in-place.ensures in
    let same = c.set_state.ensures in
    same_standing ms _ c.args.txn i m y first c.index_mut.ensures.value
    (ap (λ (x : Member). x.number) same ∙ its_number ms c.args.txn i m first c.index_mut.ensures.value) (ap (λ (x : Member). x.calls) same)
    ∙ ap (λ (l : Lives). l.standing) c.self.view_is

pub returns-clause-numbered : goal.returns-clause-numbered
returns-clause-numbered c =
    let ms = c.self.inside.transactions.items in
    let i = c.place_in-place.result in
    let m = c.index_mut.result.now in
    let first : IsFirst ms c.args.txn i = subst (λ xs. IsFirst xs c.args.txn i) c.deref.ensures.value c.place_in-place.ensures in
    let y = c.set_state.new.self in
    let same = c.set_state.ensures in
    numbered_of _ _ _ _ _ (well_same _ ms _ _ _ c.args.txn i m y _ c.self.invariant first c.index_mut.ensures.value
    (ap (λ (x : Member). x.number) same ∙ its_number ms c.args.txn i m first c.index_mut.ensures.value) (ap (λ (x : Member). x.operations) same) (ap (λ (x : Member). x.calls) same)
    (state_room ms m y i _ _ (ap rooms same) c.self.invariant.room))
