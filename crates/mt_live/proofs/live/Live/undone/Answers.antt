use Rattle.std.proofs.Common.{◌≡◌, ◌∙◌, ap, subst, sym, set}
use Rattle.mt_live.specs.Undoing.{cut_back}
use Rattle.mt_live.specs.Lives.{Lives, AreNumbered, IsFirst, IsChanged}
use Rattle.mt_live.specs.Members.{taken_back}
use Rattle.mt_live.proofs.Ends.{cut_none}
use Rattle.mt_live.proofs.Wells.{undone_well, numbered_of, undone_standing, undone_member, nothing_member, no_effect, same_size}
use Rattle.mt_live.proofs.live.Live.undone.Goals as goal

pub invariant_of-self : goal.invariant_of-self
invariant_of-self c =
    let ms = c.self.inside.transactions.items in
    let i = c.place_in-place.result in
    let m = c.index_mut.result.now in
    let l = c.index.result.now in
    let first : IsFirst ms c.args.txn i = subst (λ xs. IsFirst xs c.args.txn i) c.deref.ensures.value c.place_in-place.ensures in
    let is = c.index_mut.ensures.value in
    undone_well _ ms _ _ _ c.args.txn i m c.cut.new.self c.in-Some.at _ _ _ c.self.invariant first is c.cut.ensures
    (same_size ms c.args.txn i m l c.in-Some.at first is c.index.ensures c.in-Some.ensures.within) c.cut_from.ensures.places c.cut_from.ensures.len c.cut_from.ensures.capacity

pub returns-in-Some-clause-standing : goal.returns-in-Some-clause-standing
returns-in-Some-clause-standing c =
    let ms = c.self.inside.transactions.items in
    let i = c.place_in-place.result in
    let m = c.index_mut.result.now in
    let l = c.index.result.now in
    let first : IsFirst ms c.args.txn i = subst (λ xs. IsFirst xs c.args.txn i) c.deref.ensures.value c.place_in-place.ensures in
    let is = c.index_mut.ensures.value in
    undone_standing _ ms _ _ _ c.args.txn i m l c.cut.new.self c.in-Some.at _ c.self.invariant first is c.index.ensures (sym c.last_place.ensures.place ∙ c.in-Some.is) c.cut.ensures c.cut_from.ensures.places
    ∙ ap (λ (x : Lives). cut_back c.args.txn x.standing) c.self.view_is

pub returns-in-Some-clause-member : goal.returns-in-Some-clause-member
returns-in-Some-clause-member c =
    let ms = c.self.inside.transactions.items in
    let i = c.place_in-place.result in
    let m = c.index_mut.result.now in
    let l = c.index.result.now in
    let first : IsFirst ms c.args.txn i = subst (λ xs. IsFirst xs c.args.txn i) c.deref.ensures.value c.place_in-place.ensures in
    let is = c.index_mut.ensures.value in
    subst (λ (x : Lives). IsChanged x.members (set ms i c.cut.new.self) c.args.txn taken_back) c.self.view_is
    (undone_member ms c.args.txn i m l c.cut.new.self c.in-Some.at first is c.index.ensures (sym c.last_place.ensures.place ∙ c.in-Some.is) c.cut.ensures)

pub returns-in_default-clause-standing : goal.returns-in_default-clause-standing
returns-in_default-clause-standing c =
    let ms = c.self.inside.transactions.items in
    let i = c.place_in-place.result in
    let l = c.index.result.now in
    let first : IsFirst ms c.args.txn i = subst (λ xs. IsFirst xs c.args.txn i) c.deref.ensures.value c.place_in-place.ensures in
    let none = no_effect _ ms _ _ _ c.args.txn i l c.self.invariant first c.index.ensures (sym c.last_place.ensures.place ∙ c.in_default.is) in
    subst (λ (x : Lives). x.standing ≡ cut_back c.args.txn x.standing) c.self.view_is (sym (cut_none c.args.txn _ none))

pub returns-in_default-clause-member : goal.returns-in_default-clause-member
returns-in_default-clause-member c =
    let ms = c.self.inside.transactions.items in
    let i = c.place_in-place.result in
    let l = c.index.result.now in
    let first : IsFirst ms c.args.txn i = subst (λ xs. IsFirst xs c.args.txn i) c.deref.ensures.value c.place_in-place.ensures in
    subst (λ (x : Lives). IsChanged x.members x.members c.args.txn taken_back) c.self.view_is
    (nothing_member ms c.args.txn i l first c.index.ensures (sym c.last_place.ensures.place ∙ c.in_default.is))

pub returns-in-Some-clause-numbered : goal.returns-in-Some-clause-numbered
returns-in-Some-clause-numbered c =
    let ms = c.self.inside.transactions.items in
    let i = c.place_in-place.result in
    let m = c.index_mut.result.now in
    let first : IsFirst ms c.args.txn i = subst (λ xs. IsFirst xs c.args.txn i) c.deref.ensures.value c.place_in-place.ensures in
    let l = c.index.result.now in
    numbered_of _ _ _ _ _ (undone_well _ ms _ _ _ c.args.txn i m c.cut.new.self c.in-Some.at _ _ _ c.self.invariant first c.index_mut.ensures.value c.cut.ensures
    (same_size ms c.args.txn i m l c.in-Some.at first c.index_mut.ensures.value c.index.ensures c.in-Some.ensures.within) c.cut_from.ensures.places c.cut_from.ensures.len c.cut_from.ensures.capacity)

pub returns-in_default-clause-numbered : goal.returns-in_default-clause-numbered
returns-in_default-clause-numbered c = subst (λ (x : Lives). AreNumbered x.begun x.members) c.self.view_is (numbered_of _ _ _ _ _ c.self.invariant)
