use Rattle.std.proofs.Common.{◌≡◌, ◌∙◌, Some, is_some, true, ap, subst, sym, set}
use Rattle.std.specs.Option.{option_map}
use Rattle.mt_live.specs.Undoing.{after_first, last_effect, mark_last}
use Rattle.mt_live.specs.Lives.{Lives, AreNumbered, IsFirst, IsChanged, is_member, member_of}
use Rattle.mt_live.specs.Members.{Member, noted_after, with_mark, last_place}
use Rattle.mt_live.proofs.Reaching.{effect_there}
use Rattle.mt_live.proofs.Wells.{marked_well, numbered_of, marked_standing, marked_member, unmarked_member, unmarked_standing}
use Rattle.mt_live.proofs.live.Live.mark_last.Goals as goal

pub invariant_of-self : goal.invariant_of-self
invariant_of-self c =
    let ms = c.self.inside.transactions.items in
    let i = c.place_in-place.result in
    let first : IsFirst ms c.args.txn i = subst (λ xs. IsFirst xs c.args.txn i) c.deref.ensures.value c.place_in-place.ensures in
    marked_well _ ms _ _ _ c.args.txn i c.index_mut.result.now c.mark.new.self c.in-Some.at c.self.invariant first c.index_mut.ensures.value c.mark.ensures

pub returns-in-Some-clause-standing : goal.returns-in-Some-clause-standing
returns-in-Some-clause-standing c =
    let ms = c.self.inside.transactions.items in
    let i = c.place_in-place.result in
    let first : IsFirst ms c.args.txn i = subst (λ xs. IsFirst xs c.args.txn i) c.deref.ensures.value c.place_in-place.ensures in
    marked_standing _ ms _ _ _ c.args.txn i c.index_mut.result.now c.index.result.now c.mark.new.self c.in-Some.at c.self.invariant first c.index_mut.ensures.value c.index.ensures (sym c.last_place.ensures.place ∙ c.in-Some.is) c.mark.ensures
    ∙ ap (λ (x : Lives). mark_last c.args.txn x.standing) c.self.view_is

pub returns-in-Some-clause-member : goal.returns-in-Some-clause-member
returns-in-Some-clause-member c =
    let ms = c.self.inside.transactions.items in
    let i = c.place_in-place.result in
    let first : IsFirst ms c.args.txn i = subst (λ xs. IsFirst xs c.args.txn i) c.deref.ensures.value c.place_in-place.ensures in
    subst (λ (x : Lives). IsChanged x.members (set ms i c.mark.new.self) c.args.txn (λ m. with_mark m (last_place m.calls))) c.self.view_is
    (marked_member ms c.args.txn i c.index_mut.result.now c.index.result.now c.mark.new.self c.in-Some.at first c.index_mut.ensures.value c.index.ensures (sym c.last_place.ensures.place ∙ c.in-Some.is) c.mark.ensures)

pub returns-in-Some-clause-numbered : goal.returns-in-Some-clause-numbered
returns-in-Some-clause-numbered c =
    let ms = c.self.inside.transactions.items in
    let i = c.place_in-place.result in
    let first : IsFirst ms c.args.txn i = subst (λ xs. IsFirst xs c.args.txn i) c.deref.ensures.value c.place_in-place.ensures in
    numbered_of _ _ _ _ _ (marked_well _ ms _ _ _ c.args.txn i c.index_mut.result.now c.mark.new.self c.in-Some.at c.self.invariant first c.index_mut.ensures.value c.mark.ensures)

pub returns-in_default-clause-standing : goal.returns-in_default-clause-standing
returns-in_default-clause-standing c =
    let ms = c.self.inside.transactions.items in
    let i = c.place_in-place.result in
    let first : IsFirst ms c.args.txn i = subst (λ xs. IsFirst xs c.args.txn i) c.deref.ensures.value c.place_in-place.ensures in
    subst (λ (x : Lives). x.standing ≡ mark_last c.args.txn x.standing) c.self.view_is
    (sym (unmarked_standing _ ms _ _ _ c.args.txn i c.index.result.now c.self.invariant first c.index.ensures (sym c.last_place.ensures.place ∙ c.in_default.is)))

pub returns-in_default-clause-member : goal.returns-in_default-clause-member
returns-in_default-clause-member c =
    let ms = c.self.inside.transactions.items in
    let i = c.place_in-place.result in
    let first : IsFirst ms c.args.txn i = subst (λ xs. IsFirst xs c.args.txn i) c.deref.ensures.value c.place_in-place.ensures in
    subst (λ (x : Lives). IsChanged x.members x.members c.args.txn (λ m. with_mark m (last_place m.calls))) c.self.view_is
    (unmarked_member ms c.args.txn i c.index.result.now first c.index.ensures (sym c.last_place.ensures.place ∙ c.in_default.is))

pub returns-in_default-clause-numbered : goal.returns-in_default-clause-numbered
returns-in_default-clause-numbered c = subst (λ (x : Lives). AreNumbered x.begun x.members) c.self.view_is (numbered_of _ _ _ _ _ c.self.invariant)

pub returns-in-Some-clause-after : goal.returns-in-Some-clause-after
returns-in-Some-clause-after c = λ n. let t = c.args.txn in
    subst (λ (l : Lives). Some (is_some (last_effect t (after_first t n l.standing))) ≡ option_map (λ (m : Member). is_some (last_place (noted_after n m.calls))) (member_of l.members t)) c.self.view_is
    (effect_there c.self.inside.transactions.items t n c.self.inside.order.items (c.self.invariant.placed t) (subst (λ (l : Lives). is_member l.members t ≡ true) (sym c.self.view_is) c.requires))

pub returns-in_default-clause-after : goal.returns-in_default-clause-after
returns-in_default-clause-after c = λ n. let t = c.args.txn in
    subst (λ (l : Lives). Some (is_some (last_effect t (after_first t n l.standing))) ≡ option_map (λ (m : Member). is_some (last_place (noted_after n m.calls))) (member_of l.members t)) c.self.view_is
    (effect_there c.self.inside.transactions.items t n c.self.inside.order.items (c.self.invariant.placed t) (subst (λ (l : Lives). is_member l.members t ≡ true) (sym c.self.view_is) c.requires))
