use Rattle.std.proofs.Common.{◌∙◌, ap, subst, set}
use Rattle.mt_live.specs.Undoing.{settle_after}
use Rattle.mt_live.specs.Lives.{Lives, IsFirst, IsChanged}
use Rattle.mt_live.specs.Members.{settled_at}
use Rattle.mt_live.proofs.Wells.{settled_well, numbered_of, settled_standing, settled_member}
use Rattle.mt_live.proofs.live.Live.settle.Goals as goal

pub invariant_of-self : goal.invariant_of-self
invariant_of-self c =
    let ms = c.self.inside.transactions.items in
    let i = c.place_in-place.result in
    let first : IsFirst ms c.args.txn i = subst (λ xs. IsFirst xs c.args.txn i) c.deref.ensures.value c.place_in-place.ensures in
    settled_well _ ms _ _ _ c.args.txn i c.index_mut.result.now c.settle.new.self c.args.first c.self.invariant first c.index_mut.ensures.value c.settle.ensures

pub returns-clause-standing : goal.returns-clause-standing
returns-clause-standing c =
    let ms = c.self.inside.transactions.items in
    let i = c.place_in-place.result in
    let first : IsFirst ms c.args.txn i = subst (λ xs. IsFirst xs c.args.txn i) c.deref.ensures.value c.place_in-place.ensures in
    settled_standing _ ms _ _ _ c.args.txn i c.index_mut.result.now c.settle.new.self c.args.first c.self.invariant first c.index_mut.ensures.value c.settle.ensures
    ∙ ap (λ (x : Lives). settle_after c.args.txn c.args.first x.standing) c.self.view_is

pub returns-clause-member : goal.returns-clause-member
returns-clause-member c =
    let ms = c.self.inside.transactions.items in
    let i = c.place_in-place.result in
    let first : IsFirst ms c.args.txn i = subst (λ xs. IsFirst xs c.args.txn i) c.deref.ensures.value c.place_in-place.ensures in
    subst (λ (x : Lives). IsChanged x.members (set ms i c.settle.new.self) c.args.txn (settled_at c.args.first)) c.self.view_is
    (settled_member ms c.args.txn i c.index_mut.result.now c.settle.new.self c.args.first first c.index_mut.ensures.value c.settle.ensures)

pub returns-clause-numbered : goal.returns-clause-numbered
returns-clause-numbered c =
    let ms = c.self.inside.transactions.items in
    let i = c.place_in-place.result in
    let first : IsFirst ms c.args.txn i = subst (λ xs. IsFirst xs c.args.txn i) c.deref.ensures.value c.place_in-place.ensures in
    numbered_of _ _ _ _ _ (settled_well _ ms _ _ _ c.args.txn i c.index_mut.result.now c.settle.new.self c.args.first c.self.invariant first c.index_mut.ensures.value c.settle.ensures)
