use Rattle.std.proofs.Common.{◌≡◌, ◌∙◌, None, Some, ap, subst, sym}
use Rattle.mt_live.specs.Entries.{calls, kept}
use Rattle.std.specs.Option.{option_map}
use Rattle.mt_live.specs.Undoing.{only, others}
use Rattle.mt_live.specs.Machine.{put}
use Rattle.mt_model.specs.declared.history.Committed.{Committed}
use Rattle.mt_live.specs.Lives.{Lives, IsFirst, member_of}
use Rattle.mt_live.specs.Members.{Member}
use Rattle.mt_live.proofs.Wells.{left_well, numbered_of, left_standing, left_member, left_calls, is_there}
use Rattle.mt_live.proofs.live.Live.leave.Goals as goal

pub invariant_of-self : goal.invariant_of-self
invariant_of-self c =
    let ms = c.self.inside.transactions.items in
    let i = c.place_in-place.result in
    let first : IsFirst ms c.args.txn i = subst (λ xs. IsFirst xs c.args.txn i) c.deref.ensures.value c.place_in-place.ensures in
    left_well _ ms _ _ _ c.args.txn i _ _ _ _ c.self.invariant first c.take_out.ensures.places c.remove.ensures.items c.take_out.ensures.len c.take_out.ensures.capacity

pub returns-clause-session : goal.returns-clause-session
returns-clause-session c =
    let ms = c.self.inside.transactions.items in
    let i = c.place_in-place.result in
    let first : IsFirst ms c.args.txn i = subst (λ xs. IsFirst xs c.args.txn i) c.deref.ensures.value c.place_in-place.ensures in
    let there : member_of ms c.args.txn ≡ Some c.remove.result = is_there ms c.args.txn i c.remove.result first c.remove.ensures.value in
    ap (λ (x : Committed). Some x.session) c.into_committed.ensures
    ∙ (sym (ap (option_map (λ (x : Member). x.session)) there) ∙ ap (λ (x : Lives). option_map (λ (y : Member). y.session) (member_of x.members c.args.txn)) c.self.view_is)

pub returns-clause-calls : goal.returns-clause-calls
returns-clause-calls c =
    let ms = c.self.inside.transactions.items in
    let i = c.place_in-place.result in
    let first : IsFirst ms c.args.txn i = subst (λ xs. IsFirst xs c.args.txn i) c.deref.ensures.value c.place_in-place.ensures in
    ap (λ (x : Committed). x.calls) c.into_committed.ensures
    ∙ (left_calls _ ms _ _ _ c.args.txn i c.remove.result c.self.invariant first c.remove.ensures.value
    ∙ ap (λ (x : Lives). calls (kept (only c.args.txn) x.standing)) c.self.view_is)

pub returns-clause-standing : goal.returns-clause-standing
returns-clause-standing c =
    let ms = c.self.inside.transactions.items in
    let i = c.place_in-place.result in
    let first : IsFirst ms c.args.txn i = subst (λ xs. IsFirst xs c.args.txn i) c.deref.ensures.value c.place_in-place.ensures in
    left_standing _ ms _ _ _ c.args.txn i _ _ c.self.invariant first c.take_out.ensures.places c.remove.ensures.items ∙ ap (λ (x : Lives). kept (others c.args.txn) x.standing) c.self.view_is

pub returns-clause-member : goal.returns-clause-member
returns-clause-member c = λ u.
    let ms = c.self.inside.transactions.items in
    let i = c.place_in-place.result in
    let first : IsFirst ms c.args.txn i = subst (λ xs. IsFirst xs c.args.txn i) c.deref.ensures.value c.place_in-place.ensures in
    left_member _ ms _ _ _ c.args.txn i _ c.self.invariant first c.remove.ensures.items u ∙ ap (λ (x : Lives). put (member_of x.members) c.args.txn None u) c.self.view_is

pub returns-clause-numbered : goal.returns-clause-numbered
returns-clause-numbered c =
    let ms = c.self.inside.transactions.items in
    let i = c.place_in-place.result in
    let first : IsFirst ms c.args.txn i = subst (λ xs. IsFirst xs c.args.txn i) c.deref.ensures.value c.place_in-place.ensures in
    numbered_of _ _ _ _ _ (left_well _ ms _ _ _ c.args.txn i _ _ _ _ c.self.invariant first c.take_out.ensures.places c.remove.ensures.items c.take_out.ensures.len c.take_out.ensures.capacity)
