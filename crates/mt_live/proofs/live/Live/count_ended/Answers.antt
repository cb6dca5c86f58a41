use Rattle.std.proofs.Common.{◌∙◌, Some, ap, subst, sym}
use Rattle.std.specs.Option.{option_map}
use Rattle.mt_live.specs.Lives.{Lives, IsFirst, member_of}
use Rattle.mt_live.specs.Members.{Member, forward_count}
use Rattle.mt_live.proofs.Wells.{is_there}
use Rattle.mt_live.proofs.live.Live.count_ended.Goals as goal

pub returns : goal.returns
returns c =
    let ms = c.self.inside.transactions.items in
    let i = c.place_in-at.result in
    let first : IsFirst ms c.args.txn i = subst (λ xs. IsFirst xs c.args.txn i) c.deref.ensures.value c.place_in-at.ensures in
    let found = is_there ms c.args.txn i c.index.result.now first c.index.ensures in
    ap Some c.count_forward.ensures ∙ (sym (ap (option_map (λ (m : Member). forward_count m.calls)) found)
    ∙ ap (λ (l : Lives). option_map (λ (m : Member). forward_count m.calls) (member_of l.members c.args.txn)) c.self.view_is)
