use Rattle.std.proofs.Common.{◌∙◌, Some, ap, filter, length, subst, sym}
use Rattle.std.specs.Option.{option_map}
use Rattle.mt_live.specs.Lives.{Lives, IsFirst, calls_of, member_of}
use Rattle.mt_live.specs.Members.{Member, standing_count}
use Rattle.mt_live.specs.Undoing.{is_counted}
use Rattle.mt_live.proofs.Reaching.{counted_standing}
use Rattle.mt_live.proofs.Wells.{is_there, its_calls}
use Rattle.mt_live.proofs.live.Live.answered.Goals as goal

pub returns-clause-standing : goal.returns-clause-standing
returns-clause-standing c =
    let ms = c.self.inside.transactions.items in
    let os = c.self.inside.order.items in
    let t = c.args.txn in
    let i = c.place_in-at.result in
    let first : IsFirst ms t i = subst (λ xs. IsFirst xs t i) c.deref.ensures.value c.place_in-at.ensures in
    c.count_standing.ensures
    ∙ (ap standing_count (sym (its_calls ms t i c.index.result.now first c.index.ensures))
    ∙ (sym (counted_standing (calls_of ms) t os (c.self.invariant.placed t))
    ∙ ap (λ (l : Lives). length (filter (is_counted t) l.standing)) c.self.view_is))

pub returns-clause-member : goal.returns-clause-member
returns-clause-member c =
    let ms = c.self.inside.transactions.items in
    let i = c.place_in-at.result in
    let first : IsFirst ms c.args.txn i = subst (λ xs. IsFirst xs c.args.txn i) c.deref.ensures.value c.place_in-at.ensures in
    let found = is_there ms c.args.txn i c.index.result.now first c.index.ensures in
    ap Some c.count_standing.ensures ∙ (sym (ap (option_map (λ (m : Member). standing_count m.calls)) found)
    ∙ ap (λ (l : Lives). option_map (λ (m : Member). standing_count m.calls) (member_of l.members c.args.txn)) c.self.view_is)
