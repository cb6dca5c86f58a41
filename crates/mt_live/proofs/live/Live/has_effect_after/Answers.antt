use Rattle.std.proofs.Common.{◌∙◌, Some, is_some, ap, subst, sym}
use Rattle.std.specs.Option.{option_map}
use Rattle.mt_live.specs.Lives.{Lives, IsFirst, calls_of, member_of}
use Rattle.mt_live.specs.Members.{Member, last_place, noted_after}
use Rattle.mt_live.specs.Undoing.{last_effect, after_first}
use Rattle.mt_live.proofs.Reaching.{effect_behind}
use Rattle.mt_live.proofs.Wells.{is_there, its_calls}
use Rattle.mt_live.proofs.live.Live.has_effect_after.Goals as goal

pub returns-clause-effects : goal.returns-clause-effects
returns-clause-effects c =
    let ms = c.self.inside.transactions.items in
    let os = c.self.inside.order.items in
    let t = c.args.txn in
    let n = c.args.first in
    let i = c.place_in-place.result in
    let first : IsFirst ms t i = subst (λ xs. IsFirst xs t i) c.deref.ensures.value c.place_in-place.ensures in
    c.has_effect_after.ensures
    ∙ (ap (λ cs. is_some (last_place (noted_after n cs))) (sym (its_calls ms t i c.index.result.now first c.index.ensures))
    ∙ (sym (effect_behind (calls_of ms) t n os (c.self.invariant.placed t))
    ∙ ap (λ (l : Lives). is_some (last_effect t (after_first t n l.standing))) c.self.view_is))

pub returns-clause-member : goal.returns-clause-member
returns-clause-member c =
    let ms = c.self.inside.transactions.items in
    let i = c.place_in-place.result in
    let first : IsFirst ms c.args.txn i = subst (λ xs. IsFirst xs c.args.txn i) c.deref.ensures.value c.place_in-place.ensures in
    let found = is_there ms c.args.txn i c.index.result.now first c.index.ensures in
    ap Some c.has_effect_after.ensures ∙ (sym (ap (option_map (λ (m : Member). is_some (last_place (noted_after c.args.first m.calls)))) found)
    ∙ ap (λ (l : Lives). option_map (λ (m : Member). is_some (last_place (noted_after c.args.first m.calls))) (member_of l.members c.args.txn)) c.self.view_is)
