use Rattle.std.proofs.Common.{◌≡◌, ◌<◌, ◌∙◌, sym, ap, subst, refl, arith, IfSome, length, take_all, get_or}
use Rattle.std.proofs.lemmas.List.{get_or_default}
use Rattle.mt_live.specs.declared.transactions.Role.{Role}
use Rattle.mt_live.specs.declared.transactions.Role.TheVariants.{Stands}
use Rattle.mt_live.specs.Members.{noted, noted_calls, last_place}
use Rattle.mt_live.proofs.Lasts.{last_place-more, last_within}
use Rattle.mt_live.proofs.Noting.{noted-length, noted-at}
use Rattle.mt_live.proofs.transactions.last_place.Goals.{then-is_effect, else-is_effect}
use Rattle.mt_live.proofs.transactions.last_place.Goals as goal

pub loop-at-init : goal.loop-at-init
loop-at-init c = refl

pub loop-at-preserved : goal.loop-at-preserved
loop-at-preserved c =
    let call = c.index-calls-at.result in
    let size = noted-length c.args.calls.now c.args.roles.now c.requires in
    let lt : c.loop-at.at < length c.args.calls.now = c.loop-at-test.true in
    let inside : c.loop-at.at < length (noted_calls c.args.calls.now c.args.roles.now) = omega (arith, size, lt) in
    let long : c.loop-at.at < length c.args.roles.now = omega (arith, c.requires, lt) in
    let role : Role = get_or c.args.roles.now c.loop-at.at Stands in
    let own : role ≡ get_or c.args.roles.now c.loop-at.at role = get_or_default c.args.roles.now c.loop-at.at Stands role long in
    let there = noted-at c.loop-at.at c.args.calls.now c.args.roles.now call role c.requires lt c.index-calls-at.is own in
    elim c.if-is_effect.branch [
      | then-is_effect w ↦ w.last-is ∙ sym (last_place-more (noted_calls c.args.calls.now c.args.roles.now) c.loop-at.at (noted role call) _ inside there (sym c.is_effect.ensures ∙ w.if-is_effect.true))
      | else-is_effect w ↦ w.last-is ∙ (c.loop-at.invariant ∙ sym (last_place-more (noted_calls c.args.calls.now c.args.roles.now) c.loop-at.at (noted role call) _ inside there (sym c.is_effect.ensures ∙ w.if-is_effect.false)))
    ]

pub returns-clause-place : goal.returns-clause-place
returns-clause-place c =
    let size = noted-length c.args.calls.now c.args.roles.now c.requires in
    c.loop-at.invariant ∙ ap last_place (take_all c.loop-at.at (noted_calls c.args.calls.now c.args.roles.now) (omega (arith, size, c.loop-at-test.false)))

pub returns-clause-within : goal.returns-clause-within
returns-clause-within c =
    let size = noted-length c.args.calls.now c.args.roles.now c.requires in
    subst (λ n. IfSome c.loop-at.last (λ at. at < n)) size
    (subst (λ x. IfSome x (λ at. at < length (noted_calls c.args.calls.now c.args.roles.now))) (sym (returns-clause-place c)) (last_within (noted_calls c.args.calls.now c.args.roles.now)))
