use Rattle.std.proofs.Common.{◌≡◌, ◌<◌, ◌∙◌, refl, sym, List, length, get_or, ap, subst, arith}
use Rattle.mt_space.specs.declared.changes.PageChange.{PageChange}
use Rattle.mt_space.specs.Changes.{IsUntouched}
use Rattle.mt_overlay.proofs.Overlaid.{named_at}
use Rattle.std.specs.Prelude.{All, Contains, IsTrue, false}
use Rattle.std.proofs.lemmas.List.{take_all}
use Rattle.std.proofs.lemmas.List.Elements.{All-more}
use Rattle.mt_base.specs.declared.modes.Mode.TheVariants.{Write}
use Rattle.mt_plock.specs.Holding.{lock_of}
use Rattle.mt_op.proofs.steps.first_unlocked.Goals as goal

pub returns-then-not-holds : goal.returns-then-not-holds
returns-then-not-holds c =
    let list = c.args.changes.now.list.items in
    let x = c.change-item.result in
    let i = c.loop-change.change-index in
    let value : c.deref-change-items.result.now ≡ list = c.deref-change-items.ensures.value in
    let lt : i < length list = subst (λ (l : List PageChange). i < length l) value c.loop-change-test.true in
    let is : x ≡ get_or list i x = c.change-item.is ∙ ap (λ (l : List PageChange). get_or l i x) value in
    ((λ none. named_at list i x lt (subst (λ (y : PageChange). IsUntouched list y.page) is none)), λ held. let not : IsTrue false = subst IsTrue c.if-not-holds.true (c.holds.ensures.1 held) in absurd cc)

pub loop-change-preserved : goal.loop-change-preserved
loop-change-preserved c =
    let list = c.args.changes.now.list.items in
    let x = c.change-item.result in
    let i = c.loop-change.change-index in
    let value : c.deref-change-items.result.now ≡ list = c.deref-change-items.ensures.value in
    let lt : i < length list = subst (λ (l : List PageChange). i < length l) value c.loop-change-test.true in
    let is : x ≡ get_or list i x = c.change-item.is ∙ ap (λ (l : List PageChange). get_or l i x) value in
    All-more (λ (y : PageChange). Contains c.args.guards.now (lock_of c.args.op y.page Write)) list i x lt c.loop-change.invariant (subst (λ (y : PageChange). Contains c.args.guards.now (lock_of c.args.op y.page Write)) is (c.holds.ensures.0 (subst IsTrue (sym c.if-not-holds.false) refl)))

pub returns : goal.returns
returns c =
    let list = c.args.changes.now.list.items in
    let value : c.deref-change-items.result.now ≡ list = c.deref-change-items.ensures.value in
    let long = ap length value in
    subst (λ (l : List PageChange). All (λ (y : PageChange). Contains c.args.guards.now (lock_of c.args.op y.page Write)) l) (take_all c.loop-change.change-index list (omega (arith, long))) c.loop-change.invariant
