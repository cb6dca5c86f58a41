use mathlib.Core.Logic.{∥∥₁_elim}
use Rattle.std.proofs.Props.{props}
use Rattle.std.proofs.Common.{rules, ◌≡◌, ◌<◌, ◌+◌, arith, ◌∙◌, ℕ, length, List, Option, get_or, take, ap, subst, sym}
use Rattle.std.specs.Prelude.{IsSome}
use Rattle.std.proofs.lemmas.List.{length-take, take_all}
use Rattle.std.proofs.lemmas.List.Elements.{All-get_or}
use Rattle.mt_space.specs.declared.changes.PageChange.{PageChange}
use Rattle.mt_space.specs.Changes.{Agrees, IsShort, after}
use Rattle.mt_overlay.specs.Overlays.{shown, shown_whole, drawn, AreCopies}
use Rattle.mt_space.proofs.Changing.{short_at}
use Rattle.mt_overlay.proofs.Overlaid.{IsMade, edits_fit, agrees_more, drawn_more, below_some, shown_some}
use Rattle.mt_overlay.proofs.overlay.Overlay.apply.Goals as goal

pub make-requires-clause-fit : goal.make-requires-clause-fit
make-requires-clause-fit g c =
    let views = c.args.self.now.views.now in
    let below = g.V.Pages.at_hand views in
    let copies = c.args.self.now.copies.items in
    let list = c.args.changes.now.list.items in
    let x = c.change-item.result in
    let i = c.loop-change.change-index in
    let value : c.deref-change-items.result.now ≡ list = c.deref-change-items.ensures.value in
    let lt : i < length list = subst (λ (l : List PageChange). i < length l) value c.loop-change-test.true in
    let same : get_or list i x ≡ x = sym (c.change-item.is ∙ ap (λ (l : List PageChange). get_or l i x) value) in
    let there : IsSome (shown copies below x.page) = subst (λ (y : PageChange). IsSome (shown copies below y.page)) same (All-get_or (λ (y : PageChange). IsSome (shown copies below y.page)) list i x lt c.requires.there) in
    ∥∥₁_elim c.requires.short (hlevel props) (λ (pages, agrees, all).
    let short = subst (λ (y : PageChange). IsShort (pages y.page) y) same (short_at list i x pages lt all) in
    edits_fit (shown copies below) x pages (shown_whole copies below c.requires.copies (g.V.Pages.whole views c.requires.sound)) there agrees short)

pub loop-change-preserved : goal.loop-change-preserved
loop-change-preserved g c =
    let views = c.args.self.now.views.now in
    let below = g.V.Pages.at_hand views in
    let copies = c.args.self.now.copies.items in
    let old = c.loop-change.self.copies.items in
    let new = c.make.new.self.copies.items in
    let list = c.args.changes.now.list.items in
    let x = c.change-item.result in
    let i = c.loop-change.change-index in
    let so = c.loop-change.invariant in
    let value : c.deref-change-items.result.now ≡ list = c.deref-change-items.ensures.value in
    let lt : i < length list = subst (λ (l : List PageChange). i < length l) value c.loop-change-test.true in
    let is : x ≡ get_or list i x = c.change-item.is ∙ ap (λ (l : List PageChange). get_or l i x) value in
    let at_hand : g.V.Pages.at_hand c.loop-change.self.views.now ≡ below = ap g.V.Pages.at_hand so.views in
    let there_first : IsSome (shown copies below x.page) = subst (λ (y : PageChange). IsSome (shown copies below y.page)) (sym is) (All-get_or (λ (y : PageChange). IsSome (shown copies below y.page)) list i x lt c.requires.there) in
    let there : IsSome (shown old below x.page) = shown_some old below x.page (below_some copies below x.page c.requires.copies there_first) in
    let made : IsMade below x old new = subst (λ (b : ℕ → Option (List ℕ)). IsMade b x old new) at_hand c.in_ok-make.ensures.kept in
    record {
      views = c.in_ok-make.ensures.views ∙ so.views;
      sound = subst (λ (b : ℕ → Option (List ℕ)). AreCopies b new) at_hand c.in_ok-make.ensures.copies;
      agrees = λ pages agrees. agrees_more below old new list i x pages lt is there made (so.agrees pages agrees);
      few = omega (arith, so.few, c.in_ok-make.ensures.few, length-take i list, length-take (i + 1) list, lt);
      drawn = λ pages agrees. drawn_more below old new list i x (drawn copies pages) pages lt is there made agrees (so.drawn pages agrees);
    }

pub returns : goal.returns
returns g c =
    let below = g.V.Pages.at_hand c.args.self.now.views.now in
    let old = c.args.self.now.copies.items in let new = c.loop-change.self.copies.items in
    let list = c.args.changes.now.list.items in
    let so = c.loop-change.invariant in
    let value : c.deref-change-items.result.now ≡ list = c.deref-change-items.ensures.value in
    let long = ap length value in
    let all : take c.loop-change.change-index list ≡ list = take_all c.loop-change.change-index list (omega (arith, long)) in
    record {
      copies = so.sound;
      views = so.views;
      same_pages = search rules;
      agrees = λ pages agrees. subst (λ (l : List PageChange). Agrees (shown new below) (after l pages)) all (so.agrees pages agrees);
      few = let few = so.few in omega (arith, few, length-take c.loop-change.change-index list);
      draws = λ pages agrees. subst (λ (l : List PageChange). drawn new pages ≡ after l (drawn old pages)) all (so.drawn pages agrees);
    }
