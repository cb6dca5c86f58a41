use mathlib.Core.Logic.{∥∥₁_map}
use Rattle.std.proofs.Common.{◌∙◌, List, length, arith, ap, subst, sym}
use Rattle.std.proofs.lemmas.Result.{IfOk-weaker}
use Rattle.mt_space.specs.Changes.{Agrees, after}
use Rattle.mt_overlay.specs.declared.overlay.PageCopy.{PageCopy}
use Rattle.mt_overlay.specs.Overlays.{drawn, shown}
use Rattle.mt_overlay.proofs.overlay.merged.Goals as goal

pub apply-requires-clause-short : goal.apply-requires-clause-short
apply-requires-clause-short g c = ∥∥₁_map c.requires.short (λ (pages, agrees, one, two).
    let at_first : Agrees (shown c.new-overlay.result.copies.items (g.V.Pages.at_hand c.new-overlay.result.views.now)) pages = subst (λ (l : List PageCopy). Agrees (shown l (g.V.Pages.at_hand c.new-overlay.result.views.now)) pages) (sym c.new-overlay.ensures.none)
    (subst (λ v. Agrees (g.V.Pages.at_hand v) pages) (sym c.new-overlay.ensures.views) agrees) in
    (pages, at_first, one))

pub apply-requires-2-clause-short : goal.apply-requires-2-clause-short
apply-requires-2-clause-short g c = ∥∥₁_map c.requires.short (λ (pages, agrees, one, two).
    let at_first : Agrees (shown c.new-overlay.result.copies.items (g.V.Pages.at_hand c.new-overlay.result.views.now)) pages = subst (λ (l : List PageCopy). Agrees (shown l (g.V.Pages.at_hand c.new-overlay.result.views.now)) pages) (sym c.new-overlay.ensures.none)
    (subst (λ v. Agrees (g.V.Pages.at_hand v) pages) (sym c.new-overlay.ensures.views) agrees) in
    let copies = c.apply.new.self.copies.items in
    let last = after c.args.first.now.list.items pages in
    (last, subst (λ v. Agrees (shown copies (g.V.Pages.at_hand v)) last) (sym c.in_ok-apply.ensures.views) (c.in_ok-apply.ensures.agrees pages at_first), two))

pub returns-clause-made : goal.returns-clause-made
returns-clause-made g c =
    let first = c.args.first.now.list.items in
    let second = c.args.second.now.list.items in
    IfOk-weaker c.changes.result _ _ (λ changes is pages agrees.
    let v0 = c.new-overlay.ensures.views in
    let v1 = c.in_ok-apply.ensures.views ∙ v0 in
    let v2 = c.in_ok-apply-2.ensures.views ∙ v1 in
    let on_first = c.in_ok-apply.ensures.draws pages (subst (λ v. Agrees (g.V.Pages.at_hand v) pages) (sym v0) agrees) in
    let on_second = c.in_ok-apply-2.ensures.draws pages (subst (λ v. Agrees (g.V.Pages.at_hand v) pages) (sym v1) agrees) in
    is.made pages (subst (λ v. Agrees (g.V.Pages.at_hand v) pages) (sym v2) agrees)
    ∙ on_second
    ∙ ap (after second) (on_first ∙ ap (λ (l : List PageCopy). after first (drawn l pages)) c.new-overlay.ensures.none))
    c.changes.ensures.made

pub returns-clause-short : goal.returns-clause-short
returns-clause-short g c =
    let v2 = c.in_ok-apply-2.ensures.views ∙ c.in_ok-apply.ensures.views ∙ c.new-overlay.ensures.views in
    IfOk-weaker c.changes.result _ _ (λ changes is pages agrees. is.short pages (subst (λ v. Agrees (g.V.Pages.at_hand v) pages) (sym v2) agrees)) c.changes.ensures.made

pub returns-clause-few : goal.returns-clause-few
returns-clause-few g c =
    let first = c.in_ok-apply.ensures.few in let second = c.in_ok-apply-2.ensures.few in let none = ap (λ (l : List PageCopy). length l) c.new-overlay.ensures.none in
    IfOk-weaker c.changes.result _ _ (λ changes is. let few = is.few in omega (arith, few, first, second, none)) c.changes.ensures.made
