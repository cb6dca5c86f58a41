use Rattle.std.proofs.Common.{◌≡◌, List, sym, subst, None}
use Rattle.mt_overlay.specs.declared.overlay.PageCopy.{PageCopy}
use Rattle.mt_overlay.specs.Overlays.{copied, AreApart, IsCopyAt, Keeps}
use Rattle.mt_overlay.proofs.Overlaid.{keeps_push, keeps_set, apart_push, apart_set, uncopied}
use Rattle.mt_overlay.proofs.overlay.keep.Goals as goal

pub returns-in-Some-clause-kept : goal.returns-in-Some-clause-kept
returns-in-Some-clause-kept c =
    let old = c.args.copies.now.items in
    let copy : PageCopy = record { page = c.args.page; bytes = c.args.bytes } in
    keeps_set old copy c.in-Some.i (subst (λ (l : List PageCopy). IsCopyAt l c.args.page c.in-Some.i) c.as_slice.ensures.value c.in-Some.ensures.some)

pub returns-in-Some-clause-apart : goal.returns-in-Some-clause-apart
returns-in-Some-clause-apart c = λ all.
    let old = c.args.copies.now.items in
    let copy : PageCopy = record { page = c.args.page; bytes = c.args.bytes } in
    let at = subst (λ (l : List PageCopy). IsCopyAt l c.args.page c.in-Some.i) c.as_slice.ensures.value c.in-Some.ensures.some in
    apart_set old copy c.in-Some.i (at.page copy) all

pub returns-in_ok-push-in-None-clause-kept : goal.returns-in_ok-push-in-None-clause-kept
returns-in_ok-push-in-None-clause-kept c =
    let old = c.args.copies.now.items in
    let copy : PageCopy = record { page = c.args.page; bytes = c.args.bytes } in
    let none : copied old c.args.page ≡ None = subst (λ (l : List PageCopy). copied l c.args.page ≡ None) c.as_slice.ensures.value c.in-None.ensures.none in
    subst (λ (l : List PageCopy). Keeps c.args.page c.args.bytes old l) (sym c.in_ok-push-in-None.ensures.items) (keeps_push old copy none)

pub returns-in_ok-push-in-None-clause-apart : goal.returns-in_ok-push-in-None-clause-apart
returns-in_ok-push-in-None-clause-apart c = λ all.
    let old = c.args.copies.now.items in
    let copy : PageCopy = record { page = c.args.page; bytes = c.args.bytes } in
    let none : copied old c.args.page ≡ None = subst (λ (l : List PageCopy). copied l c.args.page ≡ None) c.as_slice.ensures.value c.in-None.ensures.none in
    subst (λ (l : List PageCopy). AreApart l) (sym c.in_ok-push-in-None.ensures.items) (apart_push old copy (uncopied old c.args.page none) all)
