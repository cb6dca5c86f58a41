use Rattle.std.proofs.Common.{◌≡◌, ◌≢◌, ◌<◌, ◌+◌, ◌∙◌, ℕ, List, length, get_or, set, subst, sym, ap, arith}
use Rattle.std.proofs.lemmas.List.{get_or-replicate, length-replicate}
use Rattle.mt_overlay.specs.declared.overlay.PageCopy.{PageCopy}
use Rattle.mt_overlay.proofs.Placed.{IsPlacing, placing_start, placing_past, placing_first}
use Rattle.mt_overlay.proofs.placed_copies.places_of.Goals.{then-page-lt4000+then-places-page, else-page-lt4000, else-page-lt4000-via-then-page-lt4000+else-places-page, else-page-lt4000-via-else-page-lt4000}
use Rattle.mt_overlay.proofs.placed_copies.places_of.Goals as goal

pub loop-i-init : goal.loop-i-init
loop-i-init c = placing_start c.args.copies.now _ (length-replicate {A = ℕ} 4000 65535) (λ p lt. get_or-replicate 4000 p 65535 0 lt)

pub loop-i-preserved : goal.loop-i-preserved
loop-i-preserved c =
    let x : PageCopy = c.index-copies-i.result in
    let q : c.from-page.result ≡ c.index-copies-i.result.page = c.from-page.ensures ∙ c.get.ensures ∙ sym (ap (λ (y : PageCopy). y.page) c.index-copies-i.is) in
    let within : c.loop-i.i < length c.args.copies.now = omega arith in
    elim c.if-page-lt4000.branch [
      | then-page-lt4000+then-places-page w ↦
          subst (λ (ps : List ℕ). IsPlacing c.args.copies.now ps (c.loop-i.i + 1)) (sym (w.places-is ∙ ap (λ (n : ℕ). set c.loop-i.places n c.loop-i.i) q))
          (placing_first c.args.copies.now c.loop-i.places c.loop-i.i c.index-copies-i.result within (omega arith) c.index-copies-i.is (omega (arith, q, w.if-page-lt4000.true))
          (ap (λ (n : ℕ). get_or c.loop-i.places n 0) (sym q) ∙ w.if-places-page.true) c.loop-i.invariant)
      | else-page-lt4000 w ↦
          let other : (p : ℕ) → p < 4000 → get_or c.loop-i.places p 0 ≡ 65535 → c.index-copies-i.result.page ≢ p = elim w.else-page-lt4000.branch [
            | else-page-lt4000-via-then-page-lt4000+else-places-page w2 ↦ λ p below nowhere e. w2.if-places-page.false (ap (λ (n : ℕ). get_or c.loop-i.places n 0) (q ∙ e) ∙ nowhere)
            | else-page-lt4000-via-else-page-lt4000 w2 ↦ λ p below nowhere e. let far = w2.if-page-lt4000.false in omega (arith, far, q, e, below)
          ] in
          subst (λ (ps : List ℕ). IsPlacing c.args.copies.now ps (c.loop-i.i + 1)) (sym w.places-is)
          (placing_past c.args.copies.now c.loop-i.places c.loop-i.i c.index-copies-i.result within c.index-copies-i.is other c.loop-i.invariant)
    ]
