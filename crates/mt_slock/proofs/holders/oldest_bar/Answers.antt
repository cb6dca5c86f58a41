use Rattle.std.proofs.Common.{◌≡◌, ℕ, ◌<◌, ◌+◌, ◌++◌, ◌∷◌, [], List, Option, Some, length, take, take-suc, add-one, sym, ◌∙◌, ap, subst}
use Rattle.mt_slock.specs.Views.{in_order}
use Rattle.mt_slock.specs.declared.holders.Holder.{Holder}
use Rattle.mt_slock.proofs.Among.{Found, found_past, found_more, in_order_push}
use Rattle.mt_slock.proofs.holders.oldest_bar.Goals as goal
use Rattle.mt_slock.proofs.holders.oldest_bar.Goals.{then-bars, else-bars}

pub loop-holder-preserved : goal.loop-holder-preserved
loop-holder-preserved c =
    let first = c.args.first in
    let xs : List Holder = c.args.others.now in
    let i = c.loop-holder.holder-index in
    let x : Holder = c.holder-item.result in
    let t = c.args.txn in
    let m = c.args.mode in
    let lt : i < length xs = c.loop-holder-test.true in
    let more : in_order first (take (i + 1) xs) ≡ in_order first (take i xs) ++ x ∷ [] =
    ap (in_order first) (ap (λ n. take n xs) (add-one i) ∙ (take-suc xs i x lt ∙ ap (λ (y : Holder). take i xs ++ y ∷ []) (sym c.holder-item.is))) ∙ in_order_push first (take i xs) x in
    let f : Found (in_order first (take i xs)) t m c.loop-holder.oldest = c.loop-holder.invariant in
    let g : Found (in_order first (take i xs) ++ x ∷ []) t m c.if-bars.oldest =
    elim c.if-bars.branch [
      | then-bars w ↦ subst (λ (r : Option ℕ). Found (in_order first (take i xs) ++ x ∷ []) t m r) (sym (w.oldest-is ∙ ap (λ (n : ℕ). Some n) w.older.ensures))
          (found_more (in_order first (take i xs)) x t m c.loop-holder.oldest (sym c.bars.ensures ∙ w.if-bars.true) f)
      | else-bars w ↦ subst (λ (r : Option ℕ). Found (in_order first (take i xs) ++ x ∷ []) t m r) (sym w.oldest-is)
          (found_past (in_order first (take i xs)) x t m c.loop-holder.oldest (sym c.bars.ensures ∙ w.if-bars.false) f)
    ] in
    subst (λ w. Found w t m c.if-bars.oldest) (sym more) g
