use Rattle.std.proofs.Common.{◌+◌, ◌++◌, ℕ, ap, ◌∙◌, arith}
use Rattle.mt_bucket.specs.Page.{depth_of, goes_over, IsBucket}
use Rattle.mt_index.specs.Index.{kept_low, kept_high}
use Rattle.mt_index.proofs.bucket_split.parted.Goals as goal

pub returns : goal.returns
returns c =
    let bit = c.depth-bit.ensures in
    let low = c.requires in
    let es = Rattle.mt_bucket.specs.Page.entries c.args.old.now in
    record {
      low_depth = c.set_depth.ensures.depth ∙ ap (λ (n : ℕ). n + 1) bit;
      low_next = c.set_depth.ensures.next ∙ c.partition.ensures.head.next;
      stay = c.set_depth.ensures.entries ∙ c.partition.ensures.stay ∙ ap (λ (n : ℕ). kept_low n es) bit;
      up_depth = c.partition.ensures.to_head.depth ∙ c.empty.ensures.depth ∙ ap (λ (n : ℕ). n + 1) bit;
      up_next = c.partition.ensures.to_head.next ∙ c.empty.ensures.next;
      go = c.partition.ensures.go ∙ ap (λ xs. xs ++ kept_high c.depth-bit.result es) c.empty.ensures.entries ∙ ap (λ (n : ℕ). kept_high n es) bit;
      kept = λ relations pages is. (
        c.set_depth.ensures.kept (omega arith) relations pages (c.partition.ensures.kept relations pages is),
        c.partition.ensures.to_kept relations pages is (c.empty.ensures.bucket relations pages (omega arith) (let n = is.next in omega arith)),
      );
    }
