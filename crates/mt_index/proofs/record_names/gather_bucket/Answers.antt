use Rattle.std.proofs.Common.{◌∙◌, ◌≤◌, ◌<◌, ℕ, min, inl, inr, refl, ap, subst}
use Rattle.std.proofs.lemmas.Result.{IfOk-weaker}
use Rattle.mt_index.specs.Names.{HasChain, HasBucket}
use Rattle.mt_index.proofs.Bucketwise.{bucket_kind, level_shifted, gathers_weaker}
use Rattle.mt_index.proofs.record_names.gather_bucket.Goals as goal

pub returns-in_default-clause-gathers : goal.returns-in_default-clause-gathers
returns-in_default-clause-gathers g c = record {
  missing = c.in_default.ensures.none;
  role = λ pages agree m a. (inr (bucket_kind _ pages m c.args.bucket c.args.pointer a (c.requires.named pages agree m a)), refl);
}

pub returns-then-pointer-min-clause-gathers : goal.returns-then-pointer-min-clause-gathers
returns-then-pointer-min-clause-gathers g c pages agree m a =
    let here = agree c.args.bucket c.in-Some.page.now c.in-Some.ensures.some in
    let shifted = level_shifted _ pages m c.args.bucket c.args.pointer c.min.result c.in-Some.page.now a (c.requires.named pages agree m a) here (c.min.ensures ∙ ap (λ (x : ℕ). min x 9) c.depth.ensures) in
    inl (subst (λ (x : ℕ). x ≤ c.args.pointer) shifted c.if-pointer-min.true, refl)

pub gather_chain-gathered-requires-clause-named : goal.gather_chain-gathered-requires-clause-named
gather_chain-gathered-requires-clause-named g c pages agree m a = (c.args.pointer, c.requires.named pages agree m a)

pub returns-in-Ok-Whole-clause-gathers : goal.returns-in-Ok-Whole-clause-gathers
returns-in-Ok-Whole-clause-gathers g c = IfOk-weaker c.gather_chain-gathered.result _ _ (gathers_weaker _ _
    (HasChain c.args.bucket c.args.relation c.args.names.now.items c.gather_chain-gathered.new.names.items)
    (HasBucket c.args.bucket c.args.pointer c.args.relation c.args.names.now.items c.gather_chain-gathered.new.names.items)
    (λ pages agree m a has.
    let here = agree c.args.bucket c.in-Some.page.now c.in-Some.ensures.some in
    let shifted = level_shifted _ pages m c.args.bucket c.args.pointer c.min.result c.in-Some.page.now a (c.requires.named pages agree m a) here (c.min.ensures ∙ ap (λ (x : ℕ). min x 9) c.depth.ensures) in
    inr (subst (λ (x : ℕ). c.args.pointer < x) shifted c.if-pointer-min.false, has))) c.gather_chain-gathered.ensures.gathers
