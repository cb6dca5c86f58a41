use Rattle.std.proofs.Common.{◌≡◌, ℕ, ◌∙◌, refl, subst, arith}
use Rattle.mt_index.specs.Names.{HasBucket, Gathers, UnlessWhole, names_in, entries_before}
use Rattle.mt_index.proofs.Bucketwise.{pointer_named, pointers_passed, names_next, gathered_all, names_are}
use Rattle.mt_index.proofs.Pointers.{in_directory}
use Rattle.mt_index.proofs.record_names.plan_names.Goals as goal

pub gather_bucket-requires-clause-named : goal.gather_bucket-requires-clause-named
gather_bucket-requires-clause-named g c pages agree m a =
    let here = subst (λ (p : ℕ). pages p ≡ c.in-Some.directory.now) c.new.ensures (agree c.new.result c.in-Some.directory.now c.in-Some.ensures.some) in
    pointer_named pages c.in-Some.directory.now c.loop-pointer.pointer c.pointer_of-bucket.result here (in_directory c.loop-pointer.pointer c.depth.result _ c.depth.ensures (omega arith) c.loop-pointer-test.true) c.pointer_of-bucket.ensures

pub returns-in_err-gather_bucket-clause-so_far : goal.returns-in_err-gather_bucket-clause-so_far
returns-in_err-gather_bucket-clause-so_far g c pages agree m a = c.in_err-gather_bucket.ensures.unchanged ∙ c.loop-pointer.invariant.so_far pages agree m a

pub returns-in-Need-clause-so_far : goal.returns-in-Need-clause-so_far
returns-in-Need-clause-so_far g c pages agree m a =
    subst (λ o. UnlessWhole o (c.gather_bucket.new.names.items ≡ c.loop-pointer.gathering.names.items)) c.in-Need.is c.in_ok-gather_bucket.ensures.part
    ∙ c.loop-pointer.invariant.so_far pages agree m a

pub returns-in-Endless-clause-so_far : goal.returns-in-Endless-clause-so_far
returns-in-Endless-clause-so_far g c pages agree m a =
    subst (λ o. UnlessWhole o (c.gather_bucket.new.names.items ≡ c.loop-pointer.gathering.names.items)) c.in-Endless.is c.in_ok-gather_bucket.ensures.part
    ∙ c.loop-pointer.invariant.so_far pages agree m a

pub loop-pointer-preserved : goal.loop-pointer-preserved
loop-pointer-preserved g c = record {
  place = refl;
  so_far = λ pages agree m a.
      let here = subst (λ (p : ℕ). pages p ≡ c.in-Some.directory.now) c.new.ensures (agree c.new.result c.in-Some.directory.now c.in-Some.ensures.some) in
      let is = pointer_named pages c.in-Some.directory.now c.loop-pointer.pointer c.pointer_of-bucket.result here (in_directory c.loop-pointer.pointer c.depth.result _ c.depth.ensures (omega arith) c.loop-pointer-test.true) c.pointer_of-bucket.ensures in
      let has = subst (Gathers (g.V.Pages.at_hand c.args.views.now) (g.V.Pages.total c.args.views.now)
      (HasBucket c.pointer_of-bucket.result c.loop-pointer.pointer c.args.relation c.loop-pointer.gathering.names.items c.gather_bucket.new.names.items)) c.in-Whole.is c.in_ok-gather_bucket.ensures.gathers in
      names_next _ pages m a c.args.relation c.loop-pointer.pointer c.pointer_of-bucket.result c.loop-pointer.gathering.names.items c.gather_bucket.new.names.items is (has pages agree m a)
      (subst (λ (i : ℕ). c.loop-pointer.gathering.names.items ≡ names_in c.args.relation (entries_before pages a.index.tree.chain i)) c.loop-pointer.invariant.place (c.loop-pointer.invariant.so_far pages agree m a));
}

pub returns-clause-once : goal.returns-clause-once
returns-clause-once g c pages agree m a =
    let here = subst (λ (p : ℕ). pages p ≡ c.in-Some.directory.now) c.new.ensures (agree c.new.result c.in-Some.directory.now c.in-Some.ensures.some) in
    gathered_all _ pages m a c.args.relation c.loop-pointer.pointer c.loop-pointer.gathering.names.items (pointers_passed pages c.in-Some.directory.now c.loop-pointer.pointer c.depth.result here c.depth.ensures c.loop-pointer-test.false)
    (subst (λ (i : ℕ). c.loop-pointer.gathering.names.items ≡ names_in c.args.relation (entries_before pages a.index.tree.chain i)) c.loop-pointer.invariant.place (c.loop-pointer.invariant.so_far pages agree m a))

pub returns-clause-named : goal.returns-clause-named
returns-clause-named g c pages agree m a = names_are c.args.relation m c.loop-pointer.gathering.names.items (returns-clause-once g c pages agree m a)
