use Rattle.std.proofs.Common.{rules, ◌∙◌, ◌++◌, ◌≡◌, ◌+◌, ◌-◌, Bool, List, ℕ, false, length, drop, ap, sym, subst, arith}
use Rattle.std.specs.Prelude.{replicate}
use Rattle.std.proofs.lemmas.List.{length-replicate}
use Rattle.mt_frame.specs.declared.records.Record.{Record}
use Rattle.mt_log.specs.Batch.{joined}
use Rattle.mt_log.specs.Found.{records_of}
use Rattle.mt_log.specs.Holds.{AreRecords}
use Rattle.mt_log.specs.declared.batch.Batch.{Batch}
use Rattle.mt_replay.specs.Passes.{HasMarks, Lays}
use Rattle.mt_replay.specs.declared.images.Images.{Images}
use Rattle.mt_replay.proofs.Imaged.{first_images, lays_marks, lays_none, lays_then}
use Rattle.mt_replay.proofs.Leaving.{behind_all}
use Rattle.mt_replay.proofs.Walking.{joined_at, each_at}
use Rattle.mt_replay.proofs.images.images_in.Goals as goal

pub lay_records-requires-clause-each : goal.lay_records-requires-clause-each
lay_records-requires-clause-each c =
    let b = c.index-batches-i.result in
    let some = c.loop-i-test.true in let inside = c.loop-i.invariant.inside in
    let size : length c.loop-i.images.pages.items ≡ c.args.count = c.loop-i.invariant.lays.count ∙ c.loop-i.invariant.blank in
    subst (λ (n : ℕ). AreRecords n c.deref.result.now) (sym size)
    (subst (AreRecords c.args.count) (sym (c.deref.ensures.value ∙ ap (λ (d : Batch). d.records.items) (sym c.index-batches-i.is)))
    (each_at c.args.count c.args.batches.now (c.loop-i.i - 1) b (omega arith) c.index-batches-i.is c.requires.each))

pub loop-i-init : goal.loop-i-init
loop-i-init c =
    let count = c.args.count in
    let x : Images = record { pages = c.in_ok-zero_pages.field-0; imaged = c.in_ok-vec.field-0 } in
    let none : x.imaged.items ≡ replicate count false = search rules in
    let marks : HasMarks x = record {
      whole = c.in_ok-zero_pages.ensures.whole;
      size = ap (λ (l : List Bool). length l) none ∙ length-replicate count false ∙ sym c.in_ok-zero_pages.ensures.count;
    } in
    record {
      inside = omega arith;
      marks = marks;
      zeros = x;
      blank = c.in_ok-zero_pages.ensures.count;
      none = none;
      lays = subst (λ (rs : List Record). Lays rs x x) (sym (behind_all c.args.batches.now)) (lays_none x marks);
    }

pub loop-i-preserved : goal.loop-i-preserved
loop-i-preserved c =
    let b = c.index-batches-i.result in
    let bs = c.args.batches.now in
    let i = c.loop-i.i - 1 in
    let was = c.loop-i.invariant in
    let some = c.loop-i-test.true in let inside = was.inside in
    let next : i + 1 ≡ c.loop-i.i = omega arith in
    let records : b.records.items ≡ c.deref.result.now = sym (c.deref.ensures.value ∙ ap (λ (d : Batch). d.records.items) (sym c.index-batches-i.is)) in
    record {
      inside = omega arith;
      marks = lays_marks c.deref.result.now c.loop-i.images c.lay_records.new.self was.marks c.lay_records.ensures;
      zeros = was.zeros;
      blank = was.blank;
      none = was.none;
      lays = lays_then c.deref.result.now (joined (records_of (drop c.loop-i.i bs))) (joined (records_of (drop i bs))) was.zeros c.loop-i.images c.lay_records.new.self
          (joined_at bs i b (omega arith) c.index-batches-i.is ∙ (λ j. records j ++ joined (records_of (drop (next j) bs))))
          was.lays c.lay_records.ensures;
    }

pub returns-clause-images : goal.returns-clause-images
returns-clause-images c =
    let was = c.loop-i.invariant in let bs = c.args.batches.now in
    let done : c.loop-i.i ≡ 0 = let le = c.loop-i-test.false in omega arith in
    first_images c.args.count (joined (records_of bs)) was.zeros c.loop-i.images
    (subst (λ (n : ℕ). Lays (joined (records_of (drop n bs))) was.zeros c.loop-i.images) done was.lays) was.blank was.none
