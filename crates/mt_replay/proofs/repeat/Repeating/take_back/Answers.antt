use Rattle.std.proofs.Common.{◌≡◌, ◌∙◌, ◌++◌, ◌+◌, ◌-◌, ℕ, Bool, List, length, drop, is_some, refl, ap, sym, subst, arith}
use Rattle.std.specs.BTreeMap.{get}
use Rattle.std.specs.BTreeSet.{IsFromIterResult}
use Rattle.std.specs.Map.{keys_of}
use Rattle.std.specs.Ordering.{nat_cmp}
use Rattle.std.proofs.lemmas.Iterator.Adapters.{fact_from_collect}
use Rattle.std.proofs.lemmas.Iterator.Consumers.{YieldsList-from_rest}
use Rattle.std.proofs.lemmas.Result.{IfOk-at_ok}
use Rattle.mt_frame.specs.declared.records.Record.{Record}
use Rattle.mt_log.specs.Batch.{joined}
use Rattle.mt_log.specs.Found.{records_of}
use Rattle.mt_log.specs.Holds.{AreRecords}
use Rattle.mt_log.specs.declared.batch.Batch.{Batch}
use Rattle.mt_space.specs.Changes.{PageBytes}
use Rattle.mt_steps.specs.Repeated.{logged, put_back}
use Rattle.mt_replay.specs.Memory.{AreFirst}
use Rattle.mt_replay.specs.Passes.{AreKnown, IsBackTo, left}
use Rattle.mt_replay.specs.declared.repeat.TakingBack.{TakingBack}
use Rattle.mt_replay.proofs.Leaving.{back_none, behind_all, held_is, keys_are, known_drop, known_shown}
use Rattle.mt_replay.proofs.Walking.{joined_at, each_at}
use Rattle.mt_replay.proofs.repeat.Repeating.take_back.Goals as goal

pub pass_records-requires-clause-each : goal.pass_records-requires-clause-each
pass_records-requires-clause-each c =
    let b = c.index-batches-i.result in
    let some = c.loop-i-test.true in let inside = c.loop-i.invariant.inside in
    subst (λ (n : ℕ). AreRecords n c.deref.result.now) (sym c.loop-i.invariant.count)
    (subst (AreRecords (length c.args.self.pages.items)) (sym (c.deref.ensures.value ∙ ap (λ (d : Batch). d.records.items) (sym c.index-batches-i.is)))
    (each_at (length c.args.self.pages.items) c.args.batches.now (c.loop-i.i - 1) b (omega arith) c.index-batches-i.is c.requires.each))

pub loop-i-preserved : goal.loop-i-preserved
loop-i-preserved c =
    let b = c.index-batches-i.result in
    let bs = c.args.batches.now in
    let i = c.loop-i.i - 1 in
    let some = c.loop-i-test.true in let inside = c.loop-i.invariant.inside in
    let next : i + 1 ≡ c.loop-i.i = omega arith in
    let records : b.records.items ≡ c.deref.result.now = sym (c.deref.ensures.value ∙ ap (λ (d : Batch). d.records.items) (sym c.index-batches-i.is)) in
    let backs = c.pass_records.ensures in
    let known : ℕ → Bool = λ o. is_some (get nat_cmp c.args.self.unfinished o) in
    let split : joined (records_of (drop i bs)) ≡ c.deref.result.now ++ joined (records_of (drop c.loop-i.i bs)) =
    joined_at bs i b (omega arith) c.index-batches-i.is ∙ (λ j. records j ++ joined (records_of (drop (next j) bs))) in
    record {
      inside = omega arith;
      whole = backs.whole;
      count = backs.count ∙ c.loop-i.invariant.count;
      back = λ f first all. subst (λ (rs : List Record). IsBackTo known c.pass_records.new.self rs f) (sym split)
          (backs.back known (joined (records_of (drop c.loop-i.i bs))) f
          (subst (λ (rs : List Record). AreKnown known (left rs)) split (known_drop known bs i all))
          (c.loop-i.invariant.back f first all));
    }

pub loop-i-init : goal.loop-i-init
loop-i-init c =
    let bs = c.args.batches.now in
    let known : ℕ → Bool = λ o. is_some (get nat_cmp c.args.self.unfinished o) in
    let start : TakingBack = record { pages = c.args.self.pages; «open» = c.in_ok-open.«open» } in
    let entries = c.args.self.unfinished.entries in
    let made = IfOk-at_ok _ c.in_ok-open.was (fact_from_collect (IsFromIterResult nat_cmp) c.collect.result c.collect.ensures.ran (YieldsList-from_rest (keys_of entries) c.into_keys.ensures.rest)) in
    record {
      inside = omega arith;
      whole = c.requires.whole;
      count = refl;
      back = λ f first all. subst (λ (rs : List Record). IsBackTo known start rs f) (sym (behind_all bs)) (back_none start known f first (λ o. made.0 o ∙ keys_are entries o));
    }

pub returns-clause-held : goal.returns-clause-held
returns-clause-held c = λ opening shown.
    let bs = c.args.batches.now in
    let done : c.loop-i.i ≡ 0 = let le = c.loop-i-test.false in omega arith in
    let pages = (c.loop-i.invariant.back (logged opening (joined (records_of bs))).pages shown.pages (known_shown c.args.self opening (joined (records_of bs)) shown)).pages in
    let all : AreFirst c.loop-i.back.pages.items (put_back (left (joined (records_of bs))) (logged opening (joined (records_of bs))).pages) =
    subst (λ (n : ℕ). AreFirst c.loop-i.back.pages.items (put_back (left (joined (records_of (drop n bs)))) (logged opening (joined (records_of bs))).pages)) done pages in
    subst (λ (f : PageBytes). AreFirst c.loop-i.back.pages.items f) (sym (held_is opening (joined (records_of bs)))) all
