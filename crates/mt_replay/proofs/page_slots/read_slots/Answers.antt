use Rattle.std.proofs.Common.{◌≡◌, ◌≢◌, ◌<◌, ◌∙◌, inl, inr, ℕ, List, Vec, [], true, false, get_or, set, length, length-set, refl, sym, ap, subst, arith}
use Rattle.std.specs.Global.{Global}
use Rattle.std.proofs.lemmas.Bool.{cases_eq}
use Rattle.std.proofs.lemmas.Grind.{get_or-set_at}
use Rattle.std.proofs.lemmas.List.{get_or-set_other}
use Rattle.mt_disk.proofs.Frame.{reads_on}
use Rattle.mt_log.specs.Quiet.{OnlyReads}
use Rattle.mt_log.proofs.ReadOn.{reads_then}
use Rattle.mt_pool.specs.Images.{slot}
use Rattle.mt_replay.proofs.page_slots.read_slots.Goals as goal
use Rattle.mt_replay.proofs.page_slots.read_slots.Goals.{then-not-imaged-number+in_ok-read_slot, else-not-imaged-number}

pub loop-number-preserved : goal.loop-number-preserved
loop-number-preserved g c =
    let D = g.D.Device in
    let was = c.loop-number.invariant in
    let n = c.loop-number.number in
    let marks = c.args.imaged.now in
    let old = c.loop-number.pages.items in
    elim c.if-not-imaged-number.branch [
      | then-not-imaged-number+in_ok-read_slot w ↦
          let bytes = w.read_slot.new.bytes in
          let new = c.if-not-imaged-number.pages.items in
          let read = w.in_ok-read_slot.ensures in
          let items : new ≡ set old n bytes = ap (λ (v : Vec (List ℕ) Global). v.items) w.pages-is in
          let test = c.loop-number-test.true in let end = c.len-number-end.ensures in let count = was.count in
          let inside : n < length old = omega (arith, test, end, count) in
          let many : length new ≡ length old = ap (λ (l : List (List ℕ)). length l) items ∙ length-set old n bytes in
          let here : (p : ℕ) → p ≡ n → get_or new p [] ≡ bytes = λ p same. ap (λ (l : List (List ℕ)). get_or l p []) items ∙ get_or-set_at old n p bytes [] same inside in
          let elsewhere : (p : ℕ) → p ≢ n → get_or new p [] ≡ get_or old p [] = λ p other. ap (λ (l : List (List ℕ)). get_or l p []) items ∙ get_or-set_other old n p bytes [] other in
          let second : OnlyReads D c.loop-number.device w.read_slot.new.device = record {
            same = read.same;
            crash = read.crash;
            moments = reads_on D.moment D.left_since D.may_leave g.met.D.Device.only_now c.loop-number.device w.read_slot.new.device read.time (λ k left. (read.crash k).0 left);
          } in
          record {
            whole = λ p lt. elim (cases_eq p n) [
              | inl same ↦ ap (λ (l : List ℕ). length l) (here p same) ∙ read.size
              | inr other ↦ ap (λ (l : List ℕ). length l) (elsewhere p other) ∙ was.whole p (omega (arith, lt, many))
            ];
            count = many ∙ was.count;
            read = λ p lt none. elim (cases_eq p n) [
              | inl same ↦ here p same ∙ read.read ∙ ap (λ (q : ℕ). slot 8192 (D.seen c.loop-number.device) q) (w.new-page.ensures ∙ sym same) ∙ ap (λ (l : List ℕ). slot 8192 l p) was.reads.same
              | inr other ↦ elsewhere p other ∙ was.read p (omega arith) none
            ];
            others = λ p is. elsewhere p (λ same. let not = w.if-not-imaged-number.true in let yes : get_or marks n false ≡ true = ap (λ (q : ℕ). get_or marks q false) (sym same) ∙ is in let apart : true ≡ false = sym yes ∙ not in absurd (cc)) ∙ was.others p is;
            quiet = ap D.faults w.device-is ∙ read.cause.quiet refl ∙ was.quiet;
            reads = subst (OnlyReads D c.args.device.now) (sym w.device-is) (reads_then D g.met.D.Device.only_now c.args.device.now c.loop-number.device w.read_slot.new.device was.reads second);
          }
      | else-not-imaged-number w ↦
          let same : c.if-not-imaged-number.pages.items ≡ old = ap (λ (v : Vec (List ℕ) Global). v.items) w.pages-is in
          record {
            whole = λ p lt. ap (λ (l : List (List ℕ)). length (get_or l p [])) same ∙ was.whole p (subst (λ (l : List (List ℕ)). p < length l) same lt);
            count = ap (λ (l : List (List ℕ)). length l) same ∙ was.count;
            read = λ p lt none. elim (cases_eq p n) [
              | inl here ↦ absurd (let yes : get_or marks n false ≡ true = w.if-not-imaged-number.false in let not : get_or marks n false ≡ false = ap (λ (q : ℕ). get_or marks q false) (sym here) ∙ none in let apart : true ≡ false = sym yes ∙ not in cc)
              | inr other ↦ ap (λ (l : List (List ℕ)). get_or l p []) same ∙ was.read p (omega arith) none
            ];
            others = λ p is. ap (λ (l : List (List ℕ)). get_or l p []) same ∙ was.others p is;
            quiet = ap D.faults w.device-is ∙ was.quiet;
            reads = subst (OnlyReads D c.args.device.now) (sym w.device-is) was.reads;
          }
    ]
