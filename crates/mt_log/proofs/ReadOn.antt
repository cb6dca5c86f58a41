-- What a scan knows after one batch more.
use Rattle.std.proofs.Common.{◌≡◌, ℕ, ◌+◌, ◌<◌, ◌≤◌, ◌^◌, Bool, false, eqb, List, [], ◌∷◌, ◌++◌, length, Option, Some, None, refl, sym, ◌∙◌, ap, subst, arith}
use Rattle.std.specs.Prelude.{IfSome, IfNone}
use Rattle.std.specs.Int.{w32, to_be_bytes}
use Rattle.std.proofs.lemmas.Bool.Decides.{nat_tests}
use Rattle.mt_disk.specs.declared.device.Device.{Ghosts}
use Rattle.mt_base.specs.declared.refusal.Refusal.{Refusal}
use Rattle.mt_disk.specs.Disk.{Has}
use Rattle.mt_disk.proofs.Frame.{runs_on, same_moment}
use Rattle.mt_frame.specs.declared.records.Record.{Record}
use Rattle.mt_frame.specs.Grammar.{AreOfFormat, IsBodyOf, body_text}
use Rattle.mt_base.specs.declared.format.Format.{Format}
use Rattle.mt_area_rules.specs.History.{MayFollow}
use Rattle.mt_log.specs.Batch.{Stands, joined}
use Rattle.mt_log.specs.declared.batch.Batch.{Batch}
use Rattle.mt_log.specs.Found.{records_of, places_of}
use Rattle.mt_log.specs.Holds.{AreRecords, AreBatches, AreBatchesOf, MayComeNext, BreakNoRule, places_from, IsNextBatch}
use Rattle.mt_log.specs.Quiet.{OnlyReads}
use Rattle.mt_log.proofs.Pieces.{head_there, one_body_there}
use Rattle.mt_log.proofs.Prefix.{history_push}

-- ---- runs of reads

module _ {D : Type 0} (g : Ghosts D) (only_now : (d : D) (c : List ℕ) → g.left_since d (g.moment d) c → g.may_leave d c) where
  pub reads_none : (d : D) → OnlyReads g d d
  reads_none d = record { same = refl; crash = λ c. (λ left. left, λ left. left); moments = same_moment g.moment g.left_since g.may_leave only_now d }

  pub reads_then : (old mid new : D) → OnlyReads g old mid → OnlyReads g mid new → OnlyReads g old new
  reads_then old mid new first second = record {
    same = second.same ∙ first.same;
    crash = λ c. (λ left. (first.crash c).0 ((second.crash c).0 left), λ left. (second.crash c).1 ((first.crash c).1 left));
    moments = runs_on g.moment g.left_since g.may_leave only_now old mid new first.moments second.moments (λ c left. (first.crash c).0 left);
  }

-- ---- one batch more

pub records_push : (bs : List Batch) (b : Batch) → records_of (bs ++ b ∷ []) ≡ records_of bs ++ b.records.items ∷ []
records_push [] b = refl
records_push (x ∷ bs) b = ap (λ (l : List (List Record)). x.records.items ∷ l) (records_push bs b)

pub places_push : (bs : List Batch) (b : Batch) → places_of (bs ++ b ∷ []) ≡ places_of bs ++ b.place ∷ []
places_push [] b = refl
places_push (x ∷ bs) b = ap (λ (l : List ℕ). x.place ∷ l) (places_push bs b)

pub next_place : (c : List ℕ) (p : ℕ) (bs : List (List Record)) (q : ℕ) (b : List Record) → Stands c p bs q → places_from p (bs ++ b ∷ []) ≡ places_from p bs ++ q ∷ []
next_place c p [] q b s = ap (λ (k : ℕ). k ∷ []) s
next_place c p (x ∷ bs) q b s = ap (λ (l : List ℕ). p ∷ l) (next_place c (p + 5 + length (body_text x)) bs q b s.1)

pub batches_push : (pages : ℕ) (bs : List (List Record)) (b : List Record) → AreBatches pages bs → AreRecords pages b → AreBatches pages (bs ++ b ∷ [])
batches_push pages [] b all one = (one, tt)
batches_push pages (x ∷ bs) b all one = (all.0, batches_push pages bs b all.1 one)

pub values_push : (format : Format) (bs : List (List Record)) (b : List Record) → AreBatchesOf format bs → AreOfFormat format b → AreBatchesOf format (bs ++ b ∷ [])
values_push format [] b all one = (one, tt)
values_push format (x ∷ bs) b all one = (all.0, values_push format bs b all.1 one)

pub rules_push : (bs : List (List Record)) (b : List Record) → BreakNoRule bs → MayComeNext bs b → BreakNoRule (bs ++ b ∷ [])
rules_push [] b all may = (may, tt)
rules_push (x ∷ bs) b all may = history_push (x ∷ bs) b (omega arith) all may

not_none : (x : Batch) (bs : List Batch) → eqb (length (x ∷ bs)) 0 ≡ false
not_none x bs = grind (arith, nat_tests)

-- a batch is the first one if and only if none was found
pub may_come : (first : Bool) (bs : List Batch) (b : List Record) → first ≡ eqb (length bs) 0 → MayFollow first (joined (records_of bs)) b → MayComeNext (records_of bs) b
may_come first [] b is may = subst (λ (x : Bool). MayFollow x [] b) is may
may_come first (x ∷ bs) b is may = subst (λ (y : Bool). MayFollow y (joined (records_of (x ∷ bs))) b) (is ∙ not_none x bs) may

pub comes_next : (first : Bool) (bs : List Batch) (b : List Record) → first ≡ eqb (length bs) 0 → MayComeNext (records_of bs) b → MayFollow first (joined (records_of bs)) b
comes_next first [] b is may = subst (λ (x : Bool). MayFollow x [] b) (sym is) may
comes_next first (x ∷ bs) b is may = subst (λ (y : Bool). MayFollow y (joined (records_of (x ∷ bs))) b) (sym (is ∙ not_none x bs)) may

-- ---- no batch where one is due

-- none whose length fits
pub no_length : (format : Format) (c : List ℕ) (at end pages : ℕ) (before : List (List Record)) → end ≤ at + 2 ^ 32 → ((n : ℕ) → n < 2 ^ 32 → Has c (at + 1) (to_be_bytes w32 n) → end ≤ at + 5 + n) → (b : List Record) → IsNextBatch format c at end pages before b → ⊥
no_length format c at end pages before short none b is =
    let fits = is.fits in
    let past = none (length (body_text b)) (omega arith) (head_there c at b is.text) in
    absurd (omega arith)

-- none whose body is the one that stands there
pub no_body : (format : Format) (c : List ℕ) (at end pages n : ℕ) (body : List ℕ) (before : List (List Record)) → end ≤ at + 2 ^ 32 → Has c (at + 1) (to_be_bytes w32 n) → n < 2 ^ 32 → Has c (at + 5) body → length body ≡ n
    → ((b : List Record) → IsBodyOf format body b → AreRecords pages b → MayComeNext before b → ⊥) → (b : List Record) → IsNextBatch format c at end pages before b → ⊥
no_body format c at end pages n body before short head small has size none b is =
    let fits = is.fits in
    none b (record { row = record { each = is.each.0; text = one_body_there c at n body b head small has size is.text (omega arith) }; values = is.of_format }) is.each is.rules

-- ---- answers

pub if_none : {A P : Type 0} (o : Option A) → o ≡ None → IfNone o P → P
if_none None is p = p
if_none (Some x) is p = absurd (cc)

pub if_some : {A : Type 0} (P : A → Type 0) (o : Option A) (x : A) → o ≡ Some x → IfSome o P → P x
if_some {A = A} P o x is p = subst (λ (q : Option A). IfSome q P) is p

pub bad_place : (a b : ℕ) → Refusal.BadFormat a ≡ Refusal.BadFormat b → a ≡ b
bad_place a b is = cc
