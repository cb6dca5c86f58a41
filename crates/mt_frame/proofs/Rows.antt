-- Rows of records, and batches.
use Rattle.std.proofs.Common.{◌≡◌, ℕ, ◌+◌, ◌^◌, ◌<◌, ◌≤◌, Bool, false, eqb, List, [], ◌∷◌, ◌++◌, length, Option, Some, None, refl, sym, ap, ◌∙◌, append_assoc, arith, length-append}
use Rattle.std.specs.Prelude.{Result, Err}
use Rattle.std.specs.Int.{w32}
use Rattle.std.specs.List.{AllByRecursion}
use Rattle.std.proofs.lemmas.List.{append-nil}
use Rattle.std.proofs.lemmas.List.Concat.{flat_map-cons}
use Rattle.mt_frame.specs.declared.fields.ReadError.{ReadError}
use Rattle.mt_frame.specs.declared.fields.ReadError.TheVariants as errors
use Rattle.mt_frame.specs.declared.records.Record.{Record}
use Rattle.mt_frame.specs.declared.records.Record.TheVariants.{Page, OpEnd, OpDropped, Commit, AbortEnd}
use Rattle.mt_frame.specs.Codec.{Fails}
use Rattle.mt_frame.specs.Grammar.{counted, record_text, body_text, batch_text, IsRecord, IsBatchable, IsBody, IsBatch, IsBodyOf, IsBatchOf}
use Rattle.mt_base.specs.declared.format.Format.{Format}
use Rattle.mt_frame.specs.Readers.{record_at, framed_at}
use Rattle.mt_frame.proofs.CodecLaws.{Reads, IsBytes, prefix_free, some_is, wide32, reads_map, reads_then, reads_byte, reads_counted}
use Rattle.mt_frame.proofs.RecordLaws.{reads_record}

-- the bytes are a row of these records, and then the rest
pub record Row (bytes : List ℕ) (records : List Record) (rest : List ℕ) : Type 0 where
  pub each : AllByRecursion IsRecord records
  pub parts : bytes ≡ body_text records ++ rest
  pub rest_fits : IsBytes rest

pub each_push : (rs : List Record) (r : Record) → AllByRecursion IsRecord rs → IsRecord r → AllByRecursion IsRecord (rs ++ r ∷ [])
each_push [] r all one = (one, tt)
each_push (q ∷ rs) r all one = (all.0, each_push rs r all.1 one)

pub body_push : (rs : List Record) (r : Record) (rest : List ℕ) → body_text (rs ++ r ∷ []) ++ rest ≡ body_text rs ++ (record_text r ++ rest)
body_push [] r rest = ap (λ (l : List ℕ). l ++ rest) (flat_map-cons record_text r [] ∙ append-nil (record_text r))
body_push (q ∷ rs) r rest =
    ap (λ (l : List ℕ). l ++ rest) (flat_map-cons record_text q (rs ++ r ∷ [])) ∙ append_assoc (record_text q) (body_text (rs ++ r ∷ [])) rest
    ∙ ap (λ (l : List ℕ). record_text q ++ l) (body_push rs r rest)
    ∙ sym (append_assoc (record_text q) (body_text rs) (record_text r ++ rest))
    ∙ ap (λ (l : List ℕ). l ++ (record_text r ++ rest)) (sym (flat_map-cons record_text q rs))

pub row_push : (bytes : List ℕ) (rs : List Record) (rest after : List ℕ) (r : Record) → Row bytes rs rest → record_at rest ≡ Some (r, after) → Row bytes (rs ++ r ∷ []) after
row_push bytes rs rest after r row read =
    let t = reads_record.takes rest (r, after) row.rest_fits read in
    record { each = each_push rs r row.each t.1; parts = row.parts ∙ ap (λ (l : List ℕ). body_text rs ++ l) t.0.parts ∙ sym (body_push rs r after); rest_fits = t.0.rest_fits }

pub row_none : (bytes : List ℕ) (rs : List Record) → rs ≡ [] → IsBytes bytes → Row bytes rs bytes
row_none bytes [] empty fits = record { each = tt; parts = refl; rest_fits = fits }
row_none bytes (r ∷ rs) empty fits = absurd cc

pub row_all : (bytes : List ℕ) (rs : List Record) (rest : List ℕ) → Row bytes rs rest → length rest ≡ 0 → IsBody bytes rs
row_all bytes rs [] row empty = record { each = row.each; text = row.parts ∙ append-nil (body_text rs) }
row_all bytes rs (b ∷ rest) row empty = absurd (omega arith)

pub text_some : (r : Record) → 1 ≤ length (record_text r)
text_some (Page txn op page image start old new) = omega arith
text_some (OpEnd txn op undoes done) = omega arith
text_some (OpDropped txn op) = omega arith
text_some (Commit txn) = omega arith
text_some (AbortEnd txn) = omega arith

pub shorter : (rest after : List ℕ) (r : Record) → IsBytes rest → record_at rest ≡ Some (r, after) → length after < length rest
shorter rest after r fits read =
    let t = reads_record.takes rest (r, after) fits read in
    omega (arith, ap length t.0.parts, length-append (record_text r) after, text_some r)

-- a row that begins with another goes on behind it
pub row_splits : (front rs : List Record) (rest : List ℕ) → AllByRecursion IsRecord front → AllByRecursion IsRecord rs → body_text rs ≡ body_text front ++ rest
    → (more : List Record) × AllByRecursion IsRecord more × (rest ≡ body_text more) × (rs ≡ front ++ more)
row_splits [] rs rest ff fr same = (rs, fr, sym same, refl)
row_splits (q ∷ front) [] rest ff fr same =
    absurd (omega (arith, ap length same, ap length (flat_map-cons record_text q front), length-append (body_text (q ∷ front)) rest, length-append (record_text q) (body_text front), text_some q))
row_splits (q ∷ front) (r ∷ rs) rest ff fr same =
    let grouped : record_text r ++ body_text rs ≡ record_text q ++ (body_text front ++ rest) =
    sym (flat_map-cons record_text r rs) ∙ same ∙ ap (λ (l : List ℕ). l ++ rest) (flat_map-cons record_text q front) ∙ append_assoc (record_text q) (body_text front) rest in
    let p = prefix_free reads_record r q (body_text rs) (body_text front ++ rest) fr.0 ff.0 grouped in
    let deeper : (more : List Record) × AllByRecursion IsRecord more × (rest ≡ body_text more) × (rs ≡ front ++ more) = row_splits front rs rest ff.1 fr.1 p.1 in
    (deeper.0, deeper.1, deeper.2, (λ i. p.0 i ∷ deeper.3 i))

-- no row stands where no record is read
row_stuck : (more : List Record) (rest : List ℕ) → AllByRecursion IsRecord more → rest ≡ body_text more → 1 ≤ length rest → record_at rest ≡ None → ⊥
row_stuck [] rest fits same some_left stuck = absurd (omega (arith, ap length same))
row_stuck (r ∷ more) rest fits same some_left stuck =
    let again = reads_record.again r (body_text more) fits.0 in
    let is : record_at rest ≡ Some (r, body_text more) = ap record_at (same ∙ flat_map-cons record_text r more) ∙ again in
    absurd cc

-- no bytes are the rows of two lists of records
pub one_body : (bytes : List ℕ) (xs ys : List Record) → IsBody bytes xs → IsBody bytes ys → xs ≡ ys
one_body bytes xs ys a b =
    let s = row_splits ys xs [] b.each a.each (sym a.text ∙ b.text ∙ sym (append-nil (body_text ys))) in
    let empty : s.0 ≡ [] = nothing s.0 s.2 in
    s.3 ∙ ap (λ (l : List Record). ys ++ l) empty ∙ append-nil ys
  where
    nothing : (rs : List Record) → [] ≡ body_text rs → rs ≡ []
    nothing [] e = refl
    nothing (r ∷ rs) e = absurd (omega (arith, ap length e, ap length (flat_map-cons record_text r rs), length-append (record_text r) (body_text rs), text_some r))

-- ---- errors

pub fails_wrong : {Y : Type 0} (e : ReadError) (read : Option Y) → Fails e read → e ≡ errors.Wrong → read ≡ None
fails_wrong errors.Memory read f is = absurd cc
fails_wrong errors.Wrong read f is = f

pub wrong_is : {X : Type 0} (r : Result X ReadError) (x e : ReadError) → r ≡ Err x → x ≡ e → r ≡ Err errors.Wrong → e ≡ errors.Wrong
wrong_is r x e a b c = cc

pub wrong_there : {X : Type 0} (r : Result X ReadError) (e : ReadError) → r ≡ Err e → e ≡ errors.Wrong → r ≡ Err errors.Wrong
wrong_there r e a b = cc

pub row_wrong : (bytes : List ℕ) (front : List Record) (rest : List ℕ) (e : ReadError) → Row bytes front rest → Fails e (record_at rest) → 1 ≤ length rest → e ≡ errors.Wrong → (rs : List Record) → IsBody bytes rs → ⊥
row_wrong bytes front rest e row fails some_left is rs body =
    let s = row_splits front rs rest row.each body.each (sym body.text ∙ row.parts) in
    row_stuck s.0 rest s.1 s.2 some_left (fails_wrong e (record_at rest) fails is)

-- ---- batches

abbrev framed : List ℕ → List ℕ
framed body = (165 ∷ []) ++ counted w32 body

pub reads_framed : Reads framed (λ body. (0 ≤ length body) × (length body ≤ 4294967295)) framed_at
unfolding framed_at
reads_framed = reads_map (λ (p : ℕ × List ℕ). p.1) (λ body. (165, body)) framed (λ body. (0 ≤ length body) × (length body ≤ 4294967295)) (λ b _. refl) (λ b. refl) (λ b f. ((omega arith, omega arith), f))
    (λ p f. let gate : 165 ≡ p.0 = let low : 165 ≤ p.0 = f.0.0 in let high : p.0 ≤ 165 = f.0.1 in omega arith in ap (λ (t : ℕ). (t, p.1)) gate)
    (λ p f. f.1)
    (reads_then (reads_byte 165 165 (omega arith)) (λ _ _. reads_counted w32 (2 ^ 32) 0 4294967295 wide32 (omega arith)))

pub batch_found : (bytes body rest : List ℕ) (rs : List Record) → IsBytes bytes → framed_at bytes ≡ Some (body, rest) → IsBody body rs → IsBatch bytes rs (5 + length body)
batch_found bytes body rest rs fits read row =
    let t = reads_framed.takes bytes (body, rest) fits read in record {
      batchable = record { each = row.each; short = omega (arith, t.1, ap length row.text) };
      front = (rest, t.0.parts ∙ ap (λ (l : List ℕ). framed l ++ rest) row.text);
      length_of = omega (arith, ap length row.text);
    }

pub batch_of_found : (format : Format) (bytes body rest : List ℕ) (rs : List Record) → IsBytes bytes → framed_at bytes ≡ Some (body, rest) → IsBodyOf format body rs
    → IsBatchOf format bytes rs (5 + length body)
batch_of_found format bytes body rest rs fits read row = record { batch = batch_found bytes body rest rs fits read row.row; values = row.values }

-- what a batch's bytes are read as
batch_framed : (bytes : List ℕ) (rs : List Record) (n : ℕ) → (b : IsBatch bytes rs n) → framed_at bytes ≡ Some (body_text rs, b.front.0)
batch_framed bytes rs n b = ap framed_at b.front.1 ∙ reads_framed.again (body_text rs) b.front.0 (omega arith, omega (arith, b.batchable.short))

pub batch_wrong : (format : Format) (bytes body rest : List ℕ) → framed_at bytes ≡ Some (body, rest) → ((rs : List Record) → IsBodyOf format body rs → ⊥) → (rs : List Record) (n : ℕ)
    → IsBatchOf format bytes rs n → ⊥
batch_wrong format bytes body rest read none rs n of_format =
    let b = of_format.batch in
    let same = some_is (body, rest) (body_text rs, b.front.0) (sym read ∙ batch_framed bytes rs n b) in
    none rs (record { row = record { each = b.batchable.each; text = ap (λ p. p.0) same }; values = of_format.values })

pub frame_fails : (bytes : List ℕ) (e : ReadError) → Fails e (framed_at bytes) → e ≡ errors.Wrong → (rs : List Record) (n : ℕ) → IsBatch bytes rs n → ⊥
frame_fails bytes e f is rs n b =
    let none : framed_at bytes ≡ None = fails_wrong e (framed_at bytes) f is in
    let some_text : framed_at bytes ≡ Some (body_text rs, b.front.0) = batch_framed bytes rs n b in
    absurd cc

-- no batch begins another
pub one_batch : (bytes : List ℕ) (xs ys : List Record) (m n : ℕ) → IsBatch bytes xs m → IsBatch bytes ys n → (xs ≡ ys) × (m ≡ n)
one_batch bytes xs ys m n a b =
    let same = some_is (body_text xs, a.front.0) (body_text ys, b.front.0) (sym (batch_framed bytes xs m a) ∙ batch_framed bytes ys n b) in
    let bodies : body_text xs ≡ body_text ys = ap (λ p. p.0) same in
    (one_body (body_text xs) xs ys (record { each = a.batchable.each; text = refl }) (record { each = b.batchable.each; text = bodies }), a.length_of ∙ ap (λ (l : List ℕ). length (framed l)) bodies ∙ sym b.length_of)

pub batch_read : (rs : List Record) (rest : List ℕ) → IsBatchable rs → IsBatch (batch_text rs ++ rest) rs (length (batch_text rs))
batch_read rs rest fits = record { batchable = fits; front = (rest, refl); length_of = refl }

pub some_bytes : (bytes : List ℕ) (b : Bool) → b ≡ eqb (length bytes) 0 → b ≡ false → 1 ≤ length bytes
some_bytes [] b is shut = absurd cc
some_bytes (x ∷ bytes) b is shut = omega arith
