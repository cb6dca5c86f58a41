-- What is recorded of commits by a beginning of the records.
use Rattle.std.proofs.Common.{◌≡◌, ◌≤◌, List, [], ◌∷◌, ◌++◌, length, take, drop, map, refl, sym, ap, ◌∙◌, subst, arith, append-nil, append_assoc, length-append}
use Rattle.std.proofs.Math.Seq.{take-append_seam}
use Rattle.std.proofs.lemmas.List.{take-append-drop, take-map}
use Rattle.mt_frame.specs.declared.records.Record.{Record}
use Rattle.mt_frame.specs.declared.records.Record.TheVariants.{Page, OpEnd, OpDropped, Commit, AbortEnd}
use Rattle.mt_model.proofs.Appends.{legal_front}
use Rattle.mt_model.specs.History.{after, IsLegal}
use Rattle.mt_model.specs.Model.{Base}
use Rattle.mt_model.specs.declared.history.Committed.{Committed}
use Rattle.mt_replay.proofs.Walking.{plus_more}
use Rattle.mt_replay.specs.Recorded.{Recorded, Finished, nothing, calls_of, its, plus_record, plus_records, recorded_in, stands_for}
use Rattle.mt_core.proofs.Recovering.{books_run}
use Rattle.mt_core.specs.Restartable.{effects_of}

-- more commits than before, and those as before
record Follows (x y : Recorded) : Type 0 where
  more : List (List Finished)
  is : y.books ≡ x.books ++ more

same_books : (x y : Recorded) → y.books ≡ x.books → Follows x y
same_books x y same = record { more = []; is = same ∙ sym (append-nil x.books) }

reported_follows : (x : Recorded) (r : Record) → Follows x (plus_record x r)
reported_follows x (Page txn op page image start old new) = same_books x x refl
reported_follows x (OpEnd txn op undoes done) = record { more = []; is = sym (append-nil x.books) }
reported_follows x (OpDropped txn op) = same_books x x refl
reported_follows x (Commit txn) = record { more = its txn x.ends ∷ []; is = refl }
reported_follows x (AbortEnd txn) = record { more = []; is = sym (append-nil x.books) }

plus_follows : (x : Recorded) (rs : List Record) → Follows x (plus_records x rs)
plus_follows x [] = same_books x x refl
plus_follows x (r ∷ rs) =
    let one = reported_follows x r in
    let rest = plus_follows (plus_record x r) rs in
    record { more = one.more ++ rest.more; is = rest.is ∙ ap (λ (bs : List (List Finished)). bs ++ rest.more) one.is ∙ append_assoc x.books one.more rest.more }

front_follows : (front back : List Record) → Follows (recorded_in front) (recorded_in (front ++ back))
front_follows front back = subst (Follows (recorded_in front)) (sym (plus_more nothing front back)) (plus_follows (recorded_in front) back)

pub recorded_more : (front back : List Record) → length (recorded_in front).books ≤ length (recorded_in (front ++ back)).books
recorded_more front back =
    let f = front_follows front back in
    let same : length (recorded_in (front ++ back)).books ≡ length ((recorded_in front).books ++ f.more) = ap (λ (bs : List (List Finished)). length bs) f.is in
    let sum = length-append (recorded_in front).books f.more in omega (arith, same, sum)

-- a beginning stands for what the first of the commits lead to
pub stands_first : (first : Base) (whole : List Committed) (records front back : List Record) → records ≡ front ++ back → map calls_of (recorded_in records).books ≡ map effects_of whole → IsLegal first whole
    → stands_for first front ≡ after first (take (length (recorded_in front).books) whole)
stands_first first whole records front back is same legal =
    let n = length (recorded_in front).books in
    let f = front_follows front back in
    let mine : take n (recorded_in records).books ≡ (recorded_in front).books = ap (λ (rs : List Record). take n (recorded_in rs).books) is ∙ ap (take n) f.is ∙ take-append_seam (recorded_in front).books f.more in
    let books : map calls_of (recorded_in front).books ≡ map effects_of (take n whole) = ap (map calls_of) (sym mine) ∙ sym (take-map calls_of n (recorded_in records).books) ∙ ap (take n) same ∙ take-map effects_of n whole in
    books_run first (recorded_in front).books (take n whole) books (legal_front first (take n whole) (drop n whole) (subst (IsLegal first) (sym (take-append-drop n whole)) legal))
