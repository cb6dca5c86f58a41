-- Each commit of the book is recorded by what is durable, and each under way whose record is; and so it stays.
use Rattle.std.proofs.Common.{◌≡◌, ◌≢◌, ◌⊎◌, inl, inr, ⊎_elim, ℕ, zero, suc, ◌<◌, ◌≤◌, ◌+◌, ◌-◌, nat_lt, Bool, true, false, not, cond, List, [], ◌∷◌, ◌++◌, length, get_or, refl, sym, ap, ◌∙◌, subst, arith, append-nil, append_assoc}
use Rattle.std.specs.Prelude.{All, AllPairs}
use Rattle.std.proofs.lemmas.Bool.{cases_eq, cases_lt, lt-ltb, ltb-true}
use Rattle.std.proofs.lemmas.List.{get_or_push, get_or_append_left, length_push}
use Rattle.mt_disk.specs.declared.device.Device.{Ghosts}
use Rattle.mt_frame.specs.declared.records.Record.{Record}
use Rattle.mt_frame.specs.declared.records.Record.TheVariants as record_of
use Rattle.mt_log.specs.Words.{appended, durable, in_flight, waiting, Moves}
use Rattle.mt_model.specs.declared.history.Committed.{Committed}
use Rattle.mt_replay.proofs.Walking.{plus_more}
use Rattle.mt_replay.specs.Recorded.{Recorded, nothing, its, recorded_in}
use Rattle.mt_core.proofs.Lists.{pairs_head, pairs_tail}
use Rattle.mt_core.proofs.Prefixed.{recorded_more}
use Rattle.mt_core.specs.Booked.{durable_count}
use Rattle.mt_core.specs.Consistent.{Origin, IsPlaced, IsConsistent}
use Rattle.mt_core.specs.Restartable.{Lasts, RecordsBook, SameBook}
use Rattle.mt_model.specs.Model.{Base}
use Rattle.mt_core.specs.declared.parts.Commit.{Commit}
use Rattle.mt_core.specs.declared.parts.Core.{Core}

-- ---- commits that are durable up to a place

above : (p q : ℕ) → q ≤ p → nat_lt p q ≡ false
above p q le = by (nat_lt p q) refl
  where
    by : (b : Bool) → nat_lt p q ≡ b → nat_lt p q ≡ false
    by false is = is
    by true is = absurd (let less = ltb-true p q is in omega (arith, less, le))

abbrev Rising : List Commit → Type 0
Rising cs = AllPairs (λ (a b : Commit). a.place < b.place) cs

-- the first is behind it
count_none : (c : Commit) (cs : List Commit) (p : ℕ) → p < c.place → durable_count (c ∷ cs) p ≡ 0
count_none c cs p less = ap (λ (b : Bool). cond (not b) (1 + durable_count cs p) 0) (lt-ltb p c.place less)

-- the first is not
count_some : (c : Commit) (cs : List Commit) (p : ℕ) → c.place ≤ p → durable_count (c ∷ cs) p ≡ 1 + durable_count cs p
count_some c cs p le = ap (λ (b : Bool). cond (not b) (1 + durable_count cs p) 0) (above p c.place le)

none_counted : (cs : List Commit) (p : ℕ) → All (λ (c : Commit). p < c.place) cs → durable_count cs p ≡ 0
none_counted [] p all = refl
none_counted (c ∷ cs) p all = count_none c cs p (all 0 c (omega arith))

-- each that is counted is not behind it
pub counted_within : (cs : List Commit) (p i : ℕ) (d : Commit) → i < durable_count cs p → (get_or cs i d).place ≤ p
counted_within [] p i d less = absurd (omega (arith, less))
counted_within (c ∷ cs) p i d less = ⊎_elim
    (λ (behind : p < c.place). absurd (let none = count_none c cs p behind in omega (arith, less, none)))
    (λ (le : c.place ≤ p). let some = count_some c cs p le in at i (omega (arith, less, some)) le (λ j lt. counted_within cs p j d lt))
    (cases_lt p c.place)
  where
    at : (j : ℕ) → j < 1 + durable_count cs p → c.place ≤ p → ((k : ℕ) → k < durable_count cs p → (get_or cs k d).place ≤ p) → (get_or (c ∷ cs) j d).place ≤ p
    at zero lt le rest = le
    at (suc j) lt le rest = rest j (omega (arith, lt))

-- no fewer are counted up to a place behind
pub count_grows : (cs : List Commit) (p q : ℕ) → p ≤ q → durable_count cs p ≤ durable_count cs q
count_grows [] p q le = omega arith
count_grows (c ∷ cs) p q le =
    let rest = count_grows cs p q le in
    ⊎_elim
    (λ (behind : p < c.place). let none = count_none c cs p behind in omega (arith, none))
    (λ (low : c.place ≤ p). let some = count_some c cs p low in let then = count_some c cs q (omega (arith, low, le)) in omega (arith, some, then, rest))
    (cases_lt p c.place)

-- one more that is behind it
pub count_push : (cs : List Commit) (c : Commit) (p : ℕ) → p < c.place → durable_count (cs ++ c ∷ []) p ≡ durable_count cs p
count_push [] c p less = count_none c [] p less
count_push (x ∷ xs) c p less = ap (λ (n : ℕ). cond (not (nat_lt p x.place)) (1 + n) 0) (count_push xs c p less)

-- at the place behind this one is a commit's record
record Next (cs : List Commit) (p : ℕ) : Type 0 where
  at : ℕ
  within : at < length cs
  there : (d : Commit) → (get_or cs at d).place ≡ suc p
  one : durable_count cs (suc p) ≤ suc (durable_count cs p)

next_count : (cs : List Commit) (p : ℕ) → Rising cs → (durable_count cs (suc p) ≤ durable_count cs p) ⊎ Next cs p
next_count [] p rising = inl (omega arith)
next_count (c ∷ cs) p rising = ⊎_elim behind (before (next_count cs p (pairs_tail (λ (a b : Commit). a.place < b.place) c cs rising))) (cases_lt p c.place)
  where
    before : (durable_count cs (suc p) ≤ durable_count cs p) ⊎ Next cs p → c.place ≤ p → (durable_count (c ∷ cs) (suc p) ≤ durable_count (c ∷ cs) p) ⊎ Next (c ∷ cs) p
    before rest le =
        let now = count_some c cs p le in
        let then = count_some c cs (suc p) (omega (arith, le)) in
        ⊎_elim
        (λ (few : durable_count cs (suc p) ≤ durable_count cs p). inl (omega (arith, few, now, then)))
        (λ (n : Next cs p). inr (record { at = suc n.at; within = (let less = n.within in omega (arith, less)); there = n.there; one = (let one = n.one in omega (arith, one, now, then)) }))
        rest

    behind : p < c.place → (durable_count (c ∷ cs) (suc p) ≤ durable_count (c ∷ cs) p) ⊎ Next (c ∷ cs) p
    behind less = ⊎_elim
        (λ (same : c.place ≡ suc p).
        let rest : durable_count cs (suc p) ≡ 0 = none_counted cs (suc p) (λ i d lt. let more = pairs_head (λ (a b : Commit). a.place < b.place) c cs rising i d lt in omega (arith, more, same)) in
        let then = count_some c cs (suc p) (omega (arith, same)) in
        inr (record { at = 0; within = omega arith; there = λ d. same; one = omega (arith, rest, then) }))
        (λ (apart : c.place ≢ suc p). let then = count_none c cs (suc p) (omega (arith, less, apart)) in inl (omega (arith, then)))
        (cases_eq c.place (suc p))

-- ---- what is recorded by more records

commit_reported : (front : List Record) (t : ℕ) → length (recorded_in (front ++ record_of.Commit t ∷ [])).books ≡ length (recorded_in front).books + 1
commit_reported front t =
    let x = recorded_in front in
    ap (λ (y : Recorded). length y.books) (plus_more nothing front (record_of.Commit t ∷ [])) ∙ length_push x.books (its t x.ends)

record_at : (front back : List Record) (r d : Record) (i : ℕ) → length front ≡ i → get_or (front ++ r ∷ back) i d ≡ r
record_at front back r d i is =
    let more = length_push front r in
    ap (λ (rs : List Record). get_or rs i d) (sym (append_assoc front (r ∷ []) back)) ∙ get_or_append_left (front ++ r ∷ []) back d i (omega (arith, more, is)) ∙ get_or_push front r d i is

one_counted : (front back : List Record) (r : Record) (cs : List Commit) → Rising cs → All (IsPlaced (front ++ r ∷ back)) cs
    → durable_count cs (length (front ++ r ∷ [])) + length (recorded_in front).books ≤ durable_count cs (length front) + length (recorded_in (front ++ r ∷ [])).books
one_counted front back r cs rising placed = subst (λ (n : ℕ). durable_count cs n + length (recorded_in front).books ≤ durable_count cs (length front) + length (recorded_in (front ++ r ∷ [])).books) (sym size) (⊎_elim
    (λ (few : durable_count cs (suc (length front)) ≤ durable_count cs (length front)). let more = recorded_more front (r ∷ []) in omega (arith, few, more))
    (λ (n : Next cs (length front)).
    let c = get_or cs n.at none in
    let at : length front ≡ c.place - 1 = let is = n.there none in omega (arith, is) in
    let is : r ≡ record_of.Commit c.txn = sym (record_at front back r r (c.place - 1) at) ∙ (placed n.at none n.within).there r in
    let books : length (recorded_in (front ++ r ∷ [])).books ≡ length (recorded_in front).books + 1 = ap (λ (x : Record). length (recorded_in (front ++ x ∷ [])).books) is ∙ commit_reported front c.txn in
    let one = n.one in omega (arith, one, books))
    (next_count cs (length front) rising))
  where
    none : Commit
    none = record { txn = 0; place = 0 }

    size : length (front ++ r ∷ []) ≡ suc (length front)
    size = let more = length_push front r in omega (arith, more)

pub all_counted : (more front rest : List Record) (cs : List Commit) → Rising cs → All (IsPlaced (front ++ (more ++ rest))) cs
    → durable_count cs (length (front ++ more)) + length (recorded_in front).books ≤ durable_count cs (length front) + length (recorded_in (front ++ more)).books
all_counted [] front rest cs rising placed = subst (λ (rs : List Record). durable_count cs (length rs) + length (recorded_in front).books ≤ durable_count cs (length front) + length (recorded_in rs).books) (sym (append-nil front)) (omega arith)
all_counted (r ∷ more) front rest cs rising placed =
    let next = front ++ r ∷ [] in
    let whole : next ++ more ≡ front ++ r ∷ more = append_assoc front (r ∷ []) more in
    let one = one_counted front (more ++ rest) r cs rising placed in
    let others = all_counted more next rest cs rising (subst (λ (rs : List Record). All (IsPlaced rs) cs) (sym (append_assoc front (r ∷ []) (more ++ rest))) placed) in
    let now : durable_count cs (length (next ++ more)) ≡ durable_count cs (length (front ++ r ∷ more)) = ap (λ (rs : List Record). durable_count cs (length rs)) whole in
    let books : length (recorded_in (next ++ more)).books ≡ length (recorded_in (front ++ r ∷ more)).books = ap (λ (rs : List Record). length (recorded_in rs).books) whole in
    omega (arith, one, others, now, books)

-- ---- parts

module _ {D : Type 0} where
  pub lasts_same : (k n : Core D) → durable n.operations.store.log ≡ durable k.operations.store.log → Lasts k n
  lasts_same k n same = ([], same ∙ sym (append-nil (durable k.operations.store.log)))

  -- a step of a force
  pub lasts_moved : (k n : Core D) → Moves k.operations.store.log n.operations.store.log → Lasts k n
  lasts_moved k n moves = ⊎_elim
      (λ still. lasts_same k n still.0)
      (λ m. ⊎_elim (λ begun. lasts_same k n begun.1) (λ done. (in_flight k.operations.store.log, done.1)) m)
      moves

  pub lasts_then : (k m n : Core D) → Lasts k m → n.operations.store ≡ m.operations.store → Lasts k n
  lasts_then k m n (more, is) store = (more, ap (λ s. durable s.log) store ∙ is)

module _ {D : Type 0} (g : Ghosts D) (origin : Origin) where
  -- with the same book and the same commits under way
  pub stays_reported : (k n : Core D) (later : Base) → IsConsistent g origin later n → Lasts k n → SameBook k n → RecordsBook origin k → RecordsBook origin n
  stays_reported k n later safe (more, is) same was =
      let old = durable k.operations.store.log in
      let rest = in_flight n.operations.store.log ++ waiting n.operations.store.log in
      let cs = n.commits.items in
      let records : appended n.operations.store.log ≡ old ++ (more ++ rest) = ap (λ (rs : List Record). rs ++ rest) is ∙ append_assoc old more rest in
      let counted = all_counted more old rest cs safe.fit.queued.rising (subst (λ (rs : List Record). All (IsPlaced rs) cs) records safe.fit.queued.placed) in
      let now : durable_count cs (length (durable n.operations.store.log)) ≡ durable_count cs (length (old ++ more)) = ap (λ (rs : List Record). durable_count cs (length rs)) is in
      let books : length (recorded_in (durable n.operations.store.log)).books ≡ length (recorded_in (old ++ more)).books = ap (λ (rs : List Record). length (recorded_in rs).books) is in
      let book : length n.book.items ≡ length k.book.items = ap (λ (b : List Committed). length b) same.book in
      let commits : durable_count cs (length old) ≡ durable_count k.commits.items (length old) = ap (λ (xs : List Commit). durable_count xs (length old)) same.commits in
      omega (arith, was, counted, now, books, book, commits)

  -- a commit more is under way, whose record is not durable
  pub begins_reported : (k n : Core D) (it : Commit) → durable n.operations.store.log ≡ durable k.operations.store.log → n.book.items ≡ k.book.items → n.commits.items ≡ k.commits.items ++ it ∷ [] → length (durable k.operations.store.log) < it.place
      → RecordsBook origin k → RecordsBook origin n
  begins_reported k n it same book commits behind was =
      let old = durable k.operations.store.log in
      let now : durable_count n.commits.items (length (durable n.operations.store.log)) ≡ durable_count k.commits.items (length old) =
      (λ i. durable_count (commits i) (length (same i))) ∙ count_push k.commits.items it (length old) behind in
      let books : length (recorded_in (durable n.operations.store.log)).books ≡ length (recorded_in old).books = ap (λ (rs : List Record). length (recorded_in rs).books) same in
      let size : length n.book.items ≡ length k.book.items = ap (λ (b : List Committed). length b) book in
      omega (arith, was, now, books, size)

  -- the first is booked, whose record is durable
  pub leaves_reported : (k n : Core D) (c : Commit) (cs : List Commit) (done : Committed) → n.operations.store ≡ k.operations.store → k.commits.items ≡ c ∷ cs → n.commits.items ≡ cs → n.book.items ≡ k.book.items ++ done ∷ [] → c.place ≤ length (durable k.operations.store.log)
      → RecordsBook origin k → RecordsBook origin n
  leaves_reported k n c cs done store queue rest book there was =
      let old = durable k.operations.store.log in
      let same : durable n.operations.store.log ≡ old = ap (λ s. durable s.log) store in
      let before : durable_count k.commits.items (length old) ≡ 1 + durable_count cs (length old) = ap (λ (xs : List Commit). durable_count xs (length old)) queue ∙ count_some c cs (length old) there in
      let now : durable_count n.commits.items (length (durable n.operations.store.log)) ≡ durable_count cs (length old) = λ i. durable_count (rest i) (length (same i)) in
      let books : length (recorded_in (durable n.operations.store.log)).books ≡ length (recorded_in old).books = ap (λ (rs : List Record). length (recorded_in rs).books) same in
      let size : length n.book.items ≡ length k.book.items + 1 = ap (λ (b : List Committed). length b) book ∙ length_push k.book.items done in
      omega (arith, was, before, now, books, size)

  -- the area begins with the book
  pub starts_reported : (k : Core D) → k.book.items ≡ origin.earlier → k.commits.items ≡ [] → RecordsBook origin k
  starts_reported k book commits =
      let none : durable_count k.commits.items (length (durable k.operations.store.log)) ≡ 0 = ap (λ (cs : List Commit). durable_count cs (length (durable k.operations.store.log))) commits in
      let size : length k.book.items ≡ length origin.earlier = ap (λ (b : List Committed). length b) book in
      omega (arith, none, size)
