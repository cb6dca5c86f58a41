-- An area is read in one way: it holds one row of batches, or breaks the grammar at one place first.
use Rattle.std.proofs.Common.{◌≡◌, ◌≢◌, ℕ, ◌+◌, ◌^◌, ◌<◌, ◌≤◌, List, [], ◌∷◌, ◌++◌, length, get_or, refl, sym, ◌∙◌, ap, subst, arith, append_assoc, append-nil, ⊎_elim, ◌⊎◌, inl, inr, false, Result, Ok, Err, IfErr}
use Rattle.mt_base.specs.declared.refusal.Refusal.{Refusal}
use Rattle.mt_disk.specs.Disk.{Has}
use Rattle.mt_frame.specs.declared.records.Record.{Record}
use Rattle.mt_frame.specs.Grammar.{AreOfFormat, body_text, batch_text}
use Rattle.mt_area_rules.specs.History.{MayFollow, BatchesMayFollow, IsHistory}
use Rattle.mt_frame.proofs.Rows.{one_body}
use Rattle.mt_log.specs.Batch.{Stands, joined}
use Rattle.mt_log.specs.Holds.{AreRecords, AreBatches, AreBatchesOf, MayComeNext, BreakNoRule, HoldsBatches, HoldsOf, BreaksAt}
use Rattle.mt_base.specs.declared.format.Format.{Format}
use Rattle.mt_log.proofs.Steps.{stands_le}
use Rattle.mt_log.proofs.Pieces.{gate_there, body_there, one_body_there, head_there}

-- two batches at one place are one
pub same_batch : (c : List ℕ) (p pages : ℕ) (xs ys : List Record) → Has c p (batch_text xs) → Has c p (batch_text ys) → length (body_text xs) < 2 ^ 32 → length (body_text ys) < 2 ^ 32 → AreRecords pages xs → AreRecords pages ys → xs ≡ ys
same_batch c p pages xs ys a b small small2 each each2 =
    let texts : body_text xs ≡ body_text ys = one_body_there c p (length (body_text xs)) (body_text xs) ys (head_there c p xs a) small (body_there c p xs a) refl b small2 in
    one_body (body_text xs) xs ys (record { each = each.0; text = refl }) (record { each = each2.0; text = texts })

-- a row in an area begins the one that the area holds
pub row_begins : (c : List ℕ) (p at q end pages : ℕ) (front whole : List (List Record)) → Stands c p front at → at < end → Stands c p whole q → q < end → get_or c q 0 ≢ 165 → end < p + 2 ^ 32 → AreBatches pages front → AreBatches pages whole
    → (rest : List (List Record)) × (whole ≡ front ++ rest) × Stands c at rest q × AreBatches pages rest
row_begins c p at q end pages [] whole s inside t within shut short each each2 = (whole, refl, subst (λ (k : ℕ). Stands c k whole q) s t, each2)
row_begins c p at q end pages (b ∷ front) [] s inside t within shut short each each2 = absurd (shut (subst (λ (k : ℕ). get_or c k 0 ≡ 165) t (gate_there c p b s.0)))
row_begins c p at q end pages (b ∷ front) (w ∷ whole) s inside t within shut short each each2 =
    let le : p + 5 + length (body_text b) ≤ at = stands_le c (p + 5 + length (body_text b)) front at s.1 in
    let le2 : p + 5 + length (body_text w) ≤ q = stands_le c (p + 5 + length (body_text w)) whole q t.1 in
    let same : w ≡ b = same_batch c p pages w b t.0 s.0 (omega arith) (omega arith) each2.0 each.0 in
    let t2 : Stands c (p + 5 + length (body_text b)) whole q = subst (λ (l : List Record). Stands c (p + 5 + length (body_text l)) whole q) same t.1 in
    let deeper : (rest : List (List Record)) × (whole ≡ front ++ rest) × Stands c at rest q × AreBatches pages rest =
    row_begins c (p + 5 + length (body_text b)) at q end pages front whole s.1 inside t2 within shut (omega arith) each.1 each2.1 in
    (deeper.0, (λ i. same i ∷ deeper.1 i), deeper.2, deeper.3)

-- an area holds one row of batches
pub holds_one : (c : List ℕ) (start end pages : ℕ) (xs ys : List (List Record)) → end < start + 2 ^ 32 → HoldsBatches c start end pages xs → HoldsBatches c start end pages ys → xs ≡ ys
holds_one c start end pages xs ys short a b =
    let r = row_begins c start a.row.0 b.row.0 end pages xs ys a.row.1 a.row.2 b.row.1 b.row.2 b.row.3 short a.each b.each in
    sym (r.1 ∙ ap (λ (l : List (List Record)). xs ++ l) (none a.row.0 r.0 r.2 a.row.3) ∙ append-nil xs)
  where
    none : (p : ℕ) (rest : List (List Record)) → Stands c p rest b.row.0 → get_or c p 0 ≢ 165 → rest ≡ []
    none p [] s shut = refl
    none p (x ∷ rest) s shut = absurd (shut (gate_there c p x s.0))

-- the next batch of a row that breaks no rule
follows_at : (earlier : List Record) (front : List (List Record)) (b : List Record) (rest : List (List Record)) → BatchesMayFollow earlier (front ++ b ∷ rest) → MayFollow false (earlier ++ joined front) b
follows_at earlier [] b rest all = subst (λ (l : List Record). MayFollow false l b) (sym (append-nil earlier)) all.0
follows_at earlier (x ∷ front) b rest all = subst (λ (l : List Record). MayFollow false l b) (append_assoc earlier x (joined front)) (follows_at (earlier ++ x) front b rest all.1)

next_follows : (front : List (List Record)) (b : List Record) (rest : List (List Record)) → IsHistory (front ++ b ∷ rest) → MayComeNext front b
next_follows [] b rest all = all.0
next_follows (x ∷ front) b rest all = follows_at x front b rest all.1

-- the values of the next one
next_values : (format : Format) (front : List (List Record)) (b : List Record) (rest : List (List Record)) → AreBatchesOf format (front ++ b ∷ rest) → AreOfFormat format b
next_values format [] b rest all = all.0
next_values format (x ∷ front) b rest all = next_values format front b rest all.1

-- an area that holds batches breaks the grammar nowhere
pub holds_or_breaks : (format : Format) (c : List ℕ) (start end pages at : ℕ) (xs : List (List Record)) → end < start + 2 ^ 32 → HoldsOf format c start end pages xs → BreaksAt format c start end pages at → ⊥
holds_or_breaks format c start end pages at xs short of_format b =
    let a = of_format.held in
    let r = row_begins c start at a.row.0 end pages b.before xs b.row b.inside a.row.1 a.row.2 a.row.3 short b.each a.each in
    goes_on r.0 r.1 r.2 r.3
  where
    empty_history : (l : List (List Record)) → l ≡ [] → IsHistory l → ⊥
    empty_history [] is h = h
    empty_history (x ∷ l) is h = absurd (cc)

    goes_on : (rest : List (List Record)) → xs ≡ b.before ++ rest → Stands c at rest of_format.held.row.0 → AreBatches pages rest → ⊥
    goes_on [] is s each = let a = of_format.held in ⊎_elim
        (λ (open_gate : get_or c at 0 ≡ 165). a.row.3 (subst (λ (k : ℕ). get_or c k 0 ≡ 165) s open_gate))
        (λ (none : b.before ≡ []). empty_history xs (is ∙ append-nil b.before ∙ none) a.rules)
        b.due
    goes_on (y ∷ rest) is s each = let a = of_format.held in b.none y (record {
      text = s.0;
      fits = let le = stands_le c (at + 5 + length (body_text y)) rest a.row.0 s.1 in let lt = a.row.2 in omega arith;
      each = each.0;
      of_format = next_values format b.before y rest (subst (AreBatchesOf format) is of_format.of_format);
      rules = next_follows b.before y rest (subst IsHistory is a.rules);
    })

-- ---- two rows from one place

-- they end at one place, or the one goes on behind the other
record GoesOn (c : List ℕ) (pages p q : ℕ) (xs ys : List (List Record)) : Type 0 where
  next : List Record
  rest : List (List Record)
  is : ys ≡ xs ++ next ∷ rest
  row : Stands c p (next ∷ rest) q
  each : AreBatches pages (next ∷ rest)

goes_on_behind : (c : List ℕ) (pages p q : ℕ) (x y : List Record) (xs ys : List (List Record)) → y ≡ x → GoesOn c pages p q xs ys → GoesOn c pages p q (x ∷ xs) (y ∷ ys)
goes_on_behind c pages p q x y xs ys same g = record { next = g.next; rest = g.rest; is = (λ i. same i ∷ g.is i); row = g.row; each = g.each }

two_rows : (c : List ℕ) (s p q end pages : ℕ) (xs ys : List (List Record)) → Stands c s xs p → p < end → Stands c s ys q → q < end → end < s + 2 ^ 32 → AreBatches pages xs → AreBatches pages ys
    → (p ≡ q) ⊎ (GoesOn c pages p q xs ys ⊎ GoesOn c pages q p ys xs)
two_rows c s p q end pages [] [] a inside b within short each each2 = inl (sym a ∙ b)
two_rows c s p q end pages [] (y ∷ ys) a inside b within short each each2 = inr (inl (record { next = y; rest = ys; is = refl; row = subst (λ (k : ℕ). Stands c k (y ∷ ys) q) a b; each = each2 }))
two_rows c s p q end pages (x ∷ xs) [] a inside b within short each each2 = inr (inr (record { next = x; rest = xs; is = refl; row = subst (λ (k : ℕ). Stands c k (x ∷ xs) p) b a; each = each }))
two_rows c s p q end pages (x ∷ xs) (y ∷ ys) a inside b within short each each2 =
    let le : s + 5 + length (body_text x) ≤ p = stands_le c (s + 5 + length (body_text x)) xs p a.1 in
    let le2 : s + 5 + length (body_text y) ≤ q = stands_le c (s + 5 + length (body_text y)) ys q b.1 in
    let same : y ≡ x = same_batch c s pages y x b.0 a.0 (omega arith) (omega arith) each2.0 each.0 in
    let b2 : Stands c (s + 5 + length (body_text x)) ys q = subst (λ (l : List Record). Stands c (s + 5 + length (body_text l)) ys q) same b.1 in
    ⊎_elim (λ (one : p ≡ q). inl one)
    (λ (goes : GoesOn c pages p q xs ys ⊎ GoesOn c pages q p ys xs). inr (⊎_elim (λ (on : GoesOn c pages p q xs ys). inl (goes_on_behind c pages p q x y xs ys same on)) (λ (on : GoesOn c pages q p ys xs). inr (goes_on_behind c pages q p y x ys xs (sym same) on)) goes))
    (two_rows c (s + 5 + length (body_text x)) p q end pages xs ys a.1 inside b2 within (omega arith) each.1 each2.1)

a_history : (front : List (List Record)) (b : List Record) (rest : List (List Record)) → BreakNoRule (front ++ b ∷ rest) → IsHistory (front ++ b ∷ rest)
a_history [] b rest all = all
a_history (x ∷ front) b rest all = all

-- a row does not go on behind a place where none may
stops : (format : Format) (c : List ℕ) (start end pages p q : ℕ) → (a : BreaksAt format c start end pages p) → (b : BreaksAt format c start end pages q) → GoesOn c pages p q a.before b.before → ⊥
stops format c start end pages p q a b g = a.none g.next (record {
  text = g.row.0;
  fits = let le = stands_le c (p + 5 + length (body_text g.next)) g.rest q g.row.1 in let lt = b.inside in omega arith;
  each = g.each.0;
  of_format = next_values format a.before g.next g.rest (subst (AreBatchesOf format) g.is b.of_format);
  rules = next_follows a.before g.next g.rest (a_history a.before g.next g.rest (subst BreakNoRule g.is b.rules));
})

-- an area breaks the grammar at one place first
pub breaks_one : (format : Format) (c : List ℕ) (start end pages p q : ℕ) → end < start + 2 ^ 32 → BreaksAt format c start end pages p → BreaksAt format c start end pages q → p ≡ q
breaks_one format c start end pages p q short a b = ⊎_elim
    (λ (one : p ≡ q). one)
    (λ (goes : GoesOn c pages p q a.before b.before ⊎ GoesOn c pages q p b.before a.before). ⊎_elim (λ (on : GoesOn c pages p q a.before b.before). absurd (stops format c start end pages p q a b on)) (λ (on : GoesOn c pages q p b.before a.before). absurd (stops format c start end pages q p b a on)) goes)
    (two_rows c start p q end pages a.before b.before a.row a.inside b.row b.inside short a.each b.each)

-- ---- what a scan comes to

-- it has read to the end
pub holds_found : (c : List ℕ) (start end pages next : ℕ) (bs : List (List Record)) → Stands c start bs next → next < end → get_or c next 0 ≢ 165 → AreBatches pages bs → BreakNoRule bs → (length bs ≡ 0 → ⊥) → HoldsBatches c start end pages bs
holds_found c start end pages next [] row inside shut each rules some = absurd (some refl)
holds_found c start end pages next (b ∷ bs) row inside shut each rules some = record { row = (next, row, inside, shut); each = each; rules = rules }

-- it has read nothing
pub nothing_found : (format : Format) (c : List ℕ) (start end pages next : ℕ) (bs : List (List Record)) → Stands c start bs next → get_or c next 0 ≢ 165 → start < end → length bs ≡ 0 → BreaksAt format c start end pages start
nothing_found format c start end pages next [] row shut inside none = record {
  before = [];
  row = refl;
  inside = inside;
  each = tt;
  of_format = tt;
  rules = tt;
  due = inr refl;
  none = λ b is. shut (subst (λ (k : ℕ). get_or c k 0 ≡ 165) row (gate_there c start b is.text));
}
nothing_found format c start end pages next (b ∷ bs) row shut inside none = absurd (omega arith)

-- no refusal but want of memory and a fault, where the grammar is not broken
pub no_other_cause : (why : Refusal) (F : Type 0) → (why ≡ Refusal.NoMemory) ⊎ (((why ≡ Refusal.DeviceFailed) × F) ⊎ ((at : ℕ) × (why ≡ Refusal.BadFormat at))) → ((at : ℕ) → why ≡ Refusal.BadFormat at → ⊥)
    → (why ≡ Refusal.NoMemory) ⊎ (why ≡ Refusal.DeviceFailed)
no_other_cause why F (inl memory) none = inl memory
no_other_cause why F (inr (inl fault)) none = inr fault.0
no_other_cause why F (inr (inr bad)) none = absurd (none bad.0 bad.1)

pub refused : {T : Type 0} (r : Result T Refusal) (p e : Refusal) (Q : Refusal → Type 0) → r ≡ Err p → p ≡ e → Q e → IfErr r Q
refused (Ok x) p e Q is same q = tt
refused (Err y) p e Q is same q = let back : e ≡ y = cc in subst Q back q
