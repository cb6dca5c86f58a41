-- The texts of page records are read back.
use Rattle.std.proofs.Common.{◌≡◌, ◌≢◌, ℕ, zero, suc, ◌+◌, ◌^◌, ◌≤◌, Bool, true, false, cond, eqb, ltb, List, [], ◌∷◌, ◌++◌, length, get_or, Option, Some, None, refl, sym, ap, subst, ◌∙◌, arith}
use Rattle.std.specs.Prelude.{◌&&◌, ◌||◌, not, is_some}
use Rattle.std.specs.Int.{w16, w64, to_be_bytes}
use Rattle.std.proofs.lemmas.Bool.{eqb-true, ltb-true, lt-ltb}
use Rattle.std.proofs.lemmas.Bool.Decides.{nat_tests}
use Rattle.std.proofs.Math.Dec.{eqb-suc-zero}
use Rattle.mt_frame.specs.Codec.{part_at}
use Rattle.mt_frame.specs.Grammar.{flag_number, image_text, record_text, last_of, IsImage, IsPageRecord}
use Rattle.mt_frame.specs.Readers.{MAX_NUMBER, Head, flag_at, is_head, head_at, image_at, is_shortest, range_at, PageParts, page_of, page_at}
use Rattle.mt_frame.proofs.CodecLaws.{Reads, IsBytes, Takes, wide16, wide64, reads_within, reads_byte, reads_part, reads_then, reads_map, reads_where, bind_some, some_is, mapped}
use Rattle.mt_frame.proofs.OperationLaws.{and_true, both_true}

-- ---- heads

flag_back : (b : Bool) → eqb (flag_number b) 1 ≡ b
flag_back true = refl
flag_back false = refl

flag_small : (b : Bool) → (0 ≤ flag_number b) × (flag_number b ≤ 1)
flag_small true = (omega arith, omega arith)
flag_small false = (omega arith, omega arith)

flag_round : (n : ℕ) → n ≤ 1 → flag_number (eqb n 1) ≡ n
flag_round zero small = refl
flag_round (suc zero) small = refl
flag_round (suc (suc n)) small = absurd (omega arith)

reads_flag : Reads (λ b. flag_number b ∷ []) (λ _. Unit {0}) flag_at
unfolding flag_at
reads_flag = reads_map (λ n. eqb n 1) flag_number (λ b. flag_number b ∷ []) (λ _. Unit {0})
    (λ b _. flag_back b) (λ b. refl) (λ b _. flag_small b) (λ n f. flag_round n f.1) (λ n f. tt) (reads_byte 0 1 (omega arith))

abbrev head_text : Head → List ℕ
head_text h = to_be_bytes w64 h.0 ++ (to_be_bytes w64 h.1.0 ++ (to_be_bytes w16 h.1.1.0 ++ ((flag_number h.1.1.1.0 ∷ []) ++ (to_be_bytes w16 h.1.1.1.1.0 ++ to_be_bytes w16 h.1.1.1.1.1))))

-- the limits of each number
abbrev HeadLimits : Head → Type 0
HeadLimits h =
    ((0 ≤ h.0) × (h.0 ≤ 1099511627776)) × (((0 ≤ h.1.0) × (h.1.0 ≤ MAX_NUMBER)) × (((0 ≤ h.1.1.0) × (h.1.1.0 ≤ 3999)) × (Unit {0} × (((0 ≤ h.1.1.1.1.0) × (h.1.1.1.1.0 ≤ 4096)) × ((0 ≤ h.1.1.1.1.1) × (h.1.1.1.1.1 ≤ 4096))))))

abbrev HeadFits : Head → Type 0
HeadFits h = HeadLimits h × (is_head h ≡ true)

reads_head : Reads head_text HeadFits head_at
unfolding head_at
reads_head = reads_where is_head
    (reads_then (reads_within w64 (2 ^ 64) 0 1099511627776 wide64 (omega arith)) (λ _ _. reads_then (reads_within w64 (2 ^ 64) 0 MAX_NUMBER wide64 (omega arith)) (λ _ _.
    reads_then (reads_within w16 (2 ^ 16) 0 3999 wide16 (omega arith)) (λ _ _. reads_then reads_flag (λ _ _.
    reads_then (reads_within w16 (2 ^ 16) 0 4096 wide16 (omega arith)) (λ _ _. reads_within w16 (2 ^ 16) 0 4096 wide16 (omega arith)))))))

-- ---- images and ranges

abbrev ImageFits : Bool → Option (List ℕ) → Type 0
ImageFits flag image = (is_some image ≡ flag) × IsImage image

reads_image : (flag : Bool) → Reads image_text (ImageFits flag) (image_at flag)
unfolding image_at
reads_image false = record { takes = took; again = redo }
  where
    took : (bytes : List ℕ) (x : Option (List ℕ) × List ℕ) → IsBytes bytes → image_at false bytes ≡ Some x → Takes bytes (image_text x.0) x.1 × ImageFits false x.0
    took bytes x fits e = subst (λ (y : Option (List ℕ) × List ℕ). Takes bytes (image_text y.0) y.1 × ImageFits false y.0) (some_is (None, bytes) x e) (record { parts = refl; rest_fits = fits }, (refl, tt))

    redo : (image : Option (List ℕ)) (rest : List ℕ) → ImageFits false image → image_at false (image_text image ++ rest) ≡ Some (image, rest)
    redo None rest ok = refl
    redo (Some page) rest ok = absurd (let e : true ≡ false = ok.0 in cc)
reads_image true = record { takes = took; again = redo }
  where
    took : (bytes : List ℕ) (x : Option (List ℕ) × List ℕ) → IsBytes bytes → image_at true bytes ≡ Some x → Takes bytes (image_text x.0) x.1 × ImageFits true x.0
    took bytes x fits e =
        let a = bind_some (part_at 4096 bytes) (λ y. Some (Some y.0, y.1)) x e in
        let t = (reads_part 4096).takes bytes a.0 fits a.1 in
        subst (λ (y : Option (List ℕ) × List ℕ). Takes bytes (image_text y.0) y.1 × ImageFits true y.0) (some_is (Some a.0.0, a.0.1) x a.2) (t.0, (refl, t.1))

    redo : (image : Option (List ℕ)) (rest : List ℕ) → ImageFits true image → image_at true (image_text image ++ rest) ≡ Some (image, rest)
    redo None rest ok = absurd (let e : false ≡ true = ok.0 in cc)
    redo (Some page) rest ok = mapped (part_at 4096) _ Some ((reads_part 4096).again page rest ok.1)

abbrev RangeFits : ℕ → List ℕ × List ℕ → Type 0
RangeFits n p = ((length p.0 ≡ n) × (length p.1 ≡ n)) × ((eqb n 0 || is_shortest p.0 p.1) ≡ true)

reads_range : (n : ℕ) → Reads (λ (p : List ℕ × List ℕ). p.0 ++ p.1) (RangeFits n) (range_at n)
unfolding range_at
reads_range n = reads_where (λ p. eqb n 0 || is_shortest p.0 p.1) (reads_then (reads_part n) (λ _ _. reads_part n))

-- ---- page records

abbrev pub parts_text : PageParts → List ℕ
parts_text p = head_text p.0 ++ (image_text p.1.0 ++ (p.1.1.0 ++ p.1.1.1))

abbrev pub PartsFit : PageParts → Type 0
PartsFit p = HeadFits p.0 × (ImageFits p.0.1.1.1.0 p.1.0 × RangeFits p.0.1.1.1.1.1 p.1.1)

pub reads_page : Reads parts_text PartsFit page_at
unfolding page_at
reads_page = reads_then reads_head (λ h _. reads_then (reads_image h.1.1.1.0) (λ _ _. reads_range h.1.1.1.1.1))

-- what follows says the flag and the length
pub page_text_is : (p : PageParts) → PartsFit p → record_text (page_of p) ≡ 1 ∷ parts_text p
page_text_is p f =
    let text = λ (flag : Bool) (n : ℕ). 1 ∷ (head_text (p.0.0, (p.0.1.0, (p.0.1.1.0, (flag, (p.0.1.1.1.1.0, n))))) ++ (image_text p.1.0 ++ (p.1.1.0 ++ p.1.1.1))) in
    ap (λ (b : Bool). text b (length p.1.1.0)) f.1.0.0 ∙ ap (λ (n : ℕ). text p.0.1.1.1.0 n) f.1.1.0.0

-- ---- what the tests say

not_eqb : (a b : ℕ) → not (eqb a b) ≡ true → a ≢ b
not_eqb a b e same = let one : eqb a b ≡ true = rw same (eqb_self b) in absurd cc
  where
    eqb_self : (n : ℕ) → eqb n n ≡ true
    eqb_self n = grind (arith, nat_tests)

eqb_not : (a b : ℕ) → a ≢ b → not (eqb a b) ≡ true
eqb_not a b differ = grind (arith, nat_tests)

-- no successor is zero
unless_zero : (txn : ℕ) (a b : Bool) → cond (eqb (suc txn) 0) a b ≡ b
unless_zero txn a b = rw (eqb-suc-zero txn) refl

or_unless_zero : (n : ℕ) (b : Bool) → (eqb (suc n) 0 || b) ≡ b
or_unless_zero n b = rw (eqb-suc-zero n) refl

abbrev alone_test : (op : ℕ) (flag : Bool) (start n : ℕ) → Bool
alone_test op flag start n = eqb op 0 && (flag && (eqb start 0 && eqb n 0))

abbrev change_test : (op start n : ℕ) → Bool
change_test op start n = ltb 0 op && (ltb 0 n && ltb (start + n) 4097)

alone_of : (txn op page : ℕ) (flag : Bool) (start n : ℕ) → is_head (txn, (op, (page, (flag, (start, n))))) ≡ true → txn ≡ 0 → (op ≡ 0) × (flag ≡ true) × (start ≡ 0) × (n ≡ 0)
alone_of zero op page flag start n e is =
    let a = and_true (eqb op 0) (flag && (eqb start 0 && eqb n 0)) e in
    let b = and_true flag (eqb start 0 && eqb n 0) a.1 in
    let c = and_true (eqb start 0) (eqb n 0) b.1 in
    (eqb-true _ _ a.0, b.0, eqb-true _ _ c.0, eqb-true _ _ c.1)
alone_of (suc txn) op page flag start n e is = absurd (omega arith)

change_of : (txn op page : ℕ) (flag : Bool) (start n : ℕ) → is_head (txn, (op, (page, (flag, (start, n))))) ≡ true → 1 ≤ txn → (1 ≤ op) × (1 ≤ n) × (start + n ≤ 4096)
change_of zero op page flag start n e is = absurd (omega arith)
change_of (suc txn) op page flag start n e is =
    let a = and_true (ltb 0 op) (ltb 0 n && ltb (start + n) 4097) (sym (unless_zero txn (alone_test op flag start n) (change_test op start n)) ∙ e) in
    let b = and_true (ltb 0 n) (ltb (start + n) 4097) a.1 in
    (omega (arith, ltb-true _ _ a.0), omega (arith, ltb-true _ _ b.0), omega (arith, ltb-true _ _ b.1))

shortest_of : (n : ℕ) (old new : List ℕ) → (eqb n 0 || is_shortest old new) ≡ true → 1 ≤ n → (get_or old 0 0 ≢ get_or new 0 0) × (last_of old ≢ last_of new)
shortest_of zero old new e some_bytes = absurd (omega arith)
shortest_of (suc n) old new e some_bytes =
    let a = and_true (not (eqb (get_or old 0 0) (get_or new 0 0))) (not (eqb (last_of old) (last_of new))) (sym (or_unless_zero n (is_shortest old new)) ∙ e) in
    (not_eqb _ _ a.0, not_eqb _ _ a.1)

in_page_of : (txn op page : ℕ) (flag : Bool) (start n : ℕ) → is_head (txn, (op, (page, (flag, (start, n))))) ≡ true → start + n ≤ 4096
in_page_of zero op page flag start n e = let a = alone_of zero op page flag start n e refl in omega (arith, a.2, a.3)
in_page_of (suc txn) op page flag start n e = (change_of (suc txn) op page flag start n e (omega arith)).2

pub IsPageRecord-parts : (p : PageParts) → PartsFit p → IsPageRecord p.0.0 p.0.1.0 p.0.1.1.0 p.1.0 p.0.1.1.1.1.0 p.1.1.0 p.1.1.1
IsPageRecord-parts p f =
    let txn = p.0.0 in let op = p.0.1.0 in let page = p.0.1.1.0 in let flag = p.0.1.1.1.0 in let start = p.0.1.1.1.1.0 in let n = p.0.1.1.1.1.1 in
    let size : length p.1.1.0 ≡ n = f.1.1.0.0 in
    record {
      txn_below = f.0.0.0.1;
      op_below = omega (arith, f.0.0.1.0.1);
      page_below = omega (arith, f.0.0.1.1.0.1);
      whole = f.1.0.1;
      same_length = f.1.1.0.1 ∙ sym size;
      in_page = omega (arith, size, in_page_of txn op page flag start n f.0.1);
      alone = λ none. let a = alone_of txn op page flag start n f.0.1 none in
          record { no_operation = a.0; there = f.1.0.0 ∙ a.1; from_first = a.2; no_bytes = size ∙ a.3 };
      change = λ some_txn. let a = change_of txn op page flag start n f.0.1 some_txn in
          let s = shortest_of n p.1.1.0 p.1.1.1 f.1.1.1 a.1 in
          record { operation = a.0; some_bytes = omega (arith, size, a.1); first_changes = s.0; last_changes = s.1 };
    }

-- ---- what a record's parts pass

abbrev pub parts_of : (txn op page : ℕ) (image : Option (List ℕ)) (start : ℕ) (old new : List ℕ) → PageParts
parts_of txn op page image start old new = ((txn, (op, (page, (is_some image, (start, length old))))), (image, (old, new)))

head_test : (txn op page : ℕ) (image : Option (List ℕ)) (start : ℕ) (old new : List ℕ) → IsPageRecord txn op page image start old new → is_head (txn, (op, (page, (is_some image, (start, length old))))) ≡ true
head_test zero op page image start old new f =
    let a = f.alone refl in
    let no_op : eqb op 0 ≡ true = rw a.no_operation refl in
    let from_first : eqb start 0 ≡ true = rw a.from_first refl in
    let no_bytes : eqb (length old) 0 ≡ true = rw a.no_bytes refl in
    both_true (eqb op 0) (is_some image && (eqb start 0 && eqb (length old) 0)) no_op
    (both_true (is_some image) (eqb start 0 && eqb (length old) 0) a.there (both_true (eqb start 0) (eqb (length old) 0) from_first no_bytes))
head_test (suc txn) op page image start old new f =
    let a = f.change (omega arith) in
    let n = length old in
    unless_zero txn (alone_test op (is_some image) start n) (change_test op start n)
    ∙ both_true (ltb 0 op) (ltb 0 n && ltb (start + n) 4097) (lt-ltb _ _ (omega (arith, a.operation)))
    (both_true (ltb 0 n) (ltb (start + n) 4097) (lt-ltb _ _ (omega (arith, a.some_bytes))) (lt-ltb _ _ (omega (arith, f.in_page))))

range_test : (txn op page : ℕ) (image : Option (List ℕ)) (start : ℕ) (old new : List ℕ) → IsPageRecord txn op page image start old new → (eqb (length old) 0 || is_shortest old new) ≡ true
range_test zero op page image start old new f =
    let no_bytes : eqb (length old) 0 ≡ true = rw ((f.alone refl).no_bytes) refl in
    rw no_bytes refl
range_test (suc txn) op page image start old new f =
    let a = f.change (omega arith) in
    let some : eqb (length old) 0 ≡ false = grind (arith, nat_tests, a.some_bytes) in
    rw some (both_true (not (eqb (get_or old 0 0) (get_or new 0 0))) (not (eqb (last_of old) (last_of new))) (eqb_not _ _ a.first_changes) (eqb_not _ _ a.last_changes))

pub parts_fit : (txn op page : ℕ) (image : Option (List ℕ)) (start : ℕ) (old new : List ℕ) → IsPageRecord txn op page image start old new → PartsFit (parts_of txn op page image start old new)
parts_fit txn op page image start old new f = (
  (((omega arith, f.txn_below), ((omega arith, omega (arith, f.op_below)), ((omega arith, omega (arith, f.page_below)), (tt, ((omega arith, omega (arith, f.in_page)), (omega arith, omega (arith, f.in_page))))))), head_test txn op page image start old new f),
  ((refl, f.whole), ((refl, f.same_length), range_test txn op page image start old new f)),
)
