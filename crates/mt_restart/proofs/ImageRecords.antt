-- Records that are images of the marked ones among a device's first pages.
use Rattle.std.proofs.Common.{◌≡◌, ℕ, ◌+◌, ◌<◌, ◌≤◌, Bool, true, false, cond, ◌||◌, ◌==◌, List, [], ◌∷◌, ◌++◌, Option, None, Some, length, get_or, refl, sym, ap, ◌∙◌, subst, arith, below_more}
use Rattle.std.proofs.Math.Bool.{or_assoc}
use Rattle.std.specs.Prelude.{◌&&◌, not}
use Rattle.std.specs.List.{AllByRecursion}
use Rattle.std.proofs.lemmas.Bool.{eq-eqb, ne_eqb}
use Rattle.std.proofs.lemmas.List.{map-append}
use Rattle.mt_frame.specs.Grammar.{IsRecord}
use Rattle.mt_area_rules.specs.History.{MayFollow, may_stand, some_record, ends_txn, ends_op, is_of_page}
use Rattle.mt_frame.specs.declared.records.Record.{Record}
use Rattle.mt_frame.specs.declared.records.Record.TheVariants.{Page, OpEnd, OpDropped, Commit, AbortEnd}
use Rattle.mt_log.proofs.Prefix.{each_both, may_both}
use Rattle.mt_pool.specs.Images.{Carried, has_image, page_in}
use Rattle.mt_pool.specs.Kept.{carried, carried_of}
use Rattle.mt_pool.specs.Turns.{IsImageOnly}
use Rattle.mt_pool.proofs.Safe.{has_later, in_more, in_later}
use Rattle.mt_restart.specs.Turned.{AreImagesOf}

or_false : (b : Bool) → (b || false) ≡ b
or_false true = refl
or_false false = refl

-- a page has an image in two lists if it has one in either
has_append : (xs ys : List Carried) (p : ℕ) → has_image (xs ++ ys) p ≡ (has_image xs p || has_image ys p)
has_append [] ys p = refl
has_append (None ∷ xs) ys p = has_append xs ys p
has_append (Some i ∷ xs) ys p =
    ap (λ (b : Bool). (i.0 == p) || b) (has_append xs ys p) ∙ sym (or_assoc (i.0 == p) (has_image xs p) (has_image ys p))

-- Each of the marked ones of the first n pages has one image, and no other page has one.
pub record AreImagesBelow (n : ℕ) (pages : List (List ℕ)) (marked : List Bool) (images : List Record) : Type 0 where
  pub only : AllByRecursion (IsImageOnly n) images
  pub grammar : AllByRecursion IsRecord images
  pub first : MayFollow true [] images
  pub some : (p : ℕ) → p < n → has_image (carried images) p ≡ get_or marked p false
  pub bytes : (p : ℕ) → p < n → get_or marked p false ≡ true → (d : List ℕ) → page_in (carried images) p d ≡ get_or pages p []

-- ---- what images of the first pages are not

image_more : (n : ℕ) (r : Record) → IsImageOnly n r → IsImageOnly (n + 1) r
image_more n (Page txn op page image start old new) only = (only.0, (let lt = only.1 in omega arith), only.2)
image_more n (OpEnd txn op undoes done) only = only
image_more n (OpDropped txn op) only = only
image_more n (Commit txn) only = only
image_more n (AbortEnd txn) only = only

images_more : (n : ℕ) (rs : List Record) → AllByRecursion (IsImageOnly n) rs → AllByRecursion (IsImageOnly (n + 1)) rs
images_more n [] only = tt
images_more n (r ∷ rs) only = (image_more n r only.0, images_more n rs only.1)

none_is : (n : ℕ) (is : Record → Bool) → ((txn op page start : ℕ) (image : Option (List ℕ)) (old new : List ℕ) → page < n → is (Page txn op page image start old new) ≡ false)
    → (rs : List Record) → AllByRecursion (IsImageOnly n) rs → some_record is rs ≡ false
none_is n is not_page [] only = refl
none_is n is not_page (Page txn op page image start old new ∷ rs) only =
    ap (λ (b : Bool). b || some_record is rs) (not_page txn op page start image old new only.0.1) ∙ none_is n is not_page rs only.1
none_is n is not_page (OpEnd txn op undoes done ∷ rs) only = absurd only.0
none_is n is not_page (OpDropped txn op ∷ rs) only = absurd only.0
none_is n is not_page (Commit txn ∷ rs) only = absurd only.0
none_is n is not_page (AbortEnd txn ∷ rs) only = absurd only.0

no_image : (n p : ℕ) → n ≤ p → (rs : List Record) → AllByRecursion (IsImageOnly n) rs → has_image (carried rs) p ≡ false
no_image n p behind [] only = refl
no_image n p behind (Page txn op page None start old new ∷ rs) only = no_image n p behind rs only.1
no_image n p behind (Page txn op page (Some image) start old new ∷ rs) only =
    ap (λ (b : Bool). b || has_image (carried rs) p) (ne_eqb page p (let lt = only.0.1 in omega arith)) ∙ no_image n p behind rs only.1
no_image n p behind (OpEnd txn op undoes done ∷ rs) only = absurd only.0
no_image n p behind (OpDropped txn op ∷ rs) only = absurd only.0
no_image n p behind (Commit txn ∷ rs) only = absurd only.0
no_image n p behind (AbortEnd txn ∷ rs) only = absurd only.0

-- ---- one image more

image_record : (n : ℕ) (bytes : List ℕ) → n < 4000 → length bytes ≡ 4096 → IsRecord (Page 0 0 n (Some bytes) 0 [] [])
image_record n bytes lt whole = record {
  txn_below = omega arith;
  op_below = omega arith;
  page_below = lt;
  whole = whole;
  same_length = refl;
  in_page = omega arith;
  alone = λ none. record { no_operation = refl; there = refl; from_first = refl; no_bytes = refl };
  change = λ some. absurd (omega arith);
}

all_hold : (a b c : Bool) → a ≡ false → b ≡ false → c ≡ false → (true && (not a && (not b && (true && not c)))) ≡ true
all_hold a b c not_a not_b not_c = rw (not_a, not_b, not_c) refl

stands : (n : ℕ) (bytes : List ℕ) (images : List Record) → AllByRecursion (IsImageOnly n) images → may_stand true images (Page 0 0 n (Some bytes) 0 [] []) ≡ true
stands n bytes images only = all_hold (some_record (ends_txn 0) images) (some_record (ends_op 0) images) (some_record (is_of_page n) images)
    (none_is n (ends_txn 0) (λ txn op page start image old new lt. refl) images only)
    (none_is n (ends_op 0) (λ txn op page start image old new lt. refl) images only)
    (none_is n (is_of_page n) (λ txn op page start image old new lt. ne_eqb page n (omega arith)) images only)

-- ---- the images, page by page

pub unmarked : (n : ℕ) (pages : List (List ℕ)) (marked : List Bool) (images : List Record) → get_or marked n false ≡ false → AreImagesBelow n pages marked images → AreImagesBelow (n + 1) pages marked images
unmarked n pages marked images not_marked are = record {
  only = images_more n images are.only;
  grammar = are.grammar;
  first = are.first;
  some = below_more (λ p. has_image (carried images) p ≡ get_or marked p false) n are.some (no_image n n (omega arith) images are.only ∙ sym not_marked);
  bytes = below_more (λ p. get_or marked p false ≡ true → (d : List ℕ) → page_in (carried images) p d ≡ get_or pages p []) n are.bytes (λ is d. absurd (cc));
}

pub marked_one : (n at : ℕ) (pages : List (List ℕ)) (marked : List Bool) (images new : List Record) (image : Record) → n < 4000 → length (get_or pages n []) ≡ 4096 → get_or marked n false ≡ true
    → at ≡ n → image ≡ Page 0 0 at (Some (get_or pages n [])) 0 [] [] → new ≡ images ++ image ∷ [] → AreImagesBelow n pages marked images → AreImagesBelow (n + 1) pages marked new
marked_one n at pages marked images new image lt whole is_marked there is pushed are =
    subst (AreImagesBelow (n + 1) pages marked) (sym (pushed ∙ ap (λ (q : Record). images ++ q ∷ []) (is ∙ ap (λ (p : ℕ). Page 0 0 p (Some bytes) 0 [] []) there))) one
  where
    bytes : List ℕ
    bytes = get_or pages n []

    r : Record
    r = Page 0 0 n (Some bytes) 0 [] []

    e : Carried
    e = Some (n, bytes)

    none : has_image (carried images) n ≡ false
    none = no_image n n (omega arith) images are.only

    split : {B : Type 0} (f : List Carried → ℕ → B) (p : ℕ) → f (carried (images ++ r ∷ [])) p ≡ f (carried images ++ e ∷ []) p
    split f p = ap (λ (es : List Carried). f es p) (map-append carried_of images (r ∷ []))

    one : AreImagesBelow (n + 1) pages marked (images ++ r ∷ [])
    one = record {
      only = each_both (IsImageOnly (n + 1)) images (r ∷ []) (images_more n images are.only) ((refl, omega arith, refl), tt);
      grammar = each_both IsRecord images (r ∷ []) are.grammar (image_record n bytes lt whole, tt);
      first = may_both true [] images (r ∷ []) are.first (stands n bytes images are.only, tt);
      some = below_more (λ p. has_image (carried (images ++ r ∷ [])) p ≡ get_or marked p false) n
          (λ p before. split has_image p ∙ has_append (carried images) (e ∷ []) p ∙ ap (λ (b : Bool). has_image (carried images) p || (b || false)) (ne_eqb n p (omega arith))
          ∙ or_false (has_image (carried images) p) ∙ are.some p before)
          (split has_image n ∙ has_later n (carried images) (e ∷ []) none ∙ ap (λ (b : Bool). b || false) (eq-eqb n n refl) ∙ sym is_marked);
      bytes = below_more (λ p. get_or marked p false ≡ true → (d : List ℕ) → page_in (carried (images ++ r ∷ [])) p d ≡ get_or pages p []) n
          (λ p before is d. split (λ es q. page_in es q d) p ∙ in_more p (carried images) (e ∷ []) d d (are.some p before ∙ is) ∙ are.bytes p before is d)
          (λ is d. split (λ es q. page_in es q d) n ∙ in_later n (carried images) (e ∷ []) d none ∙ ap (λ (b : Bool). cond b bytes d) (eq-eqb n n refl));
    }

pub images_all : (n : ℕ) (pages : List (List ℕ)) (marked : List Bool) (images : List Record) → n ≡ length pages → AreImagesBelow n pages marked images → AreImagesOf pages marked images
images_all n pages marked images all are = record {
  only = subst (λ (k : ℕ). AllByRecursion (IsImageOnly k) images) all are.only;
  grammar = are.grammar;
  first = are.first;
  some = λ p lt. are.some p (omega arith);
  bytes = λ p lt is d. are.bytes p (omega arith) is d;
}
