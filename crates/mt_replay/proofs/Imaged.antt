-- The first images of a list of records, laid over pages and marked from the last record on.
use Rattle.std.proofs.Common.{◌≡◌, ◌+◌, ◌<◌, ℕ, Bool, true, false, cond, ◌==◌, ◌||◌, List, [], ◌∷◌, ◌++◌, length, get_or, drop, None, Some, refl, sym, ap, ◌∙◌, arith}
use Rattle.std.specs.Prelude.{replicate}
use Rattle.std.proofs.Math.Bool.{or_assoc}
use Rattle.std.proofs.lemmas.List.{map-append, drop_more, get_or-replicate, length-replicate}
use Rattle.mt_frame.specs.declared.records.Record.{Record}
use Rattle.mt_replay.specs.Passes.{AreFirstImages, HasMarks, Lays}
use Rattle.mt_replay.specs.declared.images.Images.{Images}
use Rattle.mt_pool.specs.Images.{Carried, has_image, page_in}
use Rattle.mt_pool.specs.Kept.{carried, carried_of}

pub in_append : (xs ys : List Carried) (q : ℕ) (d : List ℕ) → page_in (xs ++ ys) q d ≡ page_in xs q (page_in ys q d)
in_append [] ys q d = refl
in_append (None ∷ xs) ys q d = in_append xs ys q d
in_append (Some i ∷ xs) ys q d = ap (cond (i.0 == q) i.1) (in_append xs ys q d)

pub carried_append : (xs ys : List Record) (q : ℕ) (d : List ℕ) → page_in (carried (xs ++ ys)) q d ≡ page_in (carried xs) q (page_in (carried ys) q d)
carried_append xs ys q d = ap (λ (es : List Carried). page_in es q d) (map-append carried_of xs ys) ∙ in_append (carried xs) (carried ys) q d

has_append : (xs ys : List Carried) (p : ℕ) → has_image (xs ++ ys) p ≡ (has_image xs p || has_image ys p)
has_append [] ys p = refl
has_append (None ∷ xs) ys p = has_append xs ys p
has_append (Some i ∷ xs) ys p = ap (λ (b : Bool). (i.0 == p) || b) (has_append xs ys p) ∙ sym (or_assoc (i.0 == p) (has_image xs p) (has_image ys p))

-- the first image of a page decides, whatever its slot has
pub image_in : (es : List Carried) (p : ℕ) (d e : List ℕ) → has_image es p ≡ true → page_in es p d ≡ page_in es p e
image_in [] p d e has = absurd cc
image_in (None ∷ es) p d e has = image_in es p d e has
image_in (Some i ∷ es) p d e has = go (i.0 == p) (image_in es p d e) has
  where
    go : (b : Bool) → (has_image es p ≡ true → page_in es p d ≡ page_in es p e) → (b || has_image es p) ≡ true → cond b i.1 (page_in es p d) ≡ cond b i.1 (page_in es p e)
    go true rest some = refl
    go false rest some = rest some

-- a page without an image is as it was
pub none_in : (es : List Carried) (p : ℕ) (d : List ℕ) → has_image es p ≡ false → page_in es p d ≡ d
none_in [] p d none = refl
none_in (None ∷ es) p d none = none_in es p d none
none_in (Some i ∷ es) p d none = go (i.0 == p) (none_in es p d) none
  where
    go : (b : Bool) → (has_image es p ≡ false → page_in es p d ≡ d) → (b || has_image es p) ≡ false → cond b i.1 (page_in es p d) ≡ d
    go true rest not = absurd cc
    go false rest not = rest not

-- ---- images laid one behind another

pub lays_none : (x : Images) → HasMarks x → Lays [] x x
lays_none x marks = record { whole = marks.whole; count = refl; size = refl; laid = λ p lt. refl; imaged = λ p lt. refl }

-- the pages still have their marks
pub lays_marks : (records : List Record) (old new : Images) → HasMarks old → Lays records old new → HasMarks new
lays_marks records old new marks lays = record { whole = lays.whole; size = lays.size ∙ marks.size ∙ sym lays.count }

-- those of later records first
pub lays_then : (front behind all : List Record) (old mid new : Images) → all ≡ front ++ behind → Lays behind old mid → Lays front mid new → Lays all old new
lays_then front behind all old mid new is first second = record {
  whole = second.whole;
  count = second.count ∙ first.count;
  size = second.size ∙ first.size;
  laid = λ p lt.
      second.laid p (let n = first.count in omega arith)
      ∙ ap (page_in (carried front) p) (first.laid p lt)
      ∙ sym (carried_append front behind p (get_or old.pages.items p []))
      ∙ sym (ap (λ (rs : List Record). page_in (carried rs) p (get_or old.pages.items p [])) is);
  imaged = λ p lt. let was = get_or old.imaged.items p false in
      second.imaged p (let n = first.size in omega arith)
      ∙ ap (λ (b : Bool). has_image (carried front) p || b) (first.imaged p lt)
      ∙ sym (or_assoc (has_image (carried front) p) (has_image (carried behind) p) was)
      ∙ ap (λ (b : Bool). b || was) (sym (has_append (carried front) (carried behind) p))
      ∙ ap (λ (es : List Carried). has_image es p || was) (sym (map-append carried_of front behind))
      ∙ ap (λ (rs : List Record). has_image (carried rs) p || was) (sym is);
}

-- all of them, over zeros
pub first_images : (count : ℕ) (records : List Record) (zeros x : Images) → Lays records zeros x → length zeros.pages.items ≡ count → zeros.imaged.items ≡ replicate count false → AreFirstImages count records x
first_images count records zeros x lays size none =
    let many : length zeros.imaged.items ≡ count = ap (λ (l : List Bool). length l) none ∙ length-replicate count false in
    record {
      whole = lays.whole;
      count = lays.count ∙ size;
      imaged = record {
        size = lays.size ∙ many;
        each = λ p lt. lays.imaged p (omega (arith, many, lt)) ∙ ap (λ (b : Bool). has_image (carried records) p || b) (ap (λ (l : List Bool). get_or l p false) none ∙ get_or-replicate count p false false lt) ∙ or_false (has_image (carried records) p);
      };
      laid = λ p lt has bytes. lays.laid p (omega (arith, size, lt)) ∙ image_in (carried records) p (get_or zeros.pages.items p []) bytes has;
    }
  where
    or_false : (b : Bool) → (b || false) ≡ b
    or_false true = refl
    or_false false = refl

pub record_at : (rs : List Record) (i : ℕ) (r : Record) → i < length rs → r ≡ get_or rs i r → drop i rs ≡ (r ∷ []) ++ drop (i + 1) rs
record_at rs i r lt is = drop_more rs i r lt ∙ ap (λ (x : Record). x ∷ drop (i + 1) rs) (sym is)
