-- The record file where the index changes.
use Rattle.std.proofs.Common.{◌≡◌, ◌≢◌, ⊎_elim, ℕ, List, length, ap, sym, ◌∙◌, subst, arith}
use Rattle.std.proofs.lemmas.Bool.{cases_eq}
use Rattle.mt_slots.specs.Page.{slot, IsShaped}
use Rattle.mt_space.specs.Changes.{PageBytes}
use Rattle.mt_space.specs.Kinds.{kind}
use Rattle.mt_file.specs.File.{record_in, IsFile, AreWithin}
use Rattle.mt_file.proofs.Filed.{record_records, record_none}
use Rattle.mt_index.specs.Answers.{Stays}

-- the map and the pages of records stay, whatever becomes of the others
pub record StaysFile (pages pages2 : PageBytes) : Type 0 where
  pub size : length (pages2 0) ≡ length (pages 0)
  pub fixed : kind pages2 0 ≡ 1
  pub kinds : (p : ℕ) → kind pages p ≡ 3 → kind pages2 p ≡ 3
  pub back : (p : ℕ) → kind pages2 p ≡ 3 → kind pages p ≡ 3
  pub bytes : (p : ℕ) → kind pages p ≡ 3 → pages2 p ≡ pages p

pub records_stay : (pages pages2 : PageBytes) → StaysFile pages pages2 → (p s : ℕ) → record_in pages2 p s ≡ record_in pages p s
records_stay pages pages2 st p s = ⊎_elim
    (λ (is : kind pages p ≡ 3). record_records pages2 p s (st.kinds p is) ∙ ap (λ (c : List ℕ). slot c s) (st.bytes p is) ∙ sym (record_records pages p s is))
    (λ (ne : kind pages p ≢ 3). record_none pages2 p s (λ e. ne (st.back p e)) ∙ sym (record_none pages p s ne))
    (cases_eq (kind pages p) 3)

pub file_stays : (pages pages2 : PageBytes) → StaysFile pages pages2 → IsFile pages → IsFile pages2
file_stays pages pages2 st f = record {
  whole = st.size ∙ f.whole;
  fixed = st.fixed;
  each = λ p is. subst IsShaped (sym (st.bytes p (st.back p is))) (f.each p (st.back p is));
}

pub within_stays : (relations longest : ℕ) (pages pages2 : PageBytes) → StaysFile pages pages2 → AreWithin relations longest pages → AreWithin relations longest pages2
within_stays relations longest pages pages2 st w p s row e = w p s row (sym (records_stay pages pages2 st p s) ∙ e)

-- an add to the index does so
pub add_stays : (total : ℕ) (pages pages2 : PageBytes) → kind pages 0 ≡ 1 → kind pages 1 ≡ 1 → Stays total pages pages2 → StaysFile pages pages2
add_stays total pages pages2 space directory st = record {
  size = st.size;
  fixed = st.kinds 0 (λ z. let w : kind pages 0 ≡ 0 = z in omega (arith, space, w)) ∙ space;
  kinds = λ p is. st.kinds p (λ z. let w : kind pages p ≡ 0 = z in omega (arith, is, w)) ∙ is;
  back = back;
  bytes = λ p is.
      let kept : kind pages2 p ≡ 3 = st.kinds p (λ z. let w : kind pages p ≡ 0 = z in omega (arith, is, w)) ∙ is in
      st.bytes p (not_at p 0 is space) (not_at p 1 is directory) (λ two. let w : kind pages2 p ≡ 2 = two in omega (arith, kept, w));
}
  where
    not_at : (p q : ℕ) → kind pages p ≡ 3 → kind pages q ≡ 1 → p ≢ q
    not_at p q three one e = let same : kind pages p ≡ kind pages q = ap (λ (n : ℕ). kind pages n) e in omega (arith, three, one, same)

    back : (p : ℕ) → kind pages2 p ≡ 3 → kind pages p ≡ 3
    back p is = ⊎_elim
        (λ (free : kind pages p ≡ 0). absurd (let t = (st.taken p free (λ z. let w : kind pages2 p ≡ 0 = z in omega (arith, is, w))).0 in omega (arith, is, t)))
        (λ (some : kind pages p ≢ 0). sym (st.kinds p some) ∙ is)
        (cases_eq (kind pages p) 0)
