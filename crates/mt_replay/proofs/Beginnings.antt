-- What holds of every beginning of some records, of more records.
use Rattle.std.proofs.Common.{◌≡◌, ◌⊎◌, inl, inr, ⊎_elim, List, [], ◌∷◌, ◌++◌, refl, sym, ap, ◌∙◌, subst, append-nil}
use Rattle.mt_frame.specs.declared.records.Record.{Record}
use Rattle.mt_replay.specs.Recoverable.{EachBeginning}

-- a beginning of two lists is one of the first, or the first with one of the second
pub record Within (xs ys front back : List Record) : Type 0 where
  pub rest : List Record
  pub is : xs ≡ front ++ rest

pub record Beyond (xs ys front back : List Record) : Type 0 where
  pub more : List Record
  pub front_is : front ≡ xs ++ more
  pub back_is : ys ≡ more ++ back

head_is : (x y : Record) (xs ys : List Record) → x ∷ xs ≡ y ∷ ys → x ≡ y
head_is x y xs ys is = cc

tail_is : (x y : Record) (xs ys : List Record) → x ∷ xs ≡ y ∷ ys → xs ≡ ys
tail_is x y xs ys is = cc

pub cut : (xs ys front back : List Record) → xs ++ ys ≡ front ++ back → Within xs ys front back ⊎ Beyond xs ys front back
cut [] ys front back is = inr (record { more = front; front_is = refl; back_is = is })
cut (x ∷ xs) ys [] back is = inl (record { rest = x ∷ xs; is = refl })
cut (x ∷ xs) ys (f ∷ fs) back is =
    let same = head_is x f (xs ++ ys) (fs ++ back) is in
    ⊎_elim
    (λ (w : Within xs ys fs back). inl (record { rest = w.rest; is = ap (λ (zs : List Record). x ∷ zs) w.is ∙ ap (λ (y : Record). y ∷ (fs ++ w.rest)) same }))
    (λ (w : Beyond xs ys fs back). inr (record { more = w.more; front_is = ap (λ (y : Record). y ∷ fs) (sym same) ∙ ap (λ (zs : List Record). x ∷ zs) w.front_is; back_is = w.back_is }))
    (cut xs ys fs back (tail_is x f (xs ++ ys) (fs ++ back) is))

pub begin_more : (P : List Record → Type 0) (xs ys : List Record) → EachBeginning P xs → ((front back : List Record) → ys ≡ front ++ back → P (xs ++ front)) → EachBeginning P (xs ++ ys)
begin_more P xs ys each more front back is = ⊎_elim
    (λ (w : Within xs ys front back). each front w.rest w.is)
    (λ (w : Beyond xs ys front back). subst P (sym w.front_is) (more w.more back w.back_is))
    (cut xs ys front back is)

-- the whole of it
pub begin_all : (P : List Record → Type 0) (xs : List Record) → EachBeginning P xs → P xs
begin_all P xs each = each xs [] (sym (append-nil xs))

-- one record more
pub begin_one : (P : List Record → Type 0) (xs : List Record) (r : Record) → EachBeginning P xs → P (xs ++ r ∷ []) → EachBeginning P (xs ++ r ∷ [])
begin_one P xs r each whole = begin_more P xs (r ∷ []) each go
  where
    go : (front back : List Record) → r ∷ [] ≡ front ++ back → P (xs ++ front)
    go [] back is = subst P (sym (append-nil xs)) (begin_all P xs each)
    go (f ∷ fs) back is =
        let same = head_is r f [] (fs ++ back) is in
        let none = tail_is r f [] (fs ++ back) is in
        subst (λ (ys : List Record). P (xs ++ ys)) (ap (λ (y : Record). y ∷ []) same ∙ ap (λ (ys : List Record). f ∷ ys) (sym (first_none fs back (sym none)))) whole
      where
        first_none : (ys zs : List Record) → ys ++ zs ≡ [] → ys ≡ []
        first_none [] zs e = refl
        first_none (y ∷ ys) zs e = absurd cc
