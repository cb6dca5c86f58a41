-- What a store's parts keep is a fact that has one proof.
use Rattle.std.specs.Prelude.{◌++◌, ◌⊎◌, ℤ, ℕ, ◌≡◌, List, [], ◌∷◌, Bool, Option, None, Some}
use Rattle.std.specs.Coded.{×_prop}
use Rattle.std.proofs.Common.{sym, ◌∙◌, ap, arith, inl, inr}
use Rattle.std.proofs.lemmas.Int.{ints}
use Rattle.std.proofs.Math.Dec.{T_prop}
use Rattle.mt_base.specs.Limits.{IsStep}
use Rattle.std.proofs.Props.{props}
use mathlib.Core.HLevel.{Σ_prop_path}
use Rattle.mt_frame.specs.declared.records.Record.{Record}
use Rattle.mt_frame.specs.declared.records.Record.TheVariants.{Page, OpEnd, OpDropped, Commit, AbortEnd}
use Rattle.mt_frame.specs.declared.records.LoggedOp.{LoggedOp}
use Rattle.mt_frame.specs.declared.records.LoggedOp.TheVariants.{Insert, Update, Delete, Add}
use Rattle.mt_frame.specs.Grammar.{IsRecord, IsPageRecord, IsImageAlone, IsChange, IsImage, IsOperation}
use Rattle.mt_area_rules.specs.History.{MayFollow, BatchesMayFollow, IsHistory}
use Rattle.mt_log.specs.Holds.{HasItsPage, AreRecords}
use Rattle.mt_log.specs.Sound.{IsSound}
use Rattle.mt_log.specs.declared.log.Log.{Log}
use Rattle.mt_pool.specs.Views.{IsPool, Names, Shows}
use Rattle.mt_pool.specs.declared.pool.Pool.{Pool}

-- what is in an option, with a fact of it
Held-prop : (o : Option ℕ) (P : ℕ → Type 0) → ((p : ℕ) → IsProp (P p)) → IsProp ((p : ℕ) × (o ≡ Some p) × P p)
Held-prop o P one x y =
    let same : ◌≡◌ {A = (p : ℕ) × ((o ≡ Some p) × P p)} (x.0, (x.1, x.2)) (y.0, (y.1, y.2)) = Σ_prop_path
    (λ p. ×_prop (some_prop p) (one p)) (some_inj (sym x.1 ∙ y.1)) in
    ap (λ (t : (p : ℕ) × ((o ≡ Some p) × P p)). (t.0, t.1.0, t.1.1)) same
  where
    some_prop : (p : ℕ) → IsProp (o ≡ Some p)
    some_prop p = hlevel props

    some_inj : {a b : ℕ} → Some a ≡ Some b → a ≡ b
    some_inj {a} e = ap (λ (s : Option ℕ). elim s [ None ↦ a | Some z ↦ z ]) e

pub Names-prop : (a b : List (Option ℕ)) → IsProp (Names a b)
Names-prop a b = hlevel props

pub Pool-prop : (pool : Pool) → IsProp (IsPool pool)
Pool-prop pool = hlevel (props, Names-prop, Held-prop)

pub Shows-prop : (pool : Pool) (seen : List ℕ) → IsProp (Shows pool seen)
Shows-prop pool seen = hlevel props

Image-prop : (o : Option (List ℕ)) → IsProp (IsImage o)
Image-prop None = hlevel props
Image-prop (Some i) = hlevel props

Alone-prop : (op : ℕ) (image : Option (List ℕ)) (start : ℕ) (old : List ℕ) → IsProp (IsImageAlone op image start old)
Alone-prop op image start old = hlevel props

Change-prop : (op : ℕ) (old new : List ℕ) → IsProp (IsChange op old new)
Change-prop op old new = hlevel props

sum_prop : {A B : Type 0} → IsProp A → IsProp B → (A → B → ⊥) → IsProp (A ⊎ B)
sum_prop pa pb apart (inl a) (inl b) = ap inl (pa a b)
sum_prop pa pb apart (inl a) (inr b) = absurd (apart a b)
sum_prop pa pb apart (inr a) (inl b) = absurd (apart b a)
sum_prop pa pb apart (inr a) (inr b) = ap inr (pb a b)

IsStep-prop : (z : ℤ) → IsProp (IsStep z)
IsStep-prop z = sum_prop (hlevel T_prop) (hlevel T_prop) (λ up down. omega (arith, ints, up.0, down.1))

pub Operation-prop : (o : LoggedOp) → IsProp (IsOperation o)
Operation-prop (Insert r k v) = hlevel props
Operation-prop (Update r k v o) = hlevel props
Operation-prop (Delete r k o) = hlevel props
Operation-prop (Add c s) = hlevel (props, IsStep-prop)

PageRecord-prop : (txn op page : ℕ) (image : Option (List ℕ)) (start : ℕ) (old new : List ℕ)
    → IsProp (IsPageRecord txn op page image start old new)
PageRecord-prop txn op page image start old new = hlevel (props, Image-prop, Alone-prop, Change-prop)

Record-prop : (r : Record) → IsProp (IsRecord r)
Record-prop (Page txn op page image start old new) = PageRecord-prop txn op page image start old new
Record-prop (OpEnd txn op undoes done) = hlevel (props, Operation-prop)
Record-prop (OpDropped txn op) = hlevel props
Record-prop (Commit txn) = hlevel props
Record-prop (AbortEnd txn) = hlevel props

ItsPage-prop : (pages : ℕ) (r : Record) → IsProp (HasItsPage pages r)
ItsPage-prop pages (Page txn op page image start old new) = hlevel props
ItsPage-prop pages (OpEnd txn op undoes done) = hlevel props
ItsPage-prop pages (OpDropped txn op) = hlevel props
ItsPage-prop pages (Commit txn) = hlevel props
ItsPage-prop pages (AbortEnd txn) = hlevel props

Records-prop : (pages : ℕ) (rs : List Record) → IsProp (AreRecords pages rs)
Records-prop pages rs = hlevel (props, Record-prop, ItsPage-prop)

MayFollow-prop : (first : Bool) (earlier rs : List Record) → IsProp (MayFollow first earlier rs)
MayFollow-prop first earlier [] = hlevel props
MayFollow-prop first earlier (r ∷ rs) = hlevel (props, MayFollow-prop first (earlier ++ r ∷ []) rs)

Batches-prop : (earlier : List Record) (bs : List (List Record)) → IsProp (BatchesMayFollow earlier bs)
Batches-prop earlier [] = hlevel props
Batches-prop earlier (b ∷ bs) = hlevel (props, MayFollow-prop, Batches-prop (earlier ++ b) bs)

History-prop : (bs : List (List Record)) → IsProp (IsHistory bs)
History-prop [] = hlevel props
History-prop (b ∷ bs) = hlevel (props, MayFollow-prop, Batches-prop)

pub Sound-prop : (pages : ℕ) (log : Log) → IsProp (IsSound pages log)
Sound-prop pages log = hlevel (props, Records-prop, History-prop)
