-- A transaction's last effect among the entries, and what is behind it.
use Rattle.std.proofs.Common.{◌≡◌, ℕ, Bool, true, false, ◌==◌, List, [], ◌∷◌, ◌++◌, Option, Some, None, is_some, refl, ap, ◌∙◌, subst}
use Rattle.std.proofs.lemmas.Bool.{and_parts}
use Rattle.std.proofs.lemmas.Bool.Decides.{Decides-eqb}
use Rattle.mt_model.specs.declared.operations.Op.{Op}
use Rattle.mt_model.specs.Model.{inverse_of}
use Rattle.mt_live.specs.declared.transactions.Role.{Role}
use Rattle.mt_live.specs.declared.transactions.Role.TheVariants.{Stands, TakenBack, Back}
use Rattle.mt_live.specs.Entries.{Entry, with_role, is_standing, kept}
use Rattle.mt_live.specs.Sound.{Each}
use Rattle.mt_live.specs.Undoing.{others, is_counted, is_effect, last_of, last_effect, cut_back, mark_last}

-- an entry of the transaction has nothing to be undone
abbrev pub IsIdle : ℕ → Entry → Type 0
IsIdle t e = e.txn ≡ t → e.role ≡ Stands → inverse_of e.op e.reply ≡ None

-- of these entries, this is the last of the transaction that has an inverse, and this the inverse
pub record IsLastDone (t : ℕ) (es front : List Entry) (last : Entry) (rest : List Entry) (i : Op) : Type 0 where
  pub place : es ≡ front ++ last ∷ rest
  pub its : last.txn ≡ t
  pub role : last.role ≡ Stands
  pub inverse : inverse_of last.op last.reply ≡ Some i
  pub idle : Each (IsIdle t) rest

-- the entries around it, what stands without it, and the entries with it taken back
pub record Cut (t : ℕ) (es : List Entry) (last : Entry) (i : Op) : Type 0 where
  pub front : List Entry
  pub rest : List Entry
  pub done : IsLastDone t es front last rest i
  pub then : cut_back t es ≡ front ++ kept (others t) rest
  pub marked : mark_last t es ≡ front ++ with_role TakenBack last ∷ rest

none_of : {A : Type 0} (x : Option A) → is_some x ≡ false → x ≡ None
none_of None h = refl
none_of (Some a) h = absurd cc

idle_here : (t : ℕ) (e : Entry) → is_effect t e ≡ false → IsIdle t e
idle_here t e h same stands =
    let own : (e.txn == t) ≡ true = (Decides-eqb e.txn t).1 same in
    let role : is_standing e.role ≡ true = ap is_standing stands in
    none_of (inverse_of e.op e.reply) (rw (own, role) at h)

pub stands_from : (r : Role) → is_standing r ≡ true → r ≡ Stands
stands_from Stands h = refl
stands_from TakenBack h = absurd cc
stands_from Back h = absurd cc

pub idle_all : (t : ℕ) (es : List Entry) → last_effect t es ≡ None → Each (IsIdle t) es
idle_all t [] h = tt
idle_all t (e ∷ es) h = go (last_effect t es) refl (is_effect t e) refl h (λ is. idle_all t es is)
  where
    go : (x : Option Entry) → last_effect t es ≡ x → (b : Bool) → is_effect t e ≡ b → last_of x b e ≡ None → (last_effect t es ≡ None → Each (IsIdle t) es) → Each (IsIdle t) (e ∷ es)
    go (Some later) is b test k rec = absurd cc
    go None is true test k rec = absurd cc
    go None is false test k rec = (idle_here t e test, rec is)

cut_here : (t : ℕ) (e : Entry) (es : List Entry) (last : Entry) (i : Op) → last_effect t es ≡ None → is_effect t e ≡ true → Some e ≡ Some last
    → inverse_of last.op last.reply ≡ Some i → Cut t (e ∷ es) last i
cut_here t e es last i none test is inverse =
    let same : e ≡ last = cc in
    let counted = and_parts (e.txn == t) (is_standing e.role) (and_parts (is_counted t e) (is_some (inverse_of e.op e.reply)) test).0 in
    let own : e.txn ≡ t = (Decides-eqb e.txn t).0 counted.0 in
    record {
      front = [];
      rest = es;
      done = record {
        place = ap (λ x. x ∷ es) same;
        its = subst (λ (x : Entry). x.txn ≡ t) same own;
        role = subst (λ (x : Entry). x.role ≡ Stands) same (stands_from e.role counted.1);
        inverse = inverse;
        idle = idle_all t es none;
      };
      then = rw (none, test) refl;
      marked = rw (none, test) (ap (λ x. with_role TakenBack x ∷ es) same);
    }

cut_later : (t : ℕ) (e : Entry) (es : List Entry) (last : Entry) (i : Op) → last_effect t es ≡ Some last → Cut t es last i → Cut t (e ∷ es) last i
cut_later t e es last i some c = record {
  front = e ∷ c.front;
  rest = c.rest;
  done = record { place = ap (λ x. e ∷ x) c.done.place; its = c.done.its; role = c.done.role; inverse = c.done.inverse; idle = c.done.idle };
  then = rw some (ap (λ x. e ∷ x) c.then);
  marked = rw some (ap (λ x. e ∷ x) c.marked);
}

pub cut_of : (t : ℕ) (es : List Entry) (last : Entry) (i : Op) → last_effect t es ≡ Some last → inverse_of last.op last.reply ≡ Some i → Cut t es last i
cut_of t [] last i h inverse = absurd cc
cut_of t (e ∷ es) last i h inverse = go (last_effect t es) refl (is_effect t e) refl h (λ is. cut_of t es last i is inverse)
  where
    go : (x : Option Entry) → last_effect t es ≡ x → (b : Bool) → is_effect t e ≡ b → last_of x b e ≡ Some last → (last_effect t es ≡ Some last → Cut t es last i) → Cut t (e ∷ es) last i
    go (Some later) is b test k rec = let same : last_effect t es ≡ Some last = is ∙ k in cut_later t e es last i same (rec same)
    go None is true test k rec = cut_here t e es last i is test k inverse
    go None is false test k rec = absurd cc
