-- The last lock that is a given one goes from the list.
use Rattle.std.proofs.Common.{◌≡◌, ℕ, zero, suc, ◌+◌, ◌-◌, ◌==◌, Bool, true, false, cond, not, List, [], ◌∷◌, ◌++◌, Contains, length, take, drop, remove, refl, ap, sym, subst, ◌∙◌, arith, append-nil, append_assoc}
use Rattle.std.proofs.lemmas.Bool.Decides.{Decides-eqb}
use Rattle.std.proofs.lemmas.List.Elements.{filter-append, filter_passes, All-contains, Contains-append_right, Contains-push}
use Rattle.mt_base.proofs.Removing.{ends, in_filter, none_behind, parted, removed_last}
use Rattle.mt_plock.specs.declared.guards.PageLock.{PageLock}
use Rattle.mt_plock.specs.Releasing.{locks_of, locks_without, IsLastAt, GivesBack, GivesBackEach}

own_test : (op : ℕ) → (op == op) ≡ true
own_test op = (Decides-eqb op op).1 refl

-- the operation's own locks, and the others', of a list with one of its locks in the middle
own_locks : (xs ys : List PageLock) (p : PageLock) → locks_of p.op (xs ++ p ∷ ys) ≡ locks_of p.op xs ++ p ∷ locks_of p.op ys
own_locks xs ys p =
    filter-append (λ (l : PageLock). l.op == p.op) xs (p ∷ ys)
    ∙ ap (λ b. locks_of p.op xs ++ cond b (p ∷ locks_of p.op ys) (locks_of p.op ys)) (own_test p.op)

other_locks : (xs ys : List PageLock) (p : PageLock) → locks_without p.op (xs ++ p ∷ ys) ≡ locks_without p.op (xs ++ ys)
other_locks xs ys p =
    filter-append (λ (l : PageLock). not (l.op == p.op)) xs (p ∷ ys)
    ∙ (ap (λ b. locks_without p.op xs ++ cond (not b) (p ∷ locks_without p.op ys) (locks_without p.op ys)) (own_test p.op)
    ∙ sym (filter-append (λ (l : PageLock). not (l.op == p.op)) xs ys))

pub gives_back : (old : List PageLock) (p : PageLock) (i : ℕ) → IsLastAt old p i → GivesBack p old (remove old i)
gives_back old p i at = record {
  last = removed_last old p i at.there at.is at.last;
  absent = λ apart. absurd (apart (i, at.there, at.is));
  own = λ front is.
      filter-append (λ (l : PageLock). l.op == p.op) (take i old) (drop (suc i) old)
      ∙ ends (locks_of p.op (take i old)) (locks_of p.op (drop (suc i) old)) front p
      (sym (own_locks (take i old) (drop (suc i) old) p) ∙ (ap (locks_of p.op) (sym whole) ∙ is))
      (λ inside. none_behind old p i at.there at.is at.last (in_filter (λ (l : PageLock). l.op == p.op) (drop (suc i) old) p inside));
  others = sym (ap (locks_without p.op) whole ∙ other_locks (take i old) (drop (suc i) old) p);
}
  where
    whole : old ≡ take i old ++ p ∷ drop (suc i) old
    whole = parted old i p at.there at.is

pub gives_none : (old : List PageLock) (p : PageLock) → (Contains old p → ⊥) → GivesBack p old old
gives_none old p apart = record {
  last = λ front back is clear. absurd (apart (subst (λ xs. Contains xs p) (sym is) (Contains-append_right front (p ∷ back) p (zero, omega arith, refl))));
  absent = λ none_there. refl;
  own = λ front is. absurd (apart (in_filter (λ (l : PageLock). l.op == p.op) old p
      (subst (λ xs. Contains xs p) (sym is) (Contains-append_right front (p ∷ []) p (zero, omega arith, refl)))));
  others = refl;
}

-- ---- some of them

-- what is given back so far, the last first
pub record IsGivingBack (left all old new : List PageLock) : Type 0 where
  pub gone : List PageLock
  pub parts : left ++ gone ≡ all
  pub given : GivesBackEach gone old new

pub given_none : (all old : List PageLock) → IsGivingBack all all old old
given_none all old = record { gone = []; parts = append-nil all; given = refl }

pub given_more : (left rest all old between new : List PageLock) (p : PageLock) → left ≡ rest ++ p ∷ [] → IsGivingBack left all old between → GivesBack p between new
    → IsGivingBack rest all old new
given_more left rest all old between new p is so_far goes = record {
  gone = p ∷ so_far.gone;
  parts = sym (append_assoc rest (p ∷ []) so_far.gone) ∙ (ap (λ xs. xs ++ so_far.gone) (sym is) ∙ so_far.parts);
  given = (between, so_far.given, goes);
}

pub given_all : (left all old new : List PageLock) → left ≡ [] → IsGivingBack left all old new → GivesBackEach all old new
given_all left all old new is so_far =
    subst (λ xs. GivesBackEach xs old new) (sym (ap (λ xs. xs ++ so_far.gone) is) ∙ so_far.parts) so_far.given

-- ---- all of one operation

record IsLeft (op : ℕ) (front old new : List PageLock) : Type 0 where
  pub own : locks_of op new ≡ front
  pub others : locks_without op new ≡ locks_without op old

left_over : (op : ℕ) (front gone old new : List PageLock) → locks_of op old ≡ front ++ gone → GivesBackEach gone old new → IsLeft op front old new
left_over op front [] old new is given = record {
  own = ap (locks_of op) given ∙ (is ∙ append-nil front);
  others = ap (locks_without op) given;
}
left_over op front (p ∷ gone) old new is (between, given, goes) =
    step (left_over op (front ++ p ∷ []) gone old between (is ∙ sym (append_assoc front (p ∷ []) gone)) given)
  where
    step : IsLeft op (front ++ p ∷ []) old between → IsLeft op front old new
    step so_far = record {
      own = subst (λ n. (rest : List PageLock) → locks_of n between ≡ rest ++ p ∷ [] → locks_of n new ≡ rest) mine goes.own front so_far.own;
      others = subst (λ n. locks_without n new ≡ locks_without n between) mine goes.others ∙ so_far.others;
    }
      where
        inside : Contains (locks_of op between) p
        inside = subst (λ xs. Contains xs p) (sym so_far.own) (Contains-push front p)

        mine : p.op ≡ op
        mine = (Decides-eqb p.op op).0
            (All-contains (λ (l : PageLock). (l.op == op) ≡ true) (locks_of op between) p (filter_passes (λ (l : PageLock). l.op == op) between) inside)

none_step : (b : Bool) (x : PageLock) (xs own others : List PageLock) → (own ≡ [] → xs ≡ others) → cond b (x ∷ own) own ≡ []
    → x ∷ xs ≡ cond (not b) (x ∷ others) others
none_step true x xs own others rest empty = absurd cc
none_step false x xs own others rest empty = ap (λ ys. x ∷ ys) (rest empty)

none_of : (op : ℕ) (xs : List PageLock) → locks_of op xs ≡ [] → xs ≡ locks_without op xs
none_of op [] is = refl
none_of op (x ∷ xs) is = none_step (x.op == op) x xs (locks_of op xs) (locks_without op xs) (none_of op xs) is

pub all_given : (op : ℕ) (all old new : List PageLock) → GivesBackEach all old new → locks_of op old ≡ all → new ≡ locks_without op old
all_given op all old new given is =
    let left = left_over op [] all old new is given in
    none_of op new left.own ∙ left.others

pub nothing : (xs : List PageLock) → length xs ≡ 0 → xs ≡ []
nothing [] short = refl
nothing (x ∷ xs) short = absurd (omega arith)
