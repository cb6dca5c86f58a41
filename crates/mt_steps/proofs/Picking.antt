-- The changes of an operation, of the others and of a page, among those of a list.
use Rattle.std.proofs.Common.{◌≡◌, ◌≢◌, inl, inr, ℕ, Bool, true, not, ◌==◌, List, [], ◌∷◌, ◌++◌, filter, refl, sym, ap, ◌∙◌}
use Rattle.std.proofs.lemmas.Bool.{cases_Bool, eqb-true, eq-eqb, ne_eqb}
use Rattle.std.proofs.lemmas.List.Elements.{filter-append}
use Rattle.mt_steps.specs.Repeated.{Change, by, but, on, AreBy}

-- ---- what a test picks

module _ {A : Type 0} (p : A → Bool) where
  filter_swap : (q : A → Bool) (xs : List A) → filter p (filter q xs) ≡ filter q (filter p xs)
  filter_swap q [] = refl
  filter_swap q (x ∷ xs) = elim (cases_Bool (p x)) [
    | inl a ↦ elim (cases_Bool (q x)) [ inl b ↦ rw (b, a, b) (ap (λ ys. x ∷ ys) (filter_swap q xs)) | inr b ↦ rw (b, a, b) (filter_swap q xs) ]
    | inr a ↦ elim (cases_Bool (q x)) [ inl b ↦ rw (b, a) (filter_swap q xs) | inr b ↦ rw (b, a) (filter_swap q xs) ]
  ]

  -- a second test that passes all that pass the first changes nothing
  filter_within : (q : A → Bool) → ((x : A) → p x ≡ true → q x ≡ true) → (xs : List A) → filter p (filter q xs) ≡ filter p xs
  filter_within q so [] = refl
  filter_within q so (x ∷ xs) = elim (cases_Bool (p x)) [
    | inl a ↦ rw (so x a, a) (ap (λ ys. x ∷ ys) (filter_within q so xs))
    | inr a ↦ elim (cases_Bool (q x)) [ inl b ↦ rw (b, a) (filter_within q so xs) | inr b ↦ rw (b, a) (filter_within q so xs) ]
  ]

  -- nothing passes a test and its opposite
  filter_gone : (xs : List A) → filter p (filter (λ x. not (p x)) xs) ≡ []
  filter_gone [] = refl
  filter_gone (x ∷ xs) = elim (cases_Bool (p x)) [ inl a ↦ rw a (filter_gone xs) | inr a ↦ rw (a, a) (filter_gone xs) ]

  -- where nothing passes a test, all passes its opposite
  filter_none : (xs : List A) → filter p xs ≡ [] → filter (λ x. not (p x)) xs ≡ xs
  filter_none [] none = refl
  filter_none (x ∷ xs) none = elim (cases_Bool (p x)) [
    | inl a ↦ absurd (let e = rw a at none in cc)
    | inr a ↦ rw a (ap (λ ys. x ∷ ys) (filter_none xs (rw a at none)))
  ]

  filter_all : (xs : List A) → filter (λ x. not (p x)) xs ≡ [] → filter p xs ≡ xs
  filter_all [] none = refl
  filter_all (x ∷ xs) none = elim (cases_Bool (p x)) [
    | inl a ↦ rw a (ap (λ ys. x ∷ ys) (filter_all xs (rw a at none)))
    | inr a ↦ absurd (let e = rw a at none in cc)
  ]

-- ---- over two lists

pub by_append : (o : ℕ) (cs ds : List Change) → by o (cs ++ ds) ≡ by o cs ++ by o ds
by_append o cs ds = filter-append (λ (c : Change). c.op == o) cs ds

pub but_append : (o : ℕ) (cs ds : List Change) → but o (cs ++ ds) ≡ but o cs ++ but o ds
but_append o cs ds = filter-append (λ (c : Change). not (c.op == o)) cs ds

pub on_append : (p : ℕ) (cs ds : List Change) → on p (cs ++ ds) ≡ on p cs ++ on p ds
on_append p cs ds = filter-append (λ (c : Change). c.page == p) cs ds

-- ---- one operation's and the others'

pub by_other : (o u : ℕ) (cs : List Change) → o ≢ u → by u (but o cs) ≡ by u cs
by_other o u cs ne = filter_within (λ (c : Change). c.op == u) (λ (c : Change). not (c.op == o)) (λ c is. ap not (ne_eqb c.op o (λ e. ne (sym e ∙ eqb-true c.op u is)))) cs

pub by_gone : (o : ℕ) (cs : List Change) → by o (but o cs) ≡ []
by_gone o cs = filter_gone (λ (c : Change). c.op == o) cs

pub by_but : (o u : ℕ) (cs : List Change) → by u (but o cs) ≡ but o (by u cs)
by_but o u cs = filter_swap (λ (c : Change). c.op == u) (λ (c : Change). not (c.op == o)) cs

pub but_but : (o u : ℕ) (cs : List Change) → but u (but o cs) ≡ but o (but u cs)
but_but o u cs = filter_swap (λ (c : Change). not (c.op == u)) (λ (c : Change). not (c.op == o)) cs

-- where all are of one operation
pub by_both : (o : ℕ) (cs ds : List Change) → AreBy o cs → AreBy o ds → AreBy o (cs ++ ds)
by_both o [] ds first second = second
by_both o (c ∷ cs) ds first second = (first.0, by_both o cs ds first.1 second)

pub by_own : (o : ℕ) (cs : List Change) → AreBy o cs → by o cs ≡ cs
by_own o [] all = refl
by_own o (c ∷ cs) all = rw (eq-eqb c.op o all.0) (ap (λ ds. c ∷ ds) (by_own o cs all.1))

pub but_own : (o : ℕ) (cs : List Change) → AreBy o cs → but o cs ≡ []
but_own o [] all = refl
but_own o (c ∷ cs) all = rw (eq-eqb c.op o all.0) (but_own o cs all.1)

pub by_others : (o u : ℕ) (cs : List Change) → u ≢ o → AreBy o cs → by u cs ≡ []
by_others o u [] ne all = refl
by_others o u (c ∷ cs) ne all = rw (ne_eqb c.op u (λ e. ne (sym e ∙ all.0))) (by_others o u cs ne all.1)

pub but_others : (o u : ℕ) (cs : List Change) → u ≢ o → AreBy o cs → but u cs ≡ cs
but_others o u cs ne all = filter_none (λ (c : Change). c.op == u) cs (by_others o u cs ne all)

-- ---- one page's

pub on_by : (p o : ℕ) (cs : List Change) → on p (by o cs) ≡ by o (on p cs)
on_by p o cs = filter_swap (λ (c : Change). c.page == p) (λ (c : Change). c.op == o) cs

pub on_but : (p o : ℕ) (cs : List Change) → on p (but o cs) ≡ but o (on p cs)
on_but p o cs = filter_swap (λ (c : Change). c.page == p) (λ (c : Change). not (c.op == o)) cs

-- where an operation's changes of a page stand alone there, and where it has none
pub on_alone : (p o : ℕ) (cs : List Change) → on p (but o cs) ≡ [] → on p (by o cs) ≡ on p cs
on_alone p o cs none = on_by p o cs ∙ filter_all (λ (c : Change). c.op == o) (on p cs) (sym (on_but p o cs) ∙ none)

pub on_absent : (p o : ℕ) (cs : List Change) → on p (by o cs) ≡ [] → on p (but o cs) ≡ on p cs
on_absent p o cs none = on_but p o cs ∙ filter_none (λ (c : Change). c.op == o) (on p cs) (sym (on_by p o cs) ∙ none)
