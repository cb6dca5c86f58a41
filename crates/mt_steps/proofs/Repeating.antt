-- History repeated: more records, changes made and put back, an operation that ends or is dropped.
use Rattle.std.proofs.Common.{◌≡◌, ◌≢◌, ◌⊎◌, inl, inr, ⊎_elim, ℕ, Bool, true, false, cond, ◌==◌, List, [], ◌∷◌, ◌++◌, refl, sym, ap, ◌∙◌, append_assoc}
use Rattle.std.proofs.lemmas.Bool.{cases_eq}
use Rattle.mt_base.specs.Edits.{splice}
use Rattle.mt_frame.specs.declared.records.Record.{Record}
use Rattle.mt_space.specs.Changes.{PageBytes}
use Rattle.mt_steps.specs.Repeated.{Change, made, unmade, redo, put_back, by, but, on, AreBy, Repeated, held, changed, finished, dropped, repeated, repeat, logged, IsRepeated}
use Rattle.mt_steps.proofs.Picking.{by_append, but_append, on_append, by_other, by_but, but_but, but_own, by_others, on_by, on_but, on_alone, on_absent}

-- ---- more records

pub repeat_more : (r : Repeated) (xs ys : List Record) → repeat r (xs ++ ys) ≡ repeat (repeat r xs) ys
repeat_more r [] ys = refl
repeat_more r (x ∷ xs) ys = repeat_more (repeated r x) xs ys

pub logged_more : (f : PageBytes) (xs ys : List Record) → logged f (xs ++ ys) ≡ repeat (logged f xs) ys
logged_more f xs ys = repeat_more (record { pages = f; unfinished = [] }) xs ys

-- ---- one page at a time

-- the bytes of a page with changes of it made, and put back
abbrev pub redone_at : List Change → List ℕ → List ℕ
redone_at [] bytes = bytes
redone_at (c ∷ cs) bytes = redone_at cs (splice c.start c.new bytes)

abbrev pub back_at : List Change → List ℕ → List ℕ
back_at [] bytes = bytes
back_at (c ∷ cs) bytes = splice c.start c.old (back_at cs bytes)

pub redo_at : (cs : List Change) (f : PageBytes) (p : ℕ) → redo cs f p ≡ redone_at (on p cs) (f p)
redo_at [] f p = refl
redo_at (c ∷ cs) f p = redo_at cs (made c f) p ∙ both (c.page == p)
  where
    both : (b : Bool) → redone_at (on p cs) (cond b (splice c.start c.new (f p)) (f p)) ≡ redone_at (cond b (c ∷ on p cs) (on p cs)) (f p)
    both true = refl
    both false = refl

pub put_back_at : (cs : List Change) (f : PageBytes) (p : ℕ) → put_back cs f p ≡ back_at (on p cs) (f p)
put_back_at [] f p = refl
put_back_at (c ∷ cs) f p = ap (λ (bytes : List ℕ). cond (c.page == p) (splice c.start c.old bytes) bytes) (put_back_at cs f p) ∙ both (c.page == p)
  where
    both : (b : Bool) → cond b (splice c.start c.old (back_at (on p cs) (f p))) (back_at (on p cs) (f p)) ≡ back_at (cond b (c ∷ on p cs) (on p cs)) (f p)
    both true = refl
    both false = refl

-- only a page's changes count there, and its bytes
pub redo_same : (cs ds : List Change) (f g : PageBytes) (p : ℕ) → on p cs ≡ on p ds → f p ≡ g p → redo cs f p ≡ redo ds g p
redo_same cs ds f g p on_same same = redo_at cs f p ∙ ap (λ (xs : List Change). redone_at xs (f p)) on_same ∙ ap (redone_at (on p ds)) same ∙ sym (redo_at ds g p)

pub put_back_same : (cs ds : List Change) (f g : PageBytes) (p : ℕ) → on p cs ≡ on p ds → f p ≡ g p → put_back cs f p ≡ put_back ds g p
put_back_same cs ds f g p on_same same = put_back_at cs f p ∙ ap (λ (xs : List Change). back_at xs (f p)) on_same ∙ ap (back_at (on p ds)) same ∙ sym (put_back_at ds g p)

-- a page without changes stays
pub redo_none : (cs : List Change) (f : PageBytes) (p : ℕ) → on p cs ≡ [] → redo cs f p ≡ f p
redo_none cs f p none = redo_same cs [] f f p none refl

pub put_back_none : (cs : List Change) (f : PageBytes) (p : ℕ) → on p cs ≡ [] → put_back cs f p ≡ f p
put_back_none cs f p none = put_back_same cs [] f f p none refl

-- ---- over two lists

pub redo_append : (cs ds : List Change) (f : PageBytes) → redo (cs ++ ds) f ≡ redo ds (redo cs f)
redo_append [] ds f = refl
redo_append (c ∷ cs) ds f = redo_append cs ds (made c f)

pub put_back_append : (cs ds : List Change) (f : PageBytes) → put_back (cs ++ ds) f ≡ put_back cs (put_back ds f)
put_back_append [] ds f = refl
put_back_append (c ∷ cs) ds f = ap (unmade c) (put_back_append cs ds f)

-- ---- an operation changes pages

pub changed_more : (r : Repeated) (cs ds : List Change) → changed (changed r cs) ds ≡ changed r (cs ++ ds)
changed_more r cs ds = λ i. record { pages = sym (redo_append cs ds r.pages) i; unfinished = append_assoc r.unfinished cs ds i }

pub held_changed : (r : Repeated) (cs : List Change) → put_back cs (redo cs r.pages) ≡ r.pages → held (changed r cs) ≡ held r
held_changed r cs back = put_back_append r.unfinished cs (redo cs r.pages) ∙ ap (put_back r.unfinished) back

changed_apart : (r : Repeated) (o : ℕ) (cs : List Change) → IsRepeated r → AreBy o cs → (p : ℕ) → (on p cs ≡ []) ⊎ (on p (but o r.unfinished) ≡ []) → (u : ℕ) → (on p (by u (r.unfinished ++ cs)) ≡ []) ⊎ (on p (but u (r.unfinished ++ cs)) ≡ [])
changed_apart r o cs k all p free u = go free (k.apart u p) (cases_eq u o)
  where
    by_parts : on p (by u r.unfinished) ≡ [] → on p (by u cs) ≡ [] → on p (by u (r.unfinished ++ cs)) ≡ []
    by_parts first second = ap (on p) (by_append u r.unfinished cs) ∙ on_append p (by u r.unfinished) (by u cs) ∙ ap (λ (xs : List Change). xs ++ on p (by u cs)) first ∙ second

    but_parts : on p (but u r.unfinished) ≡ [] → on p (but u cs) ≡ [] → on p (but u (r.unfinished ++ cs)) ≡ []
    but_parts first second = ap (on p) (but_append u r.unfinished cs) ∙ on_append p (but u r.unfinished) (but u cs) ∙ ap (λ (xs : List Change). xs ++ on p (but u cs)) first ∙ second

    go : (on p cs ≡ []) ⊎ (on p (but o r.unfinished) ≡ []) → (on p (by u r.unfinished) ≡ []) ⊎ (on p (but u r.unfinished) ≡ []) → (u ≡ o) ⊎ (u ≢ o) → (on p (by u (r.unfinished ++ cs)) ≡ []) ⊎ (on p (but u (r.unfinished ++ cs)) ≡ [])
    go (inl none) (inl e) which = inl (by_parts e (on_by p u cs ∙ ap (by u) none))
    go (inl none) (inr e) which = inr (but_parts e (on_but p u cs ∙ ap (but u) none))
    go (inr alone) e (inl same) = inr (but_parts (ap (λ (v : ℕ). on p (but v r.unfinished)) same ∙ alone) (ap (on p) (ap (λ (v : ℕ). but v cs) same ∙ but_own o cs all)))
    go (inr alone) e (inr other) = inl (by_parts (ap (on p) (sym (by_other o u r.unfinished (λ is. other (sym is)))) ∙ on_by p u (but o r.unfinished) ∙ ap (by u) alone) (ap (on p) (by_others o u cs other all)))

pub changed_repeated : (r : Repeated) (o : ℕ) (cs : List Change) → IsRepeated r → AreBy o cs → ((p : ℕ) → (on p cs ≡ []) ⊎ (on p (but o r.unfinished) ≡ [])) → put_back cs (redo cs r.pages) ≡ r.pages → IsRepeated (changed r cs)
changed_repeated r o cs k all free back = record {
  apart = λ u p. changed_apart r o cs k all p (free p) u;
  leads = λ p. ap (λ (f : PageBytes). redo (r.unfinished ++ cs) f p) (held_changed r cs back)
      ∙ ap (λ (f : PageBytes). f p) (redo_append r.unfinished cs (held r))
      ∙ redo_same cs cs (redo r.unfinished (held r)) r.pages p refl (k.leads p);
}

-- ---- an operation ends, or is dropped

-- with fewer changes the others stand alone still
fewer_apart : (o u p : ℕ) (cs : List Change) → (on p (by u cs) ≡ []) ⊎ (on p (but u cs) ≡ []) → (on p (by u (but o cs)) ≡ []) ⊎ (on p (but u (but o cs)) ≡ [])
fewer_apart o u p cs (inl none) = inl (ap (on p) (by_but o u cs) ∙ on_but p o (by u cs) ∙ ap (but o) none)
fewer_apart o u p cs (inr alone) = inr (ap (on p) (but_but o u cs) ∙ on_but p o (but u cs) ∙ ap (but o) alone)

pub held_finished : (r : Repeated) (o : ℕ) → IsRepeated r → held (finished r o) ≡ redo (by o r.unfinished) (held r)
held_finished r o k = λ i p. at p i
  where
    at : (p : ℕ) → held (finished r o) p ≡ redo (by o r.unfinished) (held r) p
    at p = ⊎_elim
        (λ (none : on p (by o r.unfinished) ≡ []). put_back_same (but o r.unfinished) r.unfinished r.pages r.pages p (on_absent p o r.unfinished none) refl ∙ sym (redo_none (by o r.unfinished) (held r) p none))
        (λ (alone : on p (but o r.unfinished) ≡ []). put_back_none (but o r.unfinished) r.pages p alone ∙ sym (k.leads p) ∙ sym (redo_same (by o r.unfinished) r.unfinished (held r) (held r) p (on_alone p o r.unfinished alone) refl))
        (k.apart o p)

pub finished_repeated : (r : Repeated) (o : ℕ) → IsRepeated r → IsRepeated (finished r o)
finished_repeated r o k = record {
  apart = λ u p. fewer_apart o u p r.unfinished (k.apart u p);
  leads = λ p.
      let is = ap (λ (f : PageBytes). f p) (held_finished r o k) in
      ⊎_elim
      (λ (none : on p (by o r.unfinished) ≡ []). redo_same (but o r.unfinished) r.unfinished (held (finished r o)) (held r) p (on_absent p o r.unfinished none) (is ∙ redo_none (by o r.unfinished) (held r) p none) ∙ k.leads p)
      (λ (alone : on p (but o r.unfinished) ≡ []). redo_none (but o r.unfinished) (held (finished r o)) p alone ∙ is ∙ redo_same (by o r.unfinished) r.unfinished (held r) (held r) p (on_alone p o r.unfinished alone) refl ∙ k.leads p)
      (k.apart o p);
}

-- a page that a dropped operation alone has changed is as it was held, and one that it has not changed stays
pub dropped_here : (r : Repeated) (o p : ℕ) → on p (but o r.unfinished) ≡ [] → (dropped r o).pages p ≡ held r p
dropped_here r o p alone = put_back_same (by o r.unfinished) r.unfinished r.pages r.pages p (on_alone p o r.unfinished alone) refl

pub dropped_elsewhere : (r : Repeated) (o p : ℕ) → on p (by o r.unfinished) ≡ [] → (dropped r o).pages p ≡ r.pages p
dropped_elsewhere r o p none = put_back_none (by o r.unfinished) r.pages p none

-- a page without unfinished changes is held as it is
pub held_alone : (r : Repeated) (p : ℕ) → on p r.unfinished ≡ [] → held r p ≡ r.pages p
held_alone r p none = put_back_none r.unfinished r.pages p none

pub held_dropped : (r : Repeated) (o : ℕ) → IsRepeated r → held (dropped r o) ≡ held r
held_dropped r o k = λ i p. at p i
  where
    at : (p : ℕ) → held (dropped r o) p ≡ held r p
    at p = ⊎_elim
        (λ (none : on p (by o r.unfinished) ≡ []). put_back_same (but o r.unfinished) r.unfinished (put_back (by o r.unfinished) r.pages) r.pages p (on_absent p o r.unfinished none) (put_back_none (by o r.unfinished) r.pages p none))
        (λ (alone : on p (but o r.unfinished) ≡ []). put_back_none (but o r.unfinished) (put_back (by o r.unfinished) r.pages) p alone ∙ dropped_here r o p alone)
        (k.apart o p)

pub dropped_repeated : (r : Repeated) (o : ℕ) → IsRepeated r → IsRepeated (dropped r o)
dropped_repeated r o k = record {
  apart = λ u p. fewer_apart o u p r.unfinished (k.apart u p);
  leads = λ p.
      let is = ap (λ (f : PageBytes). f p) (held_dropped r o k) in
      ⊎_elim
      (λ (none : on p (by o r.unfinished) ≡ []). redo_same (but o r.unfinished) r.unfinished (held (dropped r o)) (held r) p (on_absent p o r.unfinished none) is ∙ k.leads p ∙ sym (dropped_elsewhere r o p none))
      (λ (alone : on p (but o r.unfinished) ≡ []). redo_none (but o r.unfinished) (held (dropped r o)) p alone ∙ is ∙ sym (dropped_here r o p alone))
      (k.apart o p);
}
