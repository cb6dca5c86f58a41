-- Marks of bucket pages.
use Rattle.std.proofs.Common.{◌≡◌, ◌≢◌, ℕ, ◌+◌, ◌<◌, ◌≤◌, List, [], ◌∷◌, ◌++◌, length, get_or, set, refl, ap, sym, ◌∙◌, subst, arith, length-append, ◌⊎◌, inl, inr, ⊎_elim}
use Rattle.std.proofs.lemmas.List.{get_or-set_same, get_or-set_other, length-set}
use Rattle.std.proofs.lemmas.Bool.{cases_eq, cases_lt}
use Rattle.mt_bucket.specs.Page.{depth_of, next_of}
use Rattle.mt_space.specs.Changes.{PageBytes}
use Rattle.mt_space.specs.Kinds.{kind}
use Rattle.mt_index.specs.Maps.{Each}
use Rattle.mt_index.specs.Index.{Node, Linked}
use Rattle.mt_index.specs.Steps.{Walk}
use Rattle.mt_index.specs.Pages.{pointer_at, node_of, IsOn}
use Rattle.mt_index.specs.Checks.{IsMember, IsMarked, AreMarked, Marks, IsStuck, CannotFollow, HasNext, IsIn}
use Rattle.mt_index.proofs.Lists.{each_map}
use Rattle.mt_index.proofs.Overflow.{each_push}
use Rattle.mt_index.proofs.Looking.{walk_more}

pub in_push : (n : ℕ) (xs : List ℕ) (x : ℕ) → IsIn n xs → IsIn n (xs ++ x ∷ [])
in_push n [] x is = elim is [ ]
in_push n (y ∷ xs) x (inl is) = inl is
in_push n (y ∷ xs) x (inr is) = inr (in_push n xs x is)

pub in_last : (xs : List ℕ) (x : ℕ) → IsIn x (xs ++ x ∷ [])
in_last [] x = inl refl
in_last (y ∷ xs) x = inr (in_last xs x)

pub in_each : (n : ℕ) (xs : List ℕ) → IsIn n xs → Each (λ x. x ≢ n) xs → ⊥
in_each n [] is e = elim is [ ]
in_each n (x ∷ xs) (inl is) e = e.0 is
in_each n (x ∷ xs) (inr is) e = in_each n xs is e.1

-- a page that a walk passed
pub walk_to : (node : ℕ → Node) (q : ℕ) (front : List ℕ) (p n : ℕ) → Walk node q front p → IsIn n front → (f : List ℕ) × Walk node q f n × (n ≢ 0)
walk_to node q [] p n w is = elim is [ ]
walk_to node q (x ∷ front) p n w (inl is) = ([], w.0 ∙ is, λ e. w.1 (is ∙ e))
walk_to node q (x ∷ front) p n w (inr is) = let r = walk_to node (node x).next front p n w.2 is in (x ∷ r.0, (w.0, w.1, r.1), r.2)

-- a walk to the end is the chain
pub walk_linked : (node : ℕ → Node) (q : ℕ) (front : List ℕ) (p : ℕ) → p ≡ 0 → Walk node q front p → Linked node q front
walk_linked node q [] p none w = w ∙ none
walk_linked node q (x ∷ front) p none w = (w.0, w.1, walk_linked node (node x).next front p none w.2)

-- the walk along the bucket b, on its way
pub record IsMarking (pages : PageBytes) (old new : List ℕ) (b at steps : ℕ) : Type 0 where
  pub front : List ℕ
  pub walk : Walk (λ n. node_of (pages n)) b front at
  pub long : length front ≡ steps
  pub size : length new ≡ length old
  pub each : Each (IsMember pages new b) front
  pub marks : (n : ℕ) → (get_or new n 0 ≡ get_or old n 0) ⊎ ((get_or old n 0 ≡ 0) × (get_or new n 0 ≡ b) × IsIn n front)
  pub bucket : at ≢ 0 → kind pages at ≡ 2

pub marking_start : (pages : PageBytes) (old : List ℕ) (b : ℕ) → kind pages b ≡ 2 → IsMarking pages old old b b 0
marking_start pages old b bucket = record { front = []; walk = refl; long = refl; size = refl; each = tt; marks = λ n. inl refl; bucket = λ real. bucket }

-- one page more
pub marking_more : (pages : PageBytes) (old new new2 : List ℕ) (b at next steps l : ℕ) → IsMarking pages old new b at steps → at ≢ 0 → at < length new → kind pages at ≡ 2 → depth_of (pages at) ≡ l → l ≡ depth_of (pages b)
    → get_or new at 0 ≡ 0 → new2 ≡ set new at b → next ≡ next_of (pages at) → HasNext pages at → IsMarking pages old new2 b next (steps + 1)
marking_more pages old new new2 b at next steps l m real inside bucket level same free is then goes_on = record {
  front = m.front ++ at ∷ [];
  walk = subst (Walk (λ n. node_of (pages n)) b (m.front ++ at ∷ [])) (sym then) (walk_more (λ n. node_of (pages n)) b m.front at m.walk real);
  long = length-append m.front (at ∷ []) ∙ ap (λ (n : ℕ). n + 1) m.long;
  size = ap length is ∙ length-set new at b ∙ m.size;
  each = each_push (IsMember pages new2 b) m.front at (each_map (IsMember pages new b) (IsMember pages new2 b) kept m.front m.each) (record { home = here; kind = bucket; level = level ∙ same });
  marks = λ n. ⊎_elim
      (λ (e : n ≡ at). inr (old_free n e, ap (λ (k : ℕ). get_or new2 k 0) e ∙ here, subst (λ (k : ℕ). IsIn k (m.front ++ at ∷ [])) (sym e) (in_last m.front at)))
      (λ (ne : n ≢ at). more n ne (m.marks n))
      (cases_eq n at);
  bucket = subst (λ (q : ℕ). q ≢ 0 → kind pages q ≡ 2) (sym then) goes_on;
}
  where
    here : get_or new2 at 0 ≡ b
    here = ap (λ (l : List ℕ). get_or l at 0) is ∙ get_or-set_same new at b 0 inside

    other : (n : ℕ) → n ≢ at → get_or new2 n 0 ≡ get_or new n 0
    other n ne = ap (λ (l : List ℕ). get_or l n 0) is ∙ get_or-set_other new at n b 0 ne

    kept : (n : ℕ) → IsMember pages new b n → IsMember pages new2 b n
    kept n member = record { home = ⊎_elim (λ (e : n ≡ at). ap (λ (k : ℕ). get_or new2 k 0) e ∙ here) (λ (ne : n ≢ at). other n ne ∙ member.home) (cases_eq n at); kind = member.kind; level = member.level }

    old_free : (n : ℕ) → n ≡ at → get_or old n 0 ≡ 0
    old_free n e = ap (λ (k : ℕ). get_or old k 0) e ∙ go (m.marks at)
      where
        go : (get_or new at 0 ≡ get_or old at 0) ⊎ ((get_or old at 0 ≡ 0) × (get_or new at 0 ≡ b) × IsIn at m.front) → get_or old at 0 ≡ 0
        go (inl same) = sym same ∙ free
        go (inr r) = r.0

    more : (n : ℕ) → n ≢ at → (get_or new n 0 ≡ get_or old n 0) ⊎ ((get_or old n 0 ≡ 0) × (get_or new n 0 ≡ b) × IsIn n m.front)
        → (get_or new2 n 0 ≡ get_or old n 0) ⊎ ((get_or old n 0 ≡ 0) × (get_or new2 n 0 ≡ b) × IsIn n (m.front ++ at ∷ []))
    more n ne (inl same) = inl (other n ne ∙ same)
    more n ne (inr r) = inr (r.0, other n ne ∙ r.1, in_push n m.front at r.2)

pub marking_marks : (pages : PageBytes) (old new : List ℕ) (b at steps : ℕ) → IsMarking pages old new b at steps → Marks pages b old new
marking_marks pages old new b at steps m n = go (m.marks n)
  where
    go : (get_or new n 0 ≡ get_or old n 0) ⊎ ((get_or old n 0 ≡ 0) × (get_or new n 0 ≡ b) × IsIn n m.front) → (get_or new n 0 ≡ get_or old n 0) ⊎ ((get_or old n 0 ≡ 0) × (get_or new n 0 ≡ b) × IsOn pages b n)
    go (inl same) = inl same
    go (inr r) = let w = walk_to (λ k. node_of (pages k)) b m.front at n m.walk r.2 in inr (r.0, r.1, record { front = w.0; walk = w.1; real = w.2 })

pub marking_done : (pages : PageBytes) (old new : List ℕ) (b at steps : ℕ) → IsMarking pages old new b at steps → at ≡ 0 → IsMarked pages new b
marking_done pages old new b at steps m none = record { chain = m.front; linked = walk_linked (λ k. node_of (pages k)) b m.front at none m.walk; each = m.each }

pub marking_stuck : (total : ℕ) (pages : PageBytes) (old new : List ℕ) (b at steps l : ℕ) → IsMarking pages old new b at steps → at ≢ 0 → l ≡ depth_of (pages b) → CannotFollow pages new at l → IsStuck total pages old b at
marking_stuck total pages old new b at steps l m real same cause = record { front = m.front; walk = m.walk; real = real; cause = go cause }
  where
    marked : get_or new at 0 ≢ 0 → (get_or new at 0 ≡ get_or old at 0) ⊎ ((get_or old at 0 ≡ 0) × (get_or new at 0 ≡ b) × IsIn at m.front)
        → (depth_of (pages at) ≢ depth_of (pages b)) ⊎ ((get_or old at 0 ≢ 0) ⊎ ((Each (λ n. n ≢ at) m.front → ⊥) ⊎ (total ≤ length m.front)))
    marked some (inl is) = inr (inl (λ e. some (is ∙ e)))
    marked some (inr r) = inr (inr (inl (in_each at m.front r.2)))

    go : CannotFollow pages new at l → (depth_of (pages at) ≢ depth_of (pages b)) ⊎ ((get_or old at 0 ≢ 0) ⊎ ((Each (λ n. n ≢ at) m.front → ⊥) ⊎ (total ≤ length m.front)))
    go (inl d) = inl (λ e. d (e ∙ sym same))
    go (inr h) = marked h (m.marks at)

pub marking_long : (total : ℕ) (pages : PageBytes) (old new : List ℕ) (b at steps : ℕ) → IsMarking pages old new b at steps → at ≢ 0 → total ≤ steps → IsStuck total pages old b at
marking_long total pages old new b at steps m real all = record { front = m.front; walk = m.walk; real = real; cause = inr (inr (inr (let long = m.long in omega (arith, all, long)))) }

-- one bucket more is marked
pub marked_more : (pages : PageBytes) (old new : List ℕ) (done : ℕ) → AreMarked pages old done → IsMarked pages new (pointer_at (pages 1) done) → Marks pages (pointer_at (pages 1) done) old new
    → ((i : ℕ) → i < done → pointer_at (pages 1) i ≢ 0) → AreMarked pages new (done + 1)
marked_more pages old new done a more marks real = record {
  each = λ i lt. ⊎_elim
      (λ (below : i < done). kept i below (a.each i below))
      (λ (last : done ≤ i). subst (λ (k : ℕ). IsMarked pages new (pointer_at (pages 1) k)) (let e : done ≡ i = omega (arith, lt, last) in e) more)
      (cases_lt i done);
  back = λ n some. go n some (marks n);
}
  where
    b : ℕ
    b = pointer_at (pages 1) done

    same : (n : ℕ) → get_or old n 0 ≢ 0 → (get_or new n 0 ≡ get_or old n 0) ⊎ ((get_or old n 0 ≡ 0) × (get_or new n 0 ≡ b) × IsOn pages b n) → get_or new n 0 ≡ get_or old n 0
    same n some (inl is) = is
    same n some (inr r) = absurd (some r.0)

    kept : (i : ℕ) → i < done → IsMarked pages old (pointer_at (pages 1) i) → IsMarked pages new (pointer_at (pages 1) i)
    kept i below m = record {
      chain = m.chain;
      linked = m.linked;
      each = each_map (IsMember pages old (pointer_at (pages 1) i)) (IsMember pages new (pointer_at (pages 1) i))
          (λ n member. record { home = same n (λ e. real i below (sym member.home ∙ e)) (marks n) ∙ member.home; kind = member.kind; level = member.level }) m.chain m.each;
    }

    go : (n : ℕ) → get_or new n 0 ≢ 0 → (get_or new n 0 ≡ get_or old n 0) ⊎ ((get_or old n 0 ≡ 0) × (get_or new n 0 ≡ b) × IsOn pages b n)
        → (i : ℕ) × (i < done + 1) × (get_or new n 0 ≡ pointer_at (pages 1) i) × IsOn pages (pointer_at (pages 1) i) n
    go n some (inl is) = let r = a.back n (λ e. some (is ∙ e)) in (r.0, (let lt = r.1 in omega (arith, lt)), is ∙ r.2, r.3)
    go n some (inr r) = (done, omega arith, r.1, r.2)

pub marked_none : (pages : PageBytes) (homes : List ℕ) → ((n : ℕ) → get_or homes n 0 ≡ 0) → AreMarked pages homes 0
marked_none pages homes none = record { each = λ i lt. absurd (omega (arith, lt)); back = λ n some. absurd (some (none n)) }
