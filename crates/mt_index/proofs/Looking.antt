-- A find along the chain answers the map.
use Rattle.std.proofs.Common.{◌≡◌, ◌≢◌, ℕ, Bool, true, false, cond, List, [], ◌∷◌, ◌++◌, Option, Some, None, refl, ap, sym, ◌∙◌, append-nil}
use Rattle.mt_base.specs.declared.numbers.RecordName.{RecordName}
use Rattle.mt_bucket.specs.Entries.{Entry, look, is_at}
use Rattle.mt_bucket.specs.Hash.{hash}
use Rattle.mt_index.specs.Maps.{Map, Each}
use Rattle.mt_index.specs.Index.{Node, State, named, IsIndex, entries_of}
use Rattle.mt_index.specs.Steps.{Walk}
use Rattle.mt_index.proofs.Lists.{at_parts}
use Rattle.mt_index.proofs.Keeping.{walk_splits, walk_whole}

past_step : (t : Bool) (n : RecordName) (o p q : Option RecordName) → cond t (Some n) o ≡ None → (o ≡ None → p ≡ q) → cond t (Some n) p ≡ q
past_step true n o p q h f = absurd cc
past_step false n o p q h f = f h

pub look_past : (r : ℕ) (k : List ℕ) (xs ys : List Entry) → look r k xs ≡ None → look r k (xs ++ ys) ≡ look r k ys
look_past r k [] ys h = refl
look_past r k (x ∷ xs) ys h = past_step (is_at r k x) x.name (look r k xs) (look r k (xs ++ ys)) (look r k ys) h (look_past r k xs ys)

in_step : (t : Bool) (m n : RecordName) (o p : Option RecordName) → cond t (Some m) o ≡ Some n → (o ≡ Some n → p ≡ Some n) → cond t (Some m) p ≡ Some n
in_step true m n o p h f = h
in_step false m n o p h f = f h

pub look_in : (r : ℕ) (k : List ℕ) (xs ys : List Entry) (n : RecordName) → look r k xs ≡ Some n → look r k (xs ++ ys) ≡ Some n
look_in r k [] ys n h = absurd cc
look_in r k (x ∷ xs) ys n h = in_step (is_at r k x) x.name n (look r k xs) (look r k (xs ++ ys)) h (look_in r k xs ys n)

pub pages_past : (node : ℕ → Node) (r : ℕ) (k : List ℕ) (front rest : List ℕ) → Each (λ x. look r k (node x).entries ≡ None) front
    → look r k (entries_of node (front ++ rest)) ≡ look r k (entries_of node rest)
pages_past node r k [] rest h = refl
pages_past node r k (x ∷ front) rest h = look_past r k (node x).entries (entries_of node (front ++ rest)) h.0 ∙ pages_past node r k front rest h.1

pub find_found : (s : State) (m : Map) → IsIndex s m → (r : ℕ) (k : List ℕ) (front : List ℕ) (p : ℕ) (n : RecordName) → Walk s.node (named s (hash k)) front p → p ≢ 0
    → Each (λ x. look r k (s.node x).entries ≡ None) front → look r k (s.node p).entries ≡ Some n → m r k ≡ Some n
find_found s m i r k front p n w real none here =
    let c : (back : List ℕ) × (i.tree.chain (named s (hash k)) ≡ front ++ p ∷ back) = walk_splits s.node (named s (hash k)) front p (i.tree.chain (named s (hash k))) w real (i.tree.linked (hash k)) in
    sym (i.tree.map r k) ∙ ap (λ ns. look r k (entries_of s.node ns)) c.1 ∙ pages_past s.node r k front (p ∷ c.0) none ∙ look_in r k (s.node p).entries (entries_of s.node c.0) n here

pub find_none : (s : State) (m : Map) → IsIndex s m → (r : ℕ) (k : List ℕ) (front : List ℕ) → Walk s.node (named s (hash k)) front 0
    → Each (λ x. look r k (s.node x).entries ≡ None) front → m r k ≡ None
find_none s m i r k front w none =
    sym (i.tree.map r k) ∙ ap (λ ns. look r k (entries_of s.node ns)) (walk_whole s.node (named s (hash k)) front (i.tree.chain (named s (hash k))) w (i.tree.linked (hash k)) ∙ sym (append-nil front))
    ∙ pages_past s.node r k front [] none

-- one page more is passed
pub walk_more : (node : ℕ → Node) (q : ℕ) (front : List ℕ) (p : ℕ) → Walk node q front p → p ≢ 0 → Walk node q (front ++ p ∷ []) (node p).next
walk_more node q [] p w real = (w, real, refl)
walk_more node q (n ∷ front) p w real = (w.0, w.1, walk_more node (node n).next front p w.2 real)

-- ---- an entry that stands anywhere is the map's

own_step : (names : ℕ → ℕ) (r : ℕ) (k : List ℕ) (e : Entry) (b : ℕ) (n : RecordName) (o : Option RecordName) → names (hash e.key) ≡ b → (t : Bool) → is_at r k e ≡ t
    → cond t (Some e.name) o ≡ Some n → (o ≡ Some n → names (hash k) ≡ b) → names (hash k) ≡ b
own_step names r k e b n o home true is h rec = ap (λ x. names (hash x)) (sym (at_parts r k e is).1) ∙ home
own_step names r k e b n o home false is h rec = rec h

pub look_own : (names : ℕ → ℕ) (r : ℕ) (k : List ℕ) (es : List Entry) (b : ℕ) (n : RecordName) → Each (λ e. names (hash e.key) ≡ b) es → look r k es ≡ Some n → names (hash k) ≡ b
look_own names r k [] b n o h = absurd cc
look_own names r k (e ∷ es) b n o h = own_step names r k e b n (look r k es) o.0 (is_at r k e) refl h (look_own names r k es b n o.1)

pub anywhere : (s : State) (m : Map) (i : IsIndex s m) (r : ℕ) (k : List ℕ) (n : RecordName) (h : ℕ) → look r k (entries_of s.node (i.tree.chain (named s h))) ≡ Some n → m r k ≡ Some n
anywhere s m i r k n h here =
    sym (i.tree.map r k) ∙ ap (λ b. look r k (entries_of s.node (i.tree.chain b))) (look_own (named s) r k (entries_of s.node (i.tree.chain (named s h))) (named s h) n (i.tree.buckets.own h) here) ∙ here
