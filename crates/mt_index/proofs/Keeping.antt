-- The plans keep the index, and change one key.
use Rattle.std.proofs.Common.{◌≡◌, ◌≢◌, ℕ, ◌≤◌, ◌^◌, ◌%◌, Bool, true, false, List, [], ◌∷◌, ◌++◌, length, get_or, Some, None, refl, ap, sym, ◌∙◌, subst, arith, length-append, inl, inr}
use Rattle.mt_base.specs.declared.numbers.RecordName.{RecordName}
use Rattle.mt_bucket.specs.Entries.{Entry, last_first}
use Rattle.mt_bucket.specs.Hash.{hash}
use Rattle.mt_index.specs.Maps.{Map, Each, alter}
use Rattle.mt_index.specs.Index.{Node, State, named, Linked, IsTree, IsIndex}
use Rattle.mt_index.specs.Steps.{Walk, OnChain, Halves, double, Puts, Adds, Drops, Sets}
use Rattle.mt_index.proofs.Lists.{each_remove, last_first_length}
use Rattle.mt_index.proofs.Chains.{linked_same, linked_at}
use Rattle.mt_index.proofs.Steps.{entry_added, entry_dropped, entry_renamed}
use Rattle.mt_index.proofs.Overflow.{entry_chained}
use Rattle.mt_index.proofs.Divide.{bucket_divided}
use Rattle.mt_index.proofs.Doubling.{directory_doubled, repointed}

-- a page that a walk meets stands in the chain
pub walk_splits : (node : ℕ → Node) (q : ℕ) (front : List ℕ) (p : ℕ) (ns : List ℕ) → Walk node q front p → p ≢ 0 → Linked node q ns → (back : List ℕ) × (ns ≡ front ++ p ∷ back)
walk_splits node q [] p [] w real a = absurd (real (sym w ∙ a))
walk_splits node q [] p (n ∷ ns) w real a = (ns, ap (λ x. x ∷ ns) (sym a.0 ∙ w))
walk_splits node q (m ∷ front) p [] w real a = absurd (w.1 (sym w.0 ∙ a))
walk_splits node q (m ∷ front) p (n ∷ ns) w real a =
    let e : n ≡ m = sym a.0 ∙ w.0 in
    let r : (back : List ℕ) × (ns ≡ front ++ p ∷ back) = walk_splits node (node m).next front p ns w.2 real (subst (λ x. Linked node (node x).next ns) e a.2) in
    (r.0, ap (λ x. x ∷ ns) e ∙ ap (λ x. m ∷ x) r.1)

-- a walk to the end has passed the whole chain
pub walk_whole : (node : ℕ → Node) (q : ℕ) (front ns : List ℕ) → Walk node q front 0 → Linked node q ns → ns ≡ front
walk_whole node q front ns w a = linked_same node q ns front a (linked_of node q front w)
  where
    linked_of : (node : ℕ → Node) (q : ℕ) (front : List ℕ) → Walk node q front 0 → Linked node q front
    linked_of node q [] w = w
    linked_of node q (n ∷ front) w = (w.0, w.1, linked_of node (node n).next front w.2)

pub on_parts : (s : State) (m : Map) (i : IsIndex s m) (key : List ℕ) (p : ℕ) (on : OnChain s key p) → (back : List ℕ) × (i.tree.chain (named s (hash key)) ≡ on.front ++ p ∷ back)
on_parts s m i key p on = walk_splits s.node (named s (hash key)) on.front p (i.tree.chain (named s (hash key))) on.walk on.real (i.tree.linked (hash key))

same_directory : (s t : State) (m : Map) → t.g ≡ s.g → t.pointers ≡ s.pointers → length s.pointers ≡ 2 ^ s.g → IsTree (named s) s.g t.node t.kind m → IsIndex t m
same_directory s t m g ps size tree = record {
  size = ap length ps ∙ size ∙ sym (ap (λ (x : ℕ). 2 ^ x) g);
  tree = subst (λ (x : (ℕ → ℕ) × ℕ). IsTree x.0 x.1 t.node t.kind m) (λ j. (λ h. get_or (sym ps j) (h % 2 ^ (sym g j)) 0, sym g j)) tree;
}

small_at : (s : State) (m : Map) (i : IsIndex s m) (key : List ℕ) (p : ℕ) → OnChain s key p → length (s.node p).entries ≤ 58
small_at s m i key p on =
    let c = on_parts s m i key p on in
    (each_remove (λ n. length (s.node n).entries ≤ 58) on.front p c.0 (subst (Each (λ n. length (s.node n).entries ≤ 58)) c.1 (i.tree.small (hash key)))).0

pub put_kept : (s t : State) (m : Map) (e : Entry) → IsIndex s m → m e.relation e.key ≡ None → Puts e s t → IsIndex t (alter m e.relation e.key (Some e.name))
put_kept s t m e i absent (inl r) =
    let w = r.1 in
    let c = on_parts s m i e.key r.0 w.on in
    same_directory s t _ w.change.g w.change.pointers i.size
    (subst (λ k. IsTree (named s) s.g t.node k (alter m e.relation e.key (Some e.name))) (sym w.change.kind)
    (entry_added (named s) s.g s.node s.kind m t.node i.tree e r.0 w.on.front c.0 c.1 absent w.room w.change.page))
put_kept s t m e i absent (inr r) =
    let w = r.2 in
    let c = on_parts s m i e.key r.0 w.on in
    same_directory s t _ w.g w.pointers i.size
    (entry_chained (named s) s.g s.node s.kind t.kind m t.node i.tree e r.0 r.1 w.on.front (c.1 ∙ ap (λ x. w.on.front ++ r.0 ∷ x) (nothing_behind s.node r.0 c.0 w.last
    (linked_at s.node (named s (hash e.key)) w.on.front r.0 c.0 (subst (λ ns. Linked s.node (named s (hash e.key)) ns) c.1 (i.tree.linked (hash e.key)))))) absent w.takes w.change)
  where
    nothing_behind : (node : ℕ → Node) (z : ℕ) (back : List ℕ) → (node z).next ≡ 0 → Linked node z (z ∷ back) → back ≡ []
    nothing_behind node z [] last a = refl
    nothing_behind node z (n ∷ back) last a = absurd (a.2.1 (sym a.2.0 ∙ last))

pub half_kept : (s t : State) (m : Map) (key : List ℕ) (q l : ℕ) → IsIndex s m → Halves key q l s t → IsIndex t m
half_kept s t m key q l i w = record {
  size = w.pointers.size ∙ i.size ∙ sym (ap (λ (x : ℕ). 2 ^ x) w.g);
  tree = subst (λ (x : (ℕ → ℕ) × ℕ). IsTree x.0 x.1 t.node t.kind m) (λ j. (λ h. get_or t.pointers (h % 2 ^ (sym w.g j)) 0, sym w.g j)) tree;
}
  where
    b : ℕ
    b = named s (hash key)

    one : i.tree.chain b ≡ b ∷ []
    one = linked_same s.node b (i.tree.chain b) (b ∷ []) (i.tree.linked (hash key)) (refl, i.tree.real (hash key), w.alone)

    tree : IsTree (λ h. get_or t.pointers (h % 2 ^ s.g) 0) s.g t.node t.kind m
    tree = bucket_divided (named s) (λ h. get_or t.pointers (h % 2 ^ s.g) 0) s.g s.node t.node s.kind t.kind m i.tree (hash key) b q l refl one w.level w.below w.takes
        (repointed s.g b q l s.pointers t.pointers w.below w.pointers) w.change

pub add_kept : (split : Bool) (s t : State) (m : Map) (e : Entry) → IsIndex s m → m e.relation e.key ≡ None → Adds split e s t → IsIndex t (alter m e.relation e.key (Some e.name))
add_kept false s t m e i absent w = put_kept s t m e i absent w
add_kept true s t m e i absent (inl w) = put_kept s t m e i absent w
add_kept true s t m e i absent (inr (u, q, l, inl h, w)) = put_kept u t m e (half_kept s u m e.key q l i h) absent w
add_kept true s t m e i absent (inr (u, q, l, inr h, w)) = put_kept u t m e (half_kept (double s) u m e.key q l (directory_doubled s m i) h) absent w

less_one : (x : List Entry) (e : Entry) (y : List Entry) → length (x ++ e ∷ y) ≤ 58 → length (x ++ last_first y) ≤ 58
less_one x e y le = omega (arith, length-append x (last_first y), last_first_length y, length-append x (e ∷ y))

same_many : (x : List Entry) (e f : Entry) (y : List Entry) → length (x ++ e ∷ y) ≤ 58 → length (x ++ f ∷ y) ≤ 58
same_many x e f y le = omega (arith, length-append x (f ∷ y), length-append x (e ∷ y))

pub drop_kept : (s t : State) (m : Map) (e : Entry) (p : ℕ) (x y : List Entry) → IsIndex s m → Drops e p x y s t → IsIndex t (alter m e.relation e.key None)
drop_kept s t m e p x y i w =
    let c = on_parts s m i e.key p w.on in
    same_directory s t _ w.change.g w.change.pointers i.size
    (subst (λ k. IsTree (named s) s.g t.node k (alter m e.relation e.key None)) (sym w.change.kind)
    (entry_dropped (named s) s.g s.node s.kind m t.node i.tree e p w.on.front c.0 x y c.1 w.there
    (less_one x e y (subst (λ es. length es ≤ 58) w.there (small_at s m i e.key p w.on))) w.change.page))

pub set_kept : (s t : State) (m : Map) (e : Entry) (n : RecordName) (p : ℕ) (x y : List Entry) → IsIndex s m → Sets e n p x y s t → IsIndex t (alter m e.relation e.key (Some n))
set_kept s t m e n p x y i w =
    let c = on_parts s m i e.key p w.on in
    same_directory s t _ w.change.g w.change.pointers i.size
    (subst (λ k. IsTree (named s) s.g t.node k (alter m e.relation e.key (Some n))) (sym w.change.kind)
    (entry_renamed (named s) s.g s.node s.kind m t.node i.tree e n p w.on.front c.0 x y c.1 w.there
    (same_many x e (record e { name = n }) y (subst (λ es. length es ≤ 58) w.there (small_at s m i e.key p w.on))) w.change.page))
