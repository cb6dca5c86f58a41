-- A bucket of one page splits over two pages.
use Rattle.std.proofs.Common.{◌≡◌, ◌≢◌, ℕ, suc, ◌<◌, ◌≤◌, ◌==◌, Bool, true, false, not, cond, List, [], ◌∷◌, length, refl, ap, sym, ◌∙◌, subst, arith, append-nil, filter, ◌⊎◌, inl, inr}
use Rattle.std.proofs.lemmas.Bool.{cases_eq}
use Rattle.mt_bucket.specs.Hash.{hash, high}
use Rattle.mt_index.specs.Maps.{Map, Each}
use Rattle.mt_index.specs.Buckets.{IsBuckets, lookup}
use Rattle.mt_index.specs.Index.{Node, Linked, entries_of, IsTree, Takes, Divides, Points, kept_low, kept_high}
use Rattle.mt_index.proofs.Lists.{each_map}
use Rattle.mt_index.proofs.Chains.{entries_stay, linked_stay}
use Rattle.mt_index.proofs.Split.{split_kept}
use Rattle.mt_index.proofs.Overflow.{cond_at, cond_off, not_free, named_taken, each_both}

filter_step : {A : Type 0} (t : Bool) (x : A) (fs : List A) (n : ℕ) → length fs ≤ n → length (cond t (x ∷ fs) fs) ≤ suc n
filter_step true x fs n le = omega (arith, le)
filter_step false x fs n le = omega (arith, le)

filter_short : {A : Type 0} (p : A → Bool) (xs : List A) → length (filter p xs) ≤ length xs
filter_short p [] = omega arith
filter_short p (x ∷ xs) = filter_step (p x) x (filter p xs) (length xs) (filter_short p xs)

pub bucket_divided : (names names2 : ℕ → ℕ) (g : ℕ) (node node2 : ℕ → Node) (kind kind2 : ℕ → ℕ) (m : Map) (i : IsTree names g node kind m)
    (h0 b q l : ℕ) → names h0 ≡ b → i.chain b ≡ b ∷ [] → (node b).depth ≡ l → l < g → Takes q kind kind2 → Points b q l names names2 → Divides b q l kind node node2
    → IsTree names2 g node2 kind2 m
bucket_divided names names2 g node node2 kind kind2 m i h0 b q l named one level below t p w = record {
  chain = chain2;
  home = home2;
  real = λ h. pick h (λ c ns. c ≢ 0) (λ here. rw here at (i.real h)) (λ here. t.real) (λ there. i.real h);
  shallow = λ h. pick h (λ c ns. (node2 c).depth ≤ g) (λ here. rw w.low (omega (arith, below))) (λ here. rw w.up (omega (arith, below)))
      (λ there. rw (kept h there) (i.shallow h));
  linked = λ h. pick h (λ c ns. Linked node2 c ns) (λ here. (refl, real_b, ap (λ (x : Node). x.next) w.low)) (λ here. (refl, t.real, ap (λ (x : Node). x.next) w.up))
      (λ there. linked_stay node node2 (names h) (i.chain (names h)) (each_map (λ n. node2 n ≡ node n) (λ n. (node2 n).next ≡ (node n).next) (λ n e. ap (λ (x : Node). x.next) e) (i.chain (names h)) (stays h there)) (i.linked h));
  at_home = λ h. pick h (λ c ns. Each (λ n. home2 n ≡ c) ns) (λ here. (cond_off b q q (i.home b) b_off ∙ home_b, tt)) (λ here. (cond_at q q q (i.home q) refl, tt))
      (λ there. each_map (λ n. (i.home n ≡ names h) × (kind n ≡ 2)) (λ n. home2 n ≡ names h) (λ n x. cond_off n q q (i.home n) (off n x.1) ∙ x.0) (i.chain (names h))
      (each_both (λ n. i.home n ≡ names h) (λ n. kind n ≡ 2) (i.chain (names h)) (i.at_home h) (i.kinds h)));
  level = λ h. pick h (λ c ns. Each (λ n. (node2 n).depth ≡ (node2 c).depth) ns) (λ here. (refl, tt)) (λ here. (refl, tt))
      (λ there. each_map (λ n. (node2 n ≡ node n) × ((node n).depth ≡ (node (names h)).depth)) (λ n. (node2 n).depth ≡ (node2 (names h)).depth)
      (λ n x. ap (λ (y : Node). y.depth) x.0 ∙ x.1 ∙ sym (ap (λ (y : Node). y.depth) (kept h there))) (i.chain (names h))
      (each_both (λ n. node2 n ≡ node n) (λ n. (node n).depth ≡ (node (names h)).depth) (i.chain (names h)) (stays h there) (i.level h)));
  small = λ h. pick h (λ c ns. Each (λ n. length (node2 n).entries ≤ 58) ns)
      (λ here. (rw w.low (omega (arith, small_b, filter_short (λ e. not (high l (hash e.key))) (node b).entries)), tt))
      (λ here. (rw w.up (omega (arith, small_b, filter_short (λ e. high l (hash e.key)) (node b).entries)), tt))
      (λ there. each_map (λ n. (node2 n ≡ node n) × (length (node n).entries ≤ 58)) (λ n. length (node2 n).entries ≤ 58) (λ n x. rw (x.0) x.1) (i.chain (names h))
      (each_both (λ n. node2 n ≡ node n) (λ n. length (node n).entries ≤ 58) (i.chain (names h)) (stays h there) (i.small h)));
  kinds = λ h. pick h (λ c ns. Each (λ n. kind2 n ≡ 2) ns) (λ here. (t.others b b_off ∙ kind_b, tt)) (λ here. (t.taken, tt))
      (λ there. each_map (λ n. kind n ≡ 2) (λ n. kind2 n ≡ 2) (λ n is. t.others n (off n is) ∙ is) (i.chain (names h)) (i.kinds h));
  buckets = r.0;
  map = λ s k. r.1 s k ∙ i.map s k;
}
  where
    chain2 : ℕ → List ℕ
    chain2 c = cond (c == q) (q ∷ []) (i.chain c)

    home2 : ℕ → ℕ
    home2 n = cond (n == q) q (i.home n)

    off : (n : ℕ) → kind n ≡ 2 → n ≢ q
    off n is = not_free q kind kind2 t n is

    fresh : (h : ℕ) → names h ≢ q
    fresh h = off (names h) (named_taken names g node kind m i h)

    kind_b : kind b ≡ 2
    kind_b = subst (λ c. kind c ≡ 2) named (named_taken names g node kind m i h0)

    b_off : b ≢ q
    b_off = off b kind_b

    real_b : b ≢ 0
    real_b = subst (λ c. c ≢ 0) named (i.real h0)

    home_b : i.home b ≡ b
    home_b = (subst (λ ns. Each (λ n. i.home n ≡ b) ns) one (subst (λ c. Each (λ n. i.home n ≡ c) (i.chain c)) named (i.at_home h0))).0

    small_b : length (node b).entries ≤ 58
    small_b = (subst (λ ns. Each (λ n. length (node n).entries ≤ 58) ns) one (subst (λ c. Each (λ n. length (node n).entries ≤ 58) (i.chain c)) named (i.small h0))).0

    kept : (h : ℕ) → names h ≢ b → node2 (names h) ≡ node (names h)
    kept h there = w.others (names h) (named_taken names g node kind m i h) there

    stays : (h : ℕ) → names h ≢ b → Each (λ n. node2 n ≡ node n) (i.chain (names h))
    stays h there = each_map (λ n. (i.home n ≡ names h) × (kind n ≡ 2)) (λ n. node2 n ≡ node n)
        (λ n x. w.others n x.1 (λ is_b. there (sym x.0 ∙ ap i.home is_b ∙ home_b))) (i.chain (names h))
        (each_both (λ n. i.home n ≡ names h) (λ n. kind n ≡ 2) (i.chain (names h)) (i.at_home h) (i.kinds h))

    -- the three places of a hash
    pick : (h : ℕ) (P : ℕ → List ℕ → Type 0) → (names h ≡ b → P b (b ∷ [])) → (names h ≡ b → P q (q ∷ [])) → (names h ≢ b → P (names h) (i.chain (names h))) → P (names2 h) (chain2 (names2 h))
    pick h P f u k = go (cases_eq (names h) b) (high l h) refl
      where
        at : (c : ℕ) (ns : List ℕ) → names2 h ≡ c → chain2 c ≡ ns → P c ns → P (names2 h) (chain2 (names2 h))
        at c ns e d x = subst (λ y. P y (chain2 y)) (sym e) (subst (P c) (sym d) x)

        go : (names h ≡ b) ⊎ (names h ≡ b → ⊥) → (x : Bool) → high l h ≡ x → P (names2 h) (chain2 (names2 h))
        go (inl here) true is = at q (q ∷ []) (p.up h here is) (cond_at q q (q ∷ []) (i.chain q) refl) (u here)
        go (inl here) false is = at b (b ∷ []) (p.low h here is) (cond_off b q (q ∷ []) (i.chain b) b_off ∙ one) (f here)
        go (inr there) x is = at (names h) (i.chain (names h)) (p.rest h there) (cond_off (names h) q (q ∷ []) (i.chain (names h)) (fresh h)) (k there)

    old_b : entries_of node (i.chain b) ≡ (node b).entries
    old_b = ap (entries_of node) one ∙ append-nil (node b).entries

    r : IsBuckets names2 (λ c. (node2 c).depth) (λ c. entries_of node2 (chain2 c))
        × ((s : ℕ) (k : List ℕ) → lookup names2 (λ c. entries_of node2 (chain2 c)) s k ≡ lookup names (λ c. entries_of node (i.chain c)) s k)
    r = split_kept b q l names (λ c. (node c).depth) (λ c. entries_of node (i.chain c)) names2 (λ c. (node2 c).depth) (λ c. entries_of node2 (chain2 c)) i.buckets record {
      fresh = fresh;
      level = level;
      low = p.low;
      up = p.up;
      rest = p.rest;
      depth_low = ap (λ (x : Node). x.depth) w.low;
      depth_up = ap (λ (x : Node). x.depth) w.up;
      depth_rest = λ h there. ap (λ (x : Node). x.depth) (kept h there);
      stay = ap (entries_of node2) (cond_off b q (q ∷ []) (i.chain b) b_off ∙ one) ∙ append-nil (node2 b).entries ∙ ap (λ (x : Node). x.entries) w.low ∙ ap (kept_low l) (sym old_b);
      move = ap (entries_of node2) (cond_at q q (q ∷ []) (i.chain q) refl) ∙ append-nil (node2 q).entries ∙ ap (λ (x : Node). x.entries) w.up ∙ ap (kept_high l) (sym old_b);
      content_rest = λ h there. ap (entries_of node2) (cond_off (names h) q (q ∷ []) (i.chain (names h)) (fresh h)) ∙ entries_stay node node2 (i.chain (names h)) (stays h there);
    }
