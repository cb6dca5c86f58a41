-- Each bucket page stands in a chain, whatever is changed by the rule.
use Rattle.std.proofs.Common.{◌≡◌, ◌≢◌, ℕ, ◌+◌, ◌*◌, ◌<◌, ◌^◌, ◌%◌, ◌==◌, Bool, true, false, List, [], ◌∷◌, ◌++◌, get_or, refl, ap, sym, ◌∙◌, subst, arith, inl, inr, ⊎_elim, ◌⊎◌}
use Rattle.std.proofs.lemmas.Bool.{cases_eq}
use Rattle.std.proofs.lemmas.Nat.{pow_pos, mod_low, mod_below, div-mul-add}
use Rattle.mt_bucket.specs.Entries.{Entry}
use Rattle.mt_bucket.specs.Hash.{hash, high}
use Rattle.mt_space.specs.Changes.{PageBytes}
use Rattle.mt_space.specs.Kinds.{kind}
use Rattle.mt_index.specs.Maps.{Map, Each, Agree}
use Rattle.mt_index.specs.Index.{Node, State, named, IsIndex, Points}
use Rattle.mt_index.specs.Steps.{Walk, OnePage, Behind, Halves, double}
use Rattle.mt_index.specs.Pages.{depth_in, pointer_at, pointers_from, node_of, state_of, AreMap, AreChained, IsEmpty, LeavesIndex}
use Rattle.mt_index.proofs.Bits.{agree_from_mod, doubled}
use Rattle.mt_index.proofs.Doubling.{directory_doubled, repointed}
use Rattle.mt_index.proofs.Keeping.{walk_splits}
use Rattle.mt_index.proofs.Lists.{each_map}
use Rattle.mt_index.proofs.Listing.{each_front}
use Rattle.mt_index.proofs.Looking.{walk_more}
use Rattle.mt_index.proofs.Pointers.{named_is}

-- a page stands in the chain from another one on
pub record On (node : ℕ → Node) (b p : ℕ) : Type 0 where
  pub front : List ℕ
  pub walk : Walk node b front p
  pub real : p ≢ 0

-- each bucket page stands in the chain of some hash
abbrev pub AllOn : State → Type 0
AllOn s = (p : ℕ) → s.kind p ≡ 2 → (h : ℕ) × On s.node (named s h) p

-- ---- walks

-- pages with the same one behind each are passed as before
walk_same : (old new : ℕ → Node) (q : ℕ) (front : List ℕ) (p : ℕ) → Each (λ n. (new n).next ≡ (old n).next) front → Walk old q front p → Walk new q front p
walk_same old new q [] p same w = w
walk_same old new q (n ∷ front) p same w = (w.0, w.1, walk_same old new (new n).next front p same.1 (subst (λ (x : ℕ). Walk old x front p) (sym same.0) w.2))

-- a page that is passed has one behind it
pub not_last : (node : ℕ → Node) (q : ℕ) (front : List ℕ) (p : ℕ) → Walk node q front p → p ≢ 0 → Each (λ n. (node n).next ≢ 0) front
not_last node q [] p w real = tt
not_last node q (n ∷ []) p w real = (λ z. real (sym w.2 ∙ z), tt)
not_last node q (n ∷ (k ∷ front)) p w real = (λ z. w.2.1 (sym w.2.0 ∙ z), not_last node (node n).next (k ∷ front) p w.2 real)

-- so are those where the last page of one chain changes alone
walk_on : (old new : ℕ → Node) (kinds : ℕ → ℕ) (z q : ℕ) (front : List ℕ) (p : ℕ) → (old z).next ≡ 0 → ((n : ℕ) → kinds n ≡ 2 → n ≢ z → new n ≡ old n) → Each (λ n. kinds n ≡ 2) front → Walk old q front p → p ≢ 0 → Walk new q front p
walk_on old new kinds z q front p last others two w real = walk_same old new q front p (same front two (not_last old q front p w real)) w
  where
    same : (front : List ℕ) → Each (λ n. kinds n ≡ 2) front → Each (λ n. (old n).next ≢ 0) front → Each (λ n. (new n).next ≡ (old n).next) front
    same [] two more = tt
    same (n ∷ front) two more = (ap (λ (x : Node). x.next) (others n two.0 (λ e. more.0 (ap (λ (x : ℕ). (old x).next) e ∙ last))), same front two.1 more.1)

-- the pages passed are of buckets
front_kinds : (s : State) (m : Map) → IsIndex s m → (h p : ℕ) (on : On s.node (named s h) p) → Each (λ n. s.kind n ≡ 2) on.front
front_kinds s m i h p on =
    let c = walk_splits s.node (named s h) on.front p (i.tree.chain (named s h)) on.walk on.real (i.tree.linked h) in
    each_front (λ n. s.kind n ≡ 2) on.front (p ∷ c.0) (subst (Each (λ n. s.kind n ≡ 2)) c.1 (i.tree.kinds h))

names_same : (s t : State) → t.g ≡ s.g → t.pointers ≡ s.pointers → (h : ℕ) → named t h ≡ named s h
names_same s t g ps h = ap (λ (x : List ℕ). get_or x (h % 2 ^ t.g) 0) ps ∙ ap (λ (x : ℕ). get_or s.pointers (h % 2 ^ x) 0) g

-- ---- the ways

-- entries of one page alone
pub page_chained : (p : ℕ) (es : List Entry) (s t : State) → OnePage p es s t → AllOn s → AllOn t
page_chained p es s t w all n two =
    let c = all n (sym (ap (λ (k : ℕ → ℕ). k n) w.kind) ∙ two) in (
      c.0,
      record {
        front = c.1.front;
        walk = subst (λ (q : ℕ). Walk t.node q c.1.front n) (sym (names_same s t w.g w.pointers c.0)) (walk_same s.node t.node (named s c.0) c.1.front n (every c.1.front) c.1.walk);
        real = c.1.real;
      },
    )
  where
    next : (n : ℕ) → (t.node n).next ≡ (s.node n).next
    next n = ⊎_elim
        (λ (is : n ≡ p). ap (λ (x : ℕ). (t.node x).next) is ∙ ap (λ (x : Node). x.next) w.page.page ∙ sym (ap (λ (x : ℕ). (s.node x).next) is))
        (λ (ne : n ≢ p). ap (λ (x : Node). x.next) (w.page.others n ne))
        (cases_eq n p)

    every : (front : List ℕ) → Each (λ n. (t.node n).next ≡ (s.node n).next) front
    every [] = tt
    every (n ∷ front) = (next n, every front)

-- a page is chained behind the last one of a bucket
pub behind_chained : (s t : State) (m : Map) (e : Entry) (z q : ℕ) → IsIndex s m → Behind e z q s t → AllOn s → AllOn t
behind_chained s t m e z q i w all n two = ⊎_elim
    (λ (is : n ≡ q). (hash e.key, subst (λ (x : ℕ). On t.node (named t (hash e.key)) x) (sym is) new))
    (λ (ne : n ≢ q). let c = all n (sym (w.takes.others n ne) ∙ two) in (c.0, stays c.0 n c.1))
    (cases_eq n q)
  where
    stays : (h p : ℕ) → On s.node (named s h) p → On t.node (named t h) p
    stays h p on = record {
      front = on.front;
      walk = subst (λ (x : ℕ). Walk t.node x on.front p) (sym (names_same s t w.g w.pointers h))
          (walk_on s.node t.node s.kind z (named s h) on.front p w.last w.change.others (front_kinds s m i h p on) on.walk on.real);
      real = on.real;
    }

    new : On t.node (named t (hash e.key)) q
    new =
        let last = stays (hash e.key) z (record { front = w.on.front; walk = w.on.walk; real = w.on.real }) in
        record {
          front = last.front ++ z ∷ [];
          walk = subst (λ (x : ℕ). Walk t.node (named t (hash e.key)) (last.front ++ z ∷ []) x) (ap (λ (x : Node). x.next) w.change.last) (walk_more t.node (named t (hash e.key)) last.front z last.walk last.real);
          real = w.takes.real;
        }

-- a number with the same low bits, and the next bit as it is to be
with_bit : (l h bit : ℕ) (t : Bool) → (bit % 2 == 1) ≡ t → (k : ℕ) × Agree l h k × (high l k ≡ t)
with_bit l h bit t is =
    let small = mod_below h (2 ^ l) (pow_pos l) in
    (bit * 2 ^ l + h % 2 ^ l, agree_from_mod l h (bit * 2 ^ l + h % 2 ^ l) (sym (mod_low bit l (h % 2 ^ l) small)), ap (λ (x : ℕ). x % 2 == 1) (div-mul-add bit (2 ^ l) (h % 2 ^ l) small) ∙ is)

sides : (l h : ℕ) (t : Bool) → (k : ℕ) × Agree l h k × (high l k ≡ t)
sides l h true = with_bit l h 1 true refl
sides l h false = with_bit l h 0 false refl

-- a bucket is split over two pages
pub halves_chained : (key : List ℕ) (q l : ℕ) (s t : State) (m : Map) → IsIndex s m → Halves key q l s t → AllOn s → AllOn t
halves_chained key q l s t m i w all n two = ⊎_elim
    (λ (is : n ≡ q). let k = other (hash key) refl true in
    (k.0, record { front = []; walk = names_t k.0 ∙ points.up k.0 k.1 k.2 ∙ sym is; real = λ z. w.takes.real (sym is ∙ z) }))
    (λ (ne : n ≢ q). old (all n (sym (w.takes.others n ne) ∙ two)))
    (cases_eq n q)
  where
    b : ℕ
    b = named s (hash key)

    points : Points b q l (named s) (λ h. get_or t.pointers (h % 2 ^ s.g) 0)
    points = repointed s.g b q l s.pointers t.pointers w.below w.pointers

    names_t : (h : ℕ) → named t h ≡ get_or t.pointers (h % 2 ^ s.g) 0
    names_t h = ap (λ (x : ℕ). get_or t.pointers (h % 2 ^ x) 0) w.g

    other : (h : ℕ) → named s h ≡ b → (bit : Bool) → (k : ℕ) × (named s k ≡ b) × (high l k ≡ bit)
    other h here bit =
        let k = sides l h bit in
        (k.0, sym (i.tree.buckets.apart h k.0 (subst (λ (d : ℕ). Agree d h k.0) (sym (ap (λ (x : ℕ). (s.node x).depth) here ∙ w.level)) k.1)) ∙ here, k.2)

    alone : (front : List ℕ) (h : ℕ) → named s h ≡ b → Walk s.node (named s h) front n → n ≢ 0 → n ≡ b
    alone [] h here walk real = sym walk ∙ here
    alone (x ∷ front) h here walk real = absurd ((not_last s.node (named s h) (x ∷ front) n walk real).0 (ap (λ (y : ℕ). (s.node y).next) (sym walk.0 ∙ here) ∙ w.alone))

    old : (h : ℕ) × On s.node (named s h) n → (h : ℕ) × On t.node (named t h) n
    old (h, on) = ⊎_elim
        (λ (here : named s h ≡ b). let k = other h here false in
        (k.0, record { front = []; walk = names_t k.0 ∙ points.low k.0 k.1 k.2 ∙ sym (alone on.front h here on.walk on.real); real = on.real }))
        (λ (there : named s h ≢ b). (
          h,
          record {
            front = on.front;
            walk = subst (λ (x : ℕ). Walk t.node x on.front n) (sym (names_t h ∙ points.rest h there))
                (walk_on s.node t.node s.kind b (named s h) on.front n w.alone w.change.others (front_kinds s m i h n on) on.walk on.real);
            real = on.real;
          },
        ))
        (cases_eq (named s h) b)

double_chained : (s : State) (m : Map) → IsIndex s m → AllOn s → AllOn (double s)
double_chained s m i all p two = let c = all p two in (c.0, subst (λ (x : ℕ). On s.node x p) (sym (doubled s.pointers s.g c.0 i.size)) c.1)

-- with a directory that is doubled before, or is not
pub split_chained : (key : List ℕ) (q l : ℕ) (s u : State) (m : Map) → IsIndex s m → (l < s.g × Halves key q l s u) ⊎ (l ≡ s.g × Halves key q l (double s) u) → AllOn s → AllOn u
split_chained key q l s u m i (inl h) all = halves_chained key q l s u m i h.1 all
split_chained key q l s u m i (inr h) all = halves_chained key q l (double s) u m (directory_doubled s m i) h.1 (double_chained s m i all)

-- ---- in bytes

pub chained_in : (pages : PageBytes) → AreChained pages → AllOn (state_of pages)
chained_in pages all p two = let c = all p two in (c.0, record { front = c.1.front; walk = c.1.walk; real = c.1.real })

pub chained_of : (pages : PageBytes) → AllOn (state_of pages) → AreChained pages
chained_of pages all p two = let c = all p two in (c.0, record { front = c.1.front; walk = c.1.walk; real = c.1.real })

-- where others' pages change
pub chains_stay : (total : ℕ) (pages pages2 : PageBytes) (m : Map) → AreMap total pages m → LeavesIndex total pages pages2 → AreChained pages → AreChained pages2
chains_stay total pages pages2 m a w all p two =
    let on = chained_in pages all p (w.no_more p two) in
    let kinds = front_kinds (state_of pages) m a.index on.0 p on.1 in (
      on.0,
      record {
        front = on.1.front;
        walk = subst (λ (x : ℕ). Walk (λ n. node_of (pages2 n)) x on.1.front p) (sym (ap (λ (c : List ℕ). get_or (pointers_from c 8 (2 ^ depth_in c)) (on.0 % 2 ^ depth_in c) 0) w.directory))
            (walk_same (λ n. node_of (pages n)) (λ n. node_of (pages2 n)) (named (state_of pages) on.0) on.1.front p
            (each_map (λ n. kind pages n ≡ 2) (λ n. (node_of (pages2 n)).next ≡ (node_of (pages n)).next) (λ n is. ap (λ (c : List ℕ). (node_of c).next) (w.buckets n is).1) on.1.front kinds) on.1.walk);
        real = on.1.real;
      },
    )

-- the only bucket page is the one that is named
pub first_chained : (total : ℕ) (pages : PageBytes) → IsEmpty total pages → ((p : ℕ) → kind pages p ≡ 2 → p ≡ 3) → AreChained pages
first_chained total pages e one p two = (0, record { front = []; walk = three ∙ sym (one p two); real = λ z. absurd (let is = one p two in omega (arith, is, z)) })
  where
    three : named (state_of pages) 0 ≡ 3
    three = named_is pages 0 ∙ ap (λ (d : ℕ). pointer_at (pages 1) (0 % 2 ^ d)) e.no_bits ∙ e.pointer
