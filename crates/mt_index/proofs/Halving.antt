-- A bucket of one page is split over two pages, in bytes.
use Rattle.std.proofs.Common.{◌≡◌, ◌≢◌, ℕ, suc, ◌+◌, ◌-◌, ◌*◌, ◌<◌, ◌≤◌, ◌==◌, ◌&&◌, ◌^◌, ◌%◌, ◌⊎◌, inl, inr, ⊎_elim, Bool, true, false, cond, min, List, ◌++◌, length, get_or, refl, ap, sym, ◌∙◌, subst, arith, length-append}
use Rattle.std.proofs.lemmas.Bool.{cases_eq, cases_lt}
use Rattle.std.proofs.lemmas.List.{get_or-append_right, get_or_append_left}
use Rattle.std.proofs.lemmas.Grind.{same_number_lists}
use Rattle.mt_bucket.specs.Hash.{hash, high}
use Rattle.mt_bucket.specs.Page.{depth_of, next_of, IsBucket}
use Rattle.mt_space.specs.Changes.{PageBytes}
use Rattle.mt_space.specs.Kinds.{kind}
use Rattle.mt_index.specs.Maps.{Map}
use Rattle.mt_index.specs.Index.{State, named, IsIndex, Repoints, Divides}
use Rattle.mt_index.specs.Steps.{Halves as ByHalves, double}
use Rattle.mt_index.specs.Rule.{MaySplit}
use Rattle.mt_index.specs.Pages.{depth_in, pointer_at, pointers_from, node_of, state_of, AreMap, IsDirectory, AreFormed, TakesPage, Doubled, Redirected, Rewired, Parted}
use Rattle.mt_index.specs.Answers.{Stays}
use Rattle.mt_index.proofs.Bits.{doubled as doubled_names}
use Rattle.mt_index.proofs.Pointers.{get_pointer, pointers_length}
use Rattle.mt_index.proofs.Doubling.{directory_doubled, repointed}
use Rattle.mt_index.proofs.Keeping.{half_kept}
use Rattle.mt_index.proofs.Overflow.{named_taken}
use Rattle.mt_index.proofs.Free.{Fresh}
use Rattle.mt_index.proofs.Chaining.{split_chained, chained_in, chained_of}
use Rattle.mt_index.proofs.OnePage.{no_bucket}
use Rattle.mt_index.proofs.Placing.{fresh_off}

-- the split, page by page
pub record Splits (total b q : ℕ) (pages mid : PageBytes) : Type 0 where
  pub fresh : Fresh (pages 0) total q
  pub taken : TakesPage q (pages 0) (mid 0)
  pub wires : Rewired b q (depth_of (pages b)) (pages 1) (mid 1)
  pub parts : Parted (pages b) (mid b) (mid q)
  pub others : (n : ℕ) → n ≢ 0 → n ≢ 1 → n ≢ b → n ≢ q → mid n ≡ pages n

-- ---- the directory

-- the state with another directory
abbrev pub with_directory : State → ℕ → List ℕ → State
with_directory s g pointers = record s { g = g; pointers = pointers }

-- the split from a directory that goes by more bits than the bucket
halves_at : (total : ℕ) (pages mid : PageBytes) (m : Map) (key : List ℕ) (b q g : ℕ) (pointers wired : List ℕ) → AreMap total pages m → kind pages b ≡ 2 → next_of (pages b) ≡ 0 → Splits total b q pages mid
    → depth_in wired ≡ g → pointers_from wired 8 (2 ^ g) ≡ pointers → Redirected b q (depth_of (pages b)) wired (mid 1) → depth_of (pages b) < g → get_or pointers (hash key % 2 ^ g) 0 ≡ b
    → ByHalves key q (depth_of (pages b)) (with_directory (state_of pages) g pointers) (state_of mid)
halves_at total pages mid m key b q g pointers wired a two alone w deep is r below here = record {
  alone = ap (λ (x : ℕ). next_of (pages x)) here ∙ alone;
  level = ap (λ (x : ℕ). depth_of (pages x)) here;
  below = below;
  g = depth;
  pointers = subst (λ (x : ℕ). Repoints x q (depth_of (pages b)) g pointers (pointers_from (mid 1) 8 (2 ^ depth_in (mid 1)))) (sym here) (record {
    size = pointers_length (mid 1) 8 (2 ^ depth_in (mid 1)) ∙ ap (λ (x : ℕ). 2 ^ x) depth ∙ sym (pointers_length wired 8 (2 ^ g)) ∙ ap length is;
    each = λ i lt. get_pointer (mid 1) 8 (2 ^ depth_in (mid 1)) i (subst (λ (x : ℕ). i < 2 ^ x) (sym depth) lt) ∙ r.each i (subst (λ (x : ℕ). i < 2 ^ x) (sym deep) lt)
        ∙ ap (λ (p : ℕ). cond (p == b && high (depth_of (pages b)) i) q p) (sym (get_pointer wired 8 (2 ^ g) i lt) ∙ ap (λ (ps : List ℕ). get_or ps i 0) is);
  });
  takes = record { real = λ e. off.0 (sym e); free = w.fresh.free; taken = w.taken.taken; others = w.taken.others };
  change = subst (λ (x : ℕ). Divides x q (depth_of (pages b)) (kind pages) (λ p. node_of (pages p)) (λ p. node_of (mid p))) (sym here) (record {
    low = λ j. record { depth = (w.parts.low_depth ∙ one_more) j; next = (w.parts.low_next ∙ alone) j; entries = w.parts.stay j };
    up = λ j. record { depth = (w.parts.up_depth ∙ one_more) j; next = w.parts.up_next j; entries = w.parts.go j };
    others = λ n is_bucket away. ap node_of (w.others n (λ e. (no_bucket total pages m n a is_bucket).0 (sym e)) (λ e. (no_bucket total pages m n a is_bucket).1 (sym e)) away
        (λ e. not_free n is_bucket (ap (kind pages) e ∙ w.fresh.free)));
  });
}
  where
    off : (0 ≢ q) × (1 ≢ q)
    off = fresh_off total pages m q a w.fresh.free

    not_free : (n : ℕ) → kind pages n ≡ 2 → kind pages n ≡ 0 → ⊥
    not_free n is_bucket none = omega (arith, is_bucket, none)

    depth : depth_in (mid 1) ≡ g
    depth = ap (λ (x : ℕ). min x 9) (r.rest.below 0 (omega arith)) ∙ deep

    one_more : depth_of (pages b) + 1 ≡ suc (depth_of (pages b))
    one_more = omega arith

doubled_pointers : (old new : List ℕ) → Doubled old new → pointers_from new 8 (2 ^ suc (depth_in old)) ≡ pointers_from old 8 (2 ^ depth_in old) ++ pointers_from old 8 (2 ^ depth_in old)
doubled_pointers old new d = same_number_lists (pointers_from new 8 (2 ^ suc g)) (ps ++ ps) (omega (arith, long, short, length-append ps ps))
    (λ i lt. get_pointer new 8 (2 ^ suc g) i (omega (arith, lt, long)) ∙ ⊎_elim (λ (less : i < 2 ^ g). d.below i less ∙ sym (get_pointer old 8 (2 ^ g) i less) ∙ sym (get_or_append_left ps ps 0 i (omega (arith, less, short))))
    (λ (more : 2 ^ g ≤ i). let small : i - 2 ^ g < 2 ^ g = omega (arith, lt, long, more) in let back : 2 ^ g + (i - 2 ^ g) ≡ i = omega (arith, more) in
    ap (pointer_at new) (sym back) ∙ d.above (i - 2 ^ g) small ∙ sym (get_pointer old 8 (2 ^ g) (i - 2 ^ g) small) ∙ sym (get_or-append_right ps ps (2 ^ g) i 0 short more)) (cases_lt i (2 ^ g)))
  where
    g : ℕ
    g = depth_in old

    ps : List ℕ
    ps = pointers_from old 8 (2 ^ depth_in old)

    long : length (pointers_from new 8 (2 ^ suc (depth_in old))) ≡ 2 ^ depth_in old + 2 ^ depth_in old
    long = pointers_length new 8 (2 ^ suc (depth_in old)) ∙ omega arith

    short : length (pointers_from old 8 (2 ^ depth_in old)) ≡ 2 ^ depth_in old
    short = pointers_length old 8 (2 ^ depth_in old)

abbrev pub Halved : List ℕ → ℕ → ℕ → State → State → Type 0
Halved key q l s u = (l < s.g × ByHalves key q l s u) ⊎ (l ≡ s.g × ByHalves key q l (double s) u)

pub split_halves : (total : ℕ) (pages mid : PageBytes) (m : Map) (key : List ℕ) (b q : ℕ) → AreMap total pages m → MaySplit key (state_of pages) → named (state_of pages) (hash key) ≡ b → Splits total b q pages mid
    → Halved key q (depth_of (pages b)) (state_of pages) (state_of mid)
split_halves total pages mid m key b q a may here w = go w.wires.first
  where
    l : ℕ
    l = depth_of (pages b)

    two : kind pages b ≡ 2
    two = subst (λ (x : ℕ). kind pages x ≡ 2) here (named_taken (named (state_of pages)) (depth_in (pages 1)) (λ p. node_of (pages p)) (kind pages) m a.index.tree (hash key))

    alone : next_of (pages b) ≡ 0
    alone = subst (λ (x : ℕ). next_of (pages x) ≡ 0) here may.alone

    level : depth_of (pages b) ≤ depth_in (pages 1)
    level = subst (λ (x : ℕ). depth_of (pages x) ≤ depth_in (pages 1)) here (a.index.tree.shallow (hash key))

    go : ((depth_of (pages b) ≡ depth_in (pages 1)) × Doubled (pages 1) w.wires.between) ⊎ ((depth_of (pages b) ≢ depth_in (pages 1)) × (w.wires.between ≡ pages 1)) → Halved key q (depth_of (pages b)) (state_of pages) (state_of mid)
    go (inl d) = inr (
      d.0,
      halves_at total pages mid m key b q (suc (depth_in (pages 1))) (pointers_from (pages 1) 8 (2 ^ depth_in (pages 1)) ++ pointers_from (pages 1) 8 (2 ^ depth_in (pages 1))) w.wires.between
          a two alone w d.1.depth (doubled_pointers (pages 1) w.wires.between d.1) w.wires.then (omega (arith, d.0))
          (doubled_names (pointers_from (pages 1) 8 (2 ^ depth_in (pages 1))) (depth_in (pages 1)) (hash key) (pointers_length (pages 1) 8 (2 ^ depth_in (pages 1))) ∙ here),
    )
    go (inr d) =
        let below : depth_of (pages b) < depth_in (pages 1) = (let no_more = d.0 in omega (arith, level, no_more)) in
        inl (
          below,
          halves_at total pages mid m key b q (depth_in (pages 1)) (pointers_from (pages 1) 8 (2 ^ depth_in (pages 1))) (pages 1) a two alone w refl refl
              (subst (λ (c : List ℕ). Redirected b q (depth_of (pages b)) c (mid 1)) d.1 w.wires.then) below here,
        )

-- the bucket that the key is in then
half_named : (key : List ℕ) (b q l : ℕ) (s u : State) → named s (hash key) ≡ b → ByHalves key q l s u → (t : Bool) → high l (hash key) ≡ t → named u (hash key) ≡ cond t q b
half_named key b q l s u here h true is = ap (λ (x : ℕ). get_or u.pointers (hash key % 2 ^ x) 0) h.g
    ∙ (repointed s.g (named s (hash key)) q l s.pointers u.pointers h.below h.pointers).up (hash key) refl is
half_named key b q l s u here h false is = ap (λ (x : ℕ). get_or u.pointers (hash key % 2 ^ x) 0) h.g
    ∙ (repointed s.g (named s (hash key)) q l s.pointers u.pointers h.below h.pointers).low (hash key) refl is ∙ here

pub split_named : (total : ℕ) (pages : PageBytes) (m : Map) (key : List ℕ) (b q l : ℕ) (u : State) → AreMap total pages m → named (state_of pages) (hash key) ≡ b → Halved key q l (state_of pages) u
    → (t : Bool) → high l (hash key) ≡ t → named u (hash key) ≡ cond t q b
split_named total pages m key b q l u a here (inl h) t is = half_named key b q l (state_of pages) u here h.1 t is
split_named total pages m key b q l u a here (inr h) t is =
    half_named key b q l (double (state_of pages)) u (doubled_names (pointers_from (pages 1) 8 (2 ^ depth_in (pages 1))) (depth_in (pages 1)) (hash key) a.index.size ∙ here) h.1 t is

split_index : (s u : State) (m : Map) (key : List ℕ) (q l : ℕ) → IsIndex s m → Halved key q l s u → IsIndex u m
split_index s u m key q l i (inl h) = half_kept s u m key q l i h.1
split_index s u m key q l i (inr h) = half_kept (double s) u m key q l (directory_doubled s m i) h.1

-- ---- the pages

took : (total : ℕ) (pages mid : PageBytes) (q : ℕ) → Fresh (pages 0) total q → TakesPage q (pages 0) (mid 0) → (p : ℕ) → kind pages p ≡ 0 → kind mid p ≢ 0 → (kind mid p ≡ 2) × (p < total)
took total pages mid q f t p none some = go (cases_eq p q)
  where
    go : (p ≡ q) ⊎ (p ≡ q → ⊥) → (kind mid p ≡ 2) × (p < total)
    go (inl is) = (ap (kind mid) is ∙ t.taken, subst (λ (x : ℕ). x < total) (sym is) f.within)
    go (inr off) = absurd (some (t.others p off ∙ none))

pub split_map : (total : ℕ) (pages mid : PageBytes) (m : Map) (key : List ℕ) (b q l : ℕ) → AreMap total pages m → Splits total b q pages mid → Halved key q l (state_of pages) (state_of mid) → AreMap total mid m
split_map total pages mid m key b q l a w h = record {
  index = split_index (state_of pages) (state_of mid) m key q l a.index h;
  space_fixed = w.taken.others 0 off.0 ∙ a.space_fixed;
  directory_fixed = w.taken.others 1 off.1 ∙ a.directory_fixed;
  within = λ p some. ⊎_elim (λ (none : kind pages p ≡ 0). (took total pages mid q w.fresh w.taken p none some).1) (λ (was : kind pages p ≢ 0). a.within p was) (cases_eq (kind pages p) 0);
  few = a.few;
}
  where
    off : (0 ≢ q) × (1 ≢ q)
    off = fresh_off total pages m q a w.fresh.free

pub split_stays : (total : ℕ) (pages mid : PageBytes) (b q : ℕ) → kind pages b ≡ 2 → Splits total b q pages mid → Stays total pages mid
split_stays total pages mid b q two w = record {
  size = w.taken.size;
  kinds = λ p some. w.taken.others p (λ e. some (ap (kind pages) e ∙ w.fresh.free));
  taken = took total pages mid q w.fresh w.taken;
  bytes = λ p not_map not_directory away. w.others p not_map not_directory
      (λ e. away (ap (kind mid) e ∙ w.taken.others b (λ f. not_free (sym (ap (kind pages) f) ∙ two)) ∙ two)) (λ e. away (ap (kind mid) e ∙ w.taken.taken));
}
  where
    not_free : kind pages q ≡ 2 → ⊥
    not_free is = omega (arith, is, w.fresh.free)

rewired_formed : (b q l : ℕ) (old new : List ℕ) → Rewired b q l old new → IsDirectory old → IsDirectory new
rewired_formed b q l old new w f = record {
  size = r.rest.size ∙ g.size;
  shallow = subst (λ (x : ℕ). x ≤ 9) (sym (r.rest.below 0 (omega arith))) g.shallow;
  zeros = λ i some lt. r.rest.below i lt ∙ g.zeros i some lt;
  rest = λ i le. let far : 8 + 2 * 2 ^ depth_in w.between ≤ i = subst (λ (x : ℕ). 8 + 2 * 2 ^ min x 9 ≤ i) (r.rest.below 0 (omega arith)) le in r.rest.above i far ∙ g.rest i far;
}
  where
    r : Redirected b q l w.between new
    r = w.then

    g : IsDirectory w.between
    g = ⊎_elim (λ (d : (l ≡ depth_in old) × Doubled old w.between). d.1.formed f) (λ (d : (l ≢ depth_in old) × (w.between ≡ old)). subst IsDirectory (sym d.1) f) w.first

pub split_formed : (relations total : ℕ) (pages mid : PageBytes) (m : Map) (key : List ℕ) (b q : ℕ) → AreMap total pages m → kind pages b ≡ 2 → Splits total b q pages mid → Halved key q (depth_of (pages b)) (state_of pages) (state_of mid)
    → AreFormed relations total pages → AreFormed relations total mid
split_formed relations total pages mid m key b q a two w halved f = record {
  directory = rewired_formed b q (depth_of (pages b)) (pages 1) (mid 1) w.wires f.directory;
  buckets = λ p is. bucket p is (cases_eq p q) (cases_eq p b);
  chained = chained_of mid (split_chained key q (depth_of (pages b)) (state_of pages) (state_of mid) m a.index halved (chained_in pages f.chained));
}
  where
    bucket : (p : ℕ) → kind mid p ≡ 2 → (p ≡ q) ⊎ (p ≡ q → ⊥) → (p ≡ b) ⊎ (p ≡ b → ⊥) → IsBucket relations total (mid p)
    bucket p is (inl here) c = subst (λ (x : ℕ). IsBucket relations total (mid x)) (sym here) (w.parts.kept relations total (f.buckets b two)).1
    bucket p is (inr old) (inl here) = subst (λ (x : ℕ). IsBucket relations total (mid x)) (sym here) (w.parts.kept relations total (f.buckets b two)).0
    bucket p is (inr old) (inr away) =
        let was : kind pages p ≡ 2 = sym (w.taken.others p old) ∙ is in
        subst (IsBucket relations total) (sym (w.others p (λ e. (no_bucket total pages m p a was).0 (sym e)) (λ e. (no_bucket total pages m p a was).1 (sym e)) away old)) (f.buckets p was)

pub stays_trans : (total : ℕ) (pages mid pages2 : PageBytes) → Stays total pages mid → Stays total mid pages2 → Stays total pages pages2
stays_trans total pages mid pages2 f g = record {
  size = g.size ∙ f.size;
  kinds = λ p some. g.kinds p (still p some) ∙ f.kinds p some;
  taken = λ p none some. ⊎_elim (λ (yet : kind mid p ≡ 0). g.taken p yet some)
      (λ (was : kind mid p ≢ 0). let t = f.taken p none was in (g.kinds p was ∙ t.0, t.1)) (cases_eq (kind mid p) 0);
  bytes = λ p not_map not_directory away. g.bytes p not_map not_directory away ∙ f.bytes p not_map not_directory (λ is. away (g.kinds p (λ z. two_zero (kind mid p) is z) ∙ is));
}
  where
    two_zero : (k : ℕ) → k ≡ 2 → k ≡ 0 → ⊥
    two_zero k a b = omega (arith, a, b)

    still : (p : ℕ) → kind pages p ≢ 0 → kind mid p ≢ 0
    still p some z = some (sym (f.kinds p some) ∙ z)
