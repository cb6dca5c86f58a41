-- A split, and the entry that goes into its half or behind it.
use Rattle.std.proofs.Common.{◌≡◌, ◌≢◌, ℕ, ◌+◌, ◌<◌, ◌≤◌, inr, ⊎_elim, Bool, true, false, cond, List, [], ◌∷◌, ◌++◌, length, get_or, refl, ap, sym, ◌∙◌, subst, arith, length-append}
use Rattle.std.proofs.lemmas.Bool.{cases_eq}
use Rattle.mt_bucket.specs.Entries.{Entry}
use Rattle.mt_bucket.specs.Hash.{hash, high}
use Rattle.mt_bucket.specs.Page.{depth_of, next_of, count_of, entries, IsBucket}
use Rattle.mt_space.specs.declared.changes.PageChange.{PageChange}
use Rattle.mt_space.specs.Changes.{PageBytes, replaced, after}
use Rattle.mt_space.proofs.Changing.{replaced_here, replaced_other}
use Rattle.mt_space.specs.Kinds.{kind}
use Rattle.mt_index.specs.Maps.{Map}
use Rattle.mt_index.specs.Index.{named, kept_low, kept_high}
use Rattle.mt_index.specs.Rule.{MaySplit, SplitHere, SplitChained}
use Rattle.mt_index.specs.Pages.{depth_in, node_of, state_of, AreMap, Turns, HasOne}
use Rattle.mt_index.specs.Answers.{HasRoom, IsEnd, Fits, Added, Shortage}
use Rattle.mt_index.specs.Halves.{Notes, changed, Apart, Puts, PutsInHalf, Links, AreHalves}
use Rattle.mt_index.specs.declared.bucket_split.Halves.{Halves}
use Rattle.mt_index.proofs.Overflow.{named_taken}
use Rattle.mt_index.proofs.Passing.{entries_length}
use Rattle.mt_index.proofs.Free.{Fresh}
use Rattle.mt_index.proofs.OnePage.{no_bucket, turns_formed}
use Rattle.mt_index.proofs.Placing.{Chained, fresh_off, put_first, put_stays, chain_last, chain_smallest, chain_stays, chain_formed}
use Rattle.mt_index.proofs.Halving.{Splits, Halved, split_halves, split_named, split_map, split_stays, split_formed, stays_trans}

-- the half that a hash's bit names
abbrev pub half : Bool → Halves → List ℕ
half t h = cond t h.up h.low

abbrev pub half_page : Bool → ℕ → ℕ → ℕ
half_page t b q = cond t q b

-- the pages once the split is made, and no entry more
abbrev pub split_pages : Halves → ℕ → ℕ → PageBytes → PageBytes
split_pages h b q pages = replaced q h.up (replaced b h.low (replaced 1 h.directory (replaced 0 h.space pages)))

-- nothing was put in: the halves are as before
pub unput : (t : Bool) (e : Entry) (h h2 : Halves) → PutsInHalf t false e h h2 → h2 ≡ h
unput true e h h2 p = p.up.1 ∙ (λ j. record h { up = p.up.0.unchanged j })
unput false e h h2 p = p.low.1 ∙ (λ j. record h { low = p.low.0.unchanged j })

pub full_half : (t : Bool) (e : Entry) (h h2 : Halves) → PutsInHalf t false e h h2 → count_of (half t h) ≡ 58
full_half true e h h2 p = p.up.0.full
full_half false e h h2 p = p.low.0.full

-- it had room for what was put in
pub had_room : (old new : List ℕ) (e : Entry) → Puts true e old new → length (entries old) < 58
had_room old new e p =
    let grown : length (entries new) ≡ length (entries old ++ e ∷ []) = ap length p.pushed in
    omega (arith, grown, entries_length new 8 (count_of new), length-append (entries old) (e ∷ []))

-- the pages are those that they were
pub put_pages : (t there : Bool) (e : Entry) (h h2 : Halves) → PutsInHalf t there e h h2 → (h2.bucket ≡ h.bucket) × (h2.fresh ≡ h.fresh)
put_pages true there e h h2 p = (ap (λ (x : Halves). x.bucket) p.up.1, ap (λ (x : Halves). x.fresh) p.up.1)
put_pages false there e h h2 p = (ap (λ (x : Halves). x.bucket) p.low.1, ap (λ (x : Halves). x.fresh) p.low.1)

-- and the map of the space is
pub put_space : (t there : Bool) (e : Entry) (h h2 : Halves) → PutsInHalf t there e h h2 → h2.space ≡ h.space
put_space true there e h h2 p = ap (λ (x : Halves). x.space) p.up.1
put_space false there e h h2 p = ap (λ (x : Halves). x.space) p.low.1

pub link_pages : (t : Bool) (q2 : ℕ) (h h2 : Halves) → Links t q2 h h2 → (h2.bucket ≡ h.bucket) × (h2.fresh ≡ h.fresh)
link_pages true q2 h h2 l = (ap (λ (x : Halves). x.bucket) l.up.1, ap (λ (x : Halves). x.fresh) l.up.1)
link_pages false q2 h h2 l = (ap (λ (x : Halves). x.bucket) l.low.1, ap (λ (x : Halves). x.fresh) l.low.1)

-- a full bucket of one page
pub due_end : (total : ℕ) (pages : PageBytes) (m : Map) (key : List ℕ) (b : ℕ) → AreMap total pages m → MaySplit key (state_of pages) → named (state_of pages) (hash key) ≡ b → IsEnd key pages b true
due_end total pages m key b a may here = record {
  steps = 0;
  passed = record { front = []; walk = here; real = λ z. a.index.tree.real (hash key) (here ∙ z); each = tt; long = refl };
  full = subst (λ (x : ℕ). length (entries (pages x)) ≡ 58) here may.full;
  last = subst (λ (x : ℕ). next_of (pages x) ≡ 0) here may.alone;
  one = λ e. refl;
  more = λ e. absurd cc;
}

module _ (total : ℕ) (pages : PageBytes) (m : Map) (e : Entry) (b q : ℕ) (h : Halves) (a : AreMap total pages m) (may : MaySplit e.key (state_of pages)) (here : named (state_of pages) (hash e.key) ≡ b)
    (f : Fresh (pages 0) total q) (w : AreHalves b q (pages 0) (pages 1) (pages b) h) where
  pub is_bucket : kind pages b ≡ 2
  is_bucket = subst (λ (x : ℕ). kind pages x ≡ 2) here (named_taken (named (state_of pages)) (depth_in (pages 1)) (λ p. node_of (pages p)) (kind pages) m a.index.tree (hash e.key))

  pub apart : Apart b q
  apart = record {
    bucket_0 = (no_bucket total pages m b a is_bucket).0;
    bucket_1 = (no_bucket total pages m b a is_bucket).1;
    fresh_0 = (fresh_off total pages m q a f.free).0;
    fresh_1 = (fresh_off total pages m q a f.free).1;
    each_other = λ same. let k : kind pages q ≡ 2 = ap (kind pages) (sym same) ∙ is_bucket in let none = f.free in omega (arith, k, none);
  }

  at_fresh : split_pages h b q pages q ≡ h.up
  at_fresh = replaced_here q q h.up (replaced b h.low (replaced 1 h.directory (replaced 0 h.space pages))) refl

  at_bucket : split_pages h b q pages b ≡ h.low
  at_bucket = replaced_other q b h.up (replaced b h.low (replaced 1 h.directory (replaced 0 h.space pages))) apart.each_other ∙ replaced_here b b h.low (replaced 1 h.directory (replaced 0 h.space pages)) refl

  at_1 : split_pages h b q pages 1 ≡ h.directory
  at_1 = replaced_other q 1 h.up (replaced b h.low (replaced 1 h.directory (replaced 0 h.space pages))) apart.fresh_1
      ∙ replaced_other b 1 h.low (replaced 1 h.directory (replaced 0 h.space pages)) apart.bucket_1 ∙ replaced_here 1 1 h.directory (replaced 0 h.space pages) refl

  at_0 : split_pages h b q pages 0 ≡ h.space
  at_0 = replaced_other q 0 h.up (replaced b h.low (replaced 1 h.directory (replaced 0 h.space pages))) apart.fresh_0
      ∙ replaced_other b 0 h.low (replaced 1 h.directory (replaced 0 h.space pages)) apart.bucket_0 ∙ replaced_other 1 0 h.directory (replaced 0 h.space pages) (λ z. absurd (omega (arith, z))) ∙ replaced_here 0 0 h.space pages refl

  elsewhere : (n : ℕ) → n ≢ 0 → n ≢ 1 → n ≢ b → n ≢ q → split_pages h b q pages n ≡ pages n
  elsewhere n z o x y = replaced_other q n h.up (replaced b h.low (replaced 1 h.directory (replaced 0 h.space pages))) y
      ∙ replaced_other b n h.low (replaced 1 h.directory (replaced 0 h.space pages)) x ∙ replaced_other 1 n h.directory (replaced 0 h.space pages) o ∙ replaced_other 0 n h.space pages z

  splits : Splits total b q pages (split_pages h b q pages)
  splits = record {
    fresh = f;
    taken = rw at_0 w.taken;
    wires = rw at_1 w.wires;
    parts = rw (at_bucket, at_fresh) w.parts;
    others = elsewhere;
  }

  halved : Halved e.key q (depth_of (pages b)) (state_of pages) (state_of (split_pages h b q pages))
  halved = split_halves total pages (split_pages h b q pages) m e.key b q a may here splits

  split_is : AreMap total (split_pages h b q pages) m
  split_is = split_map total pages (split_pages h b q pages) m e.key b q (depth_of (pages b)) a splits halved

  names_half : (t : Bool) → high (depth_of (pages b)) (hash e.key) ≡ t → named (state_of (split_pages h b q pages)) (hash e.key) ≡ half_page t b q
  names_half t bit = split_named total pages m e.key b q (depth_of (pages b)) (state_of (split_pages h b q pages)) a here halved t bit

  at_half : (t : Bool) → split_pages h b q pages (half_page t b q) ≡ half t h
  at_half true = at_fresh
  at_half false = at_bucket

  half_real : (t : Bool) → half_page t b q ≢ 0
  half_real true z = apart.fresh_0 (sym z)
  half_real false z = apart.bucket_0 (sym z)

  half_depth : (t : Bool) → depth_of (half t h) ≡ depth_of (pages b) + 1
  half_depth true = w.parts.up_depth
  half_depth false = w.parts.low_depth

  half_next : (t : Bool) → next_of (half t h) ≡ 0
  half_next true = w.parts.up_next
  half_next false = w.parts.low_next ∙ subst (λ (x : ℕ). next_of (pages x) ≡ 0) here may.alone

  -- two sets of pages that differ in few
  agree : (g : PageBytes) (n : ℕ) → (n ≡ 0 → g n ≡ h.space) → (n ≡ 1 → g n ≡ h.directory) → (n ≡ b → g n ≡ h.low) → (n ≡ q → g n ≡ h.up) → (n ≢ 0 → n ≢ 1 → n ≢ b → n ≢ q → g n ≡ pages n)
      → g n ≡ split_pages h b q pages n
  agree g n z o x y rest =
      ⊎_elim (λ (i : n ≡ 0). z i ∙ sym (ap (split_pages h b q pages) i ∙ at_0)) (λ (ni : n ≢ 0).
      ⊎_elim (λ (i : n ≡ 1). o i ∙ sym (ap (split_pages h b q pages) i ∙ at_1)) (λ (no : n ≢ 1).
      ⊎_elim (λ (i : n ≡ b). x i ∙ sym (ap (split_pages h b q pages) i ∙ at_bucket)) (λ (nb : n ≢ b).
      ⊎_elim (λ (i : n ≡ q). y i ∙ sym (ap (split_pages h b q pages) i ∙ at_fresh)) (λ (nq : n ≢ q). rest ni no nb nq ∙ sym (elsewhere n ni no nb nq))
      (cases_eq n q)) (cases_eq n b)) (cases_eq n 1)) (cases_eq n 0)

  -- ---- into a half

  into_half : (t : Bool) (new : List ℕ) (pages2 : PageBytes) → high (depth_of (pages b)) (hash e.key) ≡ t → Puts true e (half t h) new → length (entries (half t h)) < 58
      → Turns (half_page t b q) new (split_pages h b q pages) pages2 → Added true total e pages pages2
  into_half t new pages2 bit p room turn =
      let mid : PageBytes = split_pages h b q pages in
      let side = half_page t b q in
      let names = names_half t bit in
      let is : mid side ≡ half t h = at_half t in
      let two : kind mid side ≡ 2 = subst (λ (x : ℕ). kind mid x ≡ 2) names (named_taken (named (state_of mid)) (depth_in (mid 1)) (λ n. node_of (mid n)) (kind mid) m split_is.index.tree (hash e.key)) in
      let off = no_bucket total mid m side split_is two in
      let there : HasRoom e.key mid side = record {
        steps = 0;
        passed = record { front = []; walk = names; real = half_real t; each = tt; long = refl };
        room = rw is room;
      } in
      record {
        way = SplitHere (state_of mid) q (depth_of (pages b)) side refl may (chain_smallest total pages q f) halved
            (put_first total mid pages2 m e side new split_is there turn (rw is p.head) (rw is p.pushed));
        stays = stays_trans total pages mid pages2 (split_stays total pages mid b q is_bucket splits) (put_stays total mid pages2 side new off two turn);
        directory = λ none. absurd cc;
        formed = λ relations fits formed. turns_formed relations total mid pages2 side new off turn (rw is p.head)
            (λ bucket. p.kept relations total fits.relation fits.some fits.place (subst (IsBucket relations total) is bucket)) (split_formed relations total pages mid m e.key b q a is_bucket splits halved formed);
      }

  -- ---- behind it

  behind_half : (t : Bool) (z : ℕ) (page : List ℕ) (pages2 : PageBytes) → high (depth_of (pages b)) (hash e.key) ≡ t → z ≡ half_page t b q → count_of (half t h) ≡ 58 → (q2 : ℕ) → Chained total e z q2 (split_pages h b q pages) pages2
      → ((relations : ℕ) → depth_of (pages b) + 1 ≤ 9 → Fits relations total e → IsBucket relations total (pages2 q2)) → ((relations : ℕ) → q2 < total → IsBucket relations total (split_pages h b q pages z) → IsBucket relations total (pages2 z))
      → Added true total e pages pages2
  behind_half t z page pages2 bit z_is full q2 chained new last =
      let mid : PageBytes = split_pages h b q pages in
      let names : named (state_of mid) (hash e.key) ≡ z = names_half t bit ∙ sym z_is in
      let is : mid z ≡ half t h = ap mid z_is ∙ at_half t in
      let two : kind mid z ≡ 2 = subst (λ (x : ℕ). kind mid x ≡ 2) names (named_taken (named (state_of mid)) (depth_in (mid 1)) (λ n. node_of (mid n)) (kind mid) m split_is.index.tree (hash e.key)) in
      let end : IsEnd e.key mid z true = record {
        steps = 0;
        passed = record { front = []; walk = names; real = λ zero_is. half_real t (sym z_is ∙ zero_is); each = tt; long = refl };
        full = rw is (entries_length (half t h) 8 (count_of (half t h)) ∙ full);
        last = rw is (half_next t);
        one = λ _. refl;
        more = λ other. absurd cc;
      } in
      let at_end = chain_last total mid pages2 m e z q2 true split_is end chained in
      record {
        way = SplitChained (state_of mid) q (depth_of (pages b)) z q2 refl may (chain_smallest total pages q f) halved (chain_smallest total mid q2 chained.fresh) at_end;
        stays = stays_trans total pages mid pages2 (split_stays total pages mid b q is_bucket splits) (chain_stays total mid pages2 m e z q2 split_is two chained);
        directory = λ none. absurd cc;
        formed = λ relations fits formed. chain_formed relations total mid pages2 m e z q2 split_is two chained at_end
            (λ shallow. new relations (subst (λ (n : ℕ). n ≤ 9) (ap depth_of is ∙ half_depth t) shallow) fits) (last relations) (split_formed relations total pages mid m e.key b q a is_bucket splits halved formed);
      }

  pub put_added : (t : Bool) → high (depth_of (pages b)) (hash e.key) ≡ t → (h2 : Halves) → PutsInHalf t true e h h2 → (changes : List PageChange) → Notes (changed h2) pages changes → Added true total e pages (after changes pages)
  put_added true bit h2 p changes n =
      let g : PageBytes = after changes pages in
      let on_q : h2.fresh ≡ q = ap (λ (x : Halves). x.fresh) p.up.1 ∙ w.fresh in
      let on_b : h2.bucket ≡ b = ap (λ (x : Halves). x.bucket) p.up.1 ∙ w.bucket in
      into_half true h2.up g bit p.up.0 (had_room h.up h2.up e p.up.0) (record {
        here = subst (λ (x : ℕ). g x ≡ h2.up) on_q n.here.0;
        others = λ x off. agree g x (λ i. ap g i ∙ n.here.1.1.1.0 ∙ ap (λ (y : Halves). y.space) p.up.1) (λ i. ap g i ∙ n.here.1.1.0 ∙ ap (λ (y : Halves). y.directory) p.up.1)
            (λ i. ap g (i ∙ sym on_b) ∙ n.here.1.0 ∙ ap (λ (y : Halves). y.low) p.up.1) (λ i. absurd (off i))
            (λ nz no nb nq. n.others x (λ i. nq (i ∙ on_q), (λ i. nb (i ∙ on_b), (no, (nz, tt)))));
      })
  put_added false bit h2 p changes n =
      let g : PageBytes = after changes pages in
      let on_q : h2.fresh ≡ q = ap (λ (x : Halves). x.fresh) p.low.1 ∙ w.fresh in
      let on_b : h2.bucket ≡ b = ap (λ (x : Halves). x.bucket) p.low.1 ∙ w.bucket in
      into_half false h2.low g bit p.low.0 (had_room h.low h2.low e p.low.0) (record {
        here = subst (λ (x : ℕ). g x ≡ h2.low) on_b n.here.1.0;
        others = λ x off. agree g x (λ i. ap g i ∙ n.here.1.1.1.0 ∙ ap (λ (y : Halves). y.space) p.low.1) (λ i. ap g i ∙ n.here.1.1.0 ∙ ap (λ (y : Halves). y.directory) p.low.1)
            (λ i. absurd (off i)) (λ i. ap g (i ∙ sym on_q) ∙ n.here.0 ∙ ap (λ (y : Halves). y.up) p.low.1)
            (λ nz no nb nq. n.others x (λ i. nq (i ∙ on_q), (λ i. nb (i ∙ on_b), (no, (nz, tt)))));
      })

  -- the page to be chained is none of those
  pub second_off : (q2 : ℕ) → Fresh h.space total q2 → (q2 ≢ q) × ((q2 ≢ b) × ((q2 ≢ 1) × (q2 ≢ 0)))
  second_off q2 s = (
    λ i. clash 2 (ap (λ (x : ℕ). get_or h.space x 0) i ∙ w.taken.taken) (λ z. absurd (omega (arith, z))),
    (
      λ i. clash 2 (ap (λ (x : ℕ). get_or h.space x 0) i ∙ w.taken.others b apart.each_other ∙ is_bucket) (λ z. absurd (omega (arith, z))),
      (
        λ i. clash 1 (ap (λ (x : ℕ). get_or h.space x 0) i ∙ w.taken.others 1 apart.fresh_1 ∙ a.directory_fixed) (λ z. absurd (omega (arith, z))),
        λ i. clash 1 (ap (λ (x : ℕ). get_or h.space x 0) i ∙ w.taken.others 0 apart.fresh_0 ∙ a.space_fixed) (λ z. absurd (omega (arith, z))),
      ),
    ),
  )
    where
      clash : (k : ℕ) → get_or h.space q2 0 ≡ k → k ≢ 0 → ⊥
      clash k is some = some (sym is ∙ s.free)

  -- and it was free
  pub second_free : (q2 : ℕ) → Fresh h.space total q2 → kind pages q2 ≡ 0
  second_free q2 s = sym (w.taken.others q2 (second_off q2 s).0) ∙ s.free

  pub link_added : (t : Bool) → high (depth_of (pages b)) (hash e.key) ≡ t → (h3 : Halves) → count_of (half t h) ≡ 58 → (q2 : ℕ) → Fresh h.space total q2 → Links t q2 h h3 → (page : List ℕ) → HasOne (depth_of (pages b) + 1) e page
      → ((relations : ℕ) → depth_of (pages b) + 1 ≤ 9 → Fits relations total e → IsBucket relations total page) → (changes : List PageChange) → Notes ((q2, page) ∷ changed h3) pages changes → Added true total e pages (after changes pages)
  link_added true bit h3 full q2 s l page one new changes n =
      let g : PageBytes = after changes pages in
      let on_q : h3.fresh ≡ q = ap (λ (x : Halves). x.fresh) l.up.1 ∙ w.fresh in
      let on_b : h3.bucket ≡ b = ap (λ (x : Halves). x.bucket) l.up.1 ∙ w.bucket in
      let here_q : g q ≡ h3.up = subst (λ (x : ℕ). g x ≡ h3.up) on_q n.here.1.0 in
      behind_half true q page g bit refl full q2 (record {
        fresh = rw at_0 s;
        taken = rw (at_0, n.here.1.1.1.1.0) l.taken;
        page = rw (n.here.0, at_fresh) (subst (λ (d : ℕ). HasOne d e page) (sym w.parts.up_depth) one);
        depth = rw (here_q, at_fresh) l.up.0.depth;
        next = rw here_q l.up.0.next;
        entries = rw (here_q, at_fresh) l.up.0.entries;
        others = λ x nz n2 nside. agree g x (λ i. absurd (nz i)) (λ i. ap g i ∙ n.here.1.1.1.0 ∙ ap (λ (y : Halves). y.directory) l.up.1)
            (λ i. ap g (i ∙ sym on_b) ∙ n.here.1.1.0 ∙ ap (λ (y : Halves). y.low) l.up.1) (λ i. absurd (nside i))
            (λ _ no nb nq. n.others x (n2, (λ i. nq (i ∙ on_q), (λ i. nb (i ∙ on_b), (no, (nz, tt))))));
      }) (λ relations shallow fits. rw n.here.0 (new relations shallow fits)) (λ relations within bucket. rw here_q (l.up.0.kept relations total within (subst (IsBucket relations total) at_fresh bucket)))
  link_added false bit h3 full q2 s l page one new changes n =
      let g : PageBytes = after changes pages in
      let on_q : h3.fresh ≡ q = ap (λ (x : Halves). x.fresh) l.low.1 ∙ w.fresh in
      let on_b : h3.bucket ≡ b = ap (λ (x : Halves). x.bucket) l.low.1 ∙ w.bucket in
      let here_b : g b ≡ h3.low = subst (λ (x : ℕ). g x ≡ h3.low) on_b n.here.1.1.0 in
      behind_half false b page g bit refl full q2 (record {
        fresh = rw at_0 s;
        taken = rw (at_0, n.here.1.1.1.1.0) l.taken;
        page = rw (n.here.0, at_bucket) (subst (λ (d : ℕ). HasOne d e page) (sym w.parts.low_depth) one);
        depth = rw (here_b, at_bucket) l.low.0.depth;
        next = rw here_b l.low.0.next;
        entries = rw (here_b, at_bucket) l.low.0.entries;
        others = λ x nz n2 nside. agree g x (λ i. absurd (nz i)) (λ i. ap g i ∙ n.here.1.1.1.0 ∙ ap (λ (y : Halves). y.directory) l.low.1)
            (λ i. absurd (nside i)) (λ i. ap g (i ∙ sym on_q) ∙ n.here.1.0 ∙ ap (λ (y : Halves). y.up) l.low.1)
            (λ _ no nb nq. n.others x (n2, (λ i. nq (i ∙ on_q), (λ i. nb (i ∙ on_b), (no, (nz, tt))))));
      }) (λ relations shallow fits. rw n.here.0 (new relations shallow fits)) (λ relations within bucket. rw here_b (l.low.0.kept relations total within (subst (IsBucket relations total) at_bucket bucket)))

  -- ---- no page for it

  lopsided : (t : Bool) → high (depth_of (pages b)) (hash e.key) ≡ t → count_of (half t h) ≡ 58
      → length (cond t (kept_high (depth_of (pages b)) (entries (pages b))) (kept_low (depth_of (pages b)) (entries (pages b)))) ≡ 58
  lopsided true bit full = ap length (sym w.parts.go) ∙ entries_length h.up 8 (count_of h.up) ∙ full
  lopsided false bit full = ap length (sym w.parts.stay) ∙ entries_length h.low 8 (count_of h.low) ∙ full

  pub split_short : (t : Bool) → high (depth_of (pages b)) (hash e.key) ≡ t → count_of (half t h) ≡ 58 → ((p : ℕ) → p < total → get_or h.space p 0 ≢ 0) → Shortage true total e pages
  split_short t bit full none = record {
    last = b;
    alone = true;
    full = due_end total pages m e.key b a may here;
    free = inr (
      refl,
      (
        may,
        (
          (
            q,
            record {
              free = f.free;
              within = f.within;
              others = λ p lt off is. none p lt (w.taken.others p off ∙ is);
            },
          ),
          subst (λ (x : Bool). length (cond x (kept_high (depth_of (pages b)) (entries (pages b))) (kept_low (depth_of (pages b)) (entries (pages b)))) ≡ 58) (sym bit) (lopsided t bit full),
        ),
      ),
    );
  }
