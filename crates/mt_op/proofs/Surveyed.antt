-- What the reads of a survey leave, and what they find.
use Rattle.std.proofs.Common.{◌≡◌, ◌<◌, ◌≤◌, ℕ, List, [], get_or, refl, sym, ◌∙◌, ap, subst, append-nil, arith}
use Rattle.std.proofs.Props.{props}
use Rattle.std.proofs.lemmas.Int.{ints}
use mathlib.Core.Logic.{∥∥₁_elim, ∥∥₁_map}
use Rattle.mt_disk.specs.declared.device.Device.{Ghosts}
use Rattle.mt_disk.specs.Disk.{LeavesTheSame}
use Rattle.mt_disk.proofs.Frame.{leaves_more, runs_both, started}
use Rattle.mt_file.proofs.Filed.{record_kind}
use Rattle.mt_model.specs.Model.{Base}
use Rattle.mt_file.proofs.Shaped.{shaped_of}
use Rattle.mt_log.specs.Words.{appended, area_end, area_start, durable}
use Rattle.mt_op.proofs.Parted.{idle_shows}
use Rattle.mt_op.proofs.Right.{right_rests}
use Rattle.mt_op.proofs.Staying.{rests_held}
use Rattle.mt_op.specs.Moves.{Rests}
use Rattle.mt_op.specs.Operations.{IsRight, world}
use Rattle.mt_op.specs.Surveyed.{IsIdle, OnlyReads}
use Rattle.mt_op.specs.World.{held_in}
use Rattle.mt_op.specs.declared.operations.Operations.{Operations}
use Rattle.mt_pool.proofs.Kept.{explains, explains_back}
use Rattle.mt_pool.proofs.Steady.{IsSteady, steady}
use Rattle.mt_pool.specs.Kept.{Explains, HasOpening}
use Rattle.mt_pool.specs.Views.{pages, view}
use Rattle.mt_pool.specs.declared.pool.Pool.{Pool}
use Rattle.mt_rows.specs.Rows.{AreKeysOnce}
use Rattle.mt_rows.specs.declared.rows.Row.{Row}
use Rattle.mt_slots.specs.Page.{IsShaped}
use Rattle.mt_space.specs.Changes.{PageBytes}
use Rattle.mt_space.specs.Kinds.{kind}
use Rattle.mt_counters.specs.Counters.{AreCounters, count_in}
use Rattle.mt_steps.specs.Held.{Holds}
use Rattle.mt_steps.specs.Listed.{AreInside, HasListed, IsSame}
use Rattle.mt_steps.specs.Plans.{IsGood}

-- a crash leaves the same after two runs of reads
pub same_twice : (a b c : List ℕ → Type 0) → LeavesTheSame a b → LeavesTheSame b c → LeavesTheSame a c
same_twice a b c first second k = (λ left. (first k).0 ((second k).0 left), λ left. (second k).1 ((first k).1 left))

module _ {D : Type 0} (g : Ghosts D) where
  pub idle_opening : (relations : ℕ) (o : Operations D) → IsIdle g relations o → HasOpening g o.store
  idle_opening relations o idle = ∥∥₁_map idle (λ (opening, counters, right, free). (opening, right.kept))

  -- none is under way, in whatever schema
  abbrev pub AreIdle : Operations D → Type 0
  AreIdle o = ∥ ((relations : ℕ) × IsIdle g relations o) ∥₁

  pub idle_steady : (o : Operations D) → AreIdle o → IsSteady g o.store
  idle_steady o idle = steady g o.store (∥∥₁_elim idle (hlevel props) (λ (relations, one). idle_opening relations o one))

  -- the bytes that a page shows are those that are held
  pub idle_page : (opening : PageBytes) (relations counters : ℕ) (o : Operations D) (p : ℕ) → IsRight g opening relations counters o → o.locks ≡ [] → p < pages o.store.pool
      → view o.store.pool (g.seen o.store.device) p ≡ held_in (world g opening o) p
  idle_page opening relations counters o p right free inside = idle_shows relations counters (world g opening o) right.sound free p inside

  pub idle_free : (relations : ℕ) (o : Operations D) → IsIdle g relations o → o.locks ≡ []
  idle_free relations o idle = ∥∥₁_elim idle (hlevel props) (λ (opening, counters, right, free). free)

  module _ where
    pub read_rests : (opening : PageBytes) (o n : Operations D) → OnlyReads g o n → Rests (world g opening o) (world g opening n)
    read_rests opening o n reads = record {
      area = record { opening = refl; total = ap pages reads.pool };
      pages = λ p inside i. view (reads.pool i) (reads.content i) p;
      records = ap appended reads.log;
      locks = reads.locks;
    }

    pub read_right : (opening : PageBytes) (relations counters : ℕ) (o n : Operations D) → OnlyReads g o n → IsRight g opening relations counters o → IsRight g opening relations counters n
    read_right opening relations counters o n reads right = right_rests g opening relations counters o n right (reads.kept opening right.kept) (read_rests opening o n reads) reads.map reads.rooms

    pub read_held : (opening : PageBytes) (o n : Operations D) → OnlyReads g o n → held_in (world g opening n) ≡ held_in (world g opening o)
    read_held opening o n reads = rests_held (world g opening o) (world g opening n) (read_rests opening o n reads)

    pub read_idle : (relations : ℕ) (o n : Operations D) → OnlyReads g o n → IsIdle g relations o → IsIdle g relations n
    read_idle relations o n reads idle = ∥∥₁_map idle (λ (opening, counters, right, free). (opening, counters, read_right opening relations counters o n reads right, reads.locks ∙ free))

    pub read_idle_any : (o n : Operations D) → OnlyReads g o n → AreIdle o → AreIdle n
    read_idle_any o n reads idle = ∥∥₁_map idle (λ (relations, one). (relations, read_idle relations o n reads one))

    pub reads_both : (o m n : Operations D) → OnlyReads g o m → OnlyReads g m n → OnlyReads g o n
    reads_both o m n first second = record {
      kept = λ opening kept. second.kept opening (first.kept opening kept);
      moments = λ opening kept. runs_both g.moment g.left_since o.store.device m.store.device n.store.device (Explains opening o.store) (first.moments opening kept)
          (leaves_more g.moment g.left_since m.store.device n.store.device (Explains opening m.store) (Explains opening o.store) (second.moments opening (first.kept opening kept))
          (λ c explained. explains_back opening o.store m.store c (ap area_start first.log) (ap area_end first.log) (ap (λ (p : Pool). p.place) first.pool) (ap pages first.pool) (ap appended first.log)
          [] (ap durable first.log ∙ sym (append-nil (durable o.store.log))) explained));
      content = second.content ∙ first.content;
      pool = second.pool ∙ first.pool;
      log = second.log ∙ first.log;
      locks = second.locks ∙ first.locks;
      rooms = second.rooms ∙ first.rooms;
      map = second.map ∙ first.map;
    }

    pub reads_none : ((d : D) (c : List ℕ) → g.left_since d (g.moment d) c → g.may_leave d c) → (o : Operations D) → OnlyReads g o o
    reads_none only_now o = record {
      kept = λ opening kept. kept;
      moments = λ opening kept. started g.moment g.left_since o.store.device (Explains opening o.store) (λ c left. explains g opening o.store kept c (only_now o.store.device c left));
      content = refl;
      pool = refl;
      log = refl;
      locks = refl;
      rooms = refl;
      map = refl;
    }

-- ---- pages

module _ {D : Type 0} (g : Ghosts D) where
  pub kind_of : (opening : PageBytes) (relations counters : ℕ) (o : Operations D) (p i : ℕ) → IsRight g opening relations counters o → i ≡ p → kind (held_in (world g opening o)) p ≡ get_or o.map.kinds.value i 0
  kind_of opening relations counters o p i right same = ap (λ (bytes : List ℕ). get_or bytes p 0) (sym right.map) ∙ ap (λ (j : ℕ). get_or o.map.kinds.value j 0) (sym same)

  -- a fixed page is one of them
  pub fixed_inside : (relations : ℕ) (o : Operations D) (p : ℕ) → p ≤ 2 → IsIdle g relations o → p < pages o.store.pool
  fixed_inside relations o p low idle = ∥∥₁_elim idle (hlevel props) (λ (opening, counters, right, free).
      let w = world g opening o in
      let last : 2 < pages o.store.pool = right.sound.good.rows.index.within 2 (λ none. let wrong : 1 ≡ 0 = sym ((right.sound.good.rows.map 2).fixed (omega arith)) ∙ none in cc) in omega arith)

  -- the counters page has the schema
  pub counters_page : (relations : ℕ) (o : Operations D) (bytes : List ℕ) → ((opening : PageBytes) (counters : ℕ) → IsRight g opening relations counters o → bytes ≡ held_in (world g opening o) 2) → IsIdle g relations o
      → (get_or bytes 0 0 ≡ relations) × AreCounters (get_or bytes 0 0) (get_or bytes 1 0) bytes
  counters_page relations o bytes is idle = (
    ∥∥₁_elim idle (hlevel props) (λ (opening, counters, right, free). (subst (AreCounters relations counters) (sym (is opening counters right)) right.sound.good.counts).relations_reported),
    ∥∥₁_elim idle (hlevel (props, ints)) (λ (opening, counters, right, free).
        let are = subst (AreCounters relations counters) (sym (is opening counters right)) right.sound.good.counts in
        subst (λ (X : Type 0). X) (λ i. AreCounters (sym are.relations_reported i) (sym are.counters_reported i) bytes) are),
  )

-- ---- pages of records

-- the bytes of a page of records have the shape of one, whoever is under way
pub shaped_page : {D : Type 0} (g : Ghosts D) (o : Operations D) (p : ℕ) (bytes : List ℕ) → ((opening : PageBytes) (relations counters : ℕ) → IsRight g opening relations counters o → bytes ≡ held_in (world g opening o) p)
    → get_or o.map.kinds.value p 0 ≡ 3 → AreIdle g o → IsShaped bytes
shaped_page g o p bytes is records idle = shaped_of bytes (∥∥₁_elim idle (hlevel props) (λ (relations, one). ∥∥₁_map one (λ (opening, counters, right, free).
    subst IsShaped (sym (is opening relations counters right)) (right.sound.good.rows.file.each p (kind_of g opening relations counters o p p right refl ∙ records)))))

-- ---- what was listed

-- of good pages each record stands in one of them
pub records_inside : (relations counters total : ℕ) (pages : PageBytes) → IsGood relations counters total pages → AreInside total pages
records_inside relations counters total pages good q s x there =
    good.rows.index.within q (λ free. let wrong : 3 ≡ 0 = sym (record_kind pages q s _ there) ∙ free in cc)

-- no key stands twice in what was listed, whoever is under way
pub keys_listed : {D : Type 0} (g : Ghosts D) (o : Operations D) (p : ℕ) (rows : List Row) → ((opening : PageBytes) (relations counters : ℕ) → IsRight g opening relations counters o → HasListed (held_in (world g opening o)) p rows)
    → AreIdle g o → AreKeysOnce rows
keys_listed g o p rows listed idle = ∥∥₁_elim idle (hlevel props) (λ (relations, one). ∥∥₁_elim one (hlevel props) (λ (opening, counters, right, free). (listed opening relations counters right).once))

-- the base that was listed from good pages, all of them, has the rows and counters of the one that they hold
pub same_base : (relations counters total : ℕ) (pages : PageBytes) (held b none : Base) (bytes : List ℕ) → IsGood relations counters total pages → Holds pages held → bytes ≡ pages 2
    → ((c : ℕ) → c < get_or bytes 1 0 → none.counts c ≡ count_in bytes c) → b.counts ≡ none.counts → ((r : ℕ) (k : List ℕ) → b.rows r k ≡ held.rows r k) → IsSame counters b held
same_base relations counters total pages held b none bytes good holds same counted kept rows = record {
  rows = rows;
  counts = λ c lt.
      let outcome : get_or (pages 2) 1 0 ≡ counters = good.counts.counters_reported in
      let here : c < get_or bytes 1 0 = subst (λ (xs : List ℕ). c < get_or xs 1 0) (sym same) (omega (arith, outcome)) in
      ap (λ f. f c) kept ∙ counted c here ∙ ap (λ (xs : List ℕ). count_in xs c) same ∙ sym (holds.counts c (omega (arith, outcome)));
}
