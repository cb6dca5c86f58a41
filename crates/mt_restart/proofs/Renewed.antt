-- What is known of a device while its log turns over, call by call.
use Rattle.std.proofs.Common.{true, ◌≡◌, inl, inr, ⊎_elim, ℕ, ◌+◌, ◌*◌, ◌<◌, ◌≤◌, Bool, false, List, [], ◌∷◌, length, get_or, sym, ap, ◌∙◌, subst, arith, append-nil}
use Rattle.mt_disk.specs.declared.device.Device.{Ghosts}
use Rattle.mt_disk.specs.Disk.{Follows, LeavesOnly, Only, Torn}
use Rattle.mt_disk.proofs.Frame.{leaves_more, runs_both}
use Rattle.mt_frame.specs.declared.records.Record.{Record}
use Rattle.mt_frame.specs.declared.slots.MasterSlot.{MasterSlot}
use Rattle.mt_space.specs.PageLists.{bytes_of}
use Rattle.mt_log.specs.Area.{TornFrom}
use Rattle.mt_frame.specs.Grammar.{body_text}
use Rattle.mt_log.specs.Batch.{Scans, joined}
use Rattle.mt_log.specs.Masters.{IsRuling, area_end, area_size, area_start}
use Rattle.mt_log.specs.Sound.{IsSound}
use Rattle.mt_log.specs.Words.{area_size as log_size, area_start as log_start, durable, durable_batches, has_failed, in_flight, used, waiting, IsOn}
use Rattle.mt_log.specs.declared.log.Log.{Log}
use Rattle.mt_log.proofs.Elsewhere.{on_elsewhere}
use Rattle.mt_pool.specs.Images.{slot}
use Rattle.mt_pool.proofs.Safe.{bool_cases}
use Rattle.mt_restart.specs.Found.{AreMarked, HasBegun, HasTurned, IsNextLog, ReadsOldOrNext}
use Rattle.mt_log.specs.NextSlot.{TurnsTo, next_slot}
use Rattle.mt_log.proofs.Values.{batches_of_two}
use Rattle.mt_replay.specs.Stands.{IsReadAs}
use Rattle.mt_restart.specs.Turned.{AreImagesOf, AreInPlace, ButForSlots, OnlySlots}
use Rattle.mt_restart.specs.declared.restart_writes.Marks.{Marks}
use Rattle.mt_log.proofs.Ruling.{ruling_elsewhere}
use Rattle.mt_restart.proofs.NextArea.{in_slots, lost_imaged, next_gives, next_held, slot_same}
use Rattle.mt_restart.proofs.Read.{IsHeldAs, held_read, master_torn, read_held, read_slots, turns_read}
use Rattle.mt_restart.proofs.Staying.{read_begun, read_written, torn_at}

-- ---- moments, before the next slot is written

module _ {D : Type 0} (g : Ghosts D) (only_now : (d : D) (c : List ℕ) → g.left_since d (g.moment d) c → g.may_leave d c)
    (ruling : MasterSlot) (items : List (List ℕ)) (m : Marks) (o : D) (batches : List (List Record)) (k : AreMarked (g.seen o) ruling items batches m) (only : Only (g.seen o) (g.may_leave o))
    (opening : ℕ → List ℕ) (bs : List (List Record)) (read : IsReadAs (g.seen o) ruling opening bs) (w : D) (marked : List Bool) (same : marked ≡ m.imaged.items) where
  abbrev pub Still : List ℕ → Type 0
  Still c = IsReadAs c ruling opening bs

  pub when_written : LeavesOnly g.moment g.left_since o w (ButForSlots marked (g.may_leave o)) → LeavesOnly g.moment g.left_since o w Still
  when_written left = leaves_more g.moment g.left_since o w (ButForSlots m.imaged.items (g.may_leave o)) Still (subst (λ (xs : List Bool). LeavesOnly g.moment g.left_since o w (ButForSlots xs (g.may_leave o))) same left)
      (read_written ruling items m (g.seen o) batches k opening bs read (g.may_leave o) only)

  module _ (n : D) (written : LeavesOnly g.moment g.left_since o w (ButForSlots marked (g.may_leave o))) (follows : Follows (OnlySlots marked) (g.may_leave o) (g.may_leave w)) (at size : ℕ) (there : at ≡ area_start (next_slot ruling)) (all : size ≡ area_size ruling) where
    torn_still : (c : List ℕ) → TornFrom (g.may_leave w) at size c → Still c
    torn_still c left = read_begun ruling items m (g.seen o) batches k opening bs read (g.may_leave o) (g.may_leave w) only (subst (λ (xs : List Bool). Follows (OnlySlots xs) (g.may_leave o) (g.may_leave w)) same follows) c
        (torn_at (g.may_leave w) at size (area_start (next_slot ruling)) (area_size ruling) c there all left)

    pub when_begun : LeavesOnly g.moment g.left_since w n (TornFrom (g.may_leave w) at size) → LeavesOnly g.moment g.left_since o n Still
    when_begun left = runs_both g.moment g.left_since o w n Still (when_written written) (leaves_more g.moment g.left_since w n (TornFrom (g.may_leave w) at size) Still left torn_still)

-- ---- the next area, begun

durable_one : (log : Log) (images : List Record) → durable_batches log ≡ images ∷ [] → durable log ≡ images
durable_one log images is = ap joined is ∙ append-nil images

pub next_log : {D : Type 0} (g : Ghosts D) (ruling : MasterSlot) (images : List Record) (device : D) (log : Log) → IsOn g log device → log_start log ≡ area_start (next_slot ruling) → log_size log ≡ area_size ruling
    → durable_batches log ≡ images ∷ [] → in_flight log ≡ [] → waiting log ≡ [] → used log ≡ 5 + length (body_text images) → has_failed log ≡ false → IsSound ruling.pages log → IsNextLog g ruling images device log
next_log g ruling images device log on start size batches flying waits head well sound = record {
  on = on;
  start = start;
  size = size;
  durable_is = durable_one log images batches;
  flying = flying;
  waits = waits;
  head = head;
  well = well;
  sound = sound;
}

module _ {D : Type 0} (g : Ghosts D) (ruling : MasterSlot) (items : List (List ℕ)) (m : Marks) (o w n s : D) (batches : List (List Record)) (k : AreMarked (g.seen o) ruling items batches m)
    (slots : OnlySlots m.imaged.items (g.seen o) (g.seen w)) (place : AreInPlace m.imaged.items items (g.seen w)) (torn : Torn (area_start (next_slot ruling)) (area_size ruling) (g.seen w) (g.seen n)) (same : g.seen s ≡ g.seen n) where
  rules_now : IsRuling (g.seen s) ruling
  rules_now = subst (λ (c : List ℕ). IsRuling c ruling) (sym same)
      (ruling_elsewhere (area_start (next_slot ruling)) (area_size ruling) (g.seen w) (g.seen n) ruling
      (ruling_elsewhere 8192 (4096 * length m.imaged.items) (g.seen o) (g.seen w) ruling k.rules slots.within (omega arith)) torn (omega arith))

  slots_now : (p : ℕ) → p < ruling.pages → get_or m.lost.items p false ≡ false → slot 8192 (g.seen s) p ≡ get_or items p []
  slots_now p lt kept =
      ap (λ (c : List ℕ). slot 8192 c p) same
      ∙ slot_same (area_start (next_slot ruling)) (area_size ruling) ruling.pages (g.seen w) (g.seen n) torn (inl (omega arith)) p lt
      ∙ in_slots items m.imaged.items m.lost.items (g.seen o) (g.seen w) (k.imaged.size ∙ sym k.count) k.lost slots place p (subst (λ (x : ℕ). p < x) (sym k.count) lt) kept

  pub begun : (log : Log) → IsNextLog g ruling m.images.items s log → Only (g.seen s) (g.may_leave s) → Scans (g.seen n) (area_start (next_slot ruling)) (area_end (next_slot ruling)) (m.images.items ∷ []) → HasBegun g ruling items m s log
  begun log next only scans = record {
    next = next;
    only = only;
    rules = rules_now;
    held = next_held items m.lost.items m.images.items k.images (g.seen s) (area_start (next_slot ruling)) (area_end (next_slot ruling)) ruling.pages k.count
        (subst (λ (c : List ℕ). Scans c (area_start (next_slot ruling)) (area_end (next_slot ruling)) (m.images.items ∷ [])) (sym same) scans);
    slots = slots_now;
  }

-- ---- the next slot, and the pages that its area began with

module _ {D : Type 0} (g : Ghosts D) (ruling : MasterSlot) (items : List (List ℕ)) (m : Marks) (log : Log) (s : D) (b : HasBegun g ruling items m s log) (i : AreImagesOf items m.lost.items m.images.items) (sized : length m.lost.items ≡ length items) (count : length items ≡ ruling.pages) where
  next_pages : (c : List ℕ) → g.may_leave s c → IsHeldAs c (next_slot ruling) (bytes_of items) (m.images.items ∷ [])
  next_pages c left = subst (λ (x : List ℕ). IsHeldAs x (next_slot ruling) (bytes_of items) (m.images.items ∷ [])) (sym (b.only c left)) (record {
    held = b.held;
    of_its_format = batches_of_two ruling.pages (m.images.items ∷ []) b.held.each;
    gives = next_gives items m.lost.items m.images.items i (g.seen s) ruling.pages count b.slots;
  })

  module _ (o : D) (opening : ℕ → List ℕ) (bs : List (List Record)) (still : LeavesOnly g.moment g.left_since o s (λ c. IsReadAs c ruling opening bs)) (old : (c : List ℕ) → g.may_leave s c → IsReadAs c ruling opening bs) where
    abbrev pub Either : List ℕ → Type 0
    Either c = ReadsOldOrNext ruling opening bs items m.images.items c

    pub when_next : LeavesOnly g.moment g.left_since o s Either
    when_next = leaves_more g.moment g.left_since o s (λ c. IsReadAs c ruling opening bs) Either still (λ c is. inl is)

    turned_read : (c : List ℕ) → TurnsTo ruling (g.may_leave s) c → Either c
    turned_read = turns_read ruling (g.may_leave s) opening (bytes_of items) bs (m.images.items ∷ []) (λ d left. held_read d ruling opening bs (old d left)) next_pages

    pub when_turned : (t : D) → LeavesOnly g.moment g.left_since s t (TurnsTo ruling (g.may_leave s)) → LeavesOnly g.moment g.left_since o t Either
    when_turned t left = runs_both g.moment g.left_since o s t Either when_next (leaves_more g.moment g.left_since s t (TurnsTo ruling (g.may_leave s)) Either left turned_read)

    module _ (t u : D) (turns : LeavesOnly g.moment g.left_since s t (TurnsTo ruling (g.may_leave s))) (rules : (c : List ℕ) → g.may_leave t c → IsRuling c (next_slot ruling)) (follows : Follows (Torn 0 8192) (g.may_leave s) (g.may_leave t)) (marked : List Bool) (same : marked ≡ m.lost.items) where
      next_read_at : (c : List ℕ) → g.may_leave t c → IsReadAs c (next_slot ruling) (bytes_of items) (m.images.items ∷ [])
      next_read_at c left =
          let from : (d : List ℕ) × g.may_leave s d × Torn 0 8192 d c = follows c left in
          read_held c (next_slot ruling) (bytes_of items) (m.images.items ∷ []) (rules c left) (master_torn 0 8192 from.0 c (next_slot ruling) (bytes_of items) (m.images.items ∷ []) from.2 (omega arith) (next_pages from.0 from.1))

      placed_read : (c : List ℕ) → ButForSlots m.lost.items (g.may_leave t) c → IsReadAs c (next_slot ruling) (bytes_of items) (m.images.items ∷ [])
      placed_read c left =
          let from : (d : List ℕ) × g.may_leave t d × OnlySlots m.lost.items d c = left in
          read_slots m.lost.items from.0 c (next_slot ruling) (bytes_of items) (m.images.items ∷ []) (sized ∙ count) (lost_imaged items m.lost.items m.images.items i sized) from.2 (next_read_at from.0 from.1)

      pub when_placed : LeavesOnly g.moment g.left_since t u (ButForSlots marked (g.may_leave t)) → LeavesOnly g.moment g.left_since o u Either
      when_placed left = runs_both g.moment g.left_since o t u Either (when_turned t turns)
          (leaves_more g.moment g.left_since t u (ButForSlots m.lost.items (g.may_leave t)) Either (subst (λ (xs : List Bool). LeavesOnly g.moment g.left_since t u (ButForSlots xs (g.may_leave t))) same left) (λ c is. inr (placed_read c is)))

  -- the pages that are lost are written in place too
  module _ (t u : D) (rules : IsRuling (g.seen t) (next_slot ruling)) (torn : Torn 0 8192 (g.seen s) (g.seen t)) (on_t : Follows (Torn 0 8192) (g.may_leave s) (g.may_leave t))
      (slots : OnlySlots m.lost.items (g.seen t) (g.seen u)) (on_u : Follows (OnlySlots m.lost.items) (g.may_leave t) (g.may_leave u)) (place : AreInPlace m.lost.items items (g.seen u)) where
    low : 8192 + 4096 * length m.lost.items ≤ log_start log
    low = let start = b.next.start in omega (arith, start, sized, count)

    on_placed : IsOn g log u
    on_placed = on_elsewhere g log t u 8192 (4096 * length m.lost.items) (on_elsewhere g log s t 0 8192 b.next.on (inr (omega (arith, low))) torn on_t) (inr low) slots.within
        (λ c left. let from : (d : List ℕ) × g.may_leave t d × OnlySlots m.lost.items d c = on_u c left in (from.0, from.1, from.2.within))

    slots_placed : (p : ℕ) → p < ruling.pages → slot 8192 (g.seen u) p ≡ get_or items p []
    slots_placed p lt =
        let inside : p < length items = subst (λ (x : ℕ). p < x) (sym count) lt in
        ⊎_elim
        (λ (marked : get_or m.lost.items p false ≡ true). place p inside marked)
        (λ (other : get_or m.lost.items p false ≡ false). slots.others p (subst (λ (x : ℕ). p < x) (sym sized) inside) other ∙ slot_same 0 8192 ruling.pages (g.seen s) (g.seen t) torn (inr (omega arith)) p lt ∙ b.slots p lt other)
        (bool_cases (get_or m.lost.items p false))

    read_placed : (g.may_leave s (g.seen s)) → IsReadAs (g.seen u) (next_slot ruling) (bytes_of items) (m.images.items ∷ [])
    read_placed here = read_slots m.lost.items (g.seen t) (g.seen u) (next_slot ruling) (bytes_of items) (m.images.items ∷ []) (sized ∙ count) (lost_imaged items m.lost.items m.images.items i sized) slots
        (read_held (g.seen t) (next_slot ruling) (bytes_of items) (m.images.items ∷ []) rules (master_torn 0 8192 (g.seen s) (g.seen t) (next_slot ruling) (bytes_of items) (m.images.items ∷ []) torn (omega arith) (next_pages (g.seen s) here)))

    pub turned : g.may_leave s (g.seen s) → Only (g.seen u) (g.may_leave u) → HasTurned g ruling items m.images.items u log
    turned here only = record {
      next = record { on = on_placed; start = b.next.start; size = b.next.size; durable_is = b.next.durable_is; flying = b.next.flying; waits = b.next.waits; head = b.next.head; well = b.next.well; sound = b.next.sound };
      only = only;
      slots = slots_placed;
      read = read_placed here;
    }
