-- Which slot rules while the next one is made to.
use Rattle.std.proofs.Common.{◌≡◌, ◌⊎◌, inl, inr, ⊎_elim, ◌<◌, ◌≤◌, ◌+◌, ◌^◌, ℕ, List, [], ◌∷◌, length, take, drop, refl, ap, sym, subst, arith}
use Rattle.mt_disk.specs.declared.device.Device.{Ghosts}
use Rattle.mt_base.specs.Limits.{device_bytes_of}
use Rattle.mt_base.specs.declared.format.Format.TheVariants as formats
use Rattle.mt_disk.specs.Disk.{Follows, Has, LeavesOnly, Only, Torn, Wrote}
use Rattle.mt_disk.proofs.Frame.{leaves_more, one_of, runs_both, torn_refl, torn_trans, torn_within}
use Rattle.mt_frame.specs.Laws.{OneSlot}
use Rattle.mt_frame.specs.SlotText.{IsSlot, slot_text}
use Rattle.mt_frame.specs.declared.slots.MasterSlot.{MasterSlot}
use Rattle.mt_log.specs.Area.{TornFrom}
use Rattle.mt_log.specs.Masters.{AreSlots, IsBefore, IsClosedAt, IsOpenAt, IsRuling, Rules}
use Rattle.mt_log.specs.Quiet.{OnlyReads}
use Rattle.mt_log.proofs.Ruling.{apart_of, behind_one, behind_size, close_one, gate_one, not_closed, one_open}
use Rattle.mt_log.specs.NextSlot.{TurnsTo, next_slot}

-- ---- the next slot

pub next_fits : (slot : MasterSlot) → IsSlot slot → slot.epoch < 2 ^ 63 → IsSlot (next_slot slot)
next_fits slot fits more = record { epoch = (omega arith, omega (arith, more)); area = omega arith; pages = fits.pages; mib = fits.mib }

pub next_before : (slot : MasterSlot) → IsBefore slot (next_slot slot)
next_before slot = record { epoch = omega arith; pages = refl; mib = refl; format_order = λ (is : formats.Two ≡ formats.One). absurd cc }

-- ---- where the ruling slot stands

pub rules_own : (c : List ℕ) (at other : ℕ) (slot : MasterSlot) → AreSlots at other → Rules c at other slot → IsRuling c slot
rules_own c at other slot slots r = ⊎_elim
    (λ (first : (at ≡ 0) × (other ≡ 4096)). inl (subst (λ (x : ℕ). Rules c 0 x slot) first.1 (subst (λ (x : ℕ). Rules c x other slot) first.0 r)))
    (λ (second : (at ≡ 4096) × (other ≡ 0)). inr (subst (λ (x : ℕ). Rules c 4096 x slot) second.1 (subst (λ (x : ℕ). Rules c x other slot) second.0 r)))
    slots

pub slots_turned : (at other : ℕ) → AreSlots at other → AreSlots other at
slots_turned at other (inl first) = inr (first.1, first.0)
slots_turned at other (inr second) = inl (second.1, second.0)

pub ruling_fits : (c : List ℕ) (slot : MasterSlot) → IsRuling c slot → IsSlot slot
ruling_fits c slot (inl first) = first.own.fits
ruling_fits c slot (inr second) = second.own.fits

-- a slot that rules is one of this device
pub long_of : (c : List ℕ) (slot : MasterSlot) → IsRuling c slot → device_bytes_of slot.pages slot.mib ≤ length c
long_of c slot r = ⊎_elim (λ (first : Rules c 0 4096 slot). first.own.long) (λ (second : Rules c 4096 0 slot). second.own.long) r

-- where its text stands at the first place
pub rules_first : OneSlot → (c : List ℕ) (slot : MasterSlot) → IsRuling c slot → Has c 0 (slot_text slot) → Rules c 0 4096 slot
rules_first one_slot c slot (inl first) text = first
rules_first one_slot c slot (inr second) text =
    let own : IsOpenAt c 0 slot = record { fits = second.own.fits; text = text; long = second.own.long } in
    absurd (⊎_elim
    (λ (closed : IsClosedAt c 0). not_closed c 0 slot own closed)
    (λ (b : (older : MasterSlot) × IsOpenAt c 0 older × IsBefore older slot). let same = ap (λ (x : MasterSlot). x.epoch) (one_open one_slot c 0 b.0 slot b.1 own) in let lower = b.2.epoch in omega arith)
    second.beside)

-- and where it does not
pub rules_second : (c : List ℕ) (slot : MasterSlot) → IsRuling c slot → (Has c 0 (slot_text slot) → ⊥) → Rules c 4096 0 slot
rules_second c slot (inl first) none = absurd (none first.own.text)
rules_second c slot (inr second) none = second

-- ---- what a crash leaves

pub slots_below : (at other : ℕ) → AreSlots at other → at + 17 ≤ 8192
slots_below at other = ⊎_elim (λ (first : (at ≡ 0) × (other ≡ 4096)). omega (arith, first.0)) (λ (second : (at ≡ 4096) × (other ≡ 0)). omega (arith, second.0))

module _ {D : Type 0} (g : Ghosts D) (ruling : MasterSlot) where
  -- a read
  pub read_turns : (old new : D) → Only (g.seen old) (g.may_leave old) → IsRuling (g.seen old) ruling → OnlyReads g old new → LeavesOnly g.moment g.left_since old new (TurnsTo ruling (g.may_leave old))
  read_turns old new only rules reads = leaves_more g.moment g.left_since old new (g.may_leave old) (TurnsTo ruling (g.may_leave old)) reads.moments (λ c left. record {
    rules = inl (subst (λ (x : List ℕ). IsRuling x ruling) (sym (only c left)) rules);
    from = (c, left, torn_refl 0 8192 c);
  })

  -- a write where a crash leaves one content
  pub write_turns : (p n : ℕ) (old new : D) → p + n ≤ 8192 → Only (g.seen old) (g.may_leave old) → ((c : List ℕ) → Torn p n (g.seen old) c → IsRuling c ruling ⊎ IsRuling c (next_slot ruling))
      → LeavesOnly g.moment g.left_since old new (TornFrom (g.may_leave old) p n) → LeavesOnly g.moment g.left_since old new (TurnsTo ruling (g.may_leave old))
  write_turns p n old new below only rules moments = leaves_more g.moment g.left_since old new (TornFrom (g.may_leave old) p n) (TurnsTo ruling (g.may_leave old)) moments (λ c from. record {
    rules = rules c (subst (λ (x : List ℕ). Torn p n x c) (only from.0 from.1) from.2);
    from = (from.0, from.1, torn_within p n 0 8192 from.0 c from.2 (omega arith) (omega (arith, below)));
  })

  -- calls behind others
  pub then_turns : (old mid new : D) → LeavesOnly g.moment g.left_since old mid (TurnsTo ruling (g.may_leave old)) → Follows (Torn 0 8192) (g.may_leave old) (g.may_leave mid) → LeavesOnly g.moment g.left_since mid new (TurnsTo ruling (g.may_leave mid))
      → LeavesOnly g.moment g.left_since old new (TurnsTo ruling (g.may_leave old))
  then_turns old mid new first follows second = runs_both g.moment g.left_since old mid new (TurnsTo ruling (g.may_leave old)) first
      (leaves_more g.moment g.left_since mid new (TurnsTo ruling (g.may_leave mid)) (TurnsTo ruling (g.may_leave old)) second (λ c turns.
      let last : (e : List ℕ) × g.may_leave mid e × Torn 0 8192 e c = turns.from in
      let before : (d : List ℕ) × g.may_leave old d × Torn 0 8192 d last.0 = follows last.0 last.1 in
      record { rules = turns.rules; from = (before.0, before.1, torn_trans 0 8192 before.0 last.0 c before.2 last.2) }))

-- ---- the gate beside the ruling slot is closed

pub closes_one : (d c : List ℕ) (at other : ℕ) (ruling : MasterSlot) → AreSlots at other → Rules d other at ruling → (IsClosedAt d at → ⊥) → Torn at 1 d c → Rules c other at ruling
closes_one d c at other ruling slots r gate torn = ⊎_elim
    (λ (closed : IsClosedAt d at). absurd (gate closed))
    (λ (b : (older : MasterSlot) × IsOpenAt d at older × IsBefore older ruling). close_one at other (apart_of at other slots) d c ruling b.0 r b.1 torn)
    r.beside

-- ---- the next slot is written behind the closed gate, and the gate opened

module _ (at other : ℕ) (slots : AreSlots at other) (ruling : MasterSlot) (more : ruling.epoch < 2 ^ 63) (text : List ℕ) (is : text ≡ slot_text (next_slot ruling)) where
  apart : (at + 17 ≤ other) ⊎ (other + 17 ≤ at)
  apart = apart_of at other slots

  size : length (take 16 (drop 1 text)) ≡ 16
  size = behind_size text (next_slot ruling) is

  -- while it is written
  pub behind_gate : (d c : List ℕ) → Rules d other at ruling → IsClosedAt d at → Torn (at + 1) (length (take 16 (drop 1 text))) d c → Rules c other at ruling × IsClosedAt c at
  behind_gate d c r closed torn =
      let b = behind_one at other apart d c ruling r closed (subst (λ (n : ℕ). Torn (at + 1) n d c) size torn) in
      (b.rules, b.closed)

  -- while the gate is written
  pub opens_one : (d c : List ℕ) → Rules d other at ruling × IsClosedAt d at → Has d (at + 1) (take 16 (drop 1 text)) → Torn at 1 d c → (Rules c other at ruling × IsClosedAt c at) ⊎ Rules c at other (next_slot ruling)
  opens_one d c before has torn = ⊎_elim
      (λ b. inl (b.rules, b.closed))
      (λ next. inr next)
      (gate_one at other apart d c ruling (next_slot ruling) text is (next_fits ruling before.0.own.fits more) (next_before ruling) (record { rules = before.0; closed = before.1 }) has torn)

  -- one of the two slots rules
  pub one_rules : (d c : List ℕ) → Rules d other at ruling × IsClosedAt d at → Has d (at + 1) (take 16 (drop 1 text)) → Torn at 1 d c → IsRuling c ruling ⊎ IsRuling c (next_slot ruling)
  one_rules d c before has torn = ⊎_elim
      (λ (still : Rules c other at ruling × IsClosedAt c at). inl (rules_own c other at ruling (slots_turned at other slots) still.0))
      (λ (next : Rules c at other (next_slot ruling)). inr (rules_own c at other (next_slot ruling) slots next))
      (opens_one d c before has torn)

  -- the next one does where the gate is open
  pub next_rules : (d c : List ℕ) → Rules d other at ruling × IsClosedAt d at → Has d (at + 1) (take 16 (drop 1 text)) → Wrote at (165 ∷ []) d c → IsRuling c (next_slot ruling)
  next_rules d c before has wrote = ⊎_elim
      (λ (still : Rules c other at ruling × IsClosedAt c at). absurd (still.1 (one_of c at 165 wrote.has)))
      (λ (next : Rules c at other (next_slot ruling)). rules_own c at other (next_slot ruling) slots next)
      (opens_one d c before has wrote.rest)

  -- a crash while it is written
  pub behind_turns : {D : Type 0} (g : Ghosts D) (old mid : D) → Only (g.seen old) (g.may_leave old) → Rules (g.seen old) other at ruling → IsClosedAt (g.seen old) at
      → LeavesOnly g.moment g.left_since old mid (TornFrom (g.may_leave old) (at + 1) (length (take 16 (drop 1 text)))) → LeavesOnly g.moment g.left_since old mid (TurnsTo ruling (g.may_leave old))
  behind_turns g old mid only r closed moments =
      let below = slots_below at other slots in
      write_turns g ruling (at + 1) (length (take 16 (drop 1 text))) old mid (let n = size in omega (arith, below, n)) only
      (λ c torn. inl (rules_own c other at ruling (slots_turned at other slots) (behind_gate (g.seen old) c r closed torn).0)) moments
