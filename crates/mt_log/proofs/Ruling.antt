-- The two slots say which one rules, and do so while one of them is written.
use Rattle.std.proofs.Common.{◌≡◌, ◌⊎◌, inl, inr, ⊎_elim, ℕ, ◌+◌, ◌-◌, ◌<◌, ◌≤◌, List, length, get_or, take, drop, refl, sym, ap, ◌∙◌, subst, arith, length-drop, length-take-le, get_or-take, get_or-drop}
use Rattle.std.proofs.lemmas.Bool.{cases_eq}
use Rattle.std.specs.Prelude.{Result, Ok, Err, IfOk, IfErr, OnOk}
use Rattle.std.proofs.lemmas.List.{ext_get_or}
use Rattle.mt_base.specs.declared.refusal.Refusal.{Refusal}
use Rattle.mt_base.specs.declared.refusal.Refusal.TheVariants.{DeviceFailed, BadFormat}
use Rattle.mt_disk.specs.Disk.{Has, Torn}
use Rattle.mt_disk.proofs.Frame.{get_torn, has_torn}
use Rattle.mt_frame.specs.Laws.{OneSlot}
use Rattle.mt_frame.specs.SlotText.{slot_text, IsSlot, IsSlotText, IsSlotRead}
use Rattle.mt_frame.specs.declared.slots.SlotRead.TheVariants.{Bad}
use Rattle.mt_base.specs.Limits.{device_bytes_of}
use Rattle.mt_frame.specs.declared.slots.MasterSlot.{MasterSlot}
use Rattle.mt_log.specs.Masters.{AreSlots, IsOfDevice, IsOpenAt, IsClosedAt, IsBefore, IsRuling, Rules, IsNewer, IsBadAt, IsUnformatted}

text_first : (s : MasterSlot) → get_or (slot_text s) 0 0 ≡ 165
text_first s = refl

text_size : (s : MasterSlot) → length (slot_text s) ≡ 17
text_size s = refl

-- one text stands at a place
same_text : (c : List ℕ) (at : ℕ) (s t : MasterSlot) → Has c at (slot_text s) → Has c at (slot_text t) → slot_text s ≡ slot_text t
same_text c at s t one other =
    ext_get_or 0 (slot_text s) (slot_text t) (text_size s ∙ sym (text_size t))
    (λ i lt. sym (one.each i lt) ∙ other.each i (let first = text_size s in let second = text_size t in omega (arith, lt, first, second)))

gate_open : (c : List ℕ) (at : ℕ) (s : MasterSlot) → IsOpenAt c at s → get_or c at 0 ≡ 165
gate_open c at s o = ap (λ (k : ℕ). get_or c k 0) (omega arith) ∙ o.text.each 0 (let size = text_size s in omega arith) ∙ text_first s

pub not_closed : (c : List ℕ) (at : ℕ) (s : MasterSlot) → IsOpenAt c at s → IsClosedAt c at → ⊥
not_closed c at s o closed = closed (gate_open c at s o)

pub long_enough : (c : List ℕ) (at : ℕ) (s : MasterSlot) → IsOpenAt c at s → 8192 ≤ length c
long_enough c at s o = let long = o.long in omega (arith, long)

-- a device on which a slot rules is formatted
pub ruled : (c : List ℕ) (slot : MasterSlot) → IsRuling c slot → IsUnformatted c → ⊥
ruled c slot (inl r) (inl short) = let long = long_enough c 0 slot r.own in omega (arith, long, short)
ruled c slot (inl r) (inr closed) = not_closed c 0 slot r.own closed.0
ruled c slot (inr r) (inl short) = let long = long_enough c 4096 slot r.own in omega (arith, long, short)
ruled c slot (inr r) (inr closed) = not_closed c 4096 slot r.own closed.1

module _ (one_slot : OneSlot) (c : List ℕ) where
  pub one_open : (at : ℕ) (s t : MasterSlot) → IsOpenAt c at s → IsOpenAt c at t → s ≡ t
  one_open at s t o p = one_slot (slot_text s) s t (record { fits = o.fits; text = refl }) (record { fits = p.fits; text = same_text c at s t o.text p.text })

  -- the other one is closed
  alone : (at other : ℕ) (slot it : MasterSlot) → IsOpenAt c at it → IsClosedAt c other → Rules c at other slot ⊎ Rules c other at slot → it ≡ slot
  alone at other slot it o closed = ⊎_elim
      (λ (r : Rules c at other slot). one_open at it slot o r.own)
      (λ (r : Rules c other at slot). absurd (not_closed c other slot r.own closed))

  pub first_alone : (slot it : MasterSlot) → IsOpenAt c 0 it → IsClosedAt c 4096 → IsRuling c slot → it ≡ slot
  first_alone slot it o closed r = alone 0 4096 slot it o closed r

  pub second_alone : (slot it : MasterSlot) → IsClosedAt c 0 → IsOpenAt c 4096 it → IsRuling c slot → it ≡ slot
  second_alone slot it closed o r = alone 4096 0 slot it o closed (⊎_elim (λ (a : Rules c 0 4096 slot). inr a) (λ (b : Rules c 4096 0 slot). inl b) r)

  -- both are open
  over : (at other : ℕ) (slot it beside : MasterSlot) → IsOpenAt c at it → IsOpenAt c other beside → Rules c at other slot → (slot ≡ it) × IsBefore beside it
  over at other slot it beside o p r =
      let same = one_open at slot it r.own o in (
        same,
        ⊎_elim
            (λ (closed : IsClosedAt c other). absurd (not_closed c other beside p closed))
            (λ (b : (older : MasterSlot) × IsOpenAt c other older × IsBefore older slot). subst (λ (x : MasterSlot). IsBefore x it) (one_open other b.0 beside b.1 p) (subst (λ (x : MasterSlot). IsBefore b.0 x) same b.2))
            r.beside,
      )

  rules_newer : (first second slot : MasterSlot) → IsOpenAt c 0 first → IsOpenAt c 4096 second → IsRuling c slot → ((slot ≡ first) × IsBefore second first) ⊎ ((slot ≡ second) × IsBefore first second)
  rules_newer first second slot o p = ⊎_elim
      (λ (r : Rules c 0 4096 slot). inl (over 0 4096 slot first second o p r))
      (λ (r : Rules c 4096 0 slot). inr (over 4096 0 slot second first p o r))

  -- the newer one is found, and none is refused
  found_newer : (first second slot it : MasterSlot) → ((it ≡ first) × IsBefore second first) ⊎ ((it ≡ second) × IsBefore first second) → ((slot ≡ first) × IsBefore second first) ⊎ ((slot ≡ second) × IsBefore first second) → it ≡ slot
  found_newer first second slot it (inl a) (inl b) = a.0 ∙ sym b.0
  found_newer first second slot it (inr a) (inr b) = a.0 ∙ sym b.0
  found_newer first second slot it (inl a) (inr b) = absurd (let x = a.1.epoch in let y = b.1.epoch in omega arith)
  found_newer first second slot it (inr a) (inl b) = absurd (let x = a.1.epoch in let y = b.1.epoch in omega arith)

  pub newer_found : (first second slot : MasterSlot) (r : Result MasterSlot Refusal) → IsOpenAt c 0 first → IsOpenAt c 4096 second → IsRuling c slot → IsNewer first second r → IfOk r (λ it. it ≡ slot)
  newer_found first second slot (Ok it) o p rules is = found_newer first second slot it is (rules_newer first second slot o p rules)
  newer_found first second slot (Err why) o p rules is = tt

  pub newer_fine : (first second slot : MasterSlot) (r : Result MasterSlot Refusal) → IsOpenAt c 0 first → IsOpenAt c 4096 second → IsRuling c slot → IsNewer first second r → IfErr r (λ why. why ≡ DeviceFailed)
  newer_fine first second slot (Ok it) o p rules is = tt
  newer_fine first second slot (Err why) o p rules is = absurd (⊎_elim (λ (a : (slot ≡ first) × IsBefore second first). is.2 a.1) (λ (b : (slot ≡ second) × IsBefore first second). is.1 b.1) (rules_newer first second slot o p rules))

-- where a slot rules, none is bad
pub not_bad : (c : List ℕ) (at other : ℕ) (slot : MasterSlot) → IsBadAt c at → Rules c at other slot ⊎ Rules c other at slot → ⊥
not_bad c at other slot bad = ⊎_elim
    (λ (r : Rules c at other slot). bad.none slot r.own)
    (λ (r : Rules c other at slot). ⊎_elim (λ (closed : IsClosedAt c at). closed bad.gate) (λ (b : (older : MasterSlot) × IsOpenAt c at older × IsBefore older slot). bad.none b.0 b.1) r.beside)

pub none_bad : (c : List ℕ) (at : ℕ) (slot : MasterSlot) → ((at ≡ 0) ⊎ (at ≡ 4096)) → IsBadAt c at → IsRuling c slot → ⊥
none_bad c at slot which bad r = ⊎_elim
    (λ (z : at ≡ 0). not_bad c 0 4096 slot (subst (IsBadAt c) z bad) r)
    (λ (s : at ≡ 4096). not_bad c 4096 0 slot (subst (IsBadAt c) s bad) (⊎_elim (λ (a : Rules c 0 4096 slot). inr a) (λ (b : Rules c 4096 0 slot). inl b) r))
    which

-- what a read slot is refused with, where a slot rules
pub only_faults : (c : List ℕ) (at : ℕ) (slot : MasterSlot) (why : Refusal) (more : Type 0) → ((at ≡ 0) ⊎ (at ≡ 4096)) → IsRuling c slot → ((why ≡ DeviceFailed) × more) ⊎ ((why ≡ BadFormat at) × IsBadAt c at) → why ≡ DeviceFailed
only_faults c at slot why more which r (inl failed) = failed.0
only_faults c at slot why more which r (inr bad) = absurd (none_bad c at slot which bad.1 r)

-- ---- what is read at a place

read_text : (c : List ℕ) (at : ℕ) (bytes : List ℕ) (s : MasterSlot) → length bytes ≡ 17 → Has c at bytes → Has c at (slot_text s) → bytes ≡ slot_text s
read_text c at bytes s size read there =
    ext_get_or 0 bytes (slot_text s) (size ∙ sym (text_size s))
    (λ i lt. sym (read.each i lt) ∙ there.each i (let second = text_size s in omega (arith, lt, size, second)))

read_gate : (c : List ℕ) (at : ℕ) (bytes : List ℕ) → length bytes ≡ 17 → Has c at bytes → get_or bytes 0 0 ≡ 165 → get_or c at 0 ≡ 165
read_gate c at bytes size read first = ap (λ (k : ℕ). get_or c k 0) (omega arith) ∙ read.each 0 (omega arith) ∙ first

pub read_bad : (c : List ℕ) (at : ℕ) (bytes : List ℕ) → length bytes ≡ 17 → Has c at bytes → IsSlotRead bytes Bad → IsBadAt c at
read_bad c at bytes size read bad = record {
  gate = read_gate c at bytes size read bad.0;
  none = λ s o. bad.1 s (record { fits = o.fits; text = read_text c at bytes s size read o.text });
}

pub read_short : OneSlot → (c : List ℕ) (at : ℕ) (bytes : List ℕ) (slot : MasterSlot) → length bytes ≡ 17 → Has c at bytes → IsSlotText bytes slot → length c < device_bytes_of slot.pages slot.mib → IsBadAt c at
read_short one_slot c at bytes slot size read is short = record {
  gate = read_gate c at bytes size read (ap (λ (l : List ℕ). get_or l 0 0) is.text ∙ text_first slot);
  none = λ s o.
      let same = one_slot bytes s slot (record { fits = o.fits; text = read_text c at bytes s size read o.text }) is in
      let long : device_bytes_of slot.pages slot.mib ≤ length c = subst (λ (x : MasterSlot). device_bytes_of x.pages x.mib ≤ length c) same o.long in
      omega (arith, long, short);
}

pub on_ok : {T E : Type 0} (r : Result T E) (x : T) (P : Type 0) → r ≡ Ok x → OnOk r P → P
on_ok {T} {E} r x P is on = subst (λ (s : Result T E). OnOk s P) is on

-- ---- while one of them is written

-- what is torn stays as long
long_torn : (p n : ℕ) (d c : List ℕ) (s : MasterSlot) → Torn p n d c → IsOfDevice d s → IsOfDevice c s
long_torn p n d c s t long = let size = t.size in omega (arith, long, size)

long_before : (c : List ℕ) (old next : MasterSlot) → IsBefore old next → IsOfDevice c old → IsOfDevice c next
long_before c old next before long = subst (λ (p : ℕ). device_bytes_of p next.mib ≤ length c) before.pages (subst (λ (m : ℕ). device_bytes_of old.pages m ≤ length c) before.mib long)

pub apart_of : (at other : ℕ) → AreSlots at other → (at + 17 ≤ other) ⊎ (other + 17 ≤ at)
apart_of at other = ⊎_elim (λ (first : (at ≡ 0) × (other ≡ 4096)). inl (omega (arith, first.0, first.1))) (λ (second : (at ≡ 4096) × (other ≡ 0)). inr (omega (arith, second.0, second.1)))

module _ (at other : ℕ) (apart : (at + 17 ≤ other) ⊎ (other + 17 ≤ at)) where
  -- bytes that are torn within the range of the slot at `at` leave that at `other`
  other_torn : (p n : ℕ) (d c : List ℕ) (s : MasterSlot) → at ≤ p → p + n ≤ at + 17 → Torn p n d c → IsOpenAt d other s → IsOpenAt c other s
  other_torn p n d c s low high t o = record { fits = o.fits; long = long_torn p n d c s t o.long; text = has_torn p n other (slot_text s) d c o.text t (let size = text_size s in ⊎_elim (λ before. inr (omega arith)) (λ behind. inl (omega arith)) apart) }

  -- the gate of an open slot is written: it stays open, or is closed
  gate_torn : (d c : List ℕ) (s : MasterSlot) → Torn at 1 d c → IsOpenAt d at s → IsClosedAt c at ⊎ IsOpenAt c at s
  gate_torn d c s t o = elim (cases_eq (get_or c at 0) 165) [
    | inl here ↦ inr (record {
      fits = o.fits;
      long = long_torn at 1 d c s t o.long;
      text = record {
        within = let w = o.text.within in let n = t.size in omega arith;
        each = λ i lt. elim (cases_eq i 0) [
          | inl first ↦ ap (λ (k : ℕ). get_or c (at + k) 0) first ∙ ap (λ (k : ℕ). get_or c k 0) (omega arith) ∙ here ∙ sym (text_first s) ∙ sym (ap (λ (k : ℕ). get_or (slot_text s) k 0) first)
          | inr later ↦ get_torn at 1 (at + i) d c t (inr (omega arith)) ∙ o.text.each i lt
        ];
      };
    })
    | inr closed ↦ inl closed
  ]

  -- an open slot that does not rule is closed
  pub close_one : (d c : List ℕ) (slot older : MasterSlot) → Rules d other at slot → IsOpenAt d at older → Torn at 1 d c → Rules c other at slot
  close_one d c slot older r o t = record {
    own = other_torn at 1 d c slot (omega arith) (omega arith) t r.own;
    beside = ⊎_elim
        (λ (closed : IsClosedAt d at). absurd (closed (gate_open d at older o)))
        (λ (b : (e : MasterSlot) × IsOpenAt d at e × IsBefore e slot). ⊎_elim (λ closed. inl closed) (λ still. inr (b.0, still, b.2)) (gate_torn d c b.0 t b.1))
        r.beside;
  }

  -- the bytes behind a closed gate are written
  pub record IsBehind (c : List ℕ) (old : MasterSlot) : Type 0 where
    pub rules : Rules c other at old
    pub closed : IsClosedAt c at

  pub behind_one : (d c : List ℕ) (old : MasterSlot) → Rules d other at old → IsClosedAt d at → Torn (at + 1) 16 d c → IsBehind c old
  behind_one d c old r closed t =
      let still : IsClosedAt c at = λ is. closed (sym (get_torn (at + 1) 16 at d c t (inl (omega arith))) ∙ is) in
      record { rules = record { own = other_torn (at + 1) 16 d c old (omega arith) (omega arith) t r.own; beside = inl still }; closed = still }

  -- then the gate
  pub gate_one : (d c : List ℕ) (old next : MasterSlot) (text : List ℕ) → text ≡ slot_text next → IsSlot next → IsBefore old next → IsBehind d old → Has d (at + 1) (take 16 (drop 1 text)) → Torn at 1 d c → IsBehind c old ⊎ Rules c at other next
  gate_one d c old next text is fits before b has t = elim (cases_eq (get_or c at 0) 165) [
    | inl here ↦ inr (record {
      own = record {
        fits = fits;
        long = long_before c old next before (other_torn at 1 d c old (omega arith) (omega arith) t b.rules.own).long;
        text = record {
          within = let w = has.within in let n = t.size in let size = text_size next in let long = ap length is in let rest = length-drop 1 text in let part = length-take-le 16 (drop 1 text) (omega arith) in omega arith;
          each = λ i lt. elim (cases_eq i 0) [
            | inl first ↦ ap (λ (k : ℕ). get_or c (at + k) 0) first ∙ ap (λ (k : ℕ). get_or c k 0) (omega arith) ∙ here ∙ sym (text_first next) ∙ sym (ap (λ (k : ℕ). get_or (slot_text next) k 0) first)
            | inr later ↦
                let size = text_size next in let long = ap length is in let rest = length-drop 1 text in let part = length-take-le 16 (drop 1 text) (omega arith) in
                get_torn at 1 (at + i) d c t (inr (omega arith))
                ∙ ap (λ (k : ℕ). get_or d k 0) (omega arith)
                ∙ has.each (i - 1) (omega arith)
                ∙ get_or-take 16 (drop 1 text) (i - 1) 0 (omega arith) ∙ get_or-drop 1 text (i - 1) 0
                ∙ ap (λ (k : ℕ). get_or text k 0) (omega arith) ∙ ap (λ (l : List ℕ). get_or l i 0) is
          ];
        };
      };
      beside = inr (old, other_torn at 1 d c old (omega arith) (omega arith) t b.rules.own, before);
    })
    | inr closed ↦ inl (record { rules = record { own = other_torn at 1 d c old (omega arith) (omega arith) t b.rules.own; beside = inl closed }; closed = closed })
  ]

pub behind_size : (text : List ℕ) (s : MasterSlot) → text ≡ slot_text s → length (take 16 (drop 1 text)) ≡ 16
behind_size text s is = let size = text_size s in let long = ap length is in let rest = length-drop 1 text in length-take-le 16 (drop 1 text) (omega arith)

-- ---- where bytes behind a slot are torn

module _ (at n : ℕ) (d c : List ℕ) (torn : Torn at n d c) (place : ℕ) (below : place + 17 ≤ at) where
  open_below : (s : MasterSlot) → IsOpenAt d place s → IsOpenAt c place s
  open_below s o = record {
    fits = o.fits;
    text = has_torn at n place (slot_text s) d c o.text torn (inl (let size = text_size s in omega (arith, below, size)));
    long = let size = torn.size in let long = o.long in omega (arith, long, size);
  }

  closed_below : IsClosedAt d place → IsClosedAt c place
  closed_below closed = λ is. closed (sym (get_torn at n place d c torn (inl (omega (arith, below)))) ∙ is)

rules_below : (at n : ℕ) (d c : List ℕ) → Torn at n d c → (place other : ℕ) → place + 17 ≤ at → other + 17 ≤ at → (slot : MasterSlot) → Rules d place other slot → Rules c place other slot
rules_below at n d c torn place other below beside slot r = record {
  own = open_below at n d c torn place below slot r.own;
  beside = ⊎_elim
      (λ (closed : IsClosedAt d other). inl (closed_below at n d c torn other beside closed))
      (λ b. inr (b.0, open_below at n d c torn other beside b.0 b.1, b.2))
      r.beside;
}

pub ruling_elsewhere : (at n : ℕ) (d c : List ℕ) (slot : MasterSlot) → IsRuling d slot → Torn at n d c → 8192 ≤ at → IsRuling c slot
ruling_elsewhere at n d c slot r torn behind = ⊎_elim
    (λ (first : Rules d 0 4096 slot). inl (rules_below at n d c torn 0 4096 (omega arith) (omega arith) slot first))
    (λ (second : Rules d 4096 0 slot). inr (rules_below at n d c torn 4096 0 (omega arith) (omega arith) slot second))
    r
