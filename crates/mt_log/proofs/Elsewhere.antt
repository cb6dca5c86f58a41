-- What others do on the same device.
use Rattle.std.proofs.Common.{◌≡◌, inl, inr, ⊎_elim, ℕ, ◌+◌, ◌-◌, ◌<◌, ◌≤◌, List, [], ◌∷◌, ◌++◌, length, get_or, sym, ◌∙◌, subst, arith}
use Rattle.mt_disk.specs.declared.device.Device.{Ghosts}
use Rattle.mt_disk.specs.Disk.{Torn, Follows, Apart}
use Rattle.mt_disk.proofs.Frame.{has_torn, get_torn}
use Rattle.mt_frame.specs.declared.records.Record.{Record}
use Rattle.mt_frame.specs.Grammar.{body_text, batch_text}
use Rattle.mt_log.specs.Batch.{framed, Stands}
use Rattle.mt_log.specs.Area.{Area, Body, Outcome, Present, gate_behind}
use Rattle.mt_log.specs.declared.stage.Step.TheVariants.{WriteBody, SyncBody, WriteGate, SyncGate}
use Rattle.mt_log.specs.declared.stage.Stage.{Stage}
use Rattle.mt_log.specs.declared.stage.Stage.TheVariants.{Idle, Forcing, Failed}
use Rattle.mt_log.specs.Words.{seen_of, IsOn, area_start, area_size, stands_at}
use Rattle.mt_log.specs.declared.log.Log.{Log}
use Rattle.mt_log.proofs.Steps.{stands_le, length-framed, length-closed}

-- a row in [start, end) stays where a write goes elsewhere
pub stands_apart : (at n start end : ℕ) (old new : List ℕ) (p : ℕ) (bs : List (List Record)) (q : ℕ) → Torn at n old new → Apart at n start (end - start) → start ≤ p → q ≤ end → Stands old p bs q → Stands new p bs q
stands_apart at n start end old new p [] q t apart lo hi s = s
stands_apart at n start end old new p (b ∷ bs) q t apart lo hi s =
    let len : length (framed b) ≡ 4 + length (body_text b) = length-framed b in
    let more : p + 5 + length (body_text b) ≤ q = stands_le old (p + 5 + length (body_text b)) bs q s.1 in (
      has_torn at n p (batch_text b) old new s.0 t (⊎_elim (λ before. inl (omega arith)) (λ after. inr (omega arith)) apart),
      stands_apart at n start end old new (p + 5 + length (body_text b)) bs q t apart (omega arith) hi s.1,
    )

module _ (at n start end next : ℕ) (batch : List Record) (old new : List ℕ) (t : Torn at n old new) (apart : Apart at n start (end - start)) (lo : start ≤ next) where
  gate_apart : next < end → get_or new next 0 ≡ get_or old next 0
  gate_apart lt = get_torn at n next old new t (⊎_elim (λ before. inl (omega arith)) (λ after. inr (omega arith)) apart)

  body_apart : next + 5 + length (body_text batch) < end → Body old next batch → Body new next batch
  body_apart room b = has_torn at n (next + 1) (framed batch ++ 0 ∷ []) old new b t
      (let len : length (framed batch ++ 0 ∷ []) ≡ 5 + length (body_text batch) = length-closed batch in ⊎_elim (λ before. inl (omega arith)) (λ after. inr (omega arith)) apart)

  outcome_apart : (stage : Stage) → gate_behind stage next batch < end → Outcome stage next batch old → Outcome stage next batch new
  outcome_apart Idle room o = λ is. o (sym (gate_apart room) ∙ is)
  outcome_apart (Forcing WriteBody) room o = λ is. o (sym (gate_apart (omega arith)) ∙ is)
  outcome_apart (Forcing SyncBody) room o = λ is. o (sym (gate_apart (omega arith)) ∙ is)
  outcome_apart (Forcing WriteGate) room o = ((λ is. o.0 (sym (gate_apart (omega arith)) ∙ is)), body_apart room o.1)
  outcome_apart (Forcing SyncGate) room o = body_apart room o
  outcome_apart Failed room o = λ is. body_apart room (o (sym (gate_apart (omega arith)) ∙ is))

  present_apart : (stage : Stage) → gate_behind stage next batch < end → Present stage next batch old → Present stage next batch new
  present_apart Idle room o = tt
  present_apart (Forcing WriteBody) room o = tt
  present_apart (Forcing SyncBody) room o = body_apart room o
  present_apart (Forcing WriteGate) room o = tt
  present_apart (Forcing SyncGate) room o = gate_apart (omega arith) ∙ o
  present_apart Failed room o = tt

pub next_within : (stage : Stage) (next end : ℕ) (batch : List Record) → gate_behind stage next batch < end → next < end
next_within Idle next end batch room = room
next_within (Forcing step) next end batch room = omega arith
next_within Failed next end batch room = omega arith

-- A call elsewhere on the device, a write outside of the area or a sync, leaves all that the log knows.
pub area_elsewhere : (at n : ℕ) (seen seen2 : List ℕ) (may may2 : List ℕ → Type 0) (start end next : ℕ) (bs : List (List Record)) (batch : List Record) (stage : Stage)
    → Area seen may start end next bs batch stage → Apart at n start (end - start) → Torn at n seen seen2 → Follows (Torn at n) may may2 → Area seen2 may2 start end next bs batch stage
area_elsewhere at n seen seen2 may may2 start end next bs batch stage a apart t f = record {
  within = let s = t.size in let h = a.within in omega arith;
  order = a.order;
  room = a.room;
  front = λ c left. let from : (d : List ℕ) × may d × Torn at n d c = f c left in
      stands_apart at n start end from.0 c start bs next from.2 apart (omega arith) (let lt = next_within stage next end batch a.room in omega arith) (a.front from.0 from.1);
  outcome = λ c left. let from : (d : List ℕ) × may d × Torn at n d c = f c left in
      outcome_apart at n start end next batch from.0 c from.2 apart a.order stage a.room (a.outcome from.0 from.1);
  present = present_apart at n start end next batch seen seen2 t apart a.order stage a.room a.present;
}

-- the same, of a log and its device
pub on_elsewhere : {D : Type 0} (g : Ghosts D) (log : Log) (old new : D) (at n : ℕ) → IsOn g log old → Apart at n (area_start log) (area_size log)
    → Torn at n (g.seen old) (g.seen new) → Follows (Torn at n) (g.may_leave old) (g.may_leave new) → IsOn g log new
unfolding IsOn seen_of
on_elsewhere g log old new at n on apart torn follows =
    area_elsewhere at n (g.seen old) (g.seen new) (g.may_leave old) (g.may_leave new) log.place.start log.place.end log.next _ log.in_flight.items log.stage on apart torn follows

-- a log of which the same is known, as after an append, is on the device as well
pub on_same : {D : Type 0} (g : Ghosts D) (old new : Log) (device : D) → stands_at new ≡ stands_at old → IsOn g old device → IsOn g new device
unfolding IsOn seen_of
on_same g old new device same on =
    subst (λ (s : ℕ × ℕ × ℕ × List (List Record) × List Record × Stage). Area (g.seen device) (g.may_leave device) s.0 s.1 s.2 s.3 s.4 s.5) (sym same) on
