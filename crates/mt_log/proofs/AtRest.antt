-- What a crash leaves of a log's area, in the words of its callers.
use Rattle.std.proofs.Common.{◌≡◌, inl, inr, ℕ, ◌-◌, ◌<◌, List, [], refl, subst, arith, false}
use Rattle.mt_disk.specs.declared.device.Device.{Ghosts}
use Rattle.mt_disk.specs.Disk.{LeavesOnly}
use Rattle.mt_disk.proofs.Frame.{runs_both, leaves_more}
use Rattle.mt_frame.specs.declared.records.Record.{Record}
use Rattle.mt_log.specs.Batch.{Scans}
use Rattle.mt_log.specs.Area.{Area, ScansWithOrWithout, TornFrom, AreaBegins}
use Rattle.mt_log.specs.Words.{seen_of, durable_batches, in_flight, area_start, area_end, area_size, calls_left, calls_after, has_failed, is_failed, coming, batch_of, IsOn}
use Rattle.mt_log.specs.declared.log.Log.{Log}
use Rattle.mt_log.specs.declared.stage.Step.{Step}
use Rattle.mt_log.specs.declared.stage.Step.TheVariants.{WriteBody, SyncBody, WriteGate, SyncGate}
use Rattle.mt_log.specs.declared.stage.Stage.{Stage}
use Rattle.mt_log.specs.declared.stage.Stage.TheVariants.{Idle, Forcing, Failed}
use Rattle.mt_log.proofs.Steps.{leaves}
use Rattle.mt_log.proofs.Settled.{leaves_coming, batches_in}

module _ {D : Type 0} (g : Ghosts D) (log : Log) (device : D) where
  -- the durable batches, with the one that comes or without
  pub scans_coming : IsOn g log device → (c : List ℕ) → g.may_leave device c → ScansWithOrWithout (area_start log) (area_end log) (durable_batches log) (coming log) c
  unfolding IsOn seen_of
  scans_coming on c left = leaves_coming (g.seen device) (g.may_leave device) log.place.start log.place.end log.next (batches_in log) log.in_flight.items log.waiting.items log.stage on c left

  -- the durable batches, with the one that is being forced or without
  pub scans_forced : IsOn g log device → (c : List ℕ) → g.may_leave device c → ScansWithOrWithout (area_start log) (area_end log) (durable_batches log) (in_flight log) c
  unfolding IsOn seen_of
  scans_forced on c left = leaves (g.seen device) (g.may_leave device) log.place.start log.place.end log.next (batches_in log) log.in_flight.items log.stage on c left

no_calls : (step : Step) → calls_after (Forcing step) ≡ 0 → ⊥
no_calls WriteBody is = cc
no_calls SyncBody is = cc
no_calls WriteGate is = cc
no_calls SyncGate is = cc

idle_scans : (seen : List ℕ) (may : List ℕ → Type 0) (start end next : ℕ) (bs : List (List Record)) (b : List Record) (stage : Stage) → Area seen may start end next bs b stage → calls_after stage ≡ 0 → is_failed stage ≡ false → (c : List ℕ) → may c → Scans c start end bs
idle_scans seen may start end next bs b Idle a none well c left = (next, a.front c left, a.room, a.outcome c left)
idle_scans seen may start end next bs b (Forcing step) a none well c left = absurd (no_calls step none)
idle_scans seen may start end next bs b Failed a none well c left = absurd (cc)

-- where nothing is being forced, the durable batches
pub scans_at_rest : {D : Type 0} (g : Ghosts D) (log : Log) (device : D) → IsOn g log device → calls_left log ≡ 0 → has_failed log ≡ false
    → (c : List ℕ) → g.may_leave device c → Scans c (area_start log) (area_end log) (durable_batches log)
unfolding IsOn seen_of
scans_at_rest g log device on none well c left = idle_scans (g.seen device) (g.may_leave device) log.place.start log.place.end log.next (batches_in log) log.in_flight.items log.stage on none well c left

coming_forced : (stage : Stage) (wait flight : List Record) → 0 < calls_after stage → batch_of stage wait flight ≡ flight
coming_forced Idle wait flight some = absurd (omega arith)
coming_forced (Forcing step) wait flight some = refl
coming_forced Failed wait flight some = refl

-- what comes is what is being forced
pub coming-in_flight : (log : Log) → 0 < calls_left log → coming log ≡ in_flight log
unfolding seen_of
coming-in_flight log some = coming_forced log.stage log.waiting.items log.in_flight.items some

-- a step more of a force
pub scans_more : {D : Type 0} (g : Ghosts D) (old mid new : D) (start start2 end end2 : ℕ) (bs bs2 : List (List Record)) (b b2 : List Record) → start2 ≡ start → end2 ≡ end → bs2 ≡ bs → b2 ≡ b
    → LeavesOnly g.moment g.left_since old mid (ScansWithOrWithout start end bs b) → LeavesOnly g.moment g.left_since mid new (ScansWithOrWithout start2 end2 bs2 b2) → LeavesOnly g.moment g.left_since old new (ScansWithOrWithout start end bs b)
scans_more g old mid new start start2 end end2 bs bs2 b b2 s e l n first second =
    runs_both g.moment g.left_since old mid new (ScansWithOrWithout start end bs b) first
    (leaves_more g.moment g.left_since mid new (ScansWithOrWithout start2 end2 bs2 b2) (ScansWithOrWithout start end bs b) second
    (λ c scans. subst (λ (k : ℕ). ScansWithOrWithout k end bs b c) s
    (subst (λ (k : ℕ). ScansWithOrWithout start2 k bs b c) e
    (subst (λ (k : List (List Record)). ScansWithOrWithout start2 end2 k b c) l
    (subst (λ (k : List Record). ScansWithOrWithout start2 end2 bs2 k c) n scans)))))

-- an area begins: its first gate is closed, and then its batch is forced
pub area_begins : {D : Type 0} (g : Ghosts D) (old mid new : D) (contents : List ℕ → Type 0) (start end s e : ℕ) (images b : List Record) (bs : List (List Record)) → s ≡ start → e ≡ end → bs ≡ [] → b ≡ images
    → LeavesOnly g.moment g.left_since old mid (TornFrom contents start 1) → LeavesOnly g.moment g.left_since mid new (ScansWithOrWithout s e bs b) → LeavesOnly g.moment g.left_since old new (AreaBegins contents start end images)
area_begins g old mid new contents start end s e images b bs s_is e_is bs_is b_is first second =
    runs_both g.moment g.left_since old mid new (AreaBegins contents start end images)
    (leaves_more g.moment g.left_since old mid (TornFrom contents start 1) (AreaBegins contents start end images) first (λ c torn. inl torn))
    (leaves_more g.moment g.left_since mid new (ScansWithOrWithout s e bs b) (AreaBegins contents start end images) second
    (λ c scans. inr (subst (λ (k : ℕ). ScansWithOrWithout k end [] images c) s_is
    (subst (λ (k : ℕ). ScansWithOrWithout s k [] images c) e_is
    (subst (λ (k : List (List Record)). ScansWithOrWithout s e k images c) bs_is
    (subst (λ (k : List Record). ScansWithOrWithout s e bs k c) b_is scans))))))

-- the area's size is from where it begins to where it ends
pub size_of : (log : Log) → area_size log ≡ area_end log - area_start log
unfolding seen_of
size_of log = refl
