-- A force that was under way, brought to its end.
use Rattle.std.specs.Prelude.{◌≡◌, IfErr, IsErr, OnOk, Result}
use Rattle.mt_base.specs.declared.refusal.Refusal.{Refusal}
use Rattle.mt_base.specs.declared.refusal.Refusal.TheVariants.{DeviceFailed}
use Rattle.mt_disk.specs.Calls.{HasFailedSince, IsSynced, Meanwhile}
use Rattle.mt_disk.specs.Disk.{Follows, Torn}
use Rattle.mt_disk.specs.declared.device.Device.{Ghosts}
use Rattle.mt_log.specs.Area.{ScansWithOrWithout, TornFrom}
use Rattle.mt_log.specs.Seen.{landed}
use Rattle.mt_log.specs.Words.{LiesOn, area_end, area_size, area_start, seen_of}
use Rattle.mt_log.specs.declared.log.Log.{Log}

module _ {D : Type 0} (g : Ghosts D) where
  -- The force of the log `was` ended so, on device d, and left the log `now` on device e.
  pub record EndsForce {T : Type 0} (was now : Log) (d e : D) (result : Result T Refusal) : Type 0 where
    pub on : LiesOn g now e
    pub start : area_start now ≡ area_start was
    pub end : area_end now ≡ area_end was
    pub log : OnOk result (seen_of now ≡ landed (seen_of was))
    pub alone : OnOk result (IsSynced g e)
    pub quiet : OnOk result (g.faults e ≡ g.faults d)
    pub moments : Meanwhile g d e (TornFrom (g.may_leave d) (area_start was) (area_size was))
    pub scans : let it = seen_of was in Meanwhile g d e (ScansWithOrWithout it.start it.end it.batches it.flight)
    pub elsewhere : Follows (Torn (area_start was) (area_size was)) (g.may_leave d) (g.may_leave e)
    pub rest : Torn (area_start was) (area_size was) (g.seen d) (g.seen e)
    pub cause : IsErr result → HasFailedSince g d e
    pub only_device : IfErr result (λ why. why ≡ DeviceFailed)
