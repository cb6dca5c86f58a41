-- What a log knows of its area is a fact that has one proof, so that a type may keep it as its invariant.
use Rattle.std.specs.Prelude.{ℕ, ◌+◌, List, [], ◌∷◌, length}
use Rattle.std.proofs.Props.{props}
use Rattle.mt_disk.specs.declared.device.Device.{Ghosts}
use Rattle.mt_disk.specs.Disk.{Has}
use Rattle.mt_frame.specs.declared.records.Record.{Record}
use Rattle.mt_frame.specs.Grammar.{body_text, batch_text}
use Rattle.mt_log.specs.Batch.{Stands}
use Rattle.mt_log.specs.Area.{Area, Outcome, Present}
use Rattle.mt_log.specs.Words.{IsOn}
use Rattle.mt_log.specs.declared.log.Log.{Log}
use Rattle.mt_log.specs.declared.stage.Step.TheVariants.{WriteBody, SyncBody, WriteGate, SyncGate}
use Rattle.mt_log.specs.declared.stage.Stage.{Stage}
use Rattle.mt_log.specs.declared.stage.Stage.TheVariants.{Idle, Forcing, Failed}

Has-prop : (c : List ℕ) (p : ℕ) (bytes : List ℕ) → IsProp (Has c p bytes)
Has-prop c p bytes = hlevel props

pub Stands-prop : (c : List ℕ) (p : ℕ) (bs : List (List Record)) (q : ℕ) → IsProp (Stands c p bs q)
Stands-prop c p [] q = hlevel props
Stands-prop c p (b ∷ bs) q =
    hlevel (props, Has-prop c p (batch_text b), Stands-prop c (p + 5 + length (body_text b)) bs q)

pub Outcome-prop : (stage : Stage) (next : ℕ) (batch : List Record) (c : List ℕ) → IsProp (Outcome stage next batch c)
Outcome-prop Idle next batch c = hlevel props
Outcome-prop (Forcing WriteBody) next batch c = hlevel props
Outcome-prop (Forcing SyncBody) next batch c = hlevel props
Outcome-prop (Forcing WriteGate) next batch c = hlevel (props, Has-prop)
Outcome-prop (Forcing SyncGate) next batch c = hlevel (props, Has-prop)
Outcome-prop Failed next batch c = hlevel (props, Has-prop)

pub Present-prop : (stage : Stage) (next : ℕ) (batch : List Record) (c : List ℕ) → IsProp (Present stage next batch c)
Present-prop Idle next batch c = hlevel props
Present-prop (Forcing WriteBody) next batch c = hlevel props
Present-prop (Forcing SyncBody) next batch c = hlevel (props, Has-prop)
Present-prop (Forcing WriteGate) next batch c = hlevel props
Present-prop (Forcing SyncGate) next batch c = hlevel props
Present-prop Failed next batch c = hlevel props

pub Area-prop : (seen : List ℕ) (may_leave : List ℕ → Type 0) (start end next : ℕ) (batches : List (List Record))
    (batch : List Record) (stage : Stage) → IsProp (Area seen may_leave start end next batches batch stage)
Area-prop seen may_leave start end next batches batch stage = hlevel (props, Stands-prop, Outcome-prop, Present-prop)

pub IsOn-prop : {D : Type 0} (g : Ghosts D) (log : Log) (device : D) → IsProp (IsOn g log device)
unfolding IsOn
IsOn-prop g log device = Area-prop (g.seen device) (g.may_leave device) _ _ _ _ _ _
