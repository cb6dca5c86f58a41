-- What a scan admits of a body that it has read.
use Rattle.std.specs.Global.{Global}
use Rattle.std.specs.Prelude.{◌≡◌, ◌++◌, ℕ, Bool, List, Option, Result, IfErr, IfNone, IfOk, IfSome, Vec}
use Rattle.mt_base.specs.declared.refusal.Refusal.{Refusal}
use Rattle.mt_frame.specs.Grammar.{IsBodyOf}
use Rattle.mt_base.specs.declared.format.Format.{Format}
use Rattle.mt_area_rules.specs.History.{MayFollow}
use Rattle.mt_area_rules.specs.Known.{Knows}
use Rattle.mt_area_rules.specs.declared.area_rules.AreaRules.{AreaRules}
use Rattle.mt_frame.specs.declared.records.Record.{Record}
use Rattle.mt_log.specs.Holds.{AreRecords}

-- these records are the row that the body is, may stand after those that are known, and are known then
pub record AreAdmitted (format : Format) (body : List ℕ) (pages : ℕ) (first : Bool) (old new : AreaRules)
    (records : List Record) : Type 0 where
  pub row : IsBodyOf format body records
  pub each : AreRecords pages records
  pub may : (earlier : List Record) → Knows old earlier → MayFollow first earlier records
  pub known : (earlier : List Record) → Knows old earlier → Knows new (earlier ++ records)

-- the records of a body are admitted; none are if it is no row of records that may stand there
pub record Admits (format : Format) (body : List ℕ) (pages : ℕ) (first : Bool) (old new : AreaRules)
    (r : Result (Option (Vec Record Global)) Refusal) : Type 0 where
  pub some : IfOk r (λ o. IfSome o (λ records. AreAdmitted format body pages first old new records.items))
  pub none : IfOk r (λ o. IfNone o ((records earlier : List Record) → Knows old earlier → IsBodyOf format body records
      → AreRecords pages records → MayFollow first earlier records → ⊥))
  pub only_memory : IfErr r (λ why. why ≡ Refusal.NoMemory)
