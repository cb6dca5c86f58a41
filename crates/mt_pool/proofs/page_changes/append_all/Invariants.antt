use Rattle.std.proofs.Common.{◌≡◌, ◌≤◌, ◌<◌, ◌+◌, ◌++◌, ℕ, List, length, drop, false}
use Rattle.std.specs.List.{AllByRecursion}
use Rattle.mt_base.specs.Edits.{patched}
use Rattle.mt_frame.specs.declared.records.Record.{Record}
use Rattle.mt_frame.specs.Grammar.{IsRecord}
use Rattle.mt_area_rules.specs.History.{MayFollow}
use Rattle.mt_frame.specs.PageRecords.{change_records, lent_image}
use Rattle.mt_log.specs.Holds.{HasItsPage}
use Rattle.mt_log.specs.Sound.{IsSound}
use Rattle.mt_log.specs.Words.{appended, used, area_size, room}
use Rattle.mt_pool.specs.Writes.{lent_records, records_size, IsLonger}
use Rattle.mt_pool.proofs.page_changes.append_all.Given as goal

abbrev pub invariant-loop-edit : goal.invariant-loop-edit
invariant-loop-edit l =
    let rest = change_records l.change.txn l.change.op l.change.page (lent_image l.image) l.change.old.now (patched l.edits l.change.old.now) (drop l.edit-index l.edits) in
    record {
      done : (front : List Record) × (lent_records l.change l.edits ≡ front ++ rest) × IsLonger l.fn.log l.log front × (used l.log ≡ used l.fn.log + records_size front);
      place : 0 < l.edit-index → l.place ≡ length (appended l.log);
      area : area_size l.log ≡ area_size l.fn.log;
      each : AllByRecursion IsRecord rest;
      room : records_size rest ≤ room l.log + 5;
      sound : (pages : ℕ) → IsSound pages l.fn.log → AllByRecursion (HasItsPage pages) (lent_records l.change l.edits) → MayFollow false (appended l.fn.log) (lent_records l.change l.edits) → IsSound pages l.log;
    }
