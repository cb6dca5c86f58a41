use Rattle.std.proofs.lemmas.Result.{IfOk-weaker}
use Rattle.mt_disk.specs.Crash.{front_half, all_bytes}
use Rattle.mt_disk.proofs.InTurn.{in_turn-unsynced, front-short, all-short}
use Rattle.mt_disk.proofs.memory.MemDevice.crash.Goals as goal

pub returns-in-FrontHalf-clause-may : goal.returns-in-FrontHalf-clause-may
returns-in-FrontHalf-clause-may c =
    let s = c.args.self.now.state in
    IfOk-weaker c.fronts.result _ _ (λ v left. in_turn-unsynced (front_half s.written.items) (front-short s.written.items) s.writes.items s.synced.items v.items left) c.fronts.ensures

pub returns-in-Byte-clause-may : goal.returns-in-Byte-clause-may
returns-in-Byte-clause-may c =
    let s = c.args.self.now.state in
    let byte = c.in-Byte.byte in
    IfOk-weaker c.blotted.result _ _ (λ v left. in_turn-unsynced (all_bytes byte) (all-short byte) s.writes.items s.synced.items v.items left) c.blotted.ensures
