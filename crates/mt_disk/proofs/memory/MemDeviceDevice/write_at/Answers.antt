use Rattle.std.proofs.Common.{ℕ, List, length, vec_len, subst, sym, arith}
use Rattle.mt_disk.specs.Memory.{Leaves}
use Rattle.mt_disk.specs.Unsynced.{Unsynced}
use Rattle.mt_disk.specs.declared.memory.Write.{Write}
use Rattle.mt_disk.proofs.Kept.{unsynced_more, crash_before}
use Rattle.mt_disk.proofs.Past.{elapses_to}
use Rattle.mt_disk.proofs.memory.MemDeviceDevice.write_at.Goals as goal

pub returns-clause-crash : goal.returns-clause-crash
returns-clause-crash c =
    let s = c.args.self.now.state in
    let w : Write = record { at = c.args.at; len = length c.args.bytes.now; from = vec_len s.written } in
    λ k left. crash_before s.synced.items s.writes.items w k (let size = s.present.size in let range = c.requires in omega arith)
    (subst (λ (ws : List Write). Unsynced s.synced.items ws k) c.put.ensures.noted
    (subst (λ (l : List ℕ). Unsynced l c.put.new.self.writes.items k) c.put.ensures.synced left))

pub returns-clause-torn : goal.returns-clause-torn
returns-clause-torn c =
    let s = c.args.self.now.state in
    let w : Write = record { at = c.args.at; len = length c.args.bytes.now; from = vec_len s.written } in
    λ k d left torn. subst (λ (l : List ℕ). Unsynced l c.put.new.self.writes.items k) (sym c.put.ensures.synced)
    (subst (λ (ws : List Write). Unsynced s.synced.items ws k) (sym c.put.ensures.noted)
    (unsynced_more s.synced.items s.writes.items w d k left torn))

pub returns-clause-time : goal.returns-clause-time
returns-clause-time c = elapses_to c.args.self.now.past.items c.and-self.result.items c.args.self.now.state (Leaves c.put.new.self) c.and-self.ensures
