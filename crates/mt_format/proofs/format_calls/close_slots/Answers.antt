use Rattle.std.proofs.Common.{◌≡◌, ◌∙◌, inl, ℕ, List, get_or, subst, sym, arith}
use Rattle.mt_disk.specs.Disk.{Only}
use Rattle.mt_disk.proofs.Frame.{one_of, get_torn, goes_on}
use Rattle.mt_log.proofs.Calls.{on_ok}
use Rattle.mt_format.proofs.Shut.{gates_first, gates_second, closes_one, closes_two}
use Rattle.mt_format.specs.Formats.{ButForGates, IsShut}
use Rattle.mt_format.proofs.format_calls.close_slots.Goals as goal

pub returns-clause-shut : goal.returns-clause-shut
returns-clause-shut g c =
    let seen = g.D.Device.seen in
    let first = seen c.write_at.new.self in
    let second = seen c.write_at-2.new.self in
    let wrote = c.in_ok-write_at-2.ensures.written in
    let zero : get_or second 0 0 ≡ 0 = get_torn 4096 1 0 first second wrote.rest (inl (omega arith)) ∙ one_of first 0 0 c.in_ok-write_at.ensures.written.has in
    let other : get_or second 4096 0 ≡ 0 = one_of second 4096 0 wrote.has in
    on_ok c.sync.result
    (λ (only : Only second (g.D.Device.may_leave c.sync.new.self)) (k : List ℕ) (left : g.D.Device.may_leave c.sync.new.self k). subst IsShut (sym (only k left)) (record { first = λ is. omega (arith, is, zero); second = λ is. omega (arith, is, other) }))
    c.sync.ensures.durable

pub returns-in_err-write_at-clause-moments : goal.returns-in_err-write_at-clause-moments
returns-in_err-write_at-clause-moments g c =
    closes_one g.D.Device g.met.D.Device.only_now c.args.device.now c.write_at.new.self c.write_at.ensures.time c.write_at.ensures.crash

pub returns-in_err-write_at-2-clause-moments : goal.returns-in_err-write_at-2-clause-moments
returns-in_err-write_at-2-clause-moments g c =
    closes_two g.D.Device g.met.D.Device.only_now c.args.device.now c.write_at.new.self c.write_at-2.new.self c.write_at.ensures.time c.write_at.ensures.crash c.write_at-2.ensures.time c.write_at-2.ensures.crash

pub returns-clause-moments : goal.returns-clause-moments
returns-clause-moments g c =
    let m = g.D.Device.moment in
    let l = g.D.Device.left_since in
    let may = g.D.Device.may_leave in
    let old = c.args.device.now in
    let mid = c.write_at.new.self in
    let new = c.write_at-2.new.self in
    goes_on m l old new c.sync.new.self (ButForGates (may old)) (may c.sync.new.self)
    (closes_two g.D.Device g.met.D.Device.only_now old mid new c.write_at.ensures.time c.write_at.ensures.crash c.write_at-2.ensures.time c.write_at-2.ensures.crash)
    c.sync.ensures.time
    (λ k left. gates_second (may old) (may mid) (may new) (gates_first (may old) (may mid) c.write_at.ensures.crash) c.write_at-2.ensures.crash k (c.sync.ensures.crash k left))
