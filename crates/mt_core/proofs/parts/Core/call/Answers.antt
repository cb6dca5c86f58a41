use mathlib.Core.Logic.{∥∥₁_elim}
use Rattle.std.proofs.Props.{props}
use Rattle.std.proofs.Common.{refl, sym, subst}
use Rattle.std.proofs.lemmas.Result.{err_from_is_err_and}
use Rattle.mt_live.specs.Lives.{Lives}
use Rattle.mt_live.specs.Machine.{State}
use Rattle.mt_core.specs.Consistent.{state_of, IsIn, IsCalled, MayRun}
use Rattle.mt_core.specs.declared.parts.Core.{Core}
use Rattle.mt_core.proofs.Entering.{prepared_in, prepared_may}
use Rattle.std.proofs.Common.{◌≡◌, ◌+◌, List, ap}
use Rattle.mt_op.specs.declared.scope.OpScope.{OpScope}
use Rattle.std.specs.List.{sum_by}
use Rattle.mt_live.specs.Lives.{member_of}
use Rattle.mt_log.specs.Words.{used}
use Rattle.mt_core.specs.Causes.{IsAnswered}
use Rattle.mt_core.specs.Consistent.{log_kept}
use Rattle.mt_op.specs.World.{left_of}
use Rattle.mt_core.proofs.Calling.{open_some}
use Rattle.std.proofs.Common.{◌∙◌}
use Rattle.mt_live.specs.Members.{with_room}
use Rattle.mt_core.specs.Runs.{state_in}
use Rattle.mt_core.proofs.Members.{states_kept}
use Rattle.std.specs.Option.{option_map}
use Rattle.std.proofs.Common.{length, arith}
use Rattle.mt_core.proofs.Restarts.{kept_num, num, quiet_store, stays_same, with_room_num}
use Rattle.mt_core.specs.Work.{DrawsNumber}
use Rattle.mt_core.proofs.Did.{eases_same}
use Rattle.mt_core.proofs.parts.Core.call.Goals as goal

pub lock-requires-clause-safe : goal.lock-requires-clause-safe
lock-requires-clause-safe g c = ∥∥₁_elim c.requires.safe (hlevel props) (λ (origin, base, safe, may). let k = c.args.self.now in let e = c.in_ok-room.ensures in let a = c.reserve.ensures in
    let n : Core g.row.D.Denot = record k { live = c.room.new.self; running = c.reserve.new.self } in
    ∣ (origin, base, (prepared_in g.D.Device origin base k n c.args.txn safe e.member e.begun e.standing e.count a.items).consistent, subst (MayRun origin n c.args.txn) (sym c.in_ok-own.ensures) (prepared_may g.D.Device origin base k n c.args.txn c.args.op.now may e.member a.items)) ∣₁)

pub returns-in_err-room-clause-called : goal.returns-in_err-room-clause-called
returns-in_err-room-clause-called g c = λ origin base safe may. let k = c.args.self.now in let p = err_from_is_err_and c.from_residual-in_err-room.result c.from_residual-in_err-room.ensures.1 in
    subst (λ r. IsCalled g.D.Device origin base (state_of k base) (record k { live = c.room.new.self }) c.args.txn c.args.op.now r) (sym p.1)
    (subst (λ (l : Lives). IsIn g.D.Device origin base (state_of k base) (record k { live = l })) (sym c.in_err-room.ensures.err) (record { consistent = safe; state = refl }))

pub returns-in_err-reserve-clause-called : goal.returns-in_err-reserve-clause-called
returns-in_err-reserve-clause-called g c = λ origin base safe may. let k = c.args.self.now in let p = err_from_is_err_and c.from_residual-in_err-reserve.result c.from_residual-in_err-reserve.ensures.1 in let e = c.in_ok-room.ensures in let a = c.reserve.ensures in
    let n : Core g.row.D.Denot = record k { live = c.room.new.self; running = c.reserve.new.self } in
    subst (λ r. IsCalled g.D.Device origin base (state_of k base) n c.args.txn c.args.op.now r) (sym p.1)
    (prepared_in g.D.Device origin base k n c.args.txn safe e.member e.begun e.standing e.count a.items)

pub returns-clause-called : goal.returns-clause-called
returns-clause-called g c = λ origin base safe may. let k = c.args.self.now in let e = c.in_ok-room.ensures in let a = c.reserve.ensures in
    let n : Core g.row.D.Denot = record k { live = c.room.new.self; running = c.reserve.new.self } in
    let ready = prepared_in g.D.Device origin base k n c.args.txn safe e.member e.begun e.standing e.count a.items in
    subst (λ (s : State). IsCalled g.D.Device origin base s c.lock.new.self c.args.txn c.args.op.now c.lock.result) (sym ready.state)
    (subst (λ o. IsCalled g.D.Device origin base (state_of n base) c.lock.new.self c.args.txn o c.lock.result) c.in_ok-own.ensures (c.lock.ensures.called origin base ready.consistent (subst (MayRun origin n c.args.txn) (sym c.in_ok-own.ensures) (prepared_may g.D.Device origin base k n c.args.txn c.args.op.now may e.member a.items))))

pub room-requires : goal.room-requires
room-requires g c = ∥∥₁_elim c.requires.safe (hlevel props) (λ (origin, base, safe, may). open_some (member_of c.args.self.now.live.members c.args.txn) may.at_work)

pub returns-clause-answer : goal.returns-clause-answer
returns-clause-answer g c = λ origin base safe may. let k = c.args.self.now in let e = c.in_ok-room.ensures in let a = c.reserve.ensures in
    let n : Core g.row.D.Denot = record k { live = c.room.new.self; running = c.reserve.new.self } in
    let ready = prepared_in g.D.Device origin base k n c.args.txn safe e.member e.begun e.standing e.count a.items in
    let kept : log_kept n ≡ log_kept k = ap (λ (rs : List OpScope). used k.operations.store.log + sum_by left_of rs + k.reserved) a.items in
    subst (λ m. IsAnswered g.D.Device origin k m c.args.txn c.args.op.now c.lock.result) kept
    (subst (λ o. IsAnswered g.D.Device origin n (log_kept n) c.args.txn o c.lock.result) c.in_ok-own.ensures (c.lock.ensures.answer origin base ready.consistent (subst (MayRun origin n c.args.txn) (sym c.in_ok-own.ensures) (prepared_may g.D.Device origin base k n c.args.txn c.args.op.now may e.member a.items))))

pub returns-clause-states : goal.returns-clause-states
returns-clause-states g c = λ u. ap (λ (l : Lives). state_in l.members u) c.lock.ensures.live ∙ states_kept with_room c.args.self.now.live.members c.room.new.self.members c.args.txn (λ m. refl) c.in_ok-room.ensures.member u

pub returns-in_err-reserve-clause-states : goal.returns-in_err-reserve-clause-states
returns-in_err-reserve-clause-states g c = λ u. states_kept with_room c.args.self.now.live.members c.room.new.self.members c.args.txn (λ m. refl) c.in_ok-room.ensures.member u

pub returns-in_err-room-clause-states : goal.returns-in_err-room-clause-states
returns-in_err-room-clause-states g c = λ u. ap (λ (l : Lives). state_in l.members u) c.in_err-room.ensures.err

pub returns-in_err-room-clause-restartable : goal.returns-in_err-room-clause-restartable
returns-in_err-room-clause-restartable g c = λ origin base later safe_k safe_n r. let k = c.args.self.now in let live = c.in_err-room.ensures.err in let seen = g.D.Device.seen in let may_leave = g.D.Device.may_leave in
    let n : Core g.row.D.Denot = record k { live = c.room.new.self } in
    stays_same g.D.Device origin k n base later safe_k safe_n (quiet_store g.D.Device origin k n refl) (record { book = refl; commits = refl }) (ap (λ (l : Lives). l.standing) live) (λ t. ap (λ (l : Lives). num l.members t) live)
    (eases_same (state_in k.live.members) (state_in n.live.members) (λ t. ap (λ (l : Lives). state_in l.members t) live))
    (let few = r.few in let same = ap (λ (l : Lives). length l.members) live in omega (arith, few, same)) r

pub returns-in_err-reserve-clause-restartable : goal.returns-in_err-reserve-clause-restartable
returns-in_err-reserve-clause-restartable g c = λ origin base later safe_k safe_n r. let k = c.args.self.now in let e = c.in_ok-room.ensures in let seen = g.D.Device.seen in let may_leave = g.D.Device.may_leave in
    let n : Core g.row.D.Denot = record k { live = c.room.new.self; running = c.reserve.new.self } in
    stays_same g.D.Device origin k n base later safe_k safe_n (quiet_store g.D.Device origin k n refl) (record { book = refl; commits = refl }) e.standing
    (kept_num k.live.members n.live.members c.args.txn (option_map with_room (member_of k.live.members c.args.txn)) e.member (with_room_num (member_of k.live.members c.args.txn)))
    (eases_same (state_in k.live.members) (state_in n.live.members) (λ u. states_kept with_room k.live.members c.room.new.self.members c.args.txn (λ m. refl) e.member u))
    (let few = r.few in let count = e.count in omega (arith, few, count)) r

pub returns-clause-restartable : goal.returns-clause-restartable
returns-clause-restartable g c = λ origin base later safe_k safe_n r. let k = c.args.self.now in let e = c.in_ok-room.ensures in let l = c.lock.ensures in let n = c.lock.new.self in let seen = g.D.Device.seen in let may_leave = g.D.Device.may_leave in
    stays_same g.D.Device origin k n base later safe_k safe_n (quiet_store g.D.Device origin k n l.store) (record { book = ap (λ v. v.items) l.book; commits = l.same_commits }) (ap (λ (x : Lives). x.standing) l.live ∙ e.standing)
    (λ t. ap (λ (x : Lives). num x.members t) l.live ∙ kept_num k.live.members c.room.new.self.members c.args.txn (option_map with_room (member_of k.live.members c.args.txn)) e.member (with_room_num (member_of k.live.members c.args.txn)) t)
    (eases_same (state_in k.live.members) (state_in n.live.members) (λ u. ap (λ (x : Lives). state_in x.members u) l.live ∙ states_kept with_room k.live.members c.room.new.self.members c.args.txn (λ m. refl) e.member u))
    (let few = r.few in let count = e.count in let same = ap (λ (x : Lives). length x.members) l.live in omega (arith, few, count, same)) r

pub returns-clause-numbers : goal.returns-clause-numbers
returns-clause-numbers g c = let k = c.args.self.now in
    subst (λ (rs : List OpScope). DrawsNumber k.last rs c.lock.new.self c.lock.result) c.reserve.ensures.items c.lock.ensures.numbered
