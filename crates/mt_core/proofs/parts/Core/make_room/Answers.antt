use Rattle.std.proofs.Common.{refl, sym, subst, arith}
use Rattle.std.specs.Option.{option_map}
use Rattle.mt_live.specs.Lives.{Lives, member_of}
use Rattle.mt_live.specs.Members.{with_room}
use Rattle.mt_core.specs.Consistent.{state_of, IsIn}
use Rattle.mt_core.specs.Runs.{state_in}
use Rattle.mt_core.specs.declared.parts.Core.{Core}
use Rattle.mt_core.proofs.Beginning.{roomed_in}
use Rattle.mt_core.proofs.Did.{eases_same}
use Rattle.mt_core.proofs.Members.{states_kept}
use Rattle.mt_core.proofs.Restarts.{kept_num, quiet_store, stays_same, with_room_num}
use Rattle.mt_core.proofs.parts.Core.make_room.Goals as goal

pub returns-clause-state : goal.returns-clause-state
returns-clause-state g c = λ origin base safe. let k = c.args.self.now in let e = c.in_ok-room.ensures in
    roomed_in g.D.Device origin base k (record k { live = c.room.new.self }) c.args.txn safe e.member e.begun e.standing e.count

pub returns-clause-restartable : goal.returns-clause-restartable
returns-clause-restartable g c = λ origin base later safe_k safe_n r. let k = c.args.self.now in let e = c.in_ok-room.ensures in
    let n : Core g.row.D.Denot = record k { live = c.room.new.self } in
    stays_same g.D.Device origin k n base later safe_k safe_n (quiet_store g.D.Device origin k n refl) (record { book = refl; commits = refl }) e.standing
    (kept_num k.live.members n.live.members c.args.txn (option_map with_room (member_of k.live.members c.args.txn)) e.member (with_room_num (member_of k.live.members c.args.txn)))
    (eases_same (state_in k.live.members) (state_in n.live.members) (λ u. states_kept with_room k.live.members n.live.members c.args.txn (λ m. refl) e.member u))
    (let count = e.count in let few = r.few in omega (arith, few, count)) r

pub returns-in_err-room-clause-state : goal.returns-in_err-room-clause-state
returns-in_err-room-clause-state g c = λ origin base safe. let k = c.args.self.now in
    subst (λ (l : Lives). IsIn g.D.Device origin base (state_of k base) (record k { live = l })) (sym c.in_err-room.ensures.err) (record { consistent = safe; state = refl })
