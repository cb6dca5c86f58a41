use Rattle.std.proofs.Common.{◌+◌, refl, arith}
use Rattle.mt_core.proofs.Beginning.{begun_in}
use mathlib.Core.Logic.{∥∥₁_elim}
use Rattle.std.proofs.Props.{props}
use Rattle.std.specs.Prelude.{Some}
use Rattle.mt_live.specs.Members.{fresh}
use Rattle.mt_core.proofs.Members.{states_put}
use Rattle.mt_core.proofs.Restarts.{kept_num, quiet_store, stays_same}
use Rattle.std.proofs.Common.{sym, ap}
use Rattle.mt_core.specs.Restartable.{numbers_of}
use Rattle.mt_core.specs.declared.parts.Core.{Core}
use Rattle.mt_core.proofs.Did.{eases_put}
use Rattle.mt_core.specs.Restartable.{HasEnds}
use Rattle.mt_core.specs.Runs.{state_in}
use Rattle.mt_live.specs.Members.{Member}
use Rattle.std.specs.Prelude.{Option}
use Rattle.std.specs.Option.{option_map}
use Rattle.std.proofs.Common.{subst}
use Rattle.mt_live.specs.declared.transactions.TxnState.TheVariants.{Open}
use Rattle.mt_core.proofs.parts.Core.begin.Goals as goal

pub overflow_add-self : goal.overflow_add-self
overflow_add-self g c = let sum = c.if-not-log_takes.ensures.sum in omega arith

pub returns-clause-begun : goal.returns-clause-begun
returns-clause-begun g c = λ origin base safe. let e = c.in_ok-txn.ensures in let k = c.args.self.now in
    begun_in g.D.Device origin base k (record k { live = c.begin.new.self; reserved = k.reserved + 128 }) c.in_ok-txn.txn c.args.session safe c.requires.few e.number e.begun e.unused e.member e.standing e.count refl
    (let takes = c.if-not-log_takes.ensures.takes in omega arith)

pub log_takes-requires : goal.log_takes-requires
log_takes-requires g c = ∥∥₁_elim c.requires.safe (hlevel props) (λ (origin, base, safe). safe.fit.log)

pub returns-clause-opened : goal.returns-clause-opened
returns-clause-opened g c = states_put c.args.self.now.live.members c.begin.new.self.members c.in_ok-txn.txn (Some (fresh c.in_ok-txn.txn c.args.session)) c.in_ok-txn.ensures.member

pub returns-clause-restartable : goal.returns-clause-restartable
returns-clause-restartable g c = λ few origin base later safe_k safe_n r. let e = c.in_ok-txn.ensures in let k = c.args.self.now in let seen = g.D.Device.seen in let may_leave = g.D.Device.may_leave in
    let n : Core g.row.D.Denot = record k { live = c.begin.new.self; reserved = k.reserved + 128 } in
    stays_same g.D.Device origin k n base later safe_k safe_n (quiet_store g.D.Device origin k n refl) (record { book = refl; commits = refl }) e.standing
    (kept_num k.live.members n.live.members c.in_ok-txn.txn (Some (fresh c.in_ok-txn.txn c.args.session)) e.member (sym (ap numbers_of e.unused)))
    (eases_put (state_in k.live.members) (state_in n.live.members) c.in_ok-txn.txn (Some Open) (states_put k.live.members c.begin.new.self.members c.in_ok-txn.txn (Some (fresh c.in_ok-txn.txn c.args.session)) e.member)
    (λ ends mine had. subst (λ (o : Option Member). HasEnds (option_map (λ (m : Member). m.state) o) ends mine) e.unused had))
    (let count = e.count in omega (arith, few, count)) r
