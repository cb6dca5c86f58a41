use Rattle.std.proofs.Common.{◌∙◌, ◌≤◌, List, get_or, Some, refl, subst, sym, arith}
use Rattle.std.specs.Option.{option_map}
use Rattle.mt_live.specs.Entries.{Entry}
use Rattle.mt_live.specs.Lives.{member_of, has_room}
use Rattle.mt_live.specs.Members.{Member, standing_count, with_state}
use Rattle.mt_live.specs.declared.transactions.TxnState.TheVariants.{Aborting}
use Rattle.mt_pool.specs.Views.{pages}
use Rattle.mt_core.specs.Runs.{state_in}
use Rattle.mt_core.specs.Work.{abort_steps, effects_left, most_steps}
use Rattle.mt_core.specs.declared.parts.Core.{Core}
use Rattle.mt_core.proofs.Beginning.{changed_in, reopened, reopened_states, there_open, aborting_goes, undone_forwards}
use Rattle.mt_core.proofs.Did.{eases_put}
use Rattle.mt_core.proofs.Members.{changed_keeps, states_set}
use Rattle.mt_core.proofs.Restarts.{kept_num, quiet_store, same_at_work, stays_same}
use Rattle.mt_core.proofs.Undoing.{few_steps}
use Rattle.mt_core.proofs.parts.Core.abort_begin.Goals as goal

pub returns-clause-state : goal.returns-clause-state
returns-clause-state g c = λ origin base safe. let e = c.set_state.ensures in let k = c.args.self.now in let was = c.requires in
    changed_in g.D.Device origin base k (record k { live = c.set_state.new.self }) c.args.txn (λ m. with_state m Aborting) safe e.member e.begun e.standing e.count (λ m. refl)
    (λ m is outcome. record { many = outcome.many; numbers = outcome.numbers; rising = outcome.rising; due = outcome.due; firsts = λ first at. absurd cc; few = outcome.few }) (λ m. refl) (λ m. refl)
    (reopened k.live.members c.set_state.new.self.members c.args.txn Aborting was refl e.member)
    (λ u h. changed_keeps has_room (λ m. with_state m Aborting) k.live.members c.set_state.new.self.members c.args.txn (λ m. refl) e.member u ∙ h)
    (reopened_states k.live.members c.set_state.new.self.members c.args.txn Aborting was refl (aborting_goes (state_in k.live.members c.args.txn)) e.member)
    (λ i d lt is. undone_forwards k.live.members c.set_state.new.self.members c.args.txn (get_or k.running.items i d).txn (there_open (member_of k.live.members c.args.txn) was) e.member is)

pub returns-clause-aborts : goal.returns-clause-aborts
returns-clause-aborts g c = let k = c.args.self.now in states_set k.live.members c.set_state.new.self.members c.args.txn Aborting (there_open (member_of k.live.members c.args.txn) c.requires) c.set_state.ensures.member

pub returns-clause-count : goal.returns-clause-count
returns-clause-count g c = λ t. let k = c.args.self.now in
    changed_keeps (option_map (λ (m : Member). standing_count m.calls)) (λ m. with_state m Aborting) k.live.members c.set_state.new.self.members c.args.txn (λ m. refl) c.set_state.ensures.member t

pub returns-clause-few : goal.returns-clause-few
returns-clause-few g c = λ origin base safe. let k = c.args.self.now in let all = pages k.operations.store.pool in
    subst (λ (es : List Entry). abort_steps all k.running.items c.args.txn (effects_left all es c.args.txn) ≤ most_steps k c.args.txn) (sym c.set_state.ensures.standing)
    (few_steps g.D.Device origin base k c.args.txn safe)

pub returns-clause-restartable : goal.returns-clause-restartable
returns-clause-restartable g c = λ origin base later safe_k safe_n r. let e = c.set_state.ensures in let k = c.args.self.now in
    let n : Core g.row.D.Denot = record k { live = c.set_state.new.self } in
    stays_same g.D.Device origin k n base later safe_k safe_n (quiet_store g.D.Device origin k n refl) (record { book = refl; commits = refl }) e.standing
    (kept_num k.live.members n.live.members c.args.txn (option_map (λ m. with_state m Aborting) (member_of k.live.members c.args.txn)) e.member (same_at_work (member_of k.live.members c.args.txn) Aborting c.requires refl))
    (eases_put (state_in k.live.members) (state_in n.live.members) c.args.txn (Some Aborting) (states_set k.live.members c.set_state.new.self.members c.args.txn Aborting (there_open (member_of k.live.members c.args.txn) c.requires) e.member) (λ ends mine had. tt))
    (let count = e.count in let few = r.few in omega (arith, few, count)) r
