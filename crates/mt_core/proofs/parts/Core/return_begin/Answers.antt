use Rattle.std.proofs.Common.{◌≡◌, ◌∙◌, ◌≤◌, List, get_or, Some, true, refl, ap, subst, sym, arith}
use Rattle.std.specs.Option.{option_map}
use Rattle.std.specs.Prelude.{IfSome}
use Rattle.mt_live.specs.Entries.{Entry}
use Rattle.mt_live.specs.Lives.{member_of, has_room}
use Rattle.mt_live.specs.Members.{Member, with_state, standing_count}
use Rattle.mt_live.specs.declared.transactions.TxnState.TheVariants.{Returning}
use Rattle.mt_pool.specs.Views.{pages}
use Rattle.mt_core.specs.Restartable.{HasEnds}
use Rattle.mt_core.specs.Runs.{state_in, is_working}
use Rattle.mt_core.specs.Work.{abort_steps, effects_left, most_steps}
use Rattle.mt_core.specs.declared.parts.Core.{Core}
use Rattle.mt_core.proofs.Beginning.{changed_in, reopened, reopened_states, there_open, returning_goes, other_forwards}
use Rattle.mt_core.proofs.Did.{eases_put}
use Rattle.mt_core.proofs.Members.{changed_keeps, states_set}
use Rattle.mt_core.proofs.Restarts.{kept_num, open_works, quiet_store, same_at_work, stays_same}
use Rattle.mt_core.proofs.Undoing.{few_steps}
use Rattle.mt_core.proofs.parts.Core.return_begin.Goals as goal

pub returns-clause-state : goal.returns-clause-state
returns-clause-state g c = λ origin base safe. let e = c.set_state.ensures in let k = c.args.self.now in let t = c.args.txn in
    let was : is_working (member_of k.live.members t) ≡ true = open_works (member_of k.live.members t) c.requires.opened in
    changed_in g.D.Device origin base k (record k { live = c.set_state.new.self }) t (λ m. with_state m (Returning c.args.first)) safe e.member e.begun e.standing e.count (λ m. refl)
    (λ m is outcome. record {
      many = outcome.many;
      numbers = outcome.numbers;
      rising = outcome.rising;
      due = outcome.due;
      few = outcome.few;
      firsts = λ first at.
          let same : c.args.first ≡ first = cc in
          subst (λ x. x ≤ standing_count m.calls) same (subst (λ o. IfSome o (λ count. c.args.first ≤ count)) (ap (option_map (λ (x : Member). standing_count x.calls)) is) c.requires.few);
    }) (λ m. refl) (λ m. refl)
    (reopened k.live.members c.set_state.new.self.members t (Returning c.args.first) was refl e.member)
    (λ u h. changed_keeps has_room (λ m. with_state m (Returning c.args.first)) k.live.members c.set_state.new.self.members t (λ m. refl) e.member u ∙ h)
    (reopened_states k.live.members c.set_state.new.self.members t (Returning c.args.first) was refl (returning_goes (state_in k.live.members t) c.args.first c.requires.opened) e.member)
    (λ i d lt is. other_forwards k.live.members c.set_state.new.self.members t (get_or k.running.items i d).txn (Returning c.args.first) (there_open (member_of k.live.members t) was) e.member (c.requires.idle i d lt) is)

pub returns-clause-returns : goal.returns-clause-returns
returns-clause-returns g c = let k = c.args.self.now in
    states_set k.live.members c.set_state.new.self.members c.args.txn (Returning c.args.first) (there_open (member_of k.live.members c.args.txn) (open_works (member_of k.live.members c.args.txn) c.requires.opened)) c.set_state.ensures.member

pub returns-clause-count : goal.returns-clause-count
returns-clause-count g c = λ t. let k = c.args.self.now in
    changed_keeps (option_map (λ (m : Member). standing_count m.calls)) (λ m. with_state m (Returning c.args.first)) k.live.members c.set_state.new.self.members c.args.txn (λ m. refl) c.set_state.ensures.member t

pub returns-clause-few_steps : goal.returns-clause-few_steps
returns-clause-few_steps g c = λ origin base safe. let k = c.args.self.now in let all = pages k.operations.store.pool in
    subst (λ (es : List Entry). abort_steps all k.running.items c.args.txn (effects_left all es c.args.txn) ≤ most_steps k c.args.txn) (sym c.set_state.ensures.standing)
    (few_steps g.D.Device origin base k c.args.txn safe)

pub returns-clause-restartable : goal.returns-clause-restartable
returns-clause-restartable g c = λ origin base later safe_k safe_n r. let e = c.set_state.ensures in let k = c.args.self.now in let t = c.args.txn in
    let n : Core g.row.D.Denot = record k { live = c.set_state.new.self } in
    let was : is_working (member_of k.live.members t) ≡ true = open_works (member_of k.live.members t) c.requires.opened in
    stays_same g.D.Device origin k n base later safe_k safe_n (quiet_store g.D.Device origin k n refl) (record { book = refl; commits = refl }) e.standing
    (kept_num k.live.members n.live.members t (option_map (λ m. with_state m (Returning c.args.first)) (member_of k.live.members t)) e.member (same_at_work (member_of k.live.members t) (Returning c.args.first) was refl))
    (eases_put (state_in k.live.members) (state_in n.live.members) t (Some (Returning c.args.first)) (states_set k.live.members c.set_state.new.self.members t (Returning c.args.first) (there_open (member_of k.live.members t) was) e.member)
    (λ ends mine had. subst (λ s. HasEnds s ends mine) c.requires.opened had))
    (let count = e.count in let few = r.few in omega (arith, few, count)) r
