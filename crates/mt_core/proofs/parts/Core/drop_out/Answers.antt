use mathlib.Core.Logic.{∥∥₁_elim}
use Rattle.std.proofs.Props.{props}
use Rattle.std.proofs.Common.{rules, ◌≡◌, ◌∙◌, ◌-◌, ap, sym, subst, arith}
use Rattle.mt_live.specs.Adds.{GivesBack}
use Rattle.mt_steps.specs.Plans.{own_needs, undo_pages}
use Rattle.mt_core.specs.Runs.{IsOwned, undo_bytes}
use Rattle.mt_core.proofs.Calling.{needs_few}
use Rattle.mt_core.proofs.Dropping.{dropped_in, given_back, claimed_enough}
use Rattle.mt_core.proofs.Ending.{ended_given}
use Rattle.mt_core.proofs.Enough.{kept_enough}
use Rattle.std.proofs.lemmas.List.{get_or_default}
use Rattle.mt_core.specs.Consistent.{state_of, DropsIn}
use Rattle.mt_core.specs.declared.parts.Core.{Core}
use Rattle.mt_op.specs.declared.scope.OpScope.{OpScope}
use Rattle.mt_plock.specs.Releasing.{locks_without}
use Rattle.mt_core.proofs.parts.Core.drop_out.Goals as goal

pub drop_out-op-requires-clause-cleared : goal.drop_out-op-requires-clause-cleared
drop_out-op-requires-clause-cleared g c = ∥∥₁_elim c.requires.cleared (hlevel props) (λ (origin, base, cleared). (cleared c.remove-scope.result c.remove-scope.ensures.value).alone.stage)

pub drop_out-op-requires-clause-right : goal.drop_out-op-requires-clause-right
drop_out-op-requires-clause-right g c = ∥∥₁_elim c.requires.cleared (hlevel props) (λ (origin, base, cleared). let y = cleared c.remove-scope.result c.remove-scope.ensures.value in ∣ (origin.pages, origin.relations, origin.counters, y.fit.right, y.alone.own) ∣₁)

pub overflow_add-pages : goal.overflow_add-pages
overflow_add-pages g c = ∥∥₁_elim c.requires.cleared (hlevel props) (λ (origin, base, cleared). let r = c.remove-scope.result in let y = cleared r c.remove-scope.ensures.value in let k = c.args.self.now in
    let owned : IsOwned k.live.members k.live.standing r = subst (IsOwned k.live.members k.live.standing) (sym y.alone.there) (y.fit.owned c.args.place r y.alone.within) in
    let few = needs_few r.op r.split in
    let copy : undo_pages c.op-2.result.now ≡ undo_pages r.op = ap undo_pages c.op-2.ensures in
    let own : c.pages_for.result ≡ own_needs r.op r.split = c.pages_for.ensures ∙ (λ i. own_needs (c.op.ensures i) (c.split.ensures i)) in
    let undo = c.pages_to_undo.ensures in omega arith)

pub give_back-requires : goal.give_back-requires
give_back-requires g c = ∥∥₁_elim c.requires.cleared (hlevel props) (λ (origin, base, cleared). let r = c.remove-scope.result in let y = cleared r c.remove-scope.ensures.value in let k = c.args.self.now in
    let whole = given_back g.D.Device origin base k c.args.place r y (c.requires.forward r c.remove-scope.ensures.value) in
    let enough = claimed_enough g.D.Device origin base k c.args.place r y in
    let own : c.pages_for.result ≡ own_needs r.op r.split = c.pages_for.ensures ∙ (λ i. own_needs (c.op.ensures i) (c.split.ensures i)) in
    let copy : undo_pages c.op-2.result.now ≡ undo_pages r.op = ap undo_pages c.op-2.ensures in
    let undo = c.pages_to_undo.ensures in let same = c.drop_out-op.ensures.claimed in omega arith)

pub overflow_sub-self : goal.overflow_sub-self
overflow_sub-self g c = ∥∥₁_elim c.requires.cleared (hlevel props) (λ (origin, base, cleared). let r = c.remove-scope.result in let y = cleared r c.remove-scope.ensures.value in let k = c.args.self.now in
    let fore = c.requires.forward r c.remove-scope.ensures.value in
    let owned : IsOwned k.live.members k.live.standing r = subst (IsOwned k.live.members k.live.standing) (sym y.alone.there) (y.fit.owned c.args.place r y.alone.within) in
    let copy : undo_bytes c.drop_out-op.result ≡ undo_bytes r.op = ap undo_bytes c.drop_out-op.ensures.op in
    let enough = kept_enough g.D.Device origin base k c.args.place r y.fit y.alone.within y.alone.there fore in
    let bytes = c.log_bytes_for.ensures in omega arith)

pub returns : goal.returns
returns g c = record {
  items = search rules;
  store = search rules;
  locks = λ x is. let r = c.remove-scope.result in let k = c.args.self.now in
      let here : r ≡ x = c.remove-scope.ensures.value ∙ sym (get_or_default k.running.items c.args.place x r c.requires.within) ∙ sym is in
      c.give_back.ensures.locks ∙ c.drop_out-op.ensures.locks ∙ ap (λ (z : OpScope). locks_without z.number k.operations.locks) here;
  live = search rules;
  commits = search rules;
  numbers = search rules;
  drops = λ origin base cleared x is.
      let r = c.remove-scope.result in let y = cleared r c.remove-scope.ensures.value in let e = c.drop_out-op.ensures in let f = c.give_back.ensures in let k = c.args.self.now in let seen = g.D.Device.seen in
      let fore = c.requires.forward r c.remove-scope.ensures.value in
      let owned : IsOwned k.live.members k.live.standing r = subst (IsOwned k.live.members k.live.standing) (sym y.alone.there) (y.fit.owned c.args.place r y.alone.within) in
      let whole = given_back g.D.Device origin base k c.args.place r y fore in
      let own : c.pages_for.result ≡ own_needs r.op r.split = c.pages_for.ensures ∙ (λ i. own_needs (c.op.ensures i) (c.split.ensures i)) in
      let undo = c.pages_to_undo.ensures in let same = e.claimed in let back = f.claimed in
      let right = e.right origin.pages origin.relations origin.counters y.fit.right y.alone.own in
      let ended = ended_given g.D.Device origin.pages origin.relations origin.counters k.operations c.drop_out-op.new.self c.give_back.new.self r
      (record { right = right; held = e.held origin.pages; others = λ u ku other. e.others origin.pages origin.relations origin.counters u ku other; locks = e.locks; store = e.store })
      (f.right origin.pages origin.relations origin.counters right) f.store f.locks in
      let n : Core g.row.D.Denot = record k { operations = c.give_back.new.self; running = c.remove-scope.new.self; escrow = c.let_go.new.escrow; reserved = k.reserved - c.log_bytes_for.result } in
      let enough = kept_enough g.D.Device origin base k c.args.place r y.fit y.alone.within y.alone.there fore in
      let copy : undo_bytes c.drop_out-op.result ≡ undo_bytes r.op = ap undo_bytes e.op in
      let copy_pages : undo_pages c.op-2.result.now ≡ undo_pages r.op = ap undo_pages c.op-2.ensures in
      let bytes = c.log_bytes_for.ensures in
      let here : r ≡ x = c.remove-scope.ensures.value ∙ sym (get_or_default k.running.items c.args.place x r y.alone.within) ∙ sym is in
      subst (λ (z : OpScope). DropsIn g.D.Device origin base (state_of k base) n z.txn) here
      (dropped_in g.D.Device origin base k n c.args.place r y fore c.remove-scope.ensures.items ended (omega arith) (omega arith)
      (subst (λ (X : Type 0). X) (λ i. GivesBack (c.txn-txn.ensures i) (e.op i) k.escrow.pending c.let_go.new.escrow.pending) c.let_go.ensures.given) c.let_go.ensures.committed c.let_go.ensures.aside);
  book = search rules;
}
