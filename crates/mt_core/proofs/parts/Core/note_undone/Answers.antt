use mathlib.Core.Logic.{∥∥₁_elim}
use Rattle.std.proofs.Props.{props}
use Rattle.std.proofs.Common.{rules, ◌≡◌, ◌∙◌, Some, sym, ap, subst}
use Rattle.mt_live.specs.Adds.{GivesBack}
use Rattle.mt_live.specs.Lives.{member_of, is_member, IsChanged}
use Rattle.mt_live.specs.Members.{taken_back}
use Rattle.mt_live.specs.Undoing.{cut_back}
use Rattle.mt_core.proofs.Calling.{open_some}
use Rattle.mt_core.proofs.Ending.{undone_in}
use Rattle.mt_core.proofs.Inverse.{within_steps}
use Rattle.mt_core.proofs.Refusing.{Steps-prop}
use Rattle.mt_inverse.specs.Steps.{IsWithinSteps}
use Rattle.mt_core.specs.Runs.{IsOwned}
use Rattle.std.proofs.lemmas.List.{get_or_default}
use Rattle.mt_core.specs.Consistent.{state_of, UndoesIn}
use Rattle.mt_core.specs.declared.parts.Core.{Core}
use Rattle.mt_op.specs.declared.scope.OpScope.{OpScope}
use Rattle.mt_core.proofs.Members.{states_kept}
use Rattle.mt_core.proofs.Ending.{taken_state}
use Rattle.std.proofs.Common.{refl}
use Rattle.mt_core.specs.Restartable.{NotesUndone}
use Rattle.mt_plock.specs.Releasing.{locks_without}
use Rattle.mt_core.proofs.parts.Core.note_undone.Goals as goal

pub end-inverse-requires-clause-ready : goal.end-inverse-requires-clause-ready
end-inverse-requires-clause-ready g c = ∥∥₁_elim c.requires.ready (hlevel props) (λ (origin, base, reply, ready). (ready c.remove-scope.result c.remove-scope.ensures.value).alone.stage)

pub end-inverse-requires-clause-right : goal.end-inverse-requires-clause-right
end-inverse-requires-clause-right g c = ∥∥₁_elim c.requires.ready (hlevel props) (λ (origin, base, reply, ready). let y = ready c.remove-scope.result c.remove-scope.ensures.value in ∣ (origin.pages, origin.relations, origin.counters, y.fit.right, y.alone.own) ∣₁)

pub undone-requires : goal.undone-requires
undone-requires g c = ∥∥₁_elim c.requires.ready (hlevel props) (λ (origin, base, reply, ready). let r = c.remove-scope.result in let y = ready r c.remove-scope.ensures.value in let k = c.args.self.now in
    let owned : IsOwned k.live.members k.live.standing r = subst (IsOwned k.live.members k.live.standing) (sym y.alone.there) (y.fit.owned c.args.place r y.alone.within) in
    ap (λ t. is_member k.live.members t) c.txn-txn.ensures ∙ open_some (member_of k.live.members r.txn) owned.at_work)

pub returns : goal.returns
returns g c = record {
  outer = record {
    items = search rules;
    locks = λ x is. let r = c.remove-scope.result in let k = c.args.self.now in
        let here : r ≡ x = c.remove-scope.ensures.value ∙ sym (get_or_default k.running.items c.args.place x r c.requires.within) ∙ sym is in
        c.end-inverse.ensures.locks ∙ ap (λ (z : OpScope). locks_without z.number k.operations.locks) here;
    store = search rules;
    states = λ u. states_kept taken_back c.args.self.now.live.members c.undone.new.self.members c.txn-txn.result taken_state c.undone.ensures.member u;
    commits = search rules;
    numbers = search rules;
  };
  ends = λ origin base reply ready x is.
      let r = c.remove-scope.result in let y = ready r c.remove-scope.ensures.value in let e = c.end-inverse.ensures in let f = c.undone.ensures in let k = c.args.self.now in
      let seen = g.D.Device.seen in
      let n : Core g.row.D.Denot = record k { operations = c.end-inverse.new.self; live = c.undone.new.self; running = c.remove-scope.new.self; escrow = c.let_inverted_go.new.escrow } in
      let here : r ≡ x = c.remove-scope.ensures.value ∙ sym (get_or_default k.running.items c.args.place x r y.alone.within) ∙ sym is in
      subst (λ (z : OpScope). UndoesIn g.D.Device origin base (state_of k base) n z.txn z.op) here
      (undone_in g.D.Device origin base k n c.args.place r reply y (c.requires.back r c.remove-scope.ensures.value) (λ first. c.requires.aborting r c.remove-scope.ensures.value first) c.remove-scope.ensures.items
      (record { right = e.right origin.pages origin.relations origin.counters y.fit.right y.alone.own; held = e.held origin.pages; others = λ u ku other. e.others origin.pages origin.relations origin.counters u ku other; locks = e.locks; store = e.store }) e.claimed
      (f.standing ∙ (λ i. cut_back (c.txn-txn.ensures i) k.live.standing))
      (subst (λ (X : Type 0). X) (λ i. IsChanged k.live.members c.undone.new.self.members (c.txn-txn.ensures i) taken_back) f.member) f.begun f.count
      (λ o u is. subst (λ (X : Type 0). X) (λ i. GivesBack (c.txn-txn.ensures i) o k.escrow.pending c.let_inverted_go.new.escrow.pending) (c.let_inverted_go.ensures.given o u (is ∙ ap Some (sym e.op)))) c.let_inverted_go.ensures.committed c.let_inverted_go.ensures.aside);
  notes = λ x is.
      let r = c.remove-scope.result in let f = c.undone.ensures in let k = c.args.self.now in
      let n : Core g.row.D.Denot = record k { operations = c.end-inverse.new.self; live = c.undone.new.self; running = c.remove-scope.new.self; escrow = c.let_inverted_go.new.escrow } in
      let here : r ≡ x = c.remove-scope.ensures.value ∙ sym (get_or_default k.running.items c.args.place x r c.requires.within) ∙ sym is in
      subst (λ (z : OpScope). NotesUndone k n z) here (record {
        same = record { book = refl; commits = refl };
        standing = f.standing ∙ (λ i. cut_back (c.txn-txn.ensures i) k.live.standing);
        members = subst (λ (X : Type 0). X) (λ i. IsChanged k.live.members c.undone.new.self.members (c.txn-txn.ensures i) taken_back) f.member;
        count = f.count;
      });
}

pub let_inverted_go-requires : goal.let_inverted_go-requires
let_inverted_go-requires g c = ∥∥₁_elim c.requires.ready (Steps-prop _) (λ (origin, base, reply, ready). let r = c.remove-scope.result in let y = ready r c.remove-scope.ensures.value in
    subst IsWithinSteps (sym c.end-inverse.ensures.op) (within_steps origin.relations origin.counters r.op y.alone.own.within))
