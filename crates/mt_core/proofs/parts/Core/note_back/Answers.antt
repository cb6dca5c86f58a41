use mathlib.Core.Logic.{∥∥₁_elim}
use Rattle.std.proofs.Props.{props}
use Rattle.std.proofs.Common.{rules, ◌≡◌, ◌∙◌, ◌++◌, ◌∷◌, [], List, Some, is_some, refl, sym, ap, subst}
use Rattle.std.specs.Option.{option_map}
use Rattle.std.proofs.lemmas.List.{get_or_default}
use Rattle.mt_inverse.specs.Steps.{IsWithinSteps}
use Rattle.mt_live.specs.Adds.{GivesBack, add_before}
use Rattle.mt_live.specs.Lives.{member_of, has_room, IsAbove, IsChanged}
use Rattle.mt_live.specs.Members.{Member, last_place, noted_after, with_back}
use Rattle.mt_live.specs.Undoing.{after_first, last_effect, mark_last}
use Rattle.mt_live.specs.declared.transactions.Role.TheVariants.{Back}
use Rattle.mt_model.specs.Pending.{pending_of}
use Rattle.mt_model.specs.declared.pending_add.Pending.{Pending}
use Rattle.mt_op.specs.declared.scope.OpScope.{OpScope}
use Rattle.mt_plock.specs.Releasing.{locks_without}
use Rattle.mt_core.specs.Consistent.{state_in, state_of, ReturnsIn}
use Rattle.mt_core.specs.Restartable.{NotesBack}
use Rattle.mt_core.specs.Runs.{IsOwned}
use Rattle.mt_core.specs.declared.parts.Core.{Core}
use Rattle.mt_core.proofs.Inverse.{within_steps}
use Rattle.mt_core.proofs.Marking.{back_state}
use Rattle.mt_core.proofs.Members.{states_kept}
use Rattle.mt_core.proofs.Refusing.{Above-prop, Steps-prop}
use Rattle.mt_core.proofs.Returning.{returned_in}
use Rattle.mt_core.proofs.parts.Core.note_back.Goals as goal

pub end-inverse-requires-clause-ready : goal.end-inverse-requires-clause-ready
end-inverse-requires-clause-ready g c = ∥∥₁_elim c.requires.ready (hlevel props) (λ (origin, base, ready). (ready c.remove-scope.result c.remove-scope.ensures.value).alone.stage)

pub end-inverse-requires-clause-right : goal.end-inverse-requires-clause-right
end-inverse-requires-clause-right g c = ∥∥₁_elim c.requires.ready (hlevel props) (λ (origin, base, ready). let y = ready c.remove-scope.result c.remove-scope.ensures.value in ∣ (origin.pages, origin.relations, origin.counters, y.fit.right, y.alone.own) ∣₁)

pub note_back-requires : goal.note_back-requires
note_back-requires g c = record {
  room = ∥∥₁_elim c.requires.ready (hlevel props) (λ (origin, base, ready). let r = c.remove-scope.result in let y = ready r c.remove-scope.ensures.value in let k = c.args.self.now in
      let owned : IsOwned k.live.members k.live.standing r = subst (IsOwned k.live.members k.live.standing) (sym y.alone.there) (y.fit.owned c.args.place r y.alone.within) in
      let noted = owned.returns (c.requires.back r c.remove-scope.ensures.value) c.requires.returning.0 (c.requires.returning.1 r c.remove-scope.ensures.value) in
      ap (λ t. has_room (member_of k.live.members t)) c.txn-txn.ensures ∙ noted.room);
  above = ∥∥₁_elim c.requires.ready (Above-prop _ _) (λ (origin, base, ready). let r = c.remove-scope.result in let y = ready r c.remove-scope.ensures.value in let k = c.args.self.now in
      let owned : IsOwned k.live.members k.live.standing r = subst (IsOwned k.live.members k.live.standing) (sym y.alone.there) (y.fit.owned c.args.place r y.alone.within) in
      let noted = owned.returns (c.requires.back r c.remove-scope.ensures.value) c.requires.returning.0 (c.requires.returning.1 r c.remove-scope.ensures.value) in
      subst (λ (X : Type 0). X) (λ i. IsAbove (sym c.number-number.ensures i) (member_of k.live.members (sym c.txn-txn.ensures i))) noted.newest);
}

pub returns : goal.returns
returns g c = record {
  outer = record {
    items = search rules;
    locks = λ x is. let r = c.remove-scope.result in let k = c.args.self.now in
        let here : r ≡ x = c.remove-scope.ensures.value ∙ sym (get_or_default k.running.items c.args.place x r c.requires.within) ∙ sym is in
        c.end-inverse.ensures.locks ∙ ap (λ (z : OpScope). locks_without z.number k.operations.locks) here;
    store = search rules;
    states = λ u. states_kept (λ m. with_back m c.number-number.result (c.end-inverse.result, c.args.reply)) c.args.self.now.live.members c.note_back.new.self.members c.txn-txn.result
        (λ m. back_state m c.number-number.result (c.end-inverse.result, c.args.reply)) c.note_back.ensures.member u;
    commits = search rules;
    numbers = search rules;
  };
  ends = λ origin base ready x is first at.
      let r = c.remove-scope.result in let y = ready r c.remove-scope.ensures.value in let e = c.end-inverse.ensures in let f = c.note_back.ensures in let k = c.args.self.now in let a = c.let_inverted_aside in
      let n : Core g.row.D.Denot = record k { operations = c.end-inverse.new.self; live = c.note_back.new.self; running = c.remove-scope.new.self; escrow = a.new.escrow } in
      let here : r ≡ x = c.remove-scope.ensures.value ∙ sym (get_or_default k.running.items c.args.place x r y.alone.within) ∙ sym is in
      subst (λ (z : OpScope). ReturnsIn g.D.Device origin base (state_of k base) n z.txn first z.op) here
      (returned_in g.D.Device origin base k n c.args.place r c.args.reply y (c.requires.back r c.remove-scope.ensures.value) first (ap (λ (z : OpScope). state_in k.live.members z.txn) here ∙ at) c.remove-scope.ensures.items
      (record { right = e.right origin.pages origin.relations origin.counters y.fit.right y.alone.own; held = e.held origin.pages; others = λ u ku other. e.others origin.pages origin.relations origin.counters u ku other; locks = e.locks; store = e.store }) e.claimed
      (f.standing ∙ (λ i. mark_last (c.txn-txn.ensures i) k.live.standing ++ record { txn = c.txn-txn.ensures i; op = e.op i; reply = c.args.reply; role = Back } ∷ []))
      (subst (λ (X : Type 0). X) (λ i. IsChanged k.live.members c.note_back.new.self.members (c.txn-txn.ensures i) (λ z. with_back z (c.number-number.ensures i) (e.op i, c.args.reply))) f.member) f.begun f.count
      (λ o u inverse. subst (λ (X : Type 0). X) (λ i. GivesBack (c.txn-txn.ensures i) o k.escrow.pending a.new.escrow.pending) (a.ensures.given o u (inverse ∙ ap Some (sym e.op)))) a.ensures.committed
      (λ o u inverse ps pends. subst (λ (X : Type 0). X) (λ i. a.new.escrow.aside ≡ k.escrow.aside ++ add_before (c.txn-txn.ensures i) o [])
      (a.ensures.aside o u (inverse ∙ ap Some (sym e.op)) ps (subst (λ (X : Type 0). X) (λ i. pending_of (sym c.txn-txn.ensures i) k.escrow.pending ≡ ps ++ add_before (sym c.txn-txn.ensures i) o []) pends)))
      (λ v. subst (λ t. Some (is_some (last_effect t (after_first t v k.live.standing))) ≡ option_map (λ (m : Member). is_some (last_place (noted_after v m.calls))) (member_of k.live.members t)) c.txn-txn.ensures (f.after v)));
  notes = λ x is.
      let r = c.remove-scope.result in let e = c.end-inverse.ensures in let f = c.note_back.ensures in let k = c.args.self.now in
      let n : Core g.row.D.Denot = record k { operations = c.end-inverse.new.self; live = c.note_back.new.self; running = c.remove-scope.new.self; escrow = c.let_inverted_aside.new.escrow } in
      let here : r ≡ x = c.remove-scope.ensures.value ∙ sym (get_or_default k.running.items c.args.place x r c.requires.within) ∙ sym is in
      subst (λ (z : OpScope). NotesBack k n z c.args.reply) here (record {
        same = record { book = refl; commits = refl };
        standing = f.standing ∙ (λ i. mark_last (c.txn-txn.ensures i) k.live.standing ++ record { txn = c.txn-txn.ensures i; op = e.op i; reply = c.args.reply; role = Back } ∷ []);
        members = subst (λ (X : Type 0). X) (λ i. IsChanged k.live.members c.note_back.new.self.members (c.txn-txn.ensures i) (λ z. with_back z (c.number-number.ensures i) (e.op i, c.args.reply))) f.member;
        count = f.count;
      });
}

pub let_inverted_aside-requires : goal.let_inverted_aside-requires
let_inverted_aside-requires g c = ∥∥₁_elim c.requires.ready (Steps-prop _) (λ (origin, base, ready). let r = c.remove-scope.result in let y = ready r c.remove-scope.ensures.value in
    subst IsWithinSteps (sym c.end-inverse.ensures.op) (within_steps origin.relations origin.counters r.op y.alone.own.within))
