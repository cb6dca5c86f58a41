use mathlib.Core.Logic.{∥∥₁_elim}
use Rattle.std.proofs.Props.{props}
use Rattle.std.proofs.Common.{rules, refl, ◌≡◌, ◌∙◌, ◌++◌, ◌∷◌, [], sym, ap, subst, arith}
use Rattle.mt_live.specs.Lives.{member_of, has_room, IsChanged, IsAbove}
use Rattle.mt_live.specs.Members.{with_call}
use Rattle.mt_core.proofs.Effects.{weighs_less}
use Rattle.mt_core.proofs.Ending.{noted_in, ended_given}
use Rattle.mt_core.proofs.Enough.{kept_enough, undo_claimed}
use Rattle.mt_core.specs.Runs.{IsOwned, call_bytes, call_pages, undo_bytes}
use Rattle.std.proofs.Common.{◌-◌}
use Rattle.std.proofs.lemmas.List.{get_or_default}
use Rattle.mt_live.specs.Entries.{Entry}
use Rattle.mt_model.specs.declared.operations.Op.{Op}
use Rattle.mt_live.specs.Machine.{ended}
use Rattle.mt_model.specs.Model.{base_after}
use Rattle.mt_steps.specs.Plans.{undo_pages}
use Rattle.mt_core.specs.Consistent.{state_of, IsIn}
use Rattle.mt_core.specs.declared.parts.Core.{Core}
use Rattle.mt_op.specs.declared.scope.OpScope.{OpScope}
use Rattle.mt_core.proofs.Refusing.{Above-prop}
use Rattle.mt_core.proofs.Members.{states_kept}
use Rattle.mt_live.specs.Members.{with_call}
use Rattle.mt_core.specs.Restartable.{NotesEnd}
use Rattle.mt_plock.specs.Releasing.{locks_without}
use Rattle.mt_live.specs.declared.transactions.Role.TheVariants.{Stands}
use Rattle.mt_core.proofs.parts.Core.note_end.Goals as goal

pub end-op-requires-clause-ready : goal.end-op-requires-clause-ready
end-op-requires-clause-ready g c = ∥∥₁_elim c.requires.ready (hlevel props) (λ (origin, base, ready). (ready c.remove-scope.result c.remove-scope.ensures.value).alone.stage)

pub end-op-requires-clause-right : goal.end-op-requires-clause-right
end-op-requires-clause-right g c = ∥∥₁_elim c.requires.ready (hlevel props) (λ (origin, base, ready). let y = ready c.remove-scope.result c.remove-scope.ensures.value in ∣ (origin.pages, origin.relations, origin.counters, y.fit.right, y.alone.own) ∣₁)

pub give_back-requires : goal.give_back-requires
give_back-requires g c = ∥∥₁_elim c.requires.ready (hlevel props) (λ (origin, base, ready). let r = c.remove-scope.result in let y = ready r c.remove-scope.ensures.value in let k = c.args.self.now in
    let fore = c.requires.forward r c.remove-scope.ensures.value in
    let owned : IsOwned k.live.members k.live.standing r = subst (IsOwned k.live.members k.live.standing) (sym y.alone.there) (y.fit.owned c.args.place r y.alone.within) in
    let copy : undo_pages c.end-op.result ≡ undo_pages r.op = ap undo_pages c.end-op.ensures.op in
    let enough = undo_claimed g.D.Device origin base k c.args.place r y.alone.within y.alone.there fore y.claims in
    let pages = c.pages_to_undo.ensures.pages in let same = c.end-op.ensures.claimed in omega arith)

pub overflow_sub-self-2 : goal.overflow_sub-self-2
overflow_sub-self-2 g c = ∥∥₁_elim c.requires.ready (hlevel props) (λ (origin, base, ready). let r = c.remove-scope.result in let y = ready r c.remove-scope.ensures.value in let k = c.args.self.now in
    let fore = c.requires.forward r c.remove-scope.ensures.value in
    let owned : IsOwned k.live.members k.live.standing r = subst (IsOwned k.live.members k.live.standing) (sym y.alone.there) (y.fit.owned c.args.place r y.alone.within) in
    let copy : undo_bytes c.end-op.result ≡ undo_bytes r.op = ap undo_bytes c.end-op.ensures.op in
    let enough = kept_enough g.D.Device origin base k c.args.place r y.fit y.alone.within y.alone.there fore in
    let bytes = c.log_bytes_for.ensures in omega arith)

pub note-requires : goal.note-requires
note-requires g c = record {
  room = ∥∥₁_elim c.requires.ready (hlevel props) (λ (origin, base, ready). let r = c.remove-scope.result in let y = ready r c.remove-scope.ensures.value in let k = c.args.self.now in
      let owned : IsOwned k.live.members k.live.standing r = subst (IsOwned k.live.members k.live.standing) (sym y.alone.there) (y.fit.owned c.args.place r y.alone.within) in
      ap (λ t. has_room (member_of k.live.members t)) c.txn-txn.ensures ∙ owned.room (c.requires.forward r c.remove-scope.ensures.value));
  above = ∥∥₁_elim c.requires.ready (Above-prop _ _) (λ (origin, base, ready). let r = c.remove-scope.result in let y = ready r c.remove-scope.ensures.value in let k = c.args.self.now in
      let owned : IsOwned k.live.members k.live.standing r = subst (IsOwned k.live.members k.live.standing) (sym y.alone.there) (y.fit.owned c.args.place r y.alone.within) in
      subst (λ (X : Type 0). X) (λ i. IsAbove (sym c.number-number.ensures i) (member_of k.live.members (sym c.txn-txn.ensures i))) (owned.newest (c.requires.forward r c.remove-scope.ensures.value)));
}

pub returns : goal.returns
returns g c = record {
  items = search rules;
  locks = λ x is. let r = c.remove-scope.result in let k = c.args.self.now in
      let here : r ≡ x = c.remove-scope.ensures.value ∙ sym (get_or_default k.running.items c.args.place x r c.requires.within) ∙ sym is in
      c.give_back.ensures.locks ∙ c.end-op.ensures.locks ∙ ap (λ (z : OpScope). locks_without z.number k.operations.locks) here;
  store = search rules;
  states = λ u. states_kept (λ m. with_call m c.number-number.result (c.end-op.result, c.args.reply)) c.args.self.now.live.members c.note.new.self.members c.txn-txn.result (λ m. refl) c.note.ensures.member u;
  commits = search rules;
  numbers = search rules;
  ends = λ origin base ready x is.
      let r = c.remove-scope.result in let y = ready r c.remove-scope.ensures.value in let e = c.end-op.ensures in let f = c.give_back.ensures in let m = c.note.ensures in let k = c.args.self.now in
      let seen = g.D.Device.seen in
      let fore = c.requires.forward r c.remove-scope.ensures.value in
      let owned : IsOwned k.live.members k.live.standing r = subst (IsOwned k.live.members k.live.standing) (sym y.alone.there) (y.fit.owned c.args.place r y.alone.within) in
      let right = e.right origin.pages origin.relations origin.counters y.fit.right y.alone.own in
      let ended_now = ended_given g.D.Device origin.pages origin.relations origin.counters k.operations c.end-op.new.self c.give_back.new.self r
      (record { right = right; held = e.held origin.pages; others = λ u ku other. e.others origin.pages origin.relations origin.counters u ku other; locks = e.locks; store = e.store })
      (f.right origin.pages origin.relations origin.counters right) f.store f.locks in
      let n : Core g.row.D.Denot = record k { operations = c.give_back.new.self; live = c.note.new.self; running = c.remove-scope.new.self; reserved = k.reserved - (c.log_bytes_for.result - c.bytes_kept.result) } in
      let entry : Entry = record { txn = r.txn; op = r.op; reply = c.args.reply; role = Stands } in
      let copy_pages : undo_pages c.end-op.result ≡ undo_pages r.op = ap undo_pages e.op in
      let copy_bytes : undo_bytes c.end-op.result ≡ undo_bytes r.op = ap undo_bytes e.op in
      let less_pages = weighs_less undo_pages entry in let less_bytes = weighs_less undo_bytes entry in
      let claimed_enough = undo_claimed g.D.Device origin base k c.args.place r y.alone.within y.alone.there fore y.claims in
      let enough = kept_enough g.D.Device origin base k c.args.place r y.fit y.alone.within y.alone.there fore in
      let pages = c.pages_to_undo.ensures.pages in let stay_pages : c.pages_kept.result ≡ call_pages (r.op, c.args.reply) = c.pages_kept.ensures ∙ ap (λ (o : Op). call_pages (o, c.args.reply)) e.op in let bytes = c.log_bytes_for.ensures in let stay_bytes : c.bytes_kept.result ≡ call_bytes (r.op, c.args.reply) = c.bytes_kept.ensures ∙ ap (λ (o : Op). call_bytes (o, c.args.reply)) e.op in
      let same = e.claimed in let back = f.claimed in
      let here : r ≡ x = c.remove-scope.ensures.value ∙ sym (get_or_default k.running.items c.args.place x r y.alone.within) ∙ sym is in
      subst (λ (z : OpScope). IsIn g.D.Device origin (base_after base z.op) (ended (state_of k base) z.txn z.op) n) here
      (noted_in g.D.Device origin base k n c.args.place r c.args.reply y fore c.remove-scope.ensures.items ended_now (omega arith) (omega arith)
      (m.standing ∙ (λ i. k.live.standing ++ record { txn = c.txn-txn.ensures i; op = c.end-op.ensures.op i; reply = c.args.reply; role = Stands } ∷ []))
      (subst (λ (X : Type 0). X) (λ i. IsChanged k.live.members c.note.new.self.members (c.txn-txn.ensures i) (λ z. with_call z (c.number-number.ensures i) (c.end-op.ensures.op i, c.args.reply))) m.member) m.begun m.count);
  notes = λ x is.
      let r = c.remove-scope.result in let m = c.note.ensures in let k = c.args.self.now in
      let n : Core g.row.D.Denot = record k { operations = c.give_back.new.self; live = c.note.new.self; running = c.remove-scope.new.self; reserved = k.reserved - (c.log_bytes_for.result - c.bytes_kept.result) } in
      let here : r ≡ x = c.remove-scope.ensures.value ∙ sym (get_or_default k.running.items c.args.place x r c.requires.within) ∙ sym is in
      subst (λ (z : OpScope). NotesEnd k n z c.args.reply) here (record {
        same = record { book = refl; commits = refl };
        standing = m.standing ∙ (λ i. k.live.standing ++ record { txn = c.txn-txn.ensures i; op = c.end-op.ensures.op i; reply = c.args.reply; role = Stands } ∷ []);
        members = subst (λ (X : Type 0). X) (λ i. IsChanged k.live.members c.note.new.self.members (c.txn-txn.ensures i) (λ z. with_call z (c.number-number.ensures i) (c.end-op.ensures.op i, c.args.reply))) m.member;
        count = m.count;
      });
}
