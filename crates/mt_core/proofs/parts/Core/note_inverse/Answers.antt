use mathlib.Core.Logic.{∥∥₁_elim}
use Rattle.std.proofs.Props.{props}
use Rattle.std.proofs.Common.{◌≡◌, ◌≢◌, ◌∙◌, ℕ, Some, get_or, sym, ap, subst}
use Rattle.std.proofs.lemmas.List.{get_or_default}
use Rattle.mt_live.specs.declared.transactions.TxnState.TheVariants.{Returning}
use Rattle.mt_op.specs.declared.scope.OpScope.{OpScope}
use Rattle.mt_core.specs.Consistent.{state_in, state_of, InvertsIn}
use Rattle.mt_core.specs.Restartable.{NotesInverse}
use Rattle.mt_core.proofs.Returning.{undone_inverts, undone_notes}
use Rattle.mt_core.proofs.parts.Core.note_inverse.Goals as goal

pub note_back-requires-clause-returning : goal.note_back-requires-clause-returning
note_back-requires-clause-returning g c = (
  c.in-Some.field-0,
  λ r at. let ms = c.args.self.now.live.members in let items = c.args.self.now.running.items in let here = c.index.result.now in
      let same : here ≡ r = c.index.ensures ∙ (sym (get_or_default items c.args.place r here c.requires.within) ∙ sym at) in
      ap (λ (z : OpScope). state_in ms z.txn) (sym same) ∙ (ap (state_in ms) (sym c.txn.ensures) ∙ (sym c.state.ensures ∙ c.in-Some.ensures.some)),
)

pub note_undone-requires-clause-ready : goal.note_undone-requires-clause-ready
note_undone-requires-clause-ready g c = ∥∥₁_elim c.requires.ready (hlevel props) (λ (origin, base, ready). ∣ (origin, base, c.args.reply, ready) ∣₁)

pub note_undone-requires-clause-aborting : goal.note_undone-requires-clause-aborting
note_undone-requires-clause-aborting g c = λ r at first is. let ms = c.args.self.now.live.members in let items = c.args.self.now.running.items in let here = c.index.result.now in
    let same : here ≡ r = c.index.ensures ∙ (sym (get_or_default items c.args.place r here c.requires.within) ∙ sym at) in
    c.in-None.ensures.none first (c.state.ensures ∙ (ap (state_in ms) c.txn.ensures ∙ (ap (λ (z : OpScope). state_in ms z.txn) same ∙ is)))

pub returns-in-Some : goal.returns-in-Some
returns-in-Some g c = let k = c.args.self.now in let n = c.note_back.new.self in let ms = k.live.members in
    let at_state : (r : OpScope) → r ≡ get_or k.running.items c.args.place r → state_in ms r.txn ≡ Some (Returning c.in-Some.field-0) = λ r at.
    let here = c.index.result.now in
    let same : here ≡ r = c.index.ensures ∙ (sym (get_or_default k.running.items c.args.place r here c.requires.within) ∙ sym at) in
    ap (λ (z : OpScope). state_in ms z.txn) (sym same) ∙ (ap (state_in ms) (sym c.txn.ensures) ∙ (sym c.state.ensures ∙ c.in-Some.ensures.some)) in
    record {
      outer = c.note_back.ensures.outer;
      ends = λ origin base ready r at. subst (InvertsIn g.D.Device origin base (state_of k base) n r.txn r.op) (sym (at_state r at)) (c.note_back.ensures.ends origin base ready r at c.in-Some.field-0 (at_state r at));
      notes = λ r at. subst (NotesInverse k n r c.args.reply) (sym (at_state r at)) (c.note_back.ensures.notes r at);
    }

pub returns-in-None : goal.returns-in-None
returns-in-None g c = let k = c.args.self.now in let n = c.note_undone.new.self in let ms = k.live.members in
    let stays : (r : OpScope) → r ≡ get_or k.running.items c.args.place r → (first : ℕ) → state_in ms r.txn ≢ Some (Returning first) = λ r at first is.
    let here = c.index.result.now in
    let same : here ≡ r = c.index.ensures ∙ (sym (get_or_default k.running.items c.args.place r here c.requires.within) ∙ sym at) in
    c.in-None.ensures.none first (c.state.ensures ∙ (ap (state_in ms) c.txn.ensures ∙ (ap (λ (z : OpScope). state_in ms z.txn) same ∙ is))) in
    record {
      outer = c.note_undone.ensures.outer;
      ends = λ origin base ready r at. undone_inverts g.D.Device origin base (state_of k base) n r.txn r.op (state_in ms r.txn) (stays r at) (c.note_undone.ensures.ends origin base c.args.reply ready r at);
      notes = λ r at. undone_notes k n r c.args.reply (state_in ms r.txn) (stays r at) (c.note_undone.ensures.notes r at);
    }
