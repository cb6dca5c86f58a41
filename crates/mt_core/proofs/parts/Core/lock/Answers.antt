use mathlib.Core.Logic.{∥∥₁_elim}
use Rattle.std.proofs.Props.{props}
use Rattle.std.proofs.Common.{rules, ◌∙◌, ap, subst}
use Rattle.mt_model.specs.Locks.{without_locks}
use Rattle.mt_model.specs.Model.{asks_of}
use Rattle.mt_slock.specs.Answers.{IsAsked, fresh_in}
use Rattle.mt_slock.specs.Views.{held_of}
use Rattle.mt_slock.specs.declared.table.Asked.TheVariants.{Granted, Wait}
use Rattle.mt_core.proofs.Locked.{locked_from, relocked_in, restored_out}
use Rattle.mt_core.specs.Consistent.{log_kept}
use Rattle.mt_core.specs.declared.parts.Core.{Core}
use Rattle.mt_core.proofs.Refusing.{refused_call}
use Rattle.mt_core.proofs.parts.Core.lock.Goals as goal

pub admit-requires-clause-locked : goal.admit-requires-clause-locked
admit-requires-clause-locked g c = ∥∥₁_elim c.requires.safe (hlevel props) (λ (origin, base, safe, may). let k = c.args.self.now in
    let asked : IsAsked (held_of k.locks) c.args.txn (asks_of c.args.op) (Granted c.in-Granted.fresh) (held_of c.ask.new.self) = subst (λ (X : Type 0). X) (λ i. IsAsked (held_of k.locks) c.args.txn (c.requires.same i) (c.in-Granted.is i) (held_of c.ask.new.self)) c.in_ok-holder.ensures.asked in
    ∣ (origin, base, k.locks, locked_from g.D.Device origin base k (record k { locks = c.ask.new.self }) c.args.txn c.args.op safe may asked.0 asked.1) ∣₁)

pub returns-in-Wait : goal.returns-in-Wait
returns-in-Wait g c = record {
  called = λ origin base safe may. let k = c.args.self.now in
      let asked : IsAsked (held_of k.locks) c.args.txn c.args.asks (Wait c.in-Wait.holder) (held_of c.ask.new.self) = subst (λ a. IsAsked (held_of k.locks) c.args.txn c.args.asks a (held_of c.ask.new.self)) c.in-Wait.is c.in_ok-holder.ensures.asked in
      relocked_in g.D.Device origin base k (record k { locks = c.ask.new.self }) safe asked.2;
  answer = λ origin base safe may. let k = c.args.self.now in
      let asked : IsAsked (held_of k.locks) c.args.txn (asks_of c.args.op) (Wait c.in-Wait.holder) (held_of c.ask.new.self) = subst (λ (X : Type 0). X) (λ i. IsAsked (held_of k.locks) c.args.txn (c.requires.same i) (c.in-Wait.is i) (held_of c.ask.new.self)) c.in_ok-holder.ensures.asked in
      (asked.0, asked.1);
  live = search rules;
  runs = search rules;
  numbered = search rules;
  same_commits = search rules;
  store = search rules;
  book = search rules;
}

pub returns-in-Ok : goal.returns-in-Ok
returns-in-Ok g c = record {
  called = λ origin base safe may. let k = c.args.self.now in
      let asked : IsAsked (held_of k.locks) c.args.txn (asks_of c.args.op) (Granted c.in-Granted.fresh) (held_of c.ask.new.self) = subst (λ (X : Type 0). X) (λ i. IsAsked (held_of k.locks) c.args.txn (c.requires.same i) (c.in-Granted.is i) (held_of c.ask.new.self)) c.in_ok-holder.ensures.asked in
      c.in-Ok.ensures.ok origin base k.locks (locked_from g.D.Device origin base k (record k { locks = c.ask.new.self }) c.args.txn c.args.op safe may asked.0 asked.1);
  answer = λ origin base safe may. let k = c.args.self.now in
      let asked : IsAsked (held_of k.locks) c.args.txn (asks_of c.args.op) (Granted c.in-Granted.fresh) (held_of c.ask.new.self) = subst (λ (X : Type 0). X) (λ i. IsAsked (held_of k.locks) c.args.txn (c.requires.same i) (c.in-Granted.is i) (held_of c.ask.new.self)) c.in_ok-holder.ensures.asked in
      (asked.0, c.in-Ok.ensures.may origin base k.locks (locked_from g.D.Device origin base k (record k { locks = c.ask.new.self }) c.args.txn c.args.op safe may asked.0 asked.1));
  live = search rules;
  runs = search rules;
  numbered = c.in-Ok.ensures.numbered;
  same_commits = search rules;
  store = search rules;
  book = search rules;
}

pub returns-in-Err : goal.returns-in-Err
returns-in-Err g c = record {
  called = λ origin base safe may. let k = c.args.self.now in
      let asked : IsAsked (held_of k.locks) c.args.txn (asks_of c.args.op) (Granted c.in-Granted.fresh) (held_of c.ask.new.self) = subst (λ (X : Type 0). X) (λ i. IsAsked (held_of k.locks) c.args.txn (c.requires.same i) (c.in-Granted.is i) (held_of c.ask.new.self)) c.in_ok-holder.ensures.asked in
      restored_out g.D.Device origin base k (record k { locks = c.ask.new.self }) c.admit.new.self (record c.admit.new.self { locks = c.take_out.new.self }) c.args.txn c.args.op c.in-Granted.fresh safe asked.1 asked.2 c.in-Err.ensures.err
      (c.take_out.ensures.taken ∙ (λ i. without_locks (held_of c.admit.new.self.locks) c.args.txn (fresh_in ((c.into_asks.ensures ∙ ap asks_of c.in-Err.ensures.back) i) c.in-Granted.fresh)));
  answer = λ origin base safe may. let k = c.args.self.now in
      let asked : IsAsked (held_of k.locks) c.args.txn (asks_of c.args.op) (Granted c.in-Granted.fresh) (held_of c.ask.new.self) = subst (λ (X : Type 0). X) (λ i. IsAsked (held_of k.locks) c.args.txn (c.requires.same i) (c.in-Granted.is i) (held_of c.ask.new.self)) c.in_ok-holder.ensures.asked in
      refused_call g.D.Device origin k (log_kept k) c.args.txn c.args.op c.in-Err.why asked.0 (c.in-Err.ensures.cause origin base k.locks (locked_from g.D.Device origin base k (record k { locks = c.ask.new.self }) c.args.txn c.args.op safe may asked.0 asked.1));
  live = search rules;
  runs = search rules;
  numbered = ap (λ (x : Core _). x.last) c.in-Err.ensures.err.same;
  same_commits = search rules;
  store = search rules;
  book = search rules;
}
