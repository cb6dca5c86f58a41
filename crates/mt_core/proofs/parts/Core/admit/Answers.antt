use mathlib.Core.Logic.{∥∥₁_elim}
use Rattle.std.proofs.Props.{props}
use Rattle.std.proofs.Common.{rules, sym, subst, ⊎_elim}
use Rattle.mt_model.specs.Model.{IsWithin}
use Rattle.mt_core.proofs.Locked.{granted_from}
use Rattle.mt_core.specs.Causes.{IsRefusedBehind}
use Rattle.mt_core.specs.Consistent.{log_kept}
use Rattle.mt_core.proofs.Refusing.{behind}
use Rattle.mt_core.proofs.parts.Core.admit.Goals as goal

pub ask-requires : goal.ask-requires
ask-requires g c = record {
  within = ∥∥₁_elim c.requires.locked (hlevel props) (λ (origin, base, was, l). ∣ (origin.relations, subst (λ n. IsWithin origin.relations n c.args.op) (sym l.was.fit.escrowed.all) l.may.within) ∣₁);
}

pub start-requires-clause-granted : goal.start-requires-clause-granted
start-requires-clause-granted g c = ∥∥₁_elim c.requires.locked (hlevel props) (λ (origin, base, locks, l). let k = c.args.self.now in let e = c.in-Ok.ensures in ∣ (
  origin,
  base,
  locks,
  k.escrow,
  granted_from g.D.Device origin base locks k (record k { escrow = c.ask.new.escrow }) c.args.txn c.args.op l e.granted c.ask.ensures.committed c.ask.ensures.aside e.admitted,
) ∣₁)

pub returns-in-Ok-start : goal.returns-in-Ok-start
returns-in-Ok-start g c = record {
  ok = λ origin base locks l. let k = c.args.self.now in let e = c.in-Ok.ensures in
      c.in-Ok-start.ensures.ok origin base locks k.escrow
      (granted_from g.D.Device origin base locks k (record k { escrow = c.ask.new.escrow }) c.args.txn c.args.op l e.granted c.ask.ensures.committed c.ask.ensures.aside e.admitted);
  may = λ origin base locks l. let k = c.args.self.now in let e = c.in-Ok.ensures in (
    e.admitted,
    c.in-Ok-start.ensures.may origin base locks k.escrow
        (granted_from g.D.Device origin base locks k (record k { escrow = c.ask.new.escrow }) c.args.txn c.args.op l e.granted c.ask.ensures.committed c.ask.ensures.aside e.admitted),
  );
  cause = search rules;
  back = search rules;
  err = search rules;
  live = search rules;
  runs = search rules;
  numbered = c.in-Ok-start.ensures.numbered;
  same_commits = search rules;
  store = search rules;
  book = search rules;
}

pub returns-in-Err-start : goal.returns-in-Err-start
returns-in-Err-start g c = record {
  ok = search rules;
  may = search rules;
  cause = λ origin base locks l. let k = c.args.self.now in let e = c.in-Ok.ensures in
      behind g.D.Device origin k (log_kept k) c.args.txn c.args.op c.in-Err-start.why e.admitted
      (c.in-Err-start.ensures.cause origin base locks k.escrow
      (granted_from g.D.Device origin base locks k (record k { escrow = c.ask.new.escrow }) c.args.txn c.args.op l e.granted c.ask.ensures.committed c.ask.ensures.aside e.admitted));
  back = search rules;
  err = search rules;
  live = search rules;
  runs = search rules;
  numbered = search rules;
  same_commits = search rules;
  store = search rules;
  book = search rules;
}

pub returns-in-Err : goal.returns-in-Err
returns-in-Err g c = record {
  ok = search rules;
  may = search rules;
  cause = λ origin base locks l. let k = c.args.self.now in
      ⊎_elim (λ m. subst (IsRefusedBehind g.D.Device origin k (log_kept k) c.args.txn c.args.op) (sym m) tt)
      (λ e. subst (IsRefusedBehind g.D.Device origin k (log_kept k) c.args.txn c.args.op) (sym e.0) e.1) c.in-Err.ensures.cause;
  back = search rules;
  err = search rules;
  live = search rules;
  runs = search rules;
  numbered = search rules;
  same_commits = search rules;
  store = search rules;
  book = search rules;
}
