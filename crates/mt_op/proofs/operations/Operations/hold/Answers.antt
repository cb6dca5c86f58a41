use Rattle.std.proofs.Common.{rules, refl, subst, ap, ◌∙◌}
use Rattle.mt_plock.specs.declared.guards.Asked.{Asked}
use Rattle.mt_plock.specs.Holding.{lock_of, IsAnswered}
use Rattle.mt_plock.specs.Releasing.{locks_without}
use Rattle.mt_op.proofs.operations.Operations.hold.Goals as goal

pub returns-in-Again : goal.returns-in-Again
returns-in-Again g c = record {
  held = λ opening.
      let lock = lock_of c.args.scope.now.number c.args.page c.args.mode in
      let answer = subst (λ (a : Asked). IsAnswered lock c.args.self.now.locks a c.ask.new.self) c.in-Again.is c.in_ok-guard.ensures.answer in
      let left = c.begin_again.ensures.leaves opening in
      let anew = c.begin_again.ensures.anew in (
        record {
          area = record { opening = left.area.opening; total = left.area.total };
          pages = left.pages;
          records = left.records;
          locks = left.locks ∙ ap (locks_without c.args.scope.now.number) answer.2;
        },
        record {
          op = record { txn = anew.op.txn; number = anew.op.number; op = anew.op.op; undoes = anew.op.undoes; split = anew.op.split; total = anew.op.total };
          stage = anew.stage;
          room = anew.room;
          guards = anew.guards;
          seen = anew.seen;
          search = anew.search;
          changes = anew.changes;
          reply = anew.reply;
          written = anew.written;
          standing = anew.standing;
          left = anew.left;
        },
        (answer.0, answer.1),
      );
  store = search rules;
  map = search rules;
  rooms = search rules;
  same = search rules;
  room = search rules;
  never = search rules;
  only_memory = search rules;
}

pub returns-in-Wait : goal.returns-in-Wait
returns-in-Wait g c = record {
  held = λ opening.
      let answer = subst (λ (a : Asked). IsAnswered (lock_of c.args.scope.now.number c.args.page c.args.mode) c.args.self.now.locks a c.ask.new.self) c.in-Wait.is c.in_ok-guard.ensures.answer in (
        record { area = record { opening = refl; total = refl }; pages = λ p lt. refl; records = refl; locks = answer.2 },
        record {
          plan = record { op = record { txn = refl; number = refl; op = refl; undoes = refl; split = refl; total = refl }; room = refl; guards = c.reserve.ensures.items; seen = refl; changes = refl; reply = refl };
          search = refl;
          stage = refl;
          written = refl;
          standing = refl;
          left = refl;
        },
        (answer.0, answer.1),
      );
  store = search rules;
  map = search rules;
  rooms = search rules;
  same = search rules;
  room = search rules;
  never = search rules;
  only_memory = search rules;
}
