use Rattle.std.proofs.Common.{ap}
use Rattle.mt_pool.specs.declared.store.Store.{Store}
use Rattle.mt_op.proofs.LogSeen.{appended_ok, appended_err}
use Rattle.mt_op.proofs.Stored.{append_steps, right_appended, others_appended, held_appended}
use Rattle.mt_op.proofs.operations.Operations.append.Goals as goal

pub returns-clause-right : goal.returns-clause-right
returns-clause-right g c = λ opening relations counters right. let f = c.append.ensures in
    right_appended g.D.Device opening relations counters c.args.self.now c.append.new.self c.args.entry (ap (λ (x : Store _). x.pool) f.only_log) (ap (λ (x : Store _). x.device) f.only_log) c.append.result (appended_ok c.args.self.now.store.log c.append.new.self.log c.args.entry c.append.result f.log) (appended_err c.args.self.now.store.log c.append.new.self.log c.args.entry c.append.result f.err) c.requires.ends right (f.keeps.kept opening right.kept)

pub returns-clause-held : goal.returns-clause-held
returns-clause-held g c = λ opening. let f = c.append.ensures in
    held_appended g.D.Device opening 0 0 c.args.self.now c.append.new.self c.args.entry (ap (λ (x : Store _). x.pool) f.only_log) (ap (λ (x : Store _). x.device) f.only_log) c.append.result (appended_ok c.args.self.now.store.log c.append.new.self.log c.args.entry c.append.result f.log) (appended_err c.args.self.now.store.log c.append.new.self.log c.args.entry c.append.result f.err) c.requires.ends

pub returns-clause-others : goal.returns-clause-others
returns-clause-others g c = λ opening relations counters u k other. let f = c.append.ensures in
    others_appended g.D.Device opening relations counters c.args.self.now c.append.new.self c.args.entry (ap (λ (x : Store _). x.pool) f.only_log) (ap (λ (x : Store _). x.device) f.only_log) c.append.result (appended_ok c.args.self.now.store.log c.append.new.self.log c.args.entry c.append.result f.log) (appended_err c.args.self.now.store.log c.append.new.self.log c.args.entry c.append.result f.err) c.requires.ends u k other

pub returns-clause-steps : goal.returns-clause-steps
returns-clause-steps g c = let f = c.append.ensures in
    append_steps g.D.Device c.args.self.now c.append.new.self c.args.entry (ap (λ (x : Store _). x.pool) f.only_log) (ap (λ (x : Store _). x.device) f.only_log) c.append.result f.log f.err f.place f.only_memory
