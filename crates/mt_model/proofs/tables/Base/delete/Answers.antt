use Rattle.mt_model.specs.Model.{deleted}
use Rattle.mt_model.proofs.TableLemmas.{base-altered}
use Rattle.mt_model.proofs.tables.Base.delete.Goals as goal

pub returns-in-Some-clause-base : goal.returns-in-Some-clause-base
returns-in-Some-clause-base c =
    base-altered c.args.self.now.rows c.delete.new.self c.args.self.now.counters c.args.relation c.args.key.now deleted c.delete.ensures.rows

pub returns-in-None-clause-base : goal.returns-in-None-clause-base
returns-in-None-clause-base c =
    base-altered c.args.self.now.rows c.delete.new.self c.args.self.now.counters c.args.relation c.args.key.now deleted c.delete.ensures.rows
