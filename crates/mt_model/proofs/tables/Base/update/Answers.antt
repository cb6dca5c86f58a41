use Rattle.std.proofs.Common.{ap, sym, ◌∙◌}
use Rattle.mt_model.specs.Model.{updated, was}
use Rattle.mt_model.proofs.TableLemmas.{base-altered}
use Rattle.mt_model.proofs.tables.Base.update.Goals as goal

pub returns-in-Some : goal.returns-in-Some
returns-in-Some c = record {
  reply = ap was (sym c.in-Some.is ∙ c.in_ok-old.ensures.was);
  base = base-altered c.args.self.now.rows c.update.new.self c.args.self.now.counters c.args.relation c.args.key.now (updated c.args.value.now) c.in_ok-old.ensures.ok;
  only_memory = search;
  kept = search;
  relations = search;
  counters = search;
}

pub returns-in-None : goal.returns-in-None
returns-in-None c = record {
  reply = ap was (sym c.in-None.is ∙ c.in_ok-old.ensures.was);
  base = base-altered c.args.self.now.rows c.update.new.self c.args.self.now.counters c.args.relation c.args.key.now (updated c.args.value.now) c.in_ok-old.ensures.ok;
  only_memory = search;
  kept = search;
  relations = search;
  counters = search;
}
