use Rattle.std.proofs.Common.{rules, ◌∙◌, Ok, ap, refl, subst}
use Rattle.mt_pool.specs.FetchSteps.{FetchSteps}
use Rattle.mt_op.proofs.Right.{right_rests, store_rests}
use Rattle.mt_op.proofs.operations.Operations.bring.Goals as goal

pub returns-in-Ok-There : goal.returns-in-Ok-There
returns-in-Ok-There g c = record {
  right = λ opening relations counters k. let f = c.fetch.ensures in let seen = g.D.Device.seen in
      right_rests g.D.Device opening relations counters c.args.self.now _ k (f.keeps.kept opening k.kept) (store_rests g.D.Device opening c.args.self.now c.fetch.new.self f.log f.moves.pages (λ q lt. f.views q)) refl refl;
  kept = search rules;
  rests = search rules;
  moments = search rules;
  reads = c.fetch.ensures.reads;
  there = λ is. (subst (FetchSteps c.args.page c.args.self.now.store.pool c.fetch.new.self.pool) (c.in-Ok-There.is ∙ ap Ok c.in-Ok-There.field-0-is) c.fetch.ensures.steps).0;
  full = search rules;
  place = search rules;
  log = search rules;
  locks = search rules;
  map = search rules;
  rooms = search rules;
  waits = search rules;
  flush = search rules;
  only_device = search rules;
  cause = search rules;
}

pub returns-in-Ok-Flush : goal.returns-in-Ok-Flush
returns-in-Ok-Flush g c = record {
  right = λ opening relations counters k. let f = c.fetch.ensures in let seen = g.D.Device.seen in
      right_rests g.D.Device opening relations counters c.args.self.now _ k (f.keeps.kept opening k.kept) (store_rests g.D.Device opening c.args.self.now c.fetch.new.self f.log f.moves.pages (λ q lt. f.views q)) refl refl;
  kept = search rules;
  rests = search rules;
  moments = search rules;
  reads = c.fetch.ensures.reads;
  there = search rules;
  full = λ is. ((subst (FetchSteps c.args.page c.args.self.now.store.pool c.fetch.new.self.pool) (c.in-Ok-Flush.is ∙ ap Ok c.in-Ok-Flush.field-0-is) c.fetch.ensures.steps).0.full, search rules);
  place = search rules;
  log = search rules;
  locks = search rules;
  map = search rules;
  rooms = search rules;
  waits = search rules;
  flush = search rules;
  only_device = search rules;
  cause = search rules;
}

pub returns-in-Err : goal.returns-in-Err
returns-in-Err g c = record {
  right = λ opening relations counters k. let f = c.fetch.ensures in let seen = g.D.Device.seen in
      right_rests g.D.Device opening relations counters c.args.self.now _ k (f.keeps.kept opening k.kept) (store_rests g.D.Device opening c.args.self.now c.fetch.new.self f.log f.moves.pages (λ q lt. f.views q)) refl refl;
  kept = search rules;
  rests = search rules;
  moments = search rules;
  reads = c.fetch.ensures.reads;
  there = search rules;
  full = search rules;
  place = search rules;
  log = search rules;
  locks = search rules;
  map = search rules;
  rooms = search rules;
  waits = search rules;
  flush = search rules;
  only_device = search rules;
  cause = search rules;
}
