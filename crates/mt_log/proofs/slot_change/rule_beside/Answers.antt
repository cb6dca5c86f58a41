use Rattle.std.proofs.Common.{rules}
use Rattle.mt_log.proofs.Turns.{then_turns}
use Rattle.mt_log.proofs.slot_change.rule_beside.Goals as goal

pub returns-in_err-close_beside : goal.returns-in_err-close_beside
returns-in_err-close_beside g c = record {
  rules = search rules;
  durable = search rules;
  moments = c.close_beside.ensures.moments c.args.ruling.now c.requires.rules;
  elsewhere = search rules;
  rest = search rules;
  cause = search rules;
}

pub returns : goal.returns
returns g c = record {
  rules = search rules;
  durable = search rules;
  moments = then_turns g.D.Device c.args.ruling.now c.args.device.now c.close_beside.new.device c.open_beside.new.device
      (c.close_beside.ensures.moments c.args.ruling.now c.requires.rules) c.close_beside.ensures.elsewhere c.open_beside.ensures.moments;
  elsewhere = search rules;
  rest = search rules;
  cause = search rules;
}
