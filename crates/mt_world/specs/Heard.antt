-- What was answered to a transaction, as it is kept in memory.
use Rattle.mt_world.specs.Reported.{Reported}
use Rattle.mt_world.specs.declared.commit_order.Heard.{Heard}

abbrev pub reported_by : Heard → Reported
reported_by h = record {
  session = h.session;
  started = h.started;
  calls = h.calls;
  counting = h.counting.items;
  first = h.first;
}
