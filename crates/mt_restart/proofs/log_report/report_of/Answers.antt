use Rattle.std.proofs.Common.{refl}
use Rattle.mt_restart.proofs.log_report.report_of.Goals as goal

pub returns : goal.returns
returns c = λ bytes log. record {
  slot = c.args.ruling.now;
  figures = c.args.figures;
  log = log;
  format_is = refl;
  epoch = refl;
  area = refl;
  batches = refl;
  records = refl;
  commits = refl;
}
