use Rattle.mt_frame.specs.PageRecords.{represented}
use Rattle.mt_log.proofs.log.Log.append_page.Given as goal

abbrev pub ghost-and_as : goal.ghost-and_as
ghost-and_as a = represented
