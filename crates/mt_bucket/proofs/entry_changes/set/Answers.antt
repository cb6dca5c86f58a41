use Rattle.mt_bucket.specs.Page.{count_of}
use Rattle.mt_bucket.proofs.Lists.{look_none}
use Rattle.mt_bucket.proofs.Moves.{set_first}
use Rattle.mt_bucket.proofs.entry_changes.set.Goals as goal

pub returns-in_default-clause-none : goal.returns-in_default-clause-none
returns-in_default-clause-none c = look_none c.args.relation c.args.key.now c.args.page.now 8 (count_of c.args.page.now) c.in_default.ensures.none

pub returns-clause-set : goal.returns-clause-set
returns-clause-set c = (set_first c.args.relation c.args.key.now c.args.page.now c.write_name.new.bytes c.in-Some.i c.args.name c.requires.whole c.requires.short c.in-Some.ensures.found c.write_name.ensures.rest c.write_name.ensures.page c.write_name.ensures.slot).list

pub returns-clause-found : goal.returns-clause-found
returns-clause-found c = (set_first c.args.relation c.args.key.now c.args.page.now c.write_name.new.bytes c.in-Some.i c.args.name c.requires.whole c.requires.short c.in-Some.ensures.found c.write_name.ensures.rest c.write_name.ensures.page c.write_name.ensures.slot).found
