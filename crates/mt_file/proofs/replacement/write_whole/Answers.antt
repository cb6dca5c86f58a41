use Rattle.std.proofs.Common.{rules}
use Rattle.mt_space.proofs.Changing.{none_touched}
use Rattle.mt_space.specs.Changes.{after}
use Rattle.mt_file.proofs.Planned.{noted_first}
use Rattle.mt_file.proofs.Moved.{whole_page}
use Rattle.mt_file.proofs.replacement.write_whole.Goals as goal

pub returns : goal.returns
returns c = record {
  page = search rules;
  whole = λ pages is.
      whole_page pages (after c.note.new.self.list.items pages) c.args.page c.page_of_one-slot.result.1 c.page_of_one-slot.result.0
      (record { relation = c.args.relation; key = c.args.key.now; value = c.args.value.now })
      c.page_of_one-slot.ensures.shaped c.page_of_one-slot.ensures.one c.page_of_one-slot.ensures.alone
      (noted_first c.args.changes.list.items c.note.new.self.list.items pages c.args.page c.args.old.now c.page_of_one-slot.result.0 c.requires.none (c.in_ok-note.ensures.noted pages) is);
  short = search rules;
  few = search rules;
  others = λ p other. c.in_ok-note.ensures.others p other (none_touched c.args.changes.list.items p c.requires.none);
}
