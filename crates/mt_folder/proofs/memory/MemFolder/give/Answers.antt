use Rattle.std.proofs.Common.{ap}
use Rattle.std.specs.List.{slice_set}
use Rattle.mt_folder.proofs.memory.MemFolder.give.Goals as goal

pub returns : goal.returns
returns c = record {
  file = c.index_mut.result.now;
  at = c.index_mut.ensures.value;
  given = ap (λ b. slice_set c.args.self.now.files.items c.args.place (c.index_mut.result.now.0, b)) c.new.ensures;
}
