use Rattle.mt_folder.proofs.FolderLemmas.{gave, not_there}
use Rattle.mt_folder.proofs.memory.MemFolderFolder.back.Goals as goal

pub unreachable-requires : goal.unreachable-requires
unreachable-requires c = not_there c.args.self.now.files.items c.args.name.now c.in-None.ensures c.requires

pub returns : goal.returns
returns c = gave c.args.self.now.files.items _ c.in-Some.place c.args.name.now _ c.in-Some.ensures (rw c.into_bytes.ensures at c.give.ensures)
