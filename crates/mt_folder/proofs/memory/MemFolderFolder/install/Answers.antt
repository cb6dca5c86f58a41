use Rattle.std.proofs.lemmas.Result.{on_ok_weaker}
use Rattle.mt_folder.proofs.FolderLemmas.{added, gave}
use Rattle.mt_folder.proofs.memory.MemFolderFolder.install.Goals as goal

pub returns-in-Some-clause-put : goal.returns-in-Some-clause-put
returns-in-Some-clause-put c = gave c.args.self.now.files.items _ c.in-Some.place c.args.name.now _ c.in-Some.ensures (rw c.into_bytes-bytes.ensures at c.give.ensures)

pub returns-in-None-clause-put : goal.returns-in-None-clause-put
returns-in-None-clause-put c = on_ok_weaker c.add.result (λ is. added c.args.self.now.files.items _ c.args.name.now _ c.in-None.ensures (rw c.into_bytes-bytes.ensures at is)) c.add.ensures.added
