use Rattle.std.proofs.Common.{refl}
use Rattle.mt_folder.proofs.memory.MemFolderFolder.script.Goals as goal

pub returns-clause-held : goal.returns-clause-held
returns-clause-held c = rw (c.in_ok-text.ensures.held, c.new.ensures.inner, c.new.ensures.position) refl
