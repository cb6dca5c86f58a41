use Rattle.mt_folder.specs.Folders.{AreKept}
use Rattle.mt_device_commands.proofs.waits.Patience.copy.Given as goal

abbrev pub invariant-loop : goal.invariant-loop
invariant-loop g l = AreKept (g.F.Folder.files l.initial.folder) (g.F.Folder.files l.folder)
