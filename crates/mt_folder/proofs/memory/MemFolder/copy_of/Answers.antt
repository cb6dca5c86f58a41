use Rattle.std.proofs.Common.{Some, inl, refl, sym, ap, ◌∙◌}
use Rattle.mt_folder.proofs.FolderLemmas.{at_place, no_place}
use Rattle.mt_folder.proofs.memory.MemFolder.copy_of.Goals as goal

pub returns-in_ok-copy-in-Some-clause-held : goal.returns-in_ok-copy-in-Some-clause-held
returns-in_ok-copy-in-Some-clause-held c =
    at_place c.args.name.now c.args.self.now.files.items c.in-Some.place c.index.result.now c.in-Some.ensures c.index.ensures ∙ ap Some (sym (c.into_vec.ensures ∙ c.in_ok-copy-in-Some.ensures))

pub returns-in-None-clause-cause : goal.returns-in-None-clause-cause
returns-in-None-clause-cause c = inl (refl, no_place c.args.name.now c.args.self.now.files.items c.in-None.ensures)
