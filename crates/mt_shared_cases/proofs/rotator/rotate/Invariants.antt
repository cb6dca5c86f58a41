use Rattle.mt_shared_cases.proofs.rotator.rotate.Given as goal

abbrev pub ghosts-named_rotates : goal.ghosts-named_rotates
ghosts-named_rotates g a = record { mark = a.opened.mark; base = a.opened.base; book = a.opened.book }
