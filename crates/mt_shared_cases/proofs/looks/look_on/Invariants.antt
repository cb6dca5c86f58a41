use Rattle.mt_shared_cases.proofs.looks.look_on.Given as goal

abbrev pub ghosts-named_looks : goal.ghosts-named_looks
ghosts-named_looks g a = record { mark = a.opened.mark; base = a.opened.base; book = a.opened.book }
