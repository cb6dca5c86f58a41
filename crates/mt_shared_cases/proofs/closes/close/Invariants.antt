use Rattle.mt_shared_cases.proofs.closes.close.Given as goal

abbrev pub ghosts-named_closes : goal.ghosts-named_closes
ghosts-named_closes g a = record { mark = a.opened.mark; base = a.opened.base; book = a.opened.book }
