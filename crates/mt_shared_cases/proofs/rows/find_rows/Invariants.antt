use Rattle.mt_shared_cases.proofs.rows.find_rows.Given as goal

abbrev pub ghosts-named_rows : goal.ghosts-named_rows
ghosts-named_rows g a = record { mark = a.opened.mark; base = a.opened.base; book = a.opened.book }
