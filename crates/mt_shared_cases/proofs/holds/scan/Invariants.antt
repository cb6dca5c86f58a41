use Rattle.mt_shared_cases.proofs.holds.scan.Given as goal

abbrev pub ghosts-named_scans : goal.ghosts-named_scans
ghosts-named_scans g a = record { mark = a.opened.mark; base = a.opened.base; book = a.opened.book }
