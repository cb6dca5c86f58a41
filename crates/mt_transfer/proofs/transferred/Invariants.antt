use Rattle.mt_transfer.proofs.transferred.Given as goal

abbrev pub ghosts-shared_transfers : goal.ghosts-shared_transfers
ghosts-shared_transfers g a = record { mark = a.opened.mark; base = a.opened.base; book = a.opened.book }
