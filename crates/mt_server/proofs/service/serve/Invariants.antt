use Rattle.mt_server.proofs.service.serve.Given as goal

abbrev pub ghosts-serve_named : goal.ghosts-serve_named
ghosts-serve_named g a = record { mark = a.opened.mark; base = a.opened.base; book = a.opened.book }
