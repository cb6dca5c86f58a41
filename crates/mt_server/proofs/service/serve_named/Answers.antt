use Rattle.std.proofs.Common.{arith, IfOk, length, map, subst, sym, ◌∙◌}
use Rattle.std.proofs.lemmas.List.{length-map}
use Rattle.std.proofs.lemmas.Result.{IfOk-weaker}
use Rattle.mt_model.specs.declared.tables.Base.{Base}
use Rattle.mt_server.proofs.ServingLemmas.{blank_board}
use Rattle.mt_server.specs.Crews.{IsBlank, IsBoard}
use Rattle.mt_script.specs.Scripts.{lines_in}
use Rattle.mt_locked.specs.Began.{BeganOn}
use Rattle.mt_server.proofs.service.serve_named.Goals as goal

pub close-requires : goal.close-requires
close-requires g c =
    let scripts = map lines_in c.args.scripts.now in
    let board = c.in-Ok-blank.board in
    let blank = subst (λ n. IsBlank n board) (sym (length-map c.args.scripts.now lines_in)) c.in-Ok-blank.ensures in
    record { first = sym c.requires.name.2 ∙ c.requires.first; placed = λ book seen. subst (IsBoard scripts _ book) (omega arith) (c.in-Ok-gather.ensures book 0 seen (blank_board scripts board book blank)) }

pub returns-in-Ok-gather-clause-frames : goal.returns-in-Ok-gather-clause-frames
returns-in-Ok-gather-clause-frames g c = IfOk-weaker c.close.result _ _ (λ s began. c.in-Ok.ensures.opened) c.close.ensures.began

pub returns-in-Ok-gather-clause-began : goal.returns-in-Ok-gather-clause-began
returns-in-Ok-gather-clause-began g c =
    subst (λ (b : Base). IfOk c.close.result (λ s. BeganOn b s.kernel)) (sym c.requires.name.1) c.close.ensures.began
