use Rattle.std.proofs.Common.{◌<◌, List, arith, length, subst}
use Rattle.std.proofs.KnownBytes.{Keeps-refl}
use Rattle.std.proofs.lemmas.List.{length-map}
use Rattle.mt_folder.proofs.FolderLemmas.{lent_and_back}
use Rattle.mt_script.specs.Scripts.{lines_in}
use Rattle.mt_script.specs.declared.reader.Script.{Script}
use Rattle.mt_base.specs.declared.limits.TheConstants.{MAX_SESSIONS}
use Rattle.mt_cli.proofs.AtOnceLemmas.{unreported_at_once}
use Rattle.mt_cli.specs.Serves.{let_go, no_device_at_once, too_many_at_once}
use Rattle.mt_cli.proofs.at_once.serve_file_at_once.Goals as goal

pub returns-in-Err-clause-unserved : goal.returns-in-Err-clause-unserved
returns-in-Err-clause-unserved g c =
    no_device_at_once c.in-Err.refusal (rw c.as_str-name.ensures.value at c.in-Err.ensures.cause) c.in-Err.ensures.err (Keeps-refl (g.O.Write.contents c.args.out.now))

pub returns-then-are_too_many-clause-unserved : goal.returns-then-are_too_many-clause-unserved
returns-then-are_too_many-clause-unserved g c =
    let many : MAX_SESSIONS < length c.args.scripts.items = subst (λ (scripts : List Script). MAX_SESSIONS < length scripts) c.deref.ensures.value (rw c.if-are_too_many.true at c.are_too_many.ensures) in
    too_many_at_once (omega (arith, length-map c.args.scripts.items lines_in, many))
    (lent_and_back _ _ _ _ _ c.in-Ok.ensures.held c.in-Ok.ensures.lent c.back.ensures) (Keeps-refl (g.O.Write.contents c.args.out.now))

pub returns-in-Ok-serve_over_at_once-clause-unserved : goal.returns-in-Ok-serve_over_at_once-clause-unserved
returns-in-Ok-serve_over_at_once-clause-unserved g c =
    let behind = c.in-Ok-serve_over_at_once.behind in
    rw c.as_str-name.ensures.value at
    (unreported_at_once _ _ _ _ _ _ _ behind.transcripts.items c.in-Ok.ensures.held c.in-Ok.ensures.lent c.back-in-Ok-serve_over_at_once.ensures behind.has_failed _ _ c.report_sessions.result
    c.in-Ok-serve_over_at_once.ensures.served (rw c.as_slice.ensures.value at c.report_sessions.ensures.front) c.report_sessions.ensures.why)

pub returns-in-Err-serve_over_at_once-clause-unserved : goal.returns-in-Err-serve_over_at_once-clause-unserved
returns-in-Err-serve_over_at_once-clause-unserved g c =
    let_go _ c.in-Err-serve_over_at_once.refusal (rw c.as_str-name.ensures.value at c.in-Ok.ensures.held) (rw (length-map c.args.scripts.items lines_in) c.in-Err-serve_over_at_once.ensures.refused)
    (rw c.as_str-name.ensures.value at c.in-Ok.ensures.lent) (Keeps-refl (g.O.Write.contents c.args.out.now))
