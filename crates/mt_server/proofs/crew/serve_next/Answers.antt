use Rattle.std.proofs.Common.{◌≡◌, ◌<◌, ◌++◌, ◌∷◌, [], arith, length, map, ap, subst, sym, ◌∙◌}
use Rattle.std.proofs.lemmas.List.{get_or-map, length-map}
use Rattle.mt_script.specs.Scripts.{lines_in}
use Rattle.mt_server.specs.declared.board.Reported.{Reported}
use Rattle.mt_server.proofs.CrewLemmas.{heard_more}
use Rattle.mt_server.proofs.crew.serve_next.Goals as goal

pub returns : goal.returns
returns g c = λ was.
    let scripts = c.args.scripts.now in let script = c.index-scripts-at.result in
    let within : c.in-Ok.number < length scripts = omega arith in
    let outcome : Reported = record { at = c.in-Ok.number; text = c.in_ok-text.text; has_failed = c.in_ok-text.has_failed } in
    heard_more g.J.Naming.base (map lines_in scripts) c.args.pass.now c.run_session.new.pass c.args.outcome.now.items c.push_reserved.new.self.items outcome (lines_in script) (omega (arith, within, length-map scripts lines_in))
    (ap lines_in c.index-scripts-at.is ∙ sym (get_or-map lines_in scripts c.in-Ok.number script (lines_in script) within)) c.in_ok-text.ensures
    (c.push_reserved.ensures.items ∙ ap (λ ts. ts ++ outcome ∷ []) c.in_ok-reserve.ensures.items) was
