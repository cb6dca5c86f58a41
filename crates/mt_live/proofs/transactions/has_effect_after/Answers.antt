use Rattle.std.proofs.Common.{◌≡◌, ◌∙◌, length, sym, ap, take, arith}
use Rattle.std.proofs.Math.Dec.{leb}
use Rattle.std.proofs.lemmas.List.{length-take-le}
use Rattle.mt_live.specs.Members.{noted_calls, standing_count}
use Rattle.mt_live.specs.Entries.{is_standing}
use Rattle.mt_live.proofs.Noting.{noted-count, noted-take}
use Rattle.mt_live.proofs.Reaching.{reaches, effect_after}
use Rattle.mt_live.proofs.transactions.has_effect_after.Goals as goal

pub returns-in-Some : goal.returns-in-Some
returns-in-Some c =
    let cs = c.args.calls.now in
    let rs = c.args.roles.now in
    let n = c.args.first in
    let at = c.in-Some.at in
    let calls = length-take-le at cs (omega (arith, c.in-Some.ensures.within)) in
    let roles = length-take-le at rs (omega (arith, c.in-Some.ensures.within, c.requires)) in
    let each : length (take at rs) ≡ length (take at cs) = omega (arith, calls, roles) in
    ap (leb n) (c.count_standing.ensures.count ∙ (sym (noted-count is_standing (take at cs) (take at rs) each) ∙ ap standing_count (noted-take at cs rs)))
    ∙ sym (effect_after n (noted_calls cs rs) ∙ ap (reaches n (noted_calls cs rs)) (sym c.last_place.ensures.place ∙ c.in-Some.is))

pub returns-in-None : goal.returns-in-None
returns-in-None c =
    let cs = noted_calls c.args.calls.now c.args.roles.now in
    sym (effect_after c.args.first cs ∙ ap (reaches c.args.first cs) (sym c.last_place.ensures.place ∙ c.in-None.is))
