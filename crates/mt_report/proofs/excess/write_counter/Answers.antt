use Rattle.std.proofs.Common.{◌≡◌, ◌∙◌, SFits, rules, subst, to_z-of_z, w64}
use Rattle.std.specs.Fmt.{signed_decimal}
use Rattle.std.specs.Io.KnownBytes.{Appends}
use Rattle.std.proofs.lemmas.Result.{on_err_weaker, on_ok_weaker}
use Rattle.mt_script.specs.Answers.{AppendsFront}
use Rattle.mt_report.proofs.ExcessLemmas.{counter_same}
use Rattle.mt_report.proofs.excess.write_counter.Goals as goal

pub returns-clause-all : goal.returns-clause-all
returns-clause-all g c =
    let low_fits : SFits w64 c.args.low = search rules in
    let high_fits : SFits w64 c.args.high = search rules in
    let start_fits : SFits w64 c.args.start = search rules in
    let low : c.as_bytes.result.now ≡ signed_decimal c.args.low = simp to_z-of_z at (c.as_bytes.ensures.value ∙ c.format.ensures.text) in
    let high : c.as_bytes-2.result.now ≡ signed_decimal c.args.high = simp to_z-of_z at (c.as_bytes-2.ensures.value ∙ c.format-2.ensures.text) in
    let start : c.as_bytes-3.result.now ≡ signed_decimal c.args.start = simp to_z-of_z at (c.as_bytes-3.ensures.value ∙ c.format-3.ensures.text) in
    on_ok_weaker c.put_all.result (subst (Appends _ _) (counter_same _ _ _ c.args.low c.args.high c.args.start low high start)) c.put_all.ensures.all

pub returns-clause-front : goal.returns-clause-front
returns-clause-front g c =
    let low_fits : SFits w64 c.args.low = search rules in
    let high_fits : SFits w64 c.args.high = search rules in
    let start_fits : SFits w64 c.args.start = search rules in
    let low : c.as_bytes.result.now ≡ signed_decimal c.args.low = simp to_z-of_z at (c.as_bytes.ensures.value ∙ c.format.ensures.text) in
    let high : c.as_bytes-2.result.now ≡ signed_decimal c.args.high = simp to_z-of_z at (c.as_bytes-2.ensures.value ∙ c.format-2.ensures.text) in
    let start : c.as_bytes-3.result.now ≡ signed_decimal c.args.start = simp to_z-of_z at (c.as_bytes-3.ensures.value ∙ c.format-3.ensures.text) in
    on_err_weaker c.put_all.result (subst (AppendsFront _ _) (counter_same _ _ _ c.args.low c.args.high c.args.start low high start)) c.put_all.ensures.front
