use Rattle.std.proofs.Common.{◌≡◌, ◌∙◌, [], Some, None, map, string_bytes, unwrap_or, codes, ap}
use Rattle.std.proofs.lemmas.Result.{IfOk-weaker}
use Rattle.clap.specs.Words.{all_of, found_of, rows_of}
use Rattle.clap.proofs.WalkLemmas.{raw_values-rows}
use Rattle.mt_args.specs.CommandLines.{scripts_at}
use Rattle.mt_args.proofs.run_words.scripts_in.Goals as goal

pub returns-in-Some : goal.returns-in-Some
returns-in-Some c =
    let some : Some (map (λ w. w.now) c.in-Some.words.now) ≡ all_of (codes "script") (rows_of (found_of c.args.found.now)) = c.in-Some.ensures ∙ raw_values-rows (found_of c.args.found.now) (codes "script") in
    let same : map (λ w. w.now) c.in-Some.words.now ≡ scripts_at (rows_of (found_of c.args.found.now)) = ap (λ o. unwrap_or o []) some in
    IfOk-weaker c.copies_of.result _ _ (λ r e. e ∙ same) c.copies_of.ensures

pub returns-in-None : goal.returns-in-None
returns-in-None c =
    let none : None ≡ all_of (codes "script") (rows_of (found_of c.args.found.now)) = c.in-None.ensures ∙ raw_values-rows (found_of c.args.found.now) (codes "script") in
    ap (map string_bytes) c.new.ensures.items ∙ ap (λ o. unwrap_or o []) none
