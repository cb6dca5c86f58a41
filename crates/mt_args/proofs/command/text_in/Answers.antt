use Rattle.std.proofs.Common.{◌≡◌, ◌∙◌, List, ℕ, [], Option, Some, None, Bor, option_map, unwrap_or, refl, ap}
use Rattle.clap.specs.Words.{found_of}
use Rattle.clap.proofs.WalkLemmas.{first_value-rows}
use Rattle.mt_args.proofs.command.text_in.Goals as goal

-- what an option of a text gives, or an empty one
or_empty : (o : Option (Bor (List ℕ))) (d : Bor (List ℕ)) → d.now ≡ [] → (unwrap_or o d).now ≡ unwrap_or (option_map (λ (s : Bor (List ℕ)). s.now) o) []
or_empty None d e = e
or_empty (Some x) d e = refl

pub returns : goal.returns
returns c =
    ap (λ (s : Bor (List ℕ)). s.now) c.unwrap_or.ensures ∙ or_empty c.get_str.result _ refl ∙ ap (λ o. unwrap_or o []) (c.get_str.ensures ∙ first_value-rows (found_of c.args.found.now) c.args.id.now)
