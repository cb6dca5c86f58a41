use Rattle.std.proofs.Common.{◌≡◌, ◌∙◌, List, ℕ, true, false, Some, ap, codes, rules}
use Rattle.clap.specs.Words.{found_of}
use Rattle.clap.proofs.WalkLemmas.{first_value-rows}
use Rattle.mt_args.proofs.command.run_of.Goals as goal

-- an option's value
inner : (x y : List ℕ) → Some x ≡ Some y → x ≡ y
inner x y e = cc

pub returns-in_ok-file : goal.returns-in_ok-file
returns-in_ok-file c =
    let same : c.args.name.now ≡ codes "schedule" = search (rules, c.eq.ensures, c.if-eq.true) in
    (c.in_ok-file.ensures ∙ c.get_str.ensures ∙ first_value-rows (found_of c.args.found.now) (codes "file"), ap Some same)

pub returns-in_ok-script : goal.returns-in_ok-script
returns-in_ok-script c = (
  c.in_ok-script.ensures ∙ c.get_str-else-eq.ensures ∙ first_value-rows (found_of c.args.found.now) (codes "script"),
  c.flag_in-stop.ensures,
  λ e. let same : c.args.name.now ≡ codes "schedule" = inner _ _ e in let holds : c.eq.result ≡ true = search (rules, c.eq.ensures, same) in let fails : c.eq.result ≡ false = c.if-eq.false in cc,
  λ e. c.requires.0 (inner _ _ e),
  λ e. c.requires.1 (inner _ _ e),
  λ e. c.requires.2 (inner _ _ e),
  λ e. c.requires.3 (inner _ _ e),
  λ e. c.requires.4 (inner _ _ e),
  λ e. c.requires.5 (inner _ _ e),
)
