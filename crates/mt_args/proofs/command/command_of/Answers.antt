use Rattle.std.proofs.Common.{◌≡◌, ◌∙◌, refl, ap, subst, true, List, map}
use Rattle.clap.specs.Words.{App, Text, is_simple, is_simple_and_free, takes, subcommand_of, fault_of, HasKind}
use Rattle.clap.specs.declared.error.Error.{Error}
use Rattle.clap.proofs.OnLiterals.{clap_on_literals}
use Rattle.std.proofs.lemmas.Result.{IfErr-weaker, IfOk-weaker}
use Rattle.mt_args.specs.CommandLines.{program, fits, faults, IsEntered, IsMisread, IsMisspelled}
use Rattle.mt_args.proofs.CommandLemmas.{command_at, fault_at}
use Rattle.mt_args.proofs.command.command_of.Goals as goal

program_is_simple : is_simple program ≡ true
unfolding clap_on_literals
program_is_simple = refl

program_is_free : is_simple_and_free program ≡ true
unfolding clap_on_literals
program_is_free = refl

has_fault : (app : App) (words : List Text) (error : Error) → app ≡ program → (is_simple_and_free app ≡ true → HasKind (fault_of app words) error) → HasKind (faults words) error
unfolding faults
has_fault app words error is has = subst (λ (a : App). HasKind (fault_of a words) error) is (has (ap is_simple_and_free is ∙ program_is_free))

at_fault : (app : App) (words : List Text) → app ≡ program → fits words ≡ true → takes app words ≡ true
unfolding fits
at_fault app words is fit = ap (λ (a : App). takes a words) is ∙ fit

pub returns-in-Ok-clause-command : goal.returns-in-Ok-clause-command
returns-in-Ok-clause-command c =
    let words = map (λ word. word.now) c.args.words.now in
    let has = c.in-Ok.ensures.matches (ap is_simple c.in_ok-parser.ensures ∙ program_is_simple) in
    let found = has.1 ∙ ap (λ (a : App). subcommand_of a words) c.in_ok-parser.ensures in
    IfOk-weaker c.entered.result _ _ (λ command e. command_at words command (subst (λ x. IsEntered x command) found e)) c.entered.ensures.command

pub returns-in-Ok-clause-fault : goal.returns-in-Ok-clause-fault
returns-in-Ok-clause-fault c =
    let words = map (λ word. word.now) c.args.words.now in
    let has = c.in-Ok.ensures.matches (ap is_simple c.in_ok-parser.ensures ∙ program_is_simple) in
    let found = has.1 ∙ ap (λ (a : App). subcommand_of a words) c.in_ok-parser.ensures in
    IfErr-weaker c.entered.result _ _ (λ fault m. fault_at words fault (subst (λ x. IsMisread (IsMisspelled x) fault) found m)) c.entered.ensures.fault

pub returns-in-Err-clause-command : goal.returns-in-Err-clause-command
returns-in-Err-clause-command c =
    c.shown.ensures.command (map (λ word. word.now) c.args.words.now) (record {
      passes = λ fit. c.in-Err.ensures.passes (at_fault _ _ c.in_ok-parser.ensures fit);
      kind = has_fault _ _ c.in-Err.error c.in_ok-parser.ensures c.in-Err.ensures.kinds;
    })

pub returns-in-Err-clause-fault : goal.returns-in-Err-clause-fault
returns-in-Err-clause-fault c =
    c.shown.ensures.fault (map (λ word. word.now) c.args.words.now) (record {
      passes = λ fit. c.in-Err.ensures.passes (at_fault _ _ c.in_ok-parser.ensures fit);
      kind = has_fault _ _ c.in-Err.error c.in_ok-parser.ensures c.in-Err.ensures.kinds;
    })
