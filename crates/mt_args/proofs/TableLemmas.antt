-- A parser that grows by what stands in the table.
use Rattle.std.proofs.Common.{◌≡◌, ◌∙◌, ◌<◌, ◌+◌, ◌++◌, ◌∷◌, [], ◌||◌, List, ℕ, length, get_or, take, map, ap, ap₂, sym, subst, refl, append_assoc}
use Rattle.std.proofs.lemmas.List.{map-append, take_more}
use Rattle.clap.specs.Words.{AddsArg, AddsSubcommand, App, Rule, Shape, app_of, with_rule, with_subcommand}
use Rattle.clap.specs.Simple.{on_top}
use Rattle.clap.specs.declared.builder.command.Command.{Command as Parser}
use Rattle.clap.specs.declared.builder.arg.Arg.{Arg}
use Rattle.mt_args.specs.CommandLines.{IsRuledBy, Parses}
use Rattle.mt_args.specs.Tables.{app_at, rule_at, top_at, with_rules, with_subcommands}
use Rattle.mt_args.specs.declared.parsers.Argument.{Argument}
use Rattle.mt_args.specs.declared.parsers.Entry.{Entry}

-- what one element more maps to
mapped_more : {X Y : Type 0} (f : X → Y) (xs : List X) (i : ℕ) (d : X) → i < length xs → map f (take i xs) ++ f (get_or xs i d) ∷ [] ≡ map f (take (i + 1) xs)
mapped_more f xs i d lt = sym (map-append f (take i xs) (get_or xs i d ∷ [])) ∙ ap (map f) (sym (take_more xs i d lt))

-- one argument more
one_argument : (app : App) (rule : Rule) (old new : Parser) (arg : Arg) → Parses app old → IsRuledBy rule arg → AddsArg old arg new → Parses (with_rule app rule) new
one_argument app rule old new arg before ruled added = record {
  shape = added.shape ruled.local ∙ ap₂ with_rule before.shape ruled.rule;
  local = added.globals ∙ ap₂ (λ a b. a || b) before.local ruled.local;
}

one_rule : (app : App) (rules : List Rule) (rule : Rule) → with_rule (with_rules app rules) rule ≡ with_rules app (rules ++ rule ∷ [])
one_rule app rules rule = ap (λ all. on_top (λ s. record s { rules = all }) app) (append_assoc app.top.rules rules (rule ∷ []))

pub argument_more : (app : App) (arguments : List Argument) (i : ℕ) (d : Argument) (old new : Parser) (arg : Arg) → i < length arguments → Parses (with_rules app (map rule_at (take i arguments))) old
    → IsRuledBy (rule_at (get_or arguments i d)) arg → AddsArg old arg new → Parses (with_rules app (map rule_at (take (i + 1) arguments))) new
argument_more app arguments i d old new arg lt before ruled added =
    subst (λ all. Parses all new) (one_rule app (map rule_at (take i arguments)) (rule_at (get_or arguments i d)) ∙ ap (with_rules app) (mapped_more rule_at arguments i d lt))
    (one_argument _ _ old new arg before ruled added)

-- one command more
one_command : (app sub : App) (old own new : Parser) → app_of old ≡ app → Parses sub own → AddsSubcommand old own new → app_of new ≡ with_subcommand app sub.top
one_command app sub old own new before parses added = added.shape parses.local ∙ ap₂ with_subcommand before (ap (λ (a : App). a.top) parses.shape)

one_shape : (app : App) (shapes : List Shape) (shape : Shape) → with_subcommand (with_subcommands app shapes) shape ≡ with_subcommands app (shapes ++ shape ∷ [])
one_shape app [] shape = refl
one_shape app (s ∷ more) shape = one_shape (with_subcommand app s) more shape

pub command_more : (app : App) (entries : List Entry) (i : ℕ) (d : Entry) (old own new : Parser) → i < length entries → app_of old ≡ with_subcommands app (map top_at (take i entries))
    → Parses (app_at (get_or entries i d)) own → AddsSubcommand old own new → app_of new ≡ with_subcommands app (map top_at (take (i + 1) entries))
command_more app entries i d old own new lt before parses added =
    one_command _ _ old own new before parses added ∙ one_shape app (map top_at (take i entries)) (top_at (get_or entries i d)) ∙ ap (with_subcommands app) (mapped_more top_at entries i d lt)
