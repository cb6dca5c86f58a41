-- The table from which the parser of the command line is made.
use Rattle.std.specs.Prelude.{◌++◌, List, [], ◌∷◌, Some, true, map}
use Rattle.clap.specs.Words.{App, Rule, Shape, Text, new_app, new_rule, with_subcommand}
use Rattle.clap.specs.Simple.{on_top}
use Rattle.clap.specs.declared.builder.action.ArgAction.TheVariants.{Append, SetTrue}
use Rattle.mt_args.specs.declared.parsers.Argument.{Argument}
use Rattle.mt_args.specs.declared.parsers.Entry.{Entry}
use Rattle.mt_args.specs.declared.parsers.Form.{Form}
use Rattle.mt_args.specs.declared.parsers.Form.TheVariants.{Flag, Value, Optional, Required, Any, Several}

-- how the parser reads an argument that stands so
abbrev pub rule_for : Text → Form → Rule
rule_for id Flag = record (new_rule id) { long = Some id; action = Some SetTrue }
rule_for id (Value name) = record (new_rule id) { long = Some id; value_names = 1 }
rule_for id (Optional name) = record (new_rule id) { value_names = 1 }
rule_for id (Required name) = record (new_rule id) { value_names = 1; required = true }
rule_for id (Any name) = record (new_rule id) { value_names = 1; action = Some Append }
rule_for id (Several name) = record (new_rule id) { value_names = 1; required = true; action = Some Append }

abbrev pub rule_at : Argument → Rule
rule_at argument = rule_for argument.id.now argument.form

-- a command with these rules after those that it has
abbrev pub with_rules : App → List Rule → App
with_rules app rules = on_top (λ s. record s { rules = s.rules ++ rules }) app

-- the command of a table's entry
abbrev pub app_at : Entry → App
app_at entry = with_rules (new_app entry.name.now) (map rule_at entry.arguments.now)

abbrev pub top_at : Entry → Shape
top_at entry = (app_at entry).top

-- a command with these subcommands after those that it has
abbrev pub with_subcommands : App → List Shape → App
with_subcommands app [] = app
with_subcommands app (s ∷ more) = with_subcommands (with_subcommand app s) more
