use Rattle.std.proofs.Common.{ap, ◌∙◌}
use Rattle.clap.specs.Simple.{app_of_fields}
use Rattle.mt_args.proofs.parsers.without_arguments.Goals as goal

pub returns-in-Some : goal.returns-in-Some
returns-in-Some c = record {
  shape = ap app_of_fields c.after_help.ensures ∙ ap app_of_fields c.about-parser.ensures ∙ c.new.ensures.app;
  local = ap (λ f. f.has_globals) c.after_help.ensures ∙ ap (λ f. f.has_globals) c.about-parser.ensures ∙ c.new.ensures.local;
}

pub returns-in-None : goal.returns-in-None
returns-in-None c = record { shape = ap app_of_fields c.about-parser.ensures ∙ c.new.ensures.app; local = ap (λ f. f.has_globals) c.about-parser.ensures ∙ c.new.ensures.local }
