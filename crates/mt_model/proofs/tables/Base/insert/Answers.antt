use Rattle.std.proofs.Common.{◌≡◌, true, false, List, ℕ, Option, Some, None, refl, sym, ◌∙◌}
use Rattle.std.specs.Option.{is_none}
use Rattle.mt_model.specs.declared.operations.Reply.TheVariants.{Done, Exists}
use Rattle.mt_model.specs.Model.{inserted, done_unless}
use Rattle.mt_model.proofs.TableLemmas.{base-altered}
use Rattle.mt_model.proofs.tables.Base.insert.Goals as goal

none_done : (o : Option (List ℕ)) → is_none o ≡ true → Done ≡ done_unless o
none_done None none = refl
none_done (Some v) none = absurd cc

some_exists : (o : Option (List ℕ)) → is_none o ≡ false → Exists ≡ done_unless o
some_exists None some = absurd cc
some_exists (Some v) some = refl

pub returns-then-branch : goal.returns-then-branch
returns-then-branch c = record {
  reply = none_done _ (sym c.in_ok-insert.ensures.fresh ∙ c.if-branch.true);
  base = base-altered c.args.self.now.rows c.insert.new.self c.args.self.now.counters c.args.relation c.args.key.now (inserted c.args.value.now) c.in_ok-insert.ensures.ok;
  only_memory = search;
  kept = search;
  relations = search;
  counters = search;
}

pub returns-else-branch : goal.returns-else-branch
returns-else-branch c = record {
  reply = some_exists _ (sym c.in_ok-insert.ensures.fresh ∙ c.if-branch.false);
  base = base-altered c.args.self.now.rows c.insert.new.self c.args.self.now.counters c.args.relation c.args.key.now (inserted c.args.value.now) c.in_ok-insert.ensures.ok;
  only_memory = search;
  kept = search;
  relations = search;
  counters = search;
}
