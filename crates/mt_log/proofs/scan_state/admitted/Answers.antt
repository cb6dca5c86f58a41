use Rattle.std.proofs.Common.{rules, ◌≡◌, Option, Vec, Global, sym, ◌∙◌, subst}
use Rattle.std.specs.Prelude.{IfSome}
use Rattle.std.specs.List.{AllByRecursion}
use Rattle.mt_frame.specs.declared.records.Record.{Record}
use Rattle.mt_frame.specs.Grammar.{IsBodyOf}
use Rattle.mt_area_rules.specs.History.{MayFollow}
use Rattle.mt_frame.proofs.Rows.{one_body}
use Rattle.mt_log.specs.Holds.{HasItsPage}
use Rattle.mt_log.proofs.scan_state.admitted.Goals as goal

pub returns-then-not-have_their_pages : goal.returns-then-not-have_their_pages
returns-then-not-have_their_pages c = record {
  some = search rules;
  none = λ records earlier knows row each may.
      let found = subst (λ (o : Option (Vec Record Global)). IfSome o (λ v. IsBodyOf c.args.format c.args.body.now v.items)) c.in-Some.is c.in_ok-records.ensures.found in
      let same : records ≡ c.in-Some.records.items = one_body c.args.body.now records c.in-Some.records.items row.row found.row in
      c.have_their_pages.ensures.no c.if-not-have_their_pages.true (subst (AllByRecursion (HasItsPage c.args.pages)) (same ∙ sym c.deref.ensures.value) each.1);
  only_memory = search rules;
}

pub returns-then-not-branch : goal.returns-then-not-branch
returns-then-not-branch c = record {
  some = search rules;
  none = λ records earlier knows row each may.
      let found = subst (λ (o : Option (Vec Record Global)). IfSome o (λ v. IsBodyOf c.args.format c.args.body.now v.items)) c.in-Some.is c.in_ok-records.ensures.found in
      let same : records ≡ c.in-Some.records.items = one_body c.args.body.now records c.in-Some.records.items row.row found.row in
      c.in_ok-admit.ensures.no earlier knows c.if-not-branch.true (subst (MayFollow c.args.first earlier) (same ∙ sym c.deref-2.ensures.value) may);
  only_memory = search rules;
}
