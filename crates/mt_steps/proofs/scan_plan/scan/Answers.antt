use mathlib.Core.Logic.{∥∥₁_elim}
use Rattle.std.proofs.Props.{props}
use Rattle.std.proofs.Common.{rules, ◌≡◌, inl, inr, ⊎_elim, ◌<◌, ℕ, Some, refl, sym, subst, arith}
use Rattle.std.specs.Prelude.{Contains}
use Rattle.mt_base.specs.declared.numbers.RecordName.{RecordName}
use Rattle.mt_file.specs.File.{record_in}
use Rattle.mt_file.proofs.Filed.{record_kind}
use Rattle.mt_index.specs.Answers.{InMaps, Asks}
use Rattle.mt_index.specs.Names.{IsInIndex, NamesNeed, IfNamed, NamesEndless, AreNames, AreNamesOnce, IsGatheredTo}
use Rattle.mt_steps.proofs.Asking.{kind_inside}
use Rattle.mt_steps.proofs.ScanRows.{stands}
use Rattle.mt_steps.proofs.scan_plan.scan.Goals as goal

pub plan_names-requires-clause-so_far : goal.plan_names-requires-clause-so_far
plan_names-requires-clause-so_far g c =
    subst (λ (r : ℕ). IsGatheredTo (g.V.Pages.at_hand c.args.views.now) (g.V.Pages.total c.args.views.now) r c.turn_to.new.self.gathering) c.turn_to.ensures.relation
    (c.turn_to.ensures.so_far (g.V.Pages.at_hand c.args.views.now) (g.V.Pages.total c.args.views.now) c.requires.so_far)

pub rows_named-requires-clause-named : goal.rows_named-requires-clause-named
rows_named-requires-clause-named g c =
    rw c.names-names.ensures (subst (λ o. IfNamed o (InMaps (g.V.Pages.at_hand c.args.views.now) (g.V.Pages.total c.args.views.now)
    (λ pages m. AreNames c.args.relation m c.plan_names.new.gathering.names.items))) c.in-Named.is c.in_ok-page.ensures.named)

pub rows_named-requires-clause-once : goal.rows_named-requires-clause-once
rows_named-requires-clause-once g c =
    rw c.names-names.ensures (subst (λ o. IfNamed o (InMaps (g.V.Pages.at_hand c.args.views.now) (g.V.Pages.total c.args.views.now)
    (λ pages m. AreNamesOnce c.args.relation m c.plan_names.new.gathering.names.items))) c.in-Named.is c.in_ok-page.ensures.once)

pub returns-in-Some-clause-plans : goal.returns-in-Some-clause-plans
returns-in-Some-clause-plans g c =
    let named : InMaps (g.V.Pages.at_hand c.args.views.now) (g.V.Pages.total c.args.views.now) (λ pages m. AreNames c.args.relation m c.names-names.result.now) =
    rw c.names-names.ensures (subst (λ o. IfNamed o (InMaps (g.V.Pages.at_hand c.args.views.now) (g.V.Pages.total c.args.views.now)
    (λ pages m. AreNames c.args.relation m c.plan_names.new.gathering.names.items))) c.in-Named.is c.in_ok-page.ensures.named) in
    let p : ℕ = c.in-Some.page in
    let slot : ℕ = c.in-Some.ensures.named.0 in
    let name : RecordName = record { page = p; slot = slot } in
    let has : Contains c.names-names.result.now name = c.in-Some.ensures.named.1 in
    let inside : p < g.V.Pages.total c.args.views.now = ∥∥₁_elim c.requires.good (hlevel props) (λ fact.
    let good = fact.1 in
    let stood = stands c.args.relation good.0 good.2 good.3.named c.names-names.result.now (named good.0 good.1 good.2 good.3.index) has.0 name has.1 in
    let at = subst (λ (n : RecordName). record_in good.0 n.page n.slot ≡ Some (record { relation = c.args.relation; key = stood.0; value = stood.1 })) has.2 stood.2 in
    kind_inside (g.V.Pages.total c.args.views.now) good.0 good.2 p 3 good.3.index (record_kind good.0 p slot _ at) (omega arith)) in
    record {
      lock = (c.in-Some.ensures.missing, inside);
      asks = λ room split. inr ((c.names-names.result.now, named, (slot, has)), refl);
      mode = refl;
      made = search rules;
      quiet = search rules;
      idle = search rules;
      full = search rules;
      broken = search rules;
    }

pub returns-in-Need-clause-plans : goal.returns-in-Need-clause-plans
returns-in-Need-clause-plans g c =
    let asks = subst (λ o. NamesNeed o (Asks (g.V.Pages.at_hand c.args.views.now) (g.V.Pages.total c.args.views.now) IsInIndex)) c.in-Need.is c.in_ok-page.ensures.need in
    record {
      lock = (
        asks.missing,
        ∥∥₁_elim c.requires.good (hlevel props) (λ fact.
            let good = fact.1 in
            ⊎_elim
            (λ d. subst (λ (q : ℕ). q < g.V.Pages.total c.args.views.now) (sym d)
            (kind_inside (g.V.Pages.total c.args.views.now) good.0 good.2 1 1 good.3.index good.3.index.directory_fixed (omega arith)))
            (λ b. kind_inside (g.V.Pages.total c.args.views.now) good.0 good.2 c.in-Need.page 2 good.3.index b (omega arith))
            (asks.role good.0 good.1 good.2 good.3.index).0),
      );
      asks = λ room split. inl asks.role;
      mode = refl;
      made = search rules;
      quiet = search rules;
      idle = search rules;
      full = search rules;
      broken = search rules;
    }

pub returns-in-Endless-clause-plans : goal.returns-in-Endless-clause-plans
returns-in-Endless-clause-plans g c = record {
  lock = search rules;
  asks = search rules;
  mode = search rules;
  made = search rules;
  quiet = search rules;
  idle = search rules;
  full = search rules;
  broken = ∥∥₁_elim c.requires.good (hlevel props) (λ fact.
      let good = fact.1 in
      subst (λ o. NamesEndless o (InMaps (g.V.Pages.at_hand c.args.views.now) (g.V.Pages.total c.args.views.now) (λ pages m. ⊥)))
      c.in-Endless.is c.in_ok-page.ensures.endless good.0 good.1 good.2 good.3.index);
}

pub returns-in_err-page-clause-so_far : goal.returns-in_err-page-clause-so_far
returns-in_err-page-clause-so_far g c = subst (λ (r : ℕ). IsGatheredTo (g.V.Pages.at_hand c.args.views.now) (g.V.Pages.total c.args.views.now) r c.plan_names.new.gathering) (sym c.turn_to.ensures.relation) c.plan_names.ensures.so_far

pub returns-in-Some-clause-so_far : goal.returns-in-Some-clause-so_far
returns-in-Some-clause-so_far g c = subst (λ (r : ℕ). IsGatheredTo (g.V.Pages.at_hand c.args.views.now) (g.V.Pages.total c.args.views.now) r c.plan_names.new.gathering) (sym c.turn_to.ensures.relation) c.plan_names.ensures.so_far

pub returns-in-Need-clause-so_far : goal.returns-in-Need-clause-so_far
returns-in-Need-clause-so_far g c = subst (λ (r : ℕ). IsGatheredTo (g.V.Pages.at_hand c.args.views.now) (g.V.Pages.total c.args.views.now) r c.plan_names.new.gathering) (sym c.turn_to.ensures.relation) c.plan_names.ensures.so_far

pub returns-in_default-clause-so_far : goal.returns-in_default-clause-so_far
returns-in_default-clause-so_far g c = subst (λ (r : ℕ). IsGatheredTo (g.V.Pages.at_hand c.args.views.now) (g.V.Pages.total c.args.views.now) r c.plan_names.new.gathering) (sym c.turn_to.ensures.relation) c.plan_names.ensures.so_far

pub returns-in-Endless-clause-so_far : goal.returns-in-Endless-clause-so_far
returns-in-Endless-clause-so_far g c = subst (λ (r : ℕ). IsGatheredTo (g.V.Pages.at_hand c.args.views.now) (g.V.Pages.total c.args.views.now) r c.plan_names.new.gathering) (sym c.turn_to.ensures.relation) c.plan_names.ensures.so_far
