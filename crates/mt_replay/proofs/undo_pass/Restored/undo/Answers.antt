use mathlib.Core.Logic.{∥∥₁_map}
use Rattle.std.proofs.Common.{◌≤◌, ℕ, map, subst, sym}
use Rattle.std.proofs.lemmas.List.{length-map}
use Rattle.mt_space.specs.Changes.{after}
use Rattle.mt_space.specs.declared.changes.PageChange.{PageChange}
use Rattle.mt_steps.specs.Plans.{IsGood}
use Rattle.mt_replay.specs.Undoing.{IsUndoPlan}
use Rattle.mt_replay.proofs.undo_pass.Restored.undo.Goals as goal

pub make_all-requires-clause-inside : goal.make_all-requires-clause-inside
make_all-requires-clause-inside c = (subst (IsUndoPlan c.args.self.now.pages.items c.args.done.now) c.in-Some.is c.in_ok-plan.ensures.planned).inside

pub make_all-requires-clause-short : goal.make_all-requires-clause-short
make_all-requires-clause-short c =
    let p = subst (IsUndoPlan c.args.self.now.pages.items c.args.done.now) c.in-Some.is c.in_ok-plan.ensures.planned in
    ∥∥₁_map c.args.self.now.good (λ (f, relations, counters, first, good, few). (f, first, p.short relations counters f first good))

pub invariant_of-self : goal.invariant_of-self
invariant_of-self c =
    let p = subst (IsUndoPlan c.args.self.now.pages.items c.args.done.now) c.in-Some.is c.in_ok-plan.ensures.planned in
    let changes = c.in-Some.changes.list.items in
    let count = c.make_all.ensures.count in
    record {
      whole = c.make_all.ensures.whole;
      few = subst (λ (n : ℕ). n ≤ 4000) (sym count) c.args.self.now.few;
      good = ∥∥₁_map c.args.self.now.good (λ (f, relations, counters, first, good, few).
          (after changes f, relations, counters, c.make_all.ensures.made f first, subst (λ (n : ℕ). IsGood relations counters n (after changes f)) (sym count) (p.undoes relations counters f first good).good, few));
    }

pub returns-in-Some-clause-undone : goal.returns-in-Some-clause-undone
returns-in-Some-clause-undone c = λ is.
    let p = subst (IsUndoPlan c.args.self.now.pages.items c.args.done.now) c.in-Some.is c.in_ok-plan.ensures.planned in
    record {
      count = c.make_all.ensures.count;
      few = record {
        changed = map (λ (d : PageChange). d.page) c.in-Some.changes.list.items;
        few = subst (λ (n : ℕ). n ≤ 8) (sym (length-map c.in-Some.changes.list.items (λ (d : PageChange). d.page))) p.few;
        others = c.make_all.ensures.others;
      };
      undone = λ relations counters f first good. (after c.in-Some.changes.list.items f, c.make_all.ensures.made f first, p.undoes relations counters f first good);
    }
