use Rattle.std.proofs.Common.{inl, inr, ⊎_elim, refl, subst}
use Rattle.mt_base.specs.declared.modes.Mode.TheVariants.{Read}
use Rattle.mt_index.specs.Answers.{FindsHolder, HeldNeeds, IsSearchedTo}
use Rattle.mt_index.proofs.Passing.{held_map}
use Rattle.mt_index.proofs.lookup.find_from.Goals as goal

pub returns-in-Need : goal.returns-in-Need
returns-in-Need g c =
    let found = subst (FindsHolder (g.V.Pages.at_hand c.args.views.now) (g.V.Pages.total c.args.views.now) c.args.relation c.args.key.now Read) c.in-Need.is c.holder_from.ensures.holder in
    record {
      name = record {
        missing = found.missing;
        role = λ pages agree m a. ⊎_elim (λ d. inl (d.0, refl)) (λ b. inr (b.0, refl, b.2)) (found.role pages agree m a);
      };
      searched = subst (λ o. HeldNeeds o (IsSearchedTo (g.V.Pages.at_hand c.args.views.now) (g.V.Pages.total c.args.views.now) c.args.relation c.args.key.now)) c.in-Need.is c.holder_from.ensures.lacks;
    }

pub returns-in-In : goal.returns-in-In
returns-in-In g c =
    let found = subst (FindsHolder (g.V.Pages.at_hand c.args.views.now) (g.V.Pages.total c.args.views.now) c.args.relation c.args.key.now Read) c.in-In.is c.holder_from.ensures.holder in
    record {
      name = λ pages agree m a. held_map (g.V.Pages.total c.args.views.now) pages m c.args.relation c.args.key.now _ _ a (found.1 pages agree m a);
      searched = λ pages agree m a. held_map (g.V.Pages.total c.args.views.now) pages m c.args.relation c.args.key.now _ _ a (found.1 pages agree m a);
    }
