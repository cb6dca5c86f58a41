use Rattle.std.proofs.Common.{◌≡◌, ◌∙◌, ap, subst, None, Some}
use Rattle.mt_live.specs.Lives.{Lives, member_of}
use Rattle.mt_live.specs.Machine.{put}
use Rattle.mt_live.specs.Members.{fresh}
use Rattle.mt_live.proofs.Wells.{begun_well, numbered_of, begun_unused, begun_member, begun_standing}
use Rattle.mt_live.proofs.live.Live.begin.Goals as goal

pub invariant_of-self-2 : goal.invariant_of-self-2
invariant_of-self-2 c =
    begun_well _ _ _ _ _ c.args.session c.new-number.result c.new.result _ c.self.invariant c.new-number.ensures c.new.ensures c.in_ok-push.ensures.items

pub returns-clause-unused : goal.returns-clause-unused
returns-clause-unused c =
    subst (λ (l : Lives). member_of l.members c.new-number.result ≡ None) c.self.view_is
    (begun_unused _ _ _ _ _ c.new-number.result c.self.invariant c.new-number.ensures)

pub returns-clause-member : goal.returns-clause-member
returns-clause-member c = λ u.
    let none = begun_unused _ _ _ _ _ c.new-number.result c.self.invariant c.new-number.ensures in
    begun_member _ c.args.session c.new-number.result c.new.result _ none c.new.ensures c.in_ok-push.ensures.items u
    ∙ ap (λ (l : Lives). put (member_of l.members) c.new-number.result (Some (fresh c.new-number.result c.args.session)) u) c.self.view_is

pub returns-clause-standing : goal.returns-clause-standing
returns-clause-standing c =
    let none = begun_unused _ _ _ _ _ c.new-number.result c.self.invariant c.new-number.ensures in
    begun_standing _ _ c.args.session c.new-number.result c.new.result _ none c.new.ensures c.in_ok-push.ensures.items
    ∙ ap (λ (l : Lives). l.standing) c.self.view_is

pub returns-clause-numbered : goal.returns-clause-numbered
returns-clause-numbered c =
    numbered_of _ _ _ _ _ (begun_well _ _ _ _ _ c.args.session c.new-number.result c.new.result _ c.self.invariant c.new-number.ensures c.new.ensures c.in_ok-push.ensures.items)
