use Rattle.mt_steps.proofs.Joined.{off_by, joined}
use Rattle.mt_steps.proofs.joined_plan.join.Goals as goal

pub returns-then-are_apart : goal.returns-then-are_apart
returns-then-are_apart g c =
    let first = c.args.first.list.items in
    let second = c.args.second.list.items in
    joined (g.V.Pages.at_hand c.args.views.now) first second c.in_ok-changes.changes.list.items c.args.reply c.in_ok-changes.ensures
    (off_by first second c.if-are_apart.ensures) c.requires.there c.requires.second_there c.requires.short
