use Rattle.std.proofs.Common.{rules, ◌≡◌, [], List, ℕ, sym, subst}
use Rattle.mt_replay.specs.Memory.{AreFirst}
use Rattle.mt_replay.proofs.pages_held.led_on.Goals as goal

pub returns-clause-held : goal.returns-clause-held
returns-clause-held c = λ opening first.
    let copy : c.extend_from_slice.new.self.items ≡ c.args.found.now = search rules in
    let same : AreFirst c.extend_from_slice.new.self.items opening = subst (λ (l : List (List ℕ)). AreFirst l opening) (sym copy) first in
    c.in_ok-take_back.ensures.held opening (c.in_ok-repeat_all.ensures.repeated.shown (record { pages = opening; unfinished = [] }) (c.over-repeating.ensures.shown opening same))
