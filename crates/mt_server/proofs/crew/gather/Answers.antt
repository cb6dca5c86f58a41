use Rattle.std.proofs.Common.{ℕ, ◌≡◌, ◌+◌, List, All, [], arith, ap, map, subst, sym, refl}
use Rattle.std.proofs.lemmas.List.Elements.{All-pop}
use Rattle.mt_server.specs.Crews.{HasDone, IsBoard}
use Rattle.mt_script.specs.Scripts.{lines_in}
use Rattle.mt_server.proofs.CrewLemmas.{pass_placed, popped}
use Rattle.mt_locked.specs.Whole.{all_own}
use Rattle.mt_server.proofs.crew.gather.Goals as goal

pub crew-init : goal.crew-init
crew-init g c = record { heard = c.requires.heard; placed = λ book count seen board. subst (IsBoard (map lines_in c.args.scripts.now) c.args.board.now book) (omega (arith, ap all_own c.in_ok-passes.ensures.items)) board }

pub crew-preserved-else-not-place_all : goal.crew-preserved-else-not-place_all
crew-preserved-else-not-place_all g c =
    let scripts = map lines_in c.args.scripts.now in
    let both = popped (λ d. HasDone scripts d.0 d.1) c.crew.done.items c.pop.new.self.items c.pop.result _ c.pop.ensures.items c.in-Some.is c.crew.invariant.heard in
    record {
      heard = both.0;
      placed = λ book count seen board. pass_placed scripts c.args.board.now c.crew.board c.place_all.new.self book c.crew.passes.items c.push.new.self.items c.in-Some.pass c.in_ok-outcome.field-0.items count c.in_ok-push.ensures.items seen
          (λ front was. c.crew.invariant.placed book count front was) (λ more there outcome now. c.if-not-place_all.ensures refl scripts book more there outcome now) (subst (HasDone scripts c.in-Some.pass) c.in_ok-outcome.was both.1) board;
    }
