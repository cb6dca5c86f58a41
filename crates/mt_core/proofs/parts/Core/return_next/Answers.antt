use mathlib.Core.Logic.{∥∥₁_elim}
use Rattle.std.proofs.Props.{props}
use Rattle.std.proofs.Common.{rules, ◌≡◌, ◌∙◌, true, is_some, sym, ap}
use Rattle.mt_live.specs.Undoing.{after_first, last_effect}
use Rattle.mt_core.proofs.Settled.{after_some}
use Rattle.mt_core.proofs.parts.Core.return_next.Goals as goal

pub inverse_begin-requires-clause-safe : goal.inverse_begin-requires-clause-safe
inverse_begin-requires-clause-safe g c = ∥∥₁_elim c.requires.safe (hlevel props) (λ (origin, base, safe). ∣ (origin, base, (c.in_ok-make_room.ensures.state origin base safe).consistent) ∣₁)

pub returns-clause-state : goal.returns-clause-state
returns-clause-state g c = λ origin base safe.
    let roomed = c.in_ok-make_room.ensures.state origin base safe in
    let begun = c.inverse_begin.ensures.state origin base roomed.consistent in
    record { consistent = begun.consistent; state = roomed.state ∙ begun.state }

pub returns-clause-nothing : goal.returns-clause-nothing
returns-clause-nothing g c = λ is. let k = c.args.self.now in let t = c.args.txn in
    let some : is_some (last_effect t (after_first t c.from.result k.live.standing)) ≡ true = search rules in
    absurd (after_some t c.from.result k.live.standing some (ap (last_effect t) (sym c.in_ok-make_room.ensures.standing) ∙ c.inverse_begin.ensures.nothing is))

pub returns-clause-begins : goal.returns-clause-begins
returns-clause-begins g c = record {
  fewer = search rules;
  drawn = search rules;
  same = λ is. let k = c.args.self.now in let t = c.args.txn in
      let some : is_some (last_effect t (after_first t c.from.result k.live.standing)) ≡ true = search rules in
      absurd (after_some t c.from.result k.live.standing some (ap (last_effect t) (sym c.in_ok-make_room.ensures.standing) ∙ c.inverse_begin.ensures.nothing is));
  err_left = search rules;
  undrawn = search rules;
}

pub returns-clause-restartable : goal.returns-clause-restartable
returns-clause-restartable g c = λ origin base later safe_k safe_n r.
    let roomed = c.in_ok-make_room.ensures.state origin base safe_k in
    c.inverse_begin.ensures.restartable origin base later roomed.consistent safe_n (c.in_ok-make_room.ensures.restartable origin base base safe_k roomed.consistent r)
