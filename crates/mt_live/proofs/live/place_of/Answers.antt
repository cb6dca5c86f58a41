use Rattle.std.proofs.Common.{◌≡◌, ◌+◌, ◌-◌, ◌==◌, ℕ, List, length, take, drop, ap, sym, ◌∙◌, arith}
use Rattle.std.specs.List.{position}
use Rattle.std.proofs.lemmas.List.{take_all, length-drop}
use Rattle.std.proofs.lemmas.Bool.{ne_eqb}
use Rattle.std.specs.Option.{option_map}
use Rattle.mt_live.specs.Members.{Member}
use Rattle.mt_live.proofs.Behind.{skip_position}
use Rattle.mt_live.proofs.live.place_of.Goals as goal

rest : (t : ℕ) (ms : List Member) (first : ℕ) → position (λ (m : Member). m.number == t) (drop first ms) ≡ position (λ (m : Member). m.number == t) (take (length ms - first) (drop first ms))
rest t ms first = ap (position (λ (m : Member). m.number == t)) (sym (take_all (length ms - first) (drop first ms) (let l = length-drop first ms in omega (arith, l))))

pub returns-in_err-behind : goal.returns-in_err-behind
returns-in_err-behind c = let first = c.first_place-first in
    c.from_residual.ensures
    ∙ sym (skip_position (λ (m : Member). m.number == c.args.txn) c.args.transactions.now first.result first.ensures.within (λ k less d. ne_eqb _ _ (first.ensures.before k less d))
    ∙ ap (option_map (λ i. first.result + i)) (rest c.args.txn c.args.transactions.now first.result ∙ sym c.place_among.ensures ∙ c.in_err-behind.was))

pub returns : goal.returns
returns c = let first = c.first_place-first in
    sym (skip_position (λ (m : Member). m.number == c.args.txn) c.args.transactions.now first.result first.ensures.within (λ k less d. ne_eqb _ _ (first.ensures.before k less d))
    ∙ ap (option_map (λ i. first.result + i)) (rest c.args.txn c.args.transactions.now first.result ∙ sym c.place_among.ensures ∙ c.in_ok-behind.was))
