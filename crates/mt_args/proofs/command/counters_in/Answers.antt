use Rattle.std.proofs.Common.{◌≡◌, ◌∙◌, [], Any, Some, None, map, unwrap_or, codes, refl, ap, sym, subst}
use Rattle.std.proofs.lemmas.List.Elements.{All-nil}
use Rattle.clap.specs.Words.{all_of, found_of, rows_of}
use Rattle.clap.proofs.WalkLemmas.{raw_values-rows}
use Rattle.mt_args.specs.CommandLines.{counters_at}
use Rattle.mt_args.specs.Spelling.{SpellCounters, AreWide, IsNoCounter}
use Rattle.mt_args.proofs.CommandLemmas.{misread_for}
use Rattle.mt_args.proofs.command.counters_in.Goals as goal

pub returns-in_default-clause-counters : goal.returns-in_default-clause-counters
returns-in_default-clause-counters c =
    let none : None ≡ all_of (codes "counter") (rows_of (found_of c.args.found.now)) = c.in_default.ensures ∙ raw_values-rows (found_of c.args.found.now) (codes "counter") in
    let empty : counters_at (rows_of (found_of c.args.found.now)) ≡ [] = ap (λ o. unwrap_or o []) (sym none) in
    rw (empty, c.new.ensures.items) (record { texts = refl; wide = All-nil AreWide })

pub returns-in-Some-2-clause-counters : goal.returns-in-Some-2-clause-counters
returns-in-Some-2-clause-counters c =
    let some : Some (map (λ w. w.now) c.in-Some.words.now) ≡ all_of (codes "counter") (rows_of (found_of c.args.found.now)) = c.in-Some.ensures ∙ raw_values-rows (found_of c.args.found.now) (codes "counter") in
    let same : map (λ w. w.now) c.in-Some.words.now ≡ counters_at (rows_of (found_of c.args.found.now)) = ap (λ o. unwrap_or o []) some in
    subst (λ ws. SpellCounters ws c.in-Some-2.counters.items) same (rw c.in-Some-2.is at c.in_ok-counters.ensures)

pub returns-in-None-clause-fault : goal.returns-in-None-clause-fault
returns-in-None-clause-fault c =
    let some : Some (map (λ w. w.now) c.in-Some.words.now) ≡ all_of (codes "counter") (rows_of (found_of c.args.found.now)) = c.in-Some.ensures ∙ raw_values-rows (found_of c.args.found.now) (codes "counter") in
    let same : map (λ w. w.now) c.in-Some.words.now ≡ counters_at (rows_of (found_of c.args.found.now)) = ap (λ o. unwrap_or o []) some in
    misread_for c.misspelled.result (λ u. subst (Any IsNoCounter) same (rw c.in-None.is at c.in_ok-counters.ensures)) c.misspelled.ensures
