use Rattle.std.proofs.Common.{◌<◌, ℕ, List, [], Bor, length, subst, arith, get_or}
use Rattle.mt_args.specs.Spelling.{IsNoCounter, SpellsCounter}
use Rattle.mt_args.proofs.SpellingLemmas.{one_bad, one_more}
use Rattle.mt_args.proofs.numbers.counters_of.Goals as goal

-- a word at no place
no_word : Bor (List ℕ)
no_word = record { ref_ptr = (0, 0); now = [] }

pub returns-in-None : goal.returns-in-None
unfolding no_word
returns-in-None c =
    let words = c.args.words.now in
    let i = c.loop-word.word-index in
    let lt : i < length words = omega arith in
    let none : IsNoCounter (get_or words i no_word).now = subst IsNoCounter c.as_bytes.ensures.value (rw c.in-None.is at c.in_ok-counter.ensures) in
    one_bad words i no_word lt none

pub loop-word-preserved : goal.loop-word-preserved
unfolding no_word
loop-word-preserved c =
    let words = c.args.words.now in
    let i = c.loop-word.word-index in
    let lt : i < length words = omega arith in
    let spelled : SpellsCounter (get_or words i no_word).now c.in-Some.counter = subst (λ w. SpellsCounter w c.in-Some.counter) c.as_bytes.ensures.value (rw c.in-Some.is at c.in_ok-counter.ensures) in
    rw c.in_ok-push-in-Some.ensures.items (one_more words i no_word c.loop-word.counters.items c.in-Some.counter lt c.loop-word.invariant spelled)
