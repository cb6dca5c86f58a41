use Rattle.std.proofs.Common.{map, take}
use Rattle.mt_args.specs.Spelling.{SpellCounters}
use Rattle.mt_args.proofs.numbers.counters_of.Given as goal

abbrev pub invariant-loop-word : goal.invariant-loop-word
invariant-loop-word l = SpellCounters (map (λ w. w.now) (take l.word-index l.words)) l.counters.items
