use Rattle.std.proofs.Common.{◌≡◌, map, take, string_bytes}
use Rattle.mt_args.proofs.run_words.copies_of.Given as goal

abbrev pub invariant-loop-word : goal.invariant-loop-word
invariant-loop-word l = map string_bytes l.copies.items ≡ map (λ w. w.now) (take l.word-index l.words)
