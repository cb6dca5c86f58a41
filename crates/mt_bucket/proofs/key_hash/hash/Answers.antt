-- One byte a turn.
use Rattle.std.proofs.Common.{◌+◌, ◌*◌, ◌%◌, ◌^◌, ℕ, drop, ap, sym, ◌∙◌}
use Rattle.std.specs.Int.RustNames.{bit_xor}
use Rattle.mt_bucket.specs.Hash.{fnv, hash as hash_of}
use Rattle.mt_bucket.proofs.Hashes.{fnv_more, drop_past}
use Rattle.mt_bucket.proofs.key_hash.hash.Goals as goal

pub returns : goal.returns
unfolding hash_of
returns c = ap (fnv c.loop-byte.value) (sym (drop_past c.args.key.now c.loop-byte.byte-index c.loop-byte-test.false)) ∙ c.loop-byte.invariant

pub loop-byte-preserved : goal.loop-byte-preserved
loop-byte-preserved c = ap (λ (b : ℕ). fnv (bit_xor c.loop-byte.value b * 0x100000001b3 % 2 ^ 64) (drop (c.loop-byte.byte-index + 1) c.args.key.now)) c.from.ensures ∙ sym (fnv_more c.args.key.now c.loop-byte.value c.loop-byte.byte-index c.loop-byte-test.true) ∙ c.loop-byte.invariant
