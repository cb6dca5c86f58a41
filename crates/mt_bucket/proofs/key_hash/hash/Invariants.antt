-- The bytes that are left give the hash.
use Rattle.std.proofs.Common.{◌≡◌, drop}
use Rattle.mt_bucket.specs.Hash.{fnv}
use Rattle.mt_bucket.proofs.key_hash.hash.Given as goal

abbrev pub invariant-loop-byte : goal.invariant-loop-byte
invariant-loop-byte l = fnv l.value (drop l.byte-index l.key) ≡ fnv 0xcbf29ce484222325 l.key
