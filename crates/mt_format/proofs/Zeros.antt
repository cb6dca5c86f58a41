-- Bytes that are all zero.
use Rattle.std.proofs.Common.{◌≡◌, inl, inr, ℕ, length, get_or, replicate, arith}
use Rattle.std.proofs.lemmas.Bool.{cases_lt}
use Rattle.std.proofs.lemmas.List.{get_or-replicate, get_or_past, length-replicate}

pub zero_at : (n i : ℕ) → get_or {A = ℕ} (replicate n 0) i 0 ≡ 0
zero_at n i = let size : length (replicate {A = ℕ} n 0) ≡ n = length-replicate n 0 in elim (cases_lt i n) [
  | inl inside ↦ get_or-replicate n i 0 0 inside
  | inr past ↦ get_or_past (replicate n 0) i 0 (omega (arith, past, size))
]
