-- A change of a page as ranges of new bytes.
use Rattle.std.specs.Prelude.{◌≡◌, ◌≢◌, ◌⊎◌, All, ℕ, ◌+◌, ◌-◌, ◌*◌, ◌<◌, ◌≤◌, List, [], ◌∷◌, ◌++◌, length, take, drop}
use Rattle.std.proofs.Math.ListN.{get_or}
use Rattle.mt_base.specs.Ranges.{part}
use Rattle.mt_base.specs.declared.edits.TheConstants.{QUIET_BYTES}
use Rattle.mt_base.specs.declared.edits.Edit.{Edit}

-- the page with these bytes at a place
abbrev pub splice : ℕ → List ℕ → List ℕ → List ℕ
splice at bytes page = take at page ++ (bytes ++ drop (at + length bytes) page)

-- the page once all edits are made, the first one first
abbrev pub patched : List Edit → List ℕ → List ℕ
patched [] page = page
patched (e ∷ es) page = patched es (splice e.start e.bytes page)

-- what the edits take in a log, at most: a record's fields and head, old bytes and new bytes
abbrev pub log_size : List Edit → ℕ
log_size [] = 0
log_size (e ∷ es) = 29 + 2 * length e.bytes + log_size es

-- a range within the page whose first and last byte change, with the bytes that the page has there once all is done
pub record IsShortest (old new : List ℕ) (e : Edit) : Type 0 where
  pub some : 1 ≤ length e.bytes
  pub within : e.start + length e.bytes ≤ length old
  pub first : get_or old e.start 0 ≢ get_or new e.start 0
  pub last : get_or old (e.start + length e.bytes - 1) 0 ≢ get_or new (e.start + length e.bytes - 1) 0
  pub bytes : e.bytes ≡ part new e.start (length e.bytes)

-- the new bytes below i, the old ones from i on
pub record Halfway (old new mid : List ℕ) (i : ℕ) : Type 0 where
  pub len : length mid ≡ length old
  pub done : (k : ℕ) → k < i → get_or mid k 0 ≡ get_or new k 0
  pub rest : (k : ℕ) → i ≤ k → get_or mid k 0 ≡ get_or old k 0

-- where a run of changes that begins at i ends: fifteen equal bytes follow, or the page's end
pub record EndsRun (old new : List ℕ) (i end : ℕ) : Type 0 where
  pub after : i < end
  pub within : end ≤ length old
  pub last : get_or old (end - 1) 0 ≢ get_or new (end - 1) 0
  pub quiet : (k : ℕ) → end ≤ k → k < end + QUIET_BYTES → k < length old → get_or old k 0 ≡ get_or new k 0

-- where the last byte that differs ends, of the fifteen from a place on, or that place
pub record LastDiffers (old new : List ℕ) (from at : ℕ) : Type 0 where
  pub after : from ≤ at
  pub within : at ≤ length old
  pub last : from < at → get_or old (at - 1) 0 ≢ get_or new (at - 1) 0
  pub quiet : (k : ℕ) → at ≤ k → k < from + QUIET_BYTES → k < length old → get_or old k 0 ≡ get_or new k 0

-- no byte from a place up to another one differs
pub record AreEqual (old new : List ℕ) (from at : ℕ) : Type 0 where
  pub after : from ≤ at
  pub within : at ≤ length old
  pub equal : (k : ℕ) → from ≤ k → k < at → get_or old k 0 ≡ get_or new k 0

-- no byte from a place on up to another differs, and there one does if that is before an end
pub record DiffersWithin (old new : List ℕ) (from end at : ℕ) : Type 0 where
  pub before : AreEqual old new from at
  pub differs : at < end → get_or old at 0 ≢ get_or new at 0

-- the first place from one on at which a byte differs, or the length
pub record FirstDiffers (old new : List ℕ) (from at : ℕ) : Type 0 where
  pub before : AreEqual old new from at
  pub differs : at < length old → get_or old at 0 ≢ get_or new at 0

-- The edits so far change all below `last`. After it stay fifteen bytes, or as many as there are.
pub record Edited (old new : List ℕ) (edits : List Edit) (last : ℕ) : Type 0 where
  pub ends : last ≤ length old
  pub made : Halfway old new (patched edits old) last
  pub quiet : (last ≡ 0) ⊎ ((k : ℕ) → last ≤ k → k < last + QUIET_BYTES → k < length old
      → get_or old k 0 ≡ get_or new k 0)
  pub short : All (IsShortest old new) edits
  pub size : log_size edits ≤ 29 + 2 * last
  pub none : last ≡ 0 → log_size edits ≡ 0
