-- The first of the commits under way, and what was kept for its transaction.
use Rattle.std.proofs.Common.{◌≡◌, ◌∙◌, ℕ, ◌≤◌, ◌+◌, List, ◌∷◌, length, map, get_or, Option, Some, None, refl, sym, ap, subst, arith}
use Rattle.std.specs.List.{sum_by, remove}
use Rattle.std.specs.Option.{option_map}
use Rattle.mt_disk.specs.declared.device.Device.{Ghosts}
use Rattle.mt_live.specs.Entries.{kept}
use Rattle.mt_live.specs.Lives.{entry_by, member_of}
use Rattle.mt_live.specs.Members.{Member, Noted}
use Rattle.mt_live.specs.Undoing.{only}
use Rattle.mt_model.specs.Model.{Base}
use Rattle.mt_op.specs.Operations.{claimed}
use Rattle.mt_core.specs.Consistent.{Origin, session_in, IsConsistent}
use Rattle.mt_core.specs.Runs.{noted_pages, noted_bytes, entry_pages, entry_bytes}
use Rattle.mt_core.specs.declared.parts.Commit.{Commit}
use Rattle.mt_core.specs.declared.parts.Core.{Core}
use Rattle.mt_core.proofs.Weighing.{sum_mapped}
use Rattle.mt_core.proofs.Enough.{claims_few, leave_claimed, leave_enough}
use Rattle.mt_core.proofs.Leaving.{first_idle}

pub first_txn : (items : List Commit) (found first : Commit) (cs : List Commit) → items ≡ first ∷ cs → found ≡ get_or items 0 found → found.txn ≡ first.txn
first_txn items found first cs queue there = ap (λ (c : Commit). c.txn) (there ∙ ap (λ (xs : List Commit). get_or xs 0 found) queue)

pub first_is : (items : List Commit) (found first : Commit) (cs : List Commit) → items ≡ first ∷ cs → found ≡ get_or items 0 found → found ≡ first
first_is items found first cs queue there = there ∙ ap (λ (xs : List Commit). get_or xs 0 found) queue

pub first_rest : (items : List Commit) (first : Commit) (cs : List Commit) → items ≡ first ∷ cs → remove items 0 ≡ cs
first_rest items first cs queue = ap (λ (xs : List Commit). remove xs 0) queue

-- the session of one that lives
pub whose : (session t : ℕ) (ms : List Member) → Some session ≡ option_map (λ (m : Member). m.session) (member_of ms t) → session ≡ session_in ms t
whose session t ms is = go (member_of ms t) refl is
  where
    go : (o : Option Member) → member_of ms t ≡ o → Some session ≡ option_map (λ (m : Member). m.session) o → session ≡ session_in ms t
    go None at k = absurd cc
    go (Some m) at k = let same : session ≡ m.session = cc in rw at same

-- what its calls weigh is claimed and reserved
pub record HasLeft {D : Type 0} (k : Core D) (t : ℕ) (cs : List Noted) : Type 0 where
  pub pages : sum_by noted_pages cs ≡ sum_by entry_pages (kept (only t) k.live.standing)
  pub bytes : sum_by noted_bytes cs ≡ sum_by entry_bytes (kept (only t) k.live.standing)
  pub few : claimed k.operations ≤ 4000
  pub claims : sum_by entry_pages (kept (only t) k.live.standing) ≤ claimed k.operations
  pub reserved : 114 + sum_by entry_bytes (kept (only t) k.live.standing) ≤ k.reserved

module _ {D : Type 0} (g : Ghosts D) (origin : Origin) (base : Base) where
  pub left_sums : (k : Core D) (t : ℕ) (first : Commit) (cs : List Commit) → IsConsistent g origin base k → k.commits.items ≡ first ∷ cs → first.txn ≡ t → (done : List Noted) → kept (only t) k.live.standing ≡ map (entry_by t) done → HasLeft k t done
  left_sums k t first cs safe queue is done its =
      let some : length k.commits.items ≡ length (first ∷ cs) = ap (λ (xs : List Commit). length xs) queue in
      record {
        pages = sym (ap (sum_by entry_pages) its ∙ sum_mapped entry_pages (entry_by t) done);
        bytes = sym (ap (sum_by entry_bytes) its ∙ sum_mapped entry_bytes (entry_by t) done);
        few = claims_few g origin base k safe.fit;
        claims = leave_claimed g origin base k t safe;
        reserved = subst (λ (u : ℕ). 114 + sum_by entry_bytes (kept (only u) k.live.standing) ≤ k.reserved) is (leave_enough g origin base k first.txn safe.fit (first_idle g origin base k first cs safe.fit queue) (omega arith));
      }
