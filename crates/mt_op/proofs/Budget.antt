-- Log bytes: what is kept for an operation is enough, and stays so.
use Rattle.std.proofs.Common.{◌≡◌, ℕ, Bool, true, false, ◌+◌, ◌-◌, ◌*◌, ◌<◌, ◌≤◌, [], length, None, Some, refl, sym, ap, ◌∙◌, subst, if◌then◌else◌, arith}
use Rattle.mt_base.specs.declared.limits.TheConstants.{BATCH_HEAD_BYTES, LARGEST_OP_END}
use Rattle.mt_log.specs.Words.{seen_of, area_size}
use Rattle.mt_log.specs.declared.log.Log.{Log}
use Rattle.mt_model.specs.declared.operations.Op.{Op}
use Rattle.mt_model.specs.declared.operations.Reply.{Reply}
use Rattle.mt_space.specs.declared.changes.Changes.{Changes}
use Rattle.mt_op.specs.World.{changes_in}
use Rattle.mt_op.specs.Operations.{only_reads, end_bytes, needs, HasBudget}
use Rattle.mt_op.specs.declared.scope.OpScope.{OpScope}
use Rattle.mt_op.specs.declared.scope.Stage.{Stage}
use Rattle.mt_op.specs.declared.scope.Stage.TheVariants.{Planning, Writing, Ready}

-- an area has at most 64 MiB
pub area_small : (log : Log) → area_size log ≤ 67108864
unfolding seen_of
area_small log = let most = log.place.not_too_many in omega arith

-- ---- an operation whose plan is made

-- its pages and its end fit into what was kept for it while it planned
made_fits : (reads : Bool) (count written left : ℕ) → count ≤ 8 → (reads ≡ true → count ≡ 0) → (if reads then 0 else 106496) ≤ left → 12317 * (count - written) + (if reads then 0 else (BATCH_HEAD_BYTES + LARGEST_OP_END)) ≤ left
made_fits true count written left few none kept = let zero = none refl in omega arith
made_fits false count written left few none kept = omega arith

pub made_budget : (s : OpScope) (changes : Changes) (reply : Reply) → s.stage ≡ Planning → length changes.list.items ≤ 8 → (only_reads s.op ≡ true → changes.list.items ≡ []) → HasBudget s
    → HasBudget (record s { changes = changes; reply = Some reply; stage = Writing })
made_budget s changes reply planning few reads k = record {
  enough = made_fits (only_reads s.op) (length changes.list.items) s.written s.left few (λ is. ap length (reads is)) (subst (λ (g : Stage). needs s g ≤ s.left) planning k.enough);
  reads = reads;
}

-- ---- an operation that writes

-- 12,317 bytes for each page not yet written, and its end
writing_needs : (s : OpScope) → s.stage ≡ Writing → HasBudget s → 12317 * (length (changes_in s) - s.written) + end_bytes s ≤ s.left
writing_needs s stage k = subst (λ (g : Stage). needs s g ≤ s.left) stage k.enough

-- a page more fits
pub write_fits : (s : OpScope) (used area size : ℕ) → s.stage ≡ Writing → HasBudget s → s.written < length (changes_in s) → used + s.left < area → size ≤ 29 + 2 * 4096 → used + size + 4096 < area
write_fits s used area size stage k more room short = let needed = writing_needs s stage k in omega arith

-- it takes no more than is left
pub write_within : (s : OpScope) (before used size : ℕ) → s.stage ≡ Writing → HasBudget s → s.written < length (changes_in s) → size ≤ 29 + 2 * 4096 → used ≤ before + size + 4096 → used ≤ s.left + before
write_within s before used size stage k more short grown = let needed = writing_needs s stage k in omega arith

-- once it is written, what is left is enough still
pub write_left : (s t : OpScope) (before used size : ℕ) → s.stage ≡ Writing → HasBudget s → s.written < length (changes_in s) → size ≤ 29 + 2 * 4096 → used ≤ before + size + 4096
    → t.op ≡ s.op → t.changes ≡ s.changes → t.stage ≡ Writing → t.written ≡ s.written + 1 → t.left ≡ s.left + before - used → HasBudget t
write_left s t before used size stage k more short grown op changes is_writing written left = record {
  enough = subst (λ (g : Stage). needs t g ≤ t.left) (sym is_writing)
      (let needed = writing_needs s stage k in
      let count : length (changes_in t) ≡ length (changes_in s) = ap (λ cs. length cs.list.items) changes in
      let ending : end_bytes t ≡ end_bytes s = ap (λ (o : Op). if only_reads o then 0 else (BATCH_HEAD_BYTES + LARGEST_OP_END)) op in
      let goal : 12317 * (length (changes_in t) - t.written) + end_bytes t ≤ t.left = omega arith in goal);
  reads = λ is. ap (λ cs. cs.list.items) changes ∙ k.reads (sym (ap only_reads op) ∙ is);
}

-- one that has ended needs none
pub ended_budget : (s t : OpScope) (left : ℕ) → t ≡ record s { left = left; reply = None; stage = Ready } → HasBudget s → HasBudget t
ended_budget s t left is k = subst HasBudget (sym is) (record { enough = omega arith; reads = k.reads })
