use Rattle.std.proofs.Common.{◌≡◌, length, drop}
use Rattle.mt_base.specs.Edits.{patched}
use Rattle.mt_space.proofs.patches.patch.Given as goal

-- what is left makes of the page so far what all edits make of the page
abbrev pub invariant-loop-edit : goal.invariant-loop-edit
invariant-loop-edit l = record {
  so_far : patched (drop l.edit-index l.edits) l.page ≡ patched l.edits l.fn.page;
  size : length l.page ≡ 4096;
}
