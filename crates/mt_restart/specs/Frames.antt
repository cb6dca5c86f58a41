-- How many pages a kernel may keep in frames.
use Rattle.std.specs.Prelude.{ℕ, ◌≤◌}
use Rattle.mt_base.specs.declared.limits.TheConstants.{MAX_FRAMES, MIN_FRAMES}

abbrev pub IsFrameCount : ℕ → Type 0
IsFrameCount frames = (MIN_FRAMES ≤ frames) × (frames ≤ MAX_FRAMES)
