-- What a restart finds in what a crash leaves.
use Rattle.std.specs.Prelude.{ℕ, ◌≡◌, ◌⊎◌, ◌≤◌, ◌++◌, List, length, take}
use Rattle.mt_disk.specs.declared.device.Device.{Ghosts}
use Rattle.mt_core.specs.Booked.{txns_of}
use Rattle.mt_core.specs.Consistent.{session_in}
use Rattle.mt_core.specs.declared.parts.Core.{Core}
use Rattle.mt_live.specs.Laws.{in_turn}
use Rattle.mt_log.specs.Words.{durable}
use Rattle.mt_model.specs.History.{after}
use Rattle.mt_model.specs.Model.{Base}
use Rattle.mt_model.specs.declared.history.Committed.{Committed}
use Rattle.mt_replay.specs.Stands.{CanRestart}
use Rattle.mt_replay.specs.Recorded.{recorded_in}
use Rattle.mt_core.specs.Seen.{core_device, core_log}

-- the book, and after it the commits under way, in their order
abbrev pub all_commits : {D : Type 0} → Core D → List Committed
all_commits k = k.book.items ++ in_turn (session_in k.live.members) (txns_of k.commits.items) k.live.standing

-- A restart finds what some of the first commits lead to. Each that was acknowledged is in the book and one of them,
-- and so is each whose record is durable.
pub record FindsCommits {D : Type 0} (relations counters : ℕ) (first : Base) (k : Core D) (c : List ℕ) : Type 0 where
  pub base : Base
  pub found : CanRestart relations counters c base
  pub count : ℕ
  pub acknowledged : length k.book.items ≤ count
  pub durable : length (recorded_in (durable (core_log k))).books ≤ count
  pub is : base ≡ after first (take count (all_commits k))

-- Whenever a crash comes until the device of k is this one, a restart finds in what it leaves what some of the first
-- commits of k lead to, with all that were in its book then, and all whose records were durable.
pub record FindsMeanwhile {D : Type 0} (g : Ghosts D) (relations counters : ℕ)
    (first : Base) (k : Core D) (device : D) : Type 0 where
  pub later : g.moment (core_device k) ≤ g.moment device
  pub each : (c : List ℕ) → g.left_since device (g.moment (core_device k)) c
      → ∥ FindsCommits relations counters first k c ∥₁
  -- the same, for a run of calls that began before
  pub before : (t : ℕ) (c : List ℕ) → t ≤ g.moment (core_device k) → g.left_since device t c
      → ∥ g.left_since (core_device k) t c ⊎ FindsCommits relations counters first k c ∥₁
