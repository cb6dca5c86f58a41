-- What the hand comes to that looks for a frame to take.
use Rattle.std.specs.Prelude.{◌≡◌, ◌<◌, ◌≤◌, ℕ, false, true, get_or, length}
use Rattle.mt_pool.specs.Views.{frames}
use Rattle.mt_pool.specs.declared.chance.Passed.{Passed}
use Rattle.mt_pool.specs.declared.chance.Passed.TheVariants.{Dirty, Unused, Used}
use Rattle.mt_pool.specs.declared.pool.Pool.{Pool}

-- this frame's page is not to be flushed
abbrev pub IsClean : Pool → ℕ → Type 0
IsClean pool f = (f < frames pool) × (get_or pool.dirty.items f false ≡ false)

-- of these frames the hand came to one that it can take, or to one that is clean, or there is no clean one
abbrev pub ComesTo : Pool → ℕ → ℕ → Passed → Type 0
ComesTo pool from to (Unused f) = IsClean pool f
ComesTo pool from to (Used f) = IsClean pool f
ComesTo pool from to Dirty = (f : ℕ) → from ≤ f → f < to → get_or pool.dirty.items f false ≡ true

-- the hand has passed these frames
pub record Passes (was now : Pool) (from to : ℕ) (passed : Passed) : Type 0 where
  pub came : ComesTo was from to passed
  pub still : passed ≡ Dirty → now ≡ was
  pub rest : (u : _) × (h : ℕ) × (now ≡ record was { used = u; hand = h }) × (length u.items ≡ frames was)
      × (h ≤ frames was)
