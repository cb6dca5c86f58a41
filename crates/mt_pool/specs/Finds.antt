-- What a look for a page to flush has come to.
use Rattle.std.specs.Prelude.{◌≡◌, ℕ, get_or, false}
use Rattle.mt_pool.specs.Views.{IsReady, IsWaiting}
use Rattle.mt_pool.specs.declared.pool.Pool.{Pool}
use Rattle.mt_pool.specs.declared.flushes.ToFlush.{ToFlush}
use Rattle.mt_pool.specs.declared.flushes.ToFlush.TheVariants.{Ready, Waiting, Nothing}

-- a page that may be written, or none though some is to be flushed, or none at all
abbrev pub IsFound : Pool → ℕ → ToFlush → Type 0
IsFound pool durable (Ready frame page) = IsReady pool durable frame page
IsFound pool durable Waiting = IsWaiting pool durable
IsFound pool durable Nothing = (f : ℕ) → get_or pool.dirty.items f false ≡ false
