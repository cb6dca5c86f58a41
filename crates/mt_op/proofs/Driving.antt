-- Operations where nothing that pages or locks hold has changed.
use Rattle.std.proofs.Common.{◌≡◌, ℕ, sym, subst}
use Rattle.mt_disk.specs.declared.device.Device.{Ghosts}
use Rattle.mt_log.specs.Words.{appended}
use Rattle.mt_space.specs.Changes.{PageBytes}
use Rattle.mt_pool.specs.Views.{view, pages}
use Rattle.mt_op.specs.World.{World, IsFresh}
use Rattle.mt_op.specs.Operations.{world}
use Rattle.mt_op.specs.declared.operations.Operations.{Operations}

module _ {D : Type 0} (g : Ghosts D) where
  -- where a claim is made or given back, only that changes
  pub world_same : (o n : Operations D) (opening : PageBytes) → n.store ≡ o.store → n.locks ≡ o.locks → world g opening o ≡ world g opening n
  world_same o n opening store locks = λ i. record {
    locks = sym locks i;
    opening = opening;
    records = appended (sym store i).log;
    present = λ p. view (sym store i).pool (g.seen (sym store i).device) p;
    total = pages (sym store i).pool;
  }

  pub fresh_same : (o n : Operations D) (opening : PageBytes) (t m undoes : ℕ) → n.store ≡ o.store → n.locks ≡ o.locks → IsFresh (world g opening o) t m undoes → IsFresh (world g opening n) t m undoes
  fresh_same o n opening t m undoes store locks f = subst (λ (w : World). IsFresh w t m undoes) (world_same o n opening store locks) f
