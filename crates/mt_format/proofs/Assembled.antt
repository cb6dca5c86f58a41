-- What a kernel is assembled of, over a device that was formatted.
use Rattle.std.proofs.Common.{◌≡◌, ℕ, List, [], length, refl, ap, arith}
use Rattle.mt_disk.specs.declared.device.Device.{Ghosts}
use Rattle.mt_escrow.specs.Seen.{Escrowed}
use Rattle.mt_core.specs.Consistent.{IsFresh}
use Rattle.mt_log.specs.Words.{appended}
use Rattle.mt_model.specs.Tables.{count_at}
use Rattle.mt_model.specs.declared.counters.Count.{Count}
use Rattle.mt_op.proofs.Opened.{no_images}
use Rattle.mt_op.specs.declared.operations.Operations.{Operations}
use Rattle.mt_pool.specs.Images.{slot}
use Rattle.mt_txn.specs.Well.{Opens}
use Rattle.mt_format.specs.Firsts.{AreFresh}
use Rattle.mt_format.specs.Schemas.{relations_in, counters_in, schema_base}
use Rattle.mt_format.specs.declared.schema.Schema.{Schema}

module _ {D : Type 0} (g : Ghosts D) (s : Schema) (o : Operations D) (e : Escrowed) (fresh : AreFresh g s o e) where
  pub fresh_of : IsFresh o e
  fresh_of = record {
    locks = fresh.operations.locks;
    unclaimed = fresh.operations.unclaimed;
    images = no_images (appended o.store.log) fresh.operations.empty;
    room = let head = fresh.operations.head in let size = fresh.operations.size in let large = s.area_size.0 in omega (arith, head, size, large);
    pending = fresh.escrow.pending;
    aside = fresh.escrow.aside;
  }

  pub opens_of : (relations counters : ℕ) → relations_in s ≡ relations → length (counters_in s) ≡ counters → Opens g o e relations counters (schema_base s)
  opens_of relations counters same_relations same_counters =
      ∣ (
        record { first = schema_base s; earlier = []; begun = schema_base s; pages = slot 8192 (g.seen fresh.device); relations = relations_in s; counters = length (counters_in s) },
        record { relations_are = same_relations; counters_are = same_counters; first_is = refl },
        record {
          schema = record { few_relations = s.relation_count.1; few_counters = s.counter_count };
          area = record { begun = refl; none = refl };
          bounds = fresh.bounds;
          holds = fresh.formatted.base;
          right = fresh.operations.right;
          escrowed = record { all = ap (λ (cs : List Count). length cs) fresh.escrow.committed; counts = λ c lt. ap (λ (cs : List Count). count_at cs c) fresh.escrow.committed };
        },
      ) ∣₁
