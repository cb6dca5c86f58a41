-- Operations that are attached to their device again, which was only read or synced.
use Rattle.std.proofs.Common.{ℕ, List, ap, refl, subst, sym}
use Rattle.mt_disk.specs.declared.device.Device.{Ghosts}
use Rattle.mt_disk.proofs.Frame.{leaves_more}
use Rattle.mt_log.specs.Quiet as quiet
use Rattle.mt_op.specs.Detached.{attached}
use Rattle.mt_op.specs.Surveyed.{OnlyReads}
use Rattle.mt_op.specs.declared.detached_operations.DetachedOperations.{DetachedOperations}
use Rattle.mt_pool.proofs.Kept.{explains, kept_read}
use Rattle.mt_pool.specs.Kept.{Explains, IsKept}
use Rattle.mt_pool.specs.Views.{Shows, view}
use Rattle.mt_space.specs.Changes.{PageBytes}

module _ {D : Type 0} (g : Ghosts D) where
  kept_attached : (rest : DetachedOperations) (d e : D) → quiet.OnlyReadsOrSyncs g d e → (opening : PageBytes) → IsKept g opening (attached rest d).store → IsKept g opening (attached rest e).store
  kept_attached rest d e reads opening k =
      kept_read g opening (attached rest d).store k rest.pool e k.frames (subst (λ (l : List ℕ). Shows rest.pool l) (sym reads.same) k.shows) refl refl refl
      (λ q. ap (λ (l : List ℕ). view rest.pool l q) reads.same) reads.same reads.less

  pub attached_reads : (rest : DetachedOperations) (d e : D) → quiet.OnlyReadsOrSyncs g d e → OnlyReads g (attached rest d) (attached rest e)
  attached_reads rest d e reads = record {
    kept = kept_attached rest d e reads;
    moments = λ opening k. leaves_more g.moment g.left_since d e (g.may_leave d) (Explains opening (attached rest d).store) reads.moments (explains g opening (attached rest d).store k);
    content = reads.same;
    pool = refl;
    log = refl;
    locks = refl;
    rooms = refl;
    map = refl;
  }
