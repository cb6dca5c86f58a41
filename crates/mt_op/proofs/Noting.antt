-- A transaction's end is noted: the world and the operations of other transactions keep all.
use Rattle.std.proofs.Common.{◌≡◌, ◌≢◌, inl, inr, ⊎_elim, ℕ, false, ◌==◌, List, [], ◌∷◌, ◌++◌, All, refl, sym, ap, ◌∙◌, subst}
use Rattle.std.proofs.lemmas.Bool.{ne_eqb}
use Rattle.mt_frame.specs.declared.records.Record.{Record}
use Rattle.mt_frame.specs.declared.records.Record.TheVariants.{Commit, AbortEnd}
use Rattle.mt_plock.specs.declared.guards.PageLock.{PageLock}
use Rattle.mt_plock.specs.Holding.{AreTogether}
use Rattle.mt_plock.specs.Releasing.{locks_of}
use Rattle.mt_steps.specs.Repeated.{held, repeat}
use Rattle.mt_op.specs.World.{World, repeated_in, held_in, unfinished_in, IsCovered, IsWorld, IsOpen, IsUnderWay}
use Rattle.mt_op.specs.Moves.{Notes, EndsTxn}
use Rattle.mt_op.specs.declared.scope.OpScope.{OpScope}
use Rattle.mt_op.proofs.Staying.{repeated_more, world_locked, way_quiet, open_more}

module _ (relations counters : ℕ) (w z : World) (t : ℕ) (r : Record) (m : Notes w z r) (ends : EndsTxn t r) where
  same : repeated_in z ≡ repeated_in w
  same = repeated_more w z (r ∷ []) m.area.opening m.records ∙ ⊎_elim
      (λ (is : r ≡ Commit t). ap (λ (x : Record). repeat (repeated_in w) (x ∷ [])) is)
      (λ (is : r ≡ AbortEnd t). ap (λ (x : Record). repeat (repeated_in w) (x ∷ [])) is)
      ends

  pub notes_held : held_in z ≡ held_in w
  notes_held = ap held same

  pub world_notes : IsWorld relations counters w → IsWorld relations counters z
  world_notes h =
      world_locked relations counters w z m.area.total same m.pages
      (subst (λ (ls : List PageLock). All (IsCovered ls) (unfinished_in w)) (sym m.locks) h.covered) (subst AreTogether (sym m.locks) h.together) h

  pub others_note : (u : OpScope) → IsUnderWay relations counters w u → u.txn ≢ t → IsUnderWay relations counters z u
  others_note u k other = way_quiet relations counters w z u m.area.total same m.pages (ap (locks_of u.number) m.locks) (open_kept ends) k
    where
      differs : (t == u.txn) ≡ false
      differs = ne_eqb t u.txn (λ e. other (sym e))

      open_kept : EndsTxn t r → IsOpen w u → IsOpen z u
      open_kept (inl is) = open_more w z u (Commit t ∷ []) (m.records ∙ ap (λ (x : Record). w.records ++ x ∷ []) is) (rw differs refl) refl refl refl
      open_kept (inr is) = open_more w z u (AbortEnd t ∷ []) (m.records ∙ ap (λ (x : Record). w.records ++ x ∷ []) is) (rw differs refl) refl refl refl
