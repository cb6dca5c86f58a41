use Rattle.std.proofs.Common.{◌≡◌, ℕ, ◌==◌, cond, List, Option, Some, None, is_some, ap, sym, ◌∙◌}
use Rattle.std.specs.Map.{lookup}
use Rattle.std.specs.Option.{option_copied_mut}
use Rattle.mt_model.specs.declared.objects.Lock.{Lock}
use Rattle.mt_slock.specs.Noted.{front, or_none, notes_of}
use Rattle.mt_slock.proofs.Noting.{notes_changed, own_notes}
use Rattle.mt_slock.proofs.notes.Notes.drop_last.Goals as goal
use Rattle.mt_slock.proofs.notes.Notes.drop_last.Goals.{in-Some, in_default}

pub returns : goal.returns
returns c = elim c.match-get_mut.branch [
  | in-Some w ↦
      let t : ℕ = c.args.txn in
      let start : List (ℕ × List Lock) = c.args.self.now in
      let now : List Lock = w.pop.new.self in
      let there = ap is_some (sym c.get_mut.ensures.value ∙ ap option_copied_mut w.in-Some.is) in
      let write = c.get_mut.follows.holds now in
      let end : List (ℕ × List Lock) = c.match-get_mut.self-inside.locks.entries in
      let changes : (q : ℕ) → lookup (λ u. q == u) end ≡ cond (t == q) (Some now) (lookup (λ u. q == u) start) = λ q.
      ap (λ k. lookup (λ u. q == u) k.locks.entries) w.self-inside-is
      ∙ ((write.3 there).0 q ∙ ap (λ (l : List (ℕ × List Lock)). cond (t == q) (Some now) (lookup (λ u. q == u) l)) c.self.view_is) in
      let found : lookup (λ u. t == u) start ≡ Some w.in-Some.locks.now = ap (lookup (λ u. t == u)) (sym c.self.view_is) ∙ (sym c.get_mut.ensures.value ∙ ap option_copied_mut w.in-Some.is) in
      λ i u. notes_changed t (Some now) start end front changes (w.pop.ensures ∙ ap (λ (o : Option (List Lock)). front (or_none o)) (sym found)) u i
  | in_default w ↦
      let t : ℕ = c.args.txn in
      let start : List (ℕ × List Lock) = c.args.self.now in
      let end : List (ℕ × List Lock) = c.match-get_mut.self-inside.locks.entries in
      let same : end ≡ start = ap (λ k. k.locks.entries) w.self-inside-is ∙ (ap (λ k. k.entries) (c.get_mut.follows.holds-at-none) ∙ c.self.view_is) in
      let missing : lookup (λ u. t == u) start ≡ None = ap (lookup (λ u. t == u)) (sym c.self.view_is) ∙ (sym c.get_mut.ensures.value ∙ ap option_copied_mut w.in_default.is) in
      λ i u. (ap (λ (l : List (ℕ × List Lock)). notes_of l u) same
      ∙ notes_changed t (lookup (λ v. t == v) start) start start front (own_notes t start)
      (ap or_none missing ∙ ap (λ (o : Option (List Lock)). front (or_none o)) (sym missing)) u) i
]
