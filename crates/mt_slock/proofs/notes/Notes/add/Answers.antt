use Rattle.std.proofs.Common.{◌≡◌, Bool, true, false, refl, ℕ, ◌==◌, ◌++◌, ◌∷◌, [], cond, List, Option, Some, None, is_some, ap, sym, ◌∙◌}
use Rattle.std.specs.Map.{lookup}
use Rattle.std.specs.Option.{option_copied_mut}
use Rattle.std.proofs.lemmas.Result.{on_ok_weaker, on_err_weaker}
use Rattle.mt_model.specs.declared.objects.Lock.{Lock}
use Rattle.mt_slock.specs.Noted.{or_none, notes_of}
use Rattle.mt_slock.proofs.Noting.{notes_changed}
use Rattle.mt_slock.proofs.notes.Notes.add.Goals as goal

cond_same : (s : Bool) (ls : List Lock) → cond s ls ls ≡ ls
cond_same true ls = refl
cond_same false ls = refl

pub returns-in-Some-clause-added : goal.returns-in-Some-clause-added
returns-in-Some-clause-added c =
    let t : ℕ = c.args.txn in
    let start : List (ℕ × List Lock) = c.args.self.now in
    let now : List Lock = c.push.new.self in
    let lock : Lock = record { object = c.args.object.now; mode = c.args.mode } in
    let there = ap is_some (sym c.get_mut.ensures.value ∙ ap option_copied_mut c.in-Some.is) in
    let write = c.get_mut.follows.holds now in
    let end : List (ℕ × List Lock) = (c.get_mut.follows.lender now).entries in
    let changes : (q : ℕ) → lookup (λ u. q == u) end ≡ cond (t == q) (Some now) (lookup (λ u. q == u) start) = λ q.
    (write.3 there).0 q ∙ ap (λ (l : List (ℕ × List Lock)). cond (t == q) (Some now) (lookup (λ u. q == u) l)) c.self.view_is in
    let found : lookup (λ u. t == u) start ≡ Some c.in-Some.locks.now = ap (lookup (λ u. t == u)) (sym c.self.view_is) ∙ (sym c.get_mut.ensures.value ∙ ap option_copied_mut c.in-Some.is) in
    on_ok_weaker c.push.result (λ e i u. notes_changed t (Some now) start end (λ ls. ls ++ lock ∷ []) changes
    (e ∙ ((λ j. c.in-Some.locks.now ++ record { object = c.in_ok-object.ensures j; mode = c.args.mode } ∷ []) ∙ ap (λ (o : Option (List Lock)). or_none o ++ lock ∷ []) (sym found)))
    u i) c.push.ensures.added

pub returns-in-Some-clause-err : goal.returns-in-Some-clause-err
returns-in-Some-clause-err c =
    let t : ℕ = c.args.txn in
    let start : List (ℕ × List Lock) = c.args.self.now in
    let now : List Lock = c.push.new.self in
    let there = ap is_some (sym c.get_mut.ensures.value ∙ ap option_copied_mut c.in-Some.is) in
    let write = c.get_mut.follows.holds now in
    let end : List (ℕ × List Lock) = (c.get_mut.follows.lender now).entries in
    let changes : (q : ℕ) → lookup (λ u. q == u) end ≡ cond (t == q) (Some now) (lookup (λ u. q == u) start) = λ q.
    (write.3 there).0 q ∙ ap (λ (l : List (ℕ × List Lock)). cond (t == q) (Some now) (lookup (λ u. q == u) l)) c.self.view_is in
    let found : lookup (λ u. t == u) start ≡ Some c.in-Some.locks.now = ap (lookup (λ u. t == u)) (sym c.self.view_is) ∙ (sym c.get_mut.ensures.value ∙ ap option_copied_mut c.in-Some.is) in
    on_err_weaker c.push.result (λ e i u. (notes_changed t (Some now) start end (λ ls. ls) changes (e ∙ ap or_none (sym found)) u ∙ cond_same (t == u) (notes_of start u)) i) c.push.ensures.err

pub returns-in_ok-insert-in-None-clause-added : goal.returns-in_ok-insert-in-None-clause-added
returns-in_ok-insert-in-None-clause-added c =
    let t : ℕ = c.args.txn in
    let start : List (ℕ × List Lock) = c.args.self.now in
    let now : List Lock = c.push-in-None.new.self in
    let lock : Lock = record { object = c.args.object.now; mode = c.args.mode } in
    let end : List (ℕ × List Lock) = c.insert.new.self.entries in
    let same : c.get_mut.follows.lender-at-none.entries ≡ start = ap (λ k. k.entries) (c.get_mut.follows.holds-at-none) ∙ c.self.view_is in
    let missing : lookup (λ u. t == u) start ≡ None = ap (lookup (λ u. t == u)) (sym c.self.view_is) ∙ sym c.in-None.ensures.value in
    let update = c.in_ok-insert-in-None.ensures.updates in
    let changes : (q : ℕ) → lookup (λ u. q == u) end ≡ cond (t == q) (Some now) (lookup (λ u. q == u) start) = λ q.
    update.0 q ∙ ap (λ (l : List (ℕ × List Lock)). cond (t == q) (Some now) (lookup (λ u. q == u) l)) same in
    let is : now ≡ lock ∷ [] =
    c.in_ok-push-in-None.ensures.added ∙ ((λ j. c.new-locks.ensures j ++ record { object = c.in_ok-object.ensures j; mode = c.args.mode } ∷ [])) in
    λ i u. notes_changed t (Some now) start end (λ ls. ls ++ lock ∷ []) changes (is ∙ ap (λ (o : Option (List Lock)). or_none o ++ lock ∷ []) (sym missing)) u i
