use Rattle.std.proofs.Common.{◌≡◌, ◌-◌, ◌++◌, ◌∷◌, [], List, None, Some, length, slice_get, sym, ap, ◌∙◌}
use Rattle.std.specs.Option.{option_copied}
use Rattle.mt_model.specs.declared.objects.Lock.{Lock}
use Rattle.mt_slock.specs.Noted.{front}
use Rattle.mt_slock.proofs.Noting.{split_front, lock_parts, ended_is, no_last}
use Rattle.mt_slock.proofs.notes.LockList.ends_with.Goals as goal
use Rattle.mt_slock.proofs.notes.LockList.ends_with.Goals.{After-is_on}

last_of : (c : After-is_on) → slice_get c.args.self.now (length c.args.self.now - 1) ≡ Some c.in-Some.lock.now
last_of c =
    let same : c.deref.result.now ≡ c.args.self.now = c.deref.ensures.value ∙ c.self.view_is in
    ap (λ (k : List Lock). slice_get k (length k - 1)) (sym same) ∙ (sym c.last.ensures.value ∙ ap option_copied c.in-Some.is)

pub returns-in-Some : goal.returns-in-Some
returns-in-Some c =
    let ls : List Lock = c.args.self.now in
    let l : Lock = c.in-Some.lock.now in (
      λ e. split_front ls l (last_of c) ∙ ap (λ (k : Lock). front ls ++ k ∷ []) (lock_parts l c.args.object.now c.args.mode (sym c.is_on.ensures ∙ e)),
      λ ends. c.is_on.ensures ∙ ended_is ls l c.args.object.now c.args.mode (last_of c) ends,
    )

pub returns-in-None : goal.returns-in-None
returns-in-None c =
    let same : c.deref.result.now ≡ c.args.self.now = c.deref.ensures.value ∙ c.self.view_is in
    let nothing : slice_get c.args.self.now (length c.args.self.now - 1) ≡ None =
    ap (λ (k : List Lock). slice_get k (length k - 1)) (sym same) ∙ (sym c.last.ensures.value ∙ ap option_copied c.in-None.is) in
    (λ e. absurd cc, λ ends. absurd (no_last c.args.self.now c.args.object.now c.args.mode nothing ends))
