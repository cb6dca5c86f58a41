use Rattle.std.proofs.Common.{◌≡◌, ◌==◌, ◌&&◌, not, cond, slice_get, List, Option, Some, None, subst, ap, sym, ◌∙◌}
use Rattle.std.specs.Map.{lookup}
use Rattle.std.specs.Prelude.{IfSome}
use Rattle.indexmap.specs.IndexMap.{Updates}
use Rattle.mt_model.specs.contracts.objects.ObjectPartialEq.TheImpl.{ghosts}
use Rattle.mt_model.specs.declared.objects.Object.{Object}
use Rattle.mt_model.specs.Model.{same_object}
use Rattle.mt_model.specs.Locks.{same_mode}
use Rattle.mt_model.proofs.Cells.{same-true}
use Rattle.mt_slock.specs.declared.holders.Holder.{Holder}
use Rattle.mt_slock.specs.Views.{holds_in, is_among}
use Rattle.mt_slock.proofs.Among.{among-filter}
use Rattle.mt_slock.proofs.Keys.{updated}
use Rattle.mt_slock.proofs.Entries.{without_changed, still_no_idle, none_not_empty}
use Rattle.mt_slock.proofs.locked.LockedObjects.remove.Goals as goal
use Rattle.mt_slock.proofs.locked.LockedObjects.remove.Goals.{After-drop}

changes : (c : After-drop) (q : Object) → lookup (same_object q) c.swap_remove_index.new.self.entries ≡ cond (same_object c.args.object.now q) None (lookup (same_object q) c.args.self.now)
changes c q =
    let x = c.args.object.now in
    let a = c.in-Some.ensures in
    let is : c.swap_remove_index.result ≡ Some (a.key, a.holders) = c.swap_remove_index.ensures.entry ∙ (ap (λ es. slice_get es c.in-Some.place) c.self.view_is ∙ a.at) in
    let gone = subst (λ (r : Option (Object × List Holder)). IfSome r (λ p. Updates ghosts.eq c.self.inside.holders c.swap_remove_index.new.self p.0 None)) is c.swap_remove_index.ensures.updates in
    updated a.key None c.self.inside.holders.entries c.swap_remove_index.new.self.entries gone.0 q
    ∙ (λ i. cond (same_object (sym (same-true x a.key a.same) i) q) None (lookup (same_object q) (c.self.view_is i)))

pub returns-in-Some-clause-removed : goal.returns-in-Some-clause-removed
returns-in-Some-clause-removed c =
    let t = c.args.txn in
    let x = c.args.object.now in
    let m = c.args.mode in
    let a = c.in-Some.ensures in
    let old : Object → Option (List Holder) = λ q. lookup (same_object q) c.args.self.now in
    let new : Object → Option (List Holder) = λ q. lookup (same_object q) c.swap_remove_index.new.self.entries in
    λ i u y n. without_changed old new x None (changes c) t m
    (λ v k. ap (λ (l : List Holder). is_among l v k) (sym a.alone) ∙ (among-filter a.holders t m v k ∙ ap (λ (o : Option (List Holder)). holds_in o v k && not ((v == t) && same_mode m k)) (sym a.found)))
    u y n i

pub returns-in-Some-clause-idle : goal.returns-in-Some-clause-idle
returns-in-Some-clause-idle c = λ idle. still_no_idle c.args.object.now None c.args.self.now c.swap_remove_index.new.self.entries (changes c) none_not_empty idle
