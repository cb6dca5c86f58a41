use Rattle.std.proofs.Common.{◌≡◌, ◌≢◌, ◌==◌, ◌&&◌, ◌||◌, cond, [], ◌∷◌, List, Option, Some, None, ap, sym, ◌∙◌}
use Rattle.std.specs.Map.{lookup}
use Rattle.mt_model.specs.declared.objects.Object.{Object}
use Rattle.mt_model.specs.Model.{same_object}
use Rattle.mt_model.specs.Locks.{same_mode}
use Rattle.mt_slock.specs.declared.holders.Holder.{Holder}
use Rattle.mt_slock.specs.Views.{holds_in, is_among}
use Rattle.mt_slock.proofs.Among.{or_false}
use Rattle.mt_slock.proofs.Keys.{updated}
use Rattle.mt_slock.proofs.Entries.{with_changed, still_no_idle, some_not_empty}
use Rattle.mt_slock.proofs.locked.LockedObjects.add_first.Goals as goal

one_not_empty : (h : Holder) → h ∷ [] ≢ []
one_not_empty h e = absurd cc

pub returns-clause-added : goal.returns-clause-added
returns-clause-added c =
    let t = c.args.txn in
    let x = c.args.object in
    let m = c.args.mode in
    let hs : List Holder = c.one-holders.result in
    let es : List (Object × List Holder) = c.args.self.now in
    let old : Object → Option (List Holder) = λ q. lookup (same_object q) es in
    let new : Object → Option (List Holder) = λ q. lookup (same_object q) c.insert.new.self.entries in
    let missing : lookup (same_object x) es ≡ None = c.requires in
    let update = c.in_ok-insert.ensures.updates in
    λ i u y n. with_changed old new x (Some hs)
    (λ q. updated x (Some hs) c.self.inside.holders.entries c.insert.new.self.entries update.0 q
    ∙ ap (λ (l : List (Object × List Holder)). cond (same_object x q) (Some hs) (lookup (same_object q) l)) c.self.view_is) t m
    (λ v k. ap (λ (l : List Holder). is_among l v k) c.one-holders.ensures ∙ (or_false ((v == t) && same_mode m k) ∙ ap (λ (o : Option (List Holder)). holds_in o v k || ((v == t) && same_mode m k)) (sym missing)))
    u y n i

pub returns-clause-idle : goal.returns-clause-idle
returns-clause-idle c = λ idle.
    let x = c.args.object in
    let hs : List Holder = c.one-holders.result in
    let es : List (Object × List Holder) = c.args.self.now in
    let one : hs ≢ [] = λ e. absurd (one_not_empty (record { txn = c.args.txn; mode = c.args.mode }) (sym c.one-holders.ensures ∙ e)) in
    let update = c.in_ok-insert.ensures.updates in
    still_no_idle x (Some hs) es c.insert.new.self.entries
    (λ q. updated x (Some hs) c.self.inside.holders.entries c.insert.new.self.entries update.0 q
    ∙ ap (λ (l : List (Object × List Holder)). cond (same_object x q) (Some hs) (lookup (same_object q) l)) c.self.view_is)
    (some_not_empty hs one) idle
