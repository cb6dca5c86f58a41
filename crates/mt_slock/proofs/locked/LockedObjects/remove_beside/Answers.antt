use Rattle.std.proofs.Common.{◌≡◌, ◌==◌, ◌&&◌, not, cond, List, [], Option, Some, None, is_some, subst, ap, sym, ◌∙◌}
use Rattle.std.specs.Map.{lookup}
use Rattle.std.specs.Option.{option_copied_mut}
use Rattle.mt_model.specs.declared.objects.Object.{Object}
use Rattle.mt_model.specs.Model.{same_object}
use Rattle.mt_model.specs.Locks.{same_mode}
use Rattle.mt_slock.specs.declared.holders.Holder.{Holder}
use Rattle.mt_slock.specs.Views.{holds_in, is_among, HasNoIdle}
use Rattle.mt_slock.proofs.Among.{among-filter, not_both}
use Rattle.mt_slock.proofs.Keys.{same_lookup, updated}
use Rattle.mt_slock.proofs.Entries.{without_changed, own_entry, cond_twice, still_no_idle, some_not_empty, none_not_empty}
use Rattle.mt_slock.proofs.locked.LockedObjects.remove_beside.Goals as goal

pub returns-in_default-clause-removed : goal.returns-in_default-clause-removed
returns-in_default-clause-removed c =
    let t = c.args.txn in
    let x = c.args.object.now in
    let m = c.args.mode in
    let es : List (Object × List Holder) = c.args.self.now in
    let old : Object → Option (List Holder) = λ q. lookup (same_object q) es in
    let same : c.get_mut.follows.lender-at-none.entries ≡ es = ap (λ k. k.entries) (c.get_mut.follows.holds-at-none) ∙ c.self.view_is in
    let missing : old x ≡ None =
    ap (lookup (same_object x)) (sym c.self.view_is) ∙ (sym (same_lookup x c.self.inside.holders.entries) ∙ (sym c.get_mut.ensures.value ∙ ap option_copied_mut c.in_default.is)) in
    λ i u y n. (ap (λ (l : List (Object × List Holder)). holds_in (lookup (same_object y) l) u n) same
    ∙ without_changed old old x (old x) (own_entry old x) t m
    (λ v k. ap (λ (o : Option (List Holder)). holds_in o v k) missing ∙ ap (λ (o : Option (List Holder)). holds_in o v k && not ((v == t) && same_mode m k)) (sym missing))
    u y n) i

pub returns-else-is_empty-clause-removed : goal.returns-else-is_empty-clause-removed
returns-else-is_empty-clause-removed c =
    let t = c.args.txn in
    let x = c.args.object.now in
    let m = c.args.mode in
    let es : List (Object × List Holder) = c.args.self.now in
    let hs : List Holder = c.in-Some.holders.now in
    let kept : List Holder = c.remove.new.self in
    let there = ap is_some (sym c.get_mut.ensures.value ∙ ap option_copied_mut c.in-Some.is) in
    let write = c.get_mut.follows.holds kept in
    let old : Object → Option (List Holder) = λ q. lookup (same_object q) es in
    let new : Object → Option (List Holder) = λ q. lookup (same_object q) (c.get_mut.follows.lender kept).entries in
    let found : old x ≡ Some hs =
    ap (lookup (same_object x)) (sym c.self.view_is) ∙ (sym (same_lookup x c.self.inside.holders.entries) ∙ (sym c.get_mut.ensures.value ∙ ap option_copied_mut c.in-Some.is)) in
    λ i u y n. without_changed old new x (Some kept)
    (λ q. updated x (Some kept) c.self.inside.holders.entries (c.get_mut.follows.lender kept).entries (write.3 there).0 q
    ∙ ap (λ (l : List (Object × List Holder)). cond (same_object x q) (Some kept) (lookup (same_object q) l)) c.self.view_is) t m
    (λ v k. ap (λ (l : List Holder). is_among l v k) c.remove.ensures ∙ (among-filter hs t m v k ∙ ap (λ (o : Option (List Holder)). holds_in o v k && not ((v == t) && same_mode m k)) (sym found)))
    u y n i

pub returns-then-is_empty-clause-removed : goal.returns-then-is_empty-clause-removed
returns-then-is_empty-clause-removed c =
    let t = c.args.txn in
    let x = c.args.object.now in
    let m = c.args.mode in
    let es : List (Object × List Holder) = c.args.self.now in
    let hs : List Holder = c.in-Some.holders.now in
    let kept : List Holder = c.remove.new.self in
    let there = ap is_some (sym c.get_mut.ensures.value ∙ ap option_copied_mut c.in-Some.is) in
    let write = c.get_mut.follows.holds kept in
    let gone = c.swap_remove.ensures.updates in
    let old : Object → Option (List Holder) = λ q. lookup (same_object q) es in
    let new : Object → Option (List Holder) = λ q. lookup (same_object q) c.swap_remove.new.self.entries in
    let found : old x ≡ Some hs =
    ap (lookup (same_object x)) (sym c.self.view_is) ∙ (sym (same_lookup x c.self.inside.holders.entries) ∙ (sym c.get_mut.ensures.value ∙ ap option_copied_mut c.in-Some.is)) in
    let none : kept ≡ [] = c.is_empty.ensures.0 c.if-is_empty.true in
    λ i u y n. without_changed old new x None
    (λ q. updated x None (c.get_mut.follows.lender kept).entries c.swap_remove.new.self.entries gone.0 q
    ∙ (ap (λ (o : Option (List Holder)). cond (same_object x q) None o) (updated x (Some kept) c.self.inside.holders.entries (c.get_mut.follows.lender kept).entries (write.3 there).0 q)
    ∙ (cond_twice (same_object x q) None (Some kept) (lookup (same_object q) c.self.inside.holders.entries)
    ∙ ap (λ (l : List (Object × List Holder)). cond (same_object x q) None (lookup (same_object q) l)) c.self.view_is))) t m
    (λ v k. ap (λ (l : List Holder). is_among l v k) (sym none ∙ c.remove.ensures) ∙ (among-filter hs t m v k ∙ ap (λ (o : Option (List Holder)). holds_in o v k && not ((v == t) && same_mode m k)) (sym found)))
    u y n i

pub returns-in_default-clause-idle : goal.returns-in_default-clause-idle
returns-in_default-clause-idle c = λ idle.
    let same : c.get_mut.follows.lender-at-none.entries ≡ c.args.self.now = ap (λ k. k.entries) (c.get_mut.follows.holds-at-none) ∙ c.self.view_is in
    subst HasNoIdle (sym same) idle

pub returns-else-is_empty-clause-idle : goal.returns-else-is_empty-clause-idle
returns-else-is_empty-clause-idle c = λ idle.
    let x = c.args.object.now in
    let es : List (Object × List Holder) = c.args.self.now in
    let kept : List Holder = c.remove.new.self in
    let there = ap is_some (sym c.get_mut.ensures.value ∙ ap option_copied_mut c.in-Some.is) in
    let write = c.get_mut.follows.holds kept in
    still_no_idle x (Some kept) es (c.get_mut.follows.lender kept).entries
    (λ q. updated x (Some kept) c.self.inside.holders.entries (c.get_mut.follows.lender kept).entries (write.3 there).0 q
    ∙ ap (λ (l : List (Object × List Holder)). cond (same_object x q) (Some kept) (lookup (same_object q) l)) c.self.view_is)
    (some_not_empty kept (λ e. not_both c.is_empty.result (c.is_empty.ensures.1 e) c.if-is_empty.false)) idle

pub returns-then-is_empty-clause-idle : goal.returns-then-is_empty-clause-idle
returns-then-is_empty-clause-idle c = λ idle.
    let x = c.args.object.now in
    let es : List (Object × List Holder) = c.args.self.now in
    let kept : List Holder = c.remove.new.self in
    let there = ap is_some (sym c.get_mut.ensures.value ∙ ap option_copied_mut c.in-Some.is) in
    let write = c.get_mut.follows.holds kept in
    let gone = c.swap_remove.ensures.updates in
    still_no_idle x None es c.swap_remove.new.self.entries
    (λ q. updated x None (c.get_mut.follows.lender kept).entries c.swap_remove.new.self.entries gone.0 q
    ∙ (ap (λ (o : Option (List Holder)). cond (same_object x q) None o) (updated x (Some kept) c.self.inside.holders.entries (c.get_mut.follows.lender kept).entries (write.3 there).0 q)
    ∙ (cond_twice (same_object x q) None (Some kept) (lookup (same_object q) c.self.inside.holders.entries)
    ∙ ap (λ (l : List (Object × List Holder)). cond (same_object x q) None (lookup (same_object q) l)) c.self.view_is)))
    none_not_empty idle
