use Rattle.std.proofs.Common.{rules, ◌≡◌, ◌≢◌, ◌==◌, ◌&&◌, ◌||◌, cond, [], ◌∷◌, List, Option, Some, None, is_some, ap, sym, ◌∙◌}
use Rattle.std.specs.Map.{lookup}
use Rattle.std.specs.Option.{option_copied_mut}
use Rattle.std.proofs.lemmas.Result.{on_ok_weaker, on_err_weaker}
use Rattle.mt_model.specs.declared.objects.Object.{Object}
use Rattle.mt_model.specs.Model.{same_object}
use Rattle.mt_model.specs.Locks.{same_mode}
use Rattle.mt_slock.specs.declared.holders.Holder.{Holder}
use Rattle.mt_slock.specs.Views.{holds_in, is_among}
use Rattle.mt_slock.proofs.Among.{among-push, or_false}
use Rattle.mt_slock.proofs.Keys.{same_lookup, updated}
use Rattle.mt_slock.proofs.Entries.{with_changed, same_changed, still_no_idle, some_not_empty, grown_not_empty}
use Rattle.mt_slock.proofs.locked.LockedObjects.add.Goals as goal
use Rattle.mt_slock.proofs.locked.LockedObjects.add.Goals.{Joined-object}

-- the entries once the holders have been written back
written : (c : Joined-object) → c.match-object.self ≡ (c.get_mut.follows.lender c.add.new.self).entries
written c = search rules

found : (c : Joined-object) → lookup (same_object c.args.object) c.args.self.now ≡ Some c.in-Some.holders.now
found c =
    ap (lookup (same_object c.args.object)) (sym c.self.view_is)
    ∙ (sym (same_lookup c.args.object c.self.inside.holders.entries) ∙ (sym c.get_mut.ensures.value ∙ ap option_copied_mut c.in-Some.is))

changes : (c : Joined-object) (q : Object) → lookup (same_object q) c.match-object.self ≡ cond (same_object c.args.object q) (Some c.add.new.self) (lookup (same_object q) c.args.self.now)
changes c q =
    let there = ap is_some (sym c.get_mut.ensures.value ∙ ap option_copied_mut c.in-Some.is) in
    let w = c.get_mut.follows.holds c.add.new.self in
    ap (lookup (same_object q)) (written c)
    ∙ (updated c.args.object (Some c.add.new.self) c.self.inside.holders.entries (c.get_mut.follows.lender c.add.new.self).entries (w.3 there).0 q
    ∙ ap (λ (es : List (Object × List Holder)). cond (same_object c.args.object q) (Some c.add.new.self) (lookup (same_object q) es)) c.self.view_is)

one_not_empty : (h : Holder) → h ∷ [] ≢ []
one_not_empty h e = absurd cc

pub returns-in-Some-clause-added : goal.returns-in-Some-clause-added
returns-in-Some-clause-added c =
    let t = c.args.txn in
    let x = c.args.object in
    let m = c.args.mode in
    let hs : List Holder = c.in-Some.holders.now in
    let old : Object → Option (List Holder) = λ q. lookup (same_object q) c.args.self.now in
    let new : Object → Option (List Holder) = λ q. lookup (same_object q) c.match-object.self in
    on_ok_weaker c.add.result (λ e i u y n. with_changed old new x (Some c.add.new.self) (changes c) t m
    (λ v k. ap (λ (l : List Holder). is_among l v k) e ∙ (among-push hs (record { txn = t; mode = m }) v k ∙ ap (λ (o : Option (List Holder)). holds_in o v k || ((v == t) && same_mode m k)) (sym (found c))))
    u y n i) c.add.ensures.added

pub returns-in-Some-clause-err : goal.returns-in-Some-clause-err
returns-in-Some-clause-err c =
    let old : Object → Option (List Holder) = λ q. lookup (same_object q) c.args.self.now in
    let new : Object → Option (List Holder) = λ q. lookup (same_object q) c.match-object.self in
    on_err_weaker c.add.result (λ e i u y n. same_changed old new c.args.object (Some c.add.new.self) (changes c)
    (λ v k. ap (λ (l : List Holder). is_among l v k) e ∙ ap (λ (o : Option (List Holder)). holds_in o v k) (sym (found c)))
    u y n i) c.add.ensures.err

pub returns-in_ok-insert-in-None-clause-added : goal.returns-in_ok-insert-in-None-clause-added
returns-in_ok-insert-in-None-clause-added c =
    let t = c.args.txn in
    let x = c.args.object in
    let m = c.args.mode in
    let hs : List Holder = c.one-holders.result in
    let es : List (Object × List Holder) = c.args.self.now in
    let old : Object → Option (List Holder) = λ q. lookup (same_object q) es in
    let new : Object → Option (List Holder) = λ q. lookup (same_object q) c.insert.new.self.entries in
    let same : c.get_mut.follows.lender-at-none.entries ≡ es = ap (λ k. k.entries) (c.get_mut.follows.holds-at-none) ∙ c.self.view_is in
    let missing : lookup (same_object x) es ≡ None =
    ap (lookup (same_object x)) (sym c.self.view_is) ∙ (sym (same_lookup x c.self.inside.holders.entries) ∙ sym c.in-None.ensures.value) in
    let update = c.in_ok-insert-in-None.ensures.updates in
    λ i u y n. with_changed old new x (Some hs)
    (λ q. updated x (Some hs) c.get_mut.follows.lender-at-none.entries c.insert.new.self.entries update.0 q
    ∙ ap (λ (l : List (Object × List Holder)). cond (same_object x q) (Some hs) (lookup (same_object q) l)) same) t m
    (λ v k. ap (λ (l : List Holder). is_among l v k) c.one-holders.ensures ∙ (or_false ((v == t) && same_mode m k) ∙ ap (λ (o : Option (List Holder)). holds_in o v k || ((v == t) && same_mode m k)) (sym missing)))
    u y n i

pub returns-in-Some-clause-idle : goal.returns-in-Some-clause-idle
returns-in-Some-clause-idle c = λ idle.
    let hs : List Holder = c.in-Some.holders.now in
    let there : hs ≢ [] = λ e. idle c.args.object (found c ∙ ap (λ (l : List Holder). Some l) e) in
    still_no_idle c.args.object (Some c.add.new.self) c.args.self.now c.match-object.self (changes c)
    (some_not_empty c.add.new.self (grown_not_empty c.add.result hs c.add.new.self (record { txn = c.args.txn; mode = c.args.mode }) c.add.ensures.added c.add.ensures.err there)) idle

pub returns-in_ok-insert-in-None-clause-idle : goal.returns-in_ok-insert-in-None-clause-idle
returns-in_ok-insert-in-None-clause-idle c = λ idle.
    let x = c.args.object in
    let hs : List Holder = c.one-holders.result in
    let es : List (Object × List Holder) = c.args.self.now in
    let same : c.get_mut.follows.lender-at-none.entries ≡ es = ap (λ k. k.entries) (c.get_mut.follows.holds-at-none) ∙ c.self.view_is in
    let one : hs ≢ [] = λ e. absurd (one_not_empty (record { txn = c.args.txn; mode = c.args.mode }) (sym c.one-holders.ensures ∙ e)) in
    let update = c.in_ok-insert-in-None.ensures.updates in
    still_no_idle x (Some hs) es c.insert.new.self.entries
    (λ q. updated x (Some hs) c.get_mut.follows.lender-at-none.entries c.insert.new.self.entries update.0 q
    ∙ ap (λ (l : List (Object × List Holder)). cond (same_object x q) (Some hs) (lookup (same_object q) l)) same)
    (some_not_empty hs one) idle
