-- What is asked of a live transaction, once one has changed.
use Rattle.std.proofs.Common.{◌≡◌, ◌≢◌, ℕ, ◌<◌, ◌==◌, Bool, true, false, cond, List, Option, Some, None, refl, sym, ap, subst, ◌∙◌}
use Rattle.std.specs.Option.{option_map}
use Rattle.std.proofs.lemmas.Bool.{eqb-true}
use Rattle.mt_live.proofs.Alone.{put_other, put_own}
use Rattle.mt_live.specs.Lives.{member_of, IsChanged}
use Rattle.mt_live.specs.Machine.{put}
use Rattle.std.specs.Prelude.{is_some}
use Rattle.mt_live.specs.Members.{Member, with_state}
use Rattle.mt_live.specs.declared.transactions.TxnState.{TxnState}
use Rattle.mt_live.specs.declared.transactions.TxnState.TheVariants.{Open, Committing, Returning, Aborting}
use Rattle.mt_live.specs.Entries.{Entry}
use Rattle.mt_live.specs.Lives.{calls_in, has_room, IsAbove}
use Rattle.mt_live.specs.Members.{forward_count, last_operation}
use Rattle.mt_live.specs.Undoing.{last_effect}
use Rattle.mt_op.specs.declared.scope.OpScope.{OpScope}
use Rattle.mt_core.specs.Runs.{state_in, did_after, is_returning, IsOwned, is_working, is_undoing}

-- of every one, what the change leaves
pub changed_keeps : {B : Type 0} (h : Option Member → B) (f : Member → Member) (old new : List Member) (t : ℕ) → ((m : Member) → h (Some (f m)) ≡ h (Some m)) → IsChanged old new t f → (u : ℕ) → h (member_of new u) ≡ h (member_of old u)
changed_keeps h f old new t keeps changed u = ap h (changed u) ∙ go (u == t) refl
  where
    mapped : (o : Option Member) → h (option_map f o) ≡ h o
    mapped None = refl
    mapped (Some m) = keeps m

    go : (c : Bool) → (u == t) ≡ c → h (cond c (option_map f (member_of old t)) (member_of old u)) ≡ h (member_of old u)
    go true is = mapped (member_of old t) ∙ ap (λ (v : ℕ). h (member_of old v)) (sym (eqb-true u t is))
    go false is = refl

-- of another one
pub changed_other : (f : Member → Member) (old new : List Member) (t : ℕ) → IsChanged old new t f → (u : ℕ) → u ≢ t → member_of new u ≡ member_of old u
changed_other f old new t changed u apart = changed u ∙ put_other (member_of old) t (option_map f (member_of old t)) u apart

-- of one that is changed twice
pub changed_then : (f h : Member → Member) (old mid new : List Member) (t : ℕ) → IsChanged old mid t f → IsChanged mid new t h → IsChanged old new t (λ m. h (f m))
changed_then f h old mid new t first then u = then u ∙ go (u == t) refl
  where
    own : member_of mid t ≡ option_map f (member_of old t)
    own = first t ∙ put_own (member_of old) t (option_map f (member_of old t))

    both : (o : Option Member) → option_map h (option_map f o) ≡ option_map (λ m. h (f m)) o
    both None = refl
    both (Some m) = refl

    go : (c : Bool) → (u == t) ≡ c → cond c (option_map h (member_of mid t)) (member_of mid u) ≡ cond c (option_map (λ m. h (f m)) (member_of old t)) (member_of old u)
    go true is = ap (option_map h) own ∙ both (member_of old t)
    go false is = first u ∙ ap (λ (c : Bool). cond c (option_map f (member_of old t)) (member_of old u)) is

-- the states, where each member keeps its own
pub states_kept : (f : Member → Member) (old new : List Member) (t : ℕ) → ((m : Member) → (f m).state ≡ m.state) → IsChanged old new t f → (u : ℕ) → state_in new u ≡ state_in old u
states_kept f old new t keeps changed u = changed_keeps (option_map (λ (m : Member). m.state)) f old new t (λ m. ap Some (keeps m)) changed u

-- where one is another member, or none any more
pub states_put : (old new : List Member) (t : ℕ) (x : Option Member) → ((u : ℕ) → member_of new u ≡ put (member_of old) t x u) → (u : ℕ) → state_in new u ≡ put (state_in old) t (option_map (λ (m : Member). m.state) x) u
states_put old new t x members u = ap (option_map (λ (m : Member). m.state)) (members u) ∙ go (u == t)
  where
    go : (c : Bool) → option_map (λ (m : Member). m.state) (cond c x (member_of old u)) ≡ cond c (option_map (λ (m : Member). m.state) x) (state_in old u)
    go true = refl
    go false = refl

-- where one that lives is in another state
pub states_set : (old new : List Member) (t : ℕ) (state : TxnState) → is_some (member_of old t) ≡ true → IsChanged old new t (λ m. with_state m state) → (u : ℕ) → state_in new u ≡ put (state_in old) t (Some state) u
states_set old new t state lives changed u = states_put old new t (option_map (λ m. with_state m state) (member_of old t)) changed u ∙ (λ i. put (state_in old) t (now (member_of old t) lives i) u)
  where
    now : (o : Option Member) → is_some o ≡ true → option_map (λ (m : Member). m.state) (option_map (λ m. with_state m state) o) ≡ Some state
    now None is = absurd cc
    now (Some m) is = refl

-- one that goes back and not on is to be undone
pub backwards_aborting : (state : Option TxnState) → is_undoing state ≡ true → ((first : ℕ) → state ≢ Some (Returning first)) → state ≡ Some Aborting
backwards_aborting None is stays = absurd cc
backwards_aborting (Some Open) is stays = absurd cc
backwards_aborting (Some Committing) is stays = absurd cc
backwards_aborting (Some (Returning first)) is stays = absurd (stays first refl)
backwards_aborting (Some Aborting) is stays = refl

-- an operation is its transaction's as before, if that and its last effect are as before
pub owned_as : (ms new : List Member) (old standing : List Entry) (q : OpScope) → member_of new q.txn ≡ member_of ms q.txn → last_effect q.txn standing ≡ last_effect q.txn old → IsOwned ms old q → IsOwned new standing q
owned_as ms new old standing q same stands o = record {
  at_work = ap is_working same ∙ o.at_work;
  room = λ fore. ap has_room same ∙ o.room fore;
  inverse = λ back. let e = o.inverse back in record { named = ap last_operation same ∙ e.named; entry = e.entry; last = stands ∙ e.last; inverse = e.inverse; unsplit = e.unsplit };
  newest = λ fore. subst (IsAbove q.number) (sym same) (o.newest fore);
  few = λ fore. subst (λ (m : Option Member). forward_count (calls_in m) < 256) (sym same) (o.few fore);
  taken = λ is. let t = o.taken is in (t.0, states ∙ t.1);
  forwards = λ fore. ap is_returning states ∙ o.forwards fore;
  backwards = λ back. ap is_undoing states ∙ o.backwards back;
  returns = λ back first is. let was = o.returns back first (sym states ∙ is) in record { room = ap has_room same ∙ was.room; newest = subst (IsAbove q.number) (sym same) was.newest; after = ap (did_after first) same ∙ was.after };
}
  where
    states : state_in new q.txn ≡ state_in ms q.txn
    states = ap (option_map (λ (m : Member). m.state)) same
