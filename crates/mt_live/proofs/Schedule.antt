-- Whole runs, and lists of transactions moved in front.
use Rattle.std.proofs.Common.{◌≡◌, ℕ, Bool, true, ◌==◌, List, [], ◌∷◌, ◌++◌, Option, Some, None, refl, ap, sym, ◌∙◌, subst, arith}
use Rattle.std.proofs.lemmas.Int.{ints}
use Rattle.std.proofs.lemmas.Bool.Decides.{Decides-eqb}
use Rattle.mt_base.specs.declared.modes.LockMode.{LockMode}
use Rattle.mt_model.specs.declared.counters.Count.{Count}
use Rattle.mt_model.specs.declared.objects.Object.{Object}
use Rattle.mt_model.specs.declared.operations.Op.{Op}
use Rattle.mt_model.specs.declared.pending_add.Pending.{Pending}
use Rattle.mt_model.specs.Model.{Base, IsBase, IsInBounds}
use Rattle.mt_model.specs.History.{after, IsLegal}
use Rattle.mt_model.specs.Escrow.{HasRoom}
use Rattle.mt_model.specs.Locks.{Held, AreTogether}
use Rattle.mt_model.specs.Pending.{pending_of}
use Rattle.mt_live.specs.Entries.{Entry, runs, kept}
use Rattle.mt_live.specs.Adds.{adds, add_of}
use Rattle.mt_live.specs.Sound.{Each, IsSound}
use Rattle.mt_live.specs.Undoing.{only, others}
use Rattle.mt_live.specs.Machine.{State, is_live, IsKept, Goes, Begins, Calls, Ends, Drops, Commits, Undoes, Returns, Settles, Aborts, AllGo, last_state, start}
use Rattle.mt_live.specs.Laws.{in_turn, without_all, IsRight}
use Rattle.mt_live.proofs.Events.{commits}
use Rattle.mt_live.proofs.Keeping.{kept_explained, kept_begun, kept_called, kept_ended, kept_dropped, kept_booked, kept_undone, kept_returned, kept_settled, kept_gone}

-- ---- one event, and one after the other

pub goes : (b : Base) (s z : State) → IsKept b s → Goes b s z → IsKept b z
goes b s z k (Begins session is) = subst (IsKept b) (sym is) (kept_begun b s session k)
goes b s z k (Calls t op may is) = subst (IsKept b) (sym is) (kept_called b s t op k may)
goes b s z k (Ends t op running is) = subst (IsKept b) (sym is) (kept_ended b s t op k running)
goes b s z k (Drops t op ps running given is) = subst (IsKept b) (sym is) (kept_dropped b s t op ps k running given)
goes b s z k (Commits t session live idle is) = subst (IsKept b) (sym is) (kept_booked b s t session k idle)
goes b s z k (Undoes t last i ps idle done inverse given is) = subst (IsKept b) (sym is) (kept_undone b s t last i ps k idle done inverse given)
goes b s z k (Returns t last i ps idle done inverse given is) = subst (IsKept b) (sym is) (kept_returned b s t last i ps k idle done inverse given)
goes b s z k (Settles t n idle none is) = subst (IsKept b) (sym is) (kept_settled b s t n k idle none)
goes b s z k (Aborts t idle none is) = subst (IsKept b) (sym is) (kept_gone b s t k idle none)

pub all_go : (b : Base) (s : State) (zs : List State) → IsKept b s → AllGo b s zs → IsKept b (last_state s zs)
all_go b s [] k g = k
all_go b s (z ∷ zs) k g = all_go b z zs (goes b s z k g.0) g.1

pub start_kept : (b : Base) → IsBase b → IsKept b (start b)
start_kept b within = record {
  legal = tt;
  sound = record {
    acted = tt;
    locked = tt;
    done = tt;
    room = λ c. no_steps (b.counts c) (within c);
    ballot = λ c p. (refl, refl);
    nested = λ t. refl;
  };
  base = refl;
  locks = λ t u x m n apart p q. absurd cc;
  room = λ c. no_steps (b.counts c) (within c);
  tied = λ t. refl;
  set_aside = λ p c. record { lows = omega (arith, ints); highs = omega (arith, ints) };
  locked = λ t op h. absurd cc;
  owned = record {
    standing = tt;
    running = λ t op h. absurd cc;
    held = λ t x m h. absurd cc;
    aside = tt;
    fresh = λ t later h. absurd cc;
  };
}
  where
    no_steps : (n : Count) → IsInBounds n → HasRoom n []
    no_steps n h = let low = h.not_under in let high = h.not_over in record { low = omega (arith, ints); high = omega (arith, ints) }

pub every_schedule : (b : Base) (zs : List State) → IsBase b → AllGo b (start b) zs → IsRight b (last_state (start b) zs)
every_schedule b zs within g =
    let k = all_go b (start b) zs (start_kept b within) g in
    record { explained = kept_explained b (last_state (start b) zs) k; legal = k.legal }

pub empty_holds_book : (b : Base) (zs : List State) → IsBase b → AllGo b (start b) zs → (last_state (start b) zs).standing ≡ []
    → (last_state (start b) zs).base ≡ after b (last_state (start b) zs).book
empty_holds_book b zs within g none =
    let right = every_schedule b zs within g in
    sym right.explained.all ∙ ap (runs (after b (last_state (start b) zs).book)) none

-- ---- nobody is live

nothing_stands : (es : List Entry) (live : ℕ → Bool) → ((t : ℕ) → live t ≡ true → ⊥) → Each (λ (e : Entry). live e.txn ≡ true) es → es ≡ []
nothing_stands [] live none h = refl
nothing_stands (e ∷ es) live none h = absurd (none e.txn h.0)

nothing_pends : (ps : List Pending) → ((t : ℕ) → pending_of t ps ≡ []) → ps ≡ []
nothing_pends [] h = refl
nothing_pends (p ∷ ps) h =
    let same : (p.txn == p.txn) ≡ true = (Decides-eqb p.txn p.txn).1 refl in
    let own : p ∷ pending_of p.txn ps ≡ [] = rw same at (h p.txn) in
    absurd cc

pub nobody_leaves_nothing : (b : Base) (s : State) → IsKept b s → ((t : ℕ) → is_live s t ≡ true → ⊥)
    → (s.standing ≡ []) × (s.pending ≡ []) × (s.aside ≡ []) × ((t : ℕ) (x : Object) (m : LockMode) → s.held t x m ≡ true → ⊥)
nobody_leaves_nothing b s k none =
    let stands : s.standing ≡ [] = nothing_stands s.standing (is_live s) none k.owned.standing in (
      stands,
      nothing_pends s.pending (λ t. k.tied t ∙ (ap (λ w. pending_of t (adds w) ++ add_of t (s.running t)) stands ∙ idle t (s.running t) refl)),
      nothing_aside s.aside k.owned.aside,
      λ t x m h. none t (k.owned.held t x m h),
    )
  where
    nothing_aside : (ps : List Pending) → Each (λ (p : Pending). is_live s p.txn ≡ true) ps → ps ≡ []
    nothing_aside [] h = refl
    nothing_aside (p ∷ ps) h = absurd (none p.txn h.0)

    idle : (t : ℕ) (r : Option Op) → s.running t ≡ r → add_of t r ≡ []
    idle t None is = refl
    idle t (Some op) is = absurd (none t (k.owned.running t op is))

-- ---- transactions in turn

pub moved_in_turn : (held : Held) (b : Base) (es : List Entry) (session : ℕ → ℕ) (ts : List ℕ) → AreTogether held → IsSound held b es
    → IsLegal b (in_turn session ts es) × IsSound held (after b (in_turn session ts es)) (without_all ts es)
    × (runs (after b (in_turn session ts es)) (without_all ts es) ≡ runs b es)
moved_in_turn held b es session [] locks sound = (tt, sound, refl)
moved_in_turn held b es session (t ∷ ts) locks sound =
    let first = commits held locks b es sound (only t) in
    let rest = moved_in_turn held (runs b (kept (only t) es)) (kept (others t) es) session ts locks first.rest in
    ((first.acted, rest.0), rest.1, rest.2 ∙ first.same)
