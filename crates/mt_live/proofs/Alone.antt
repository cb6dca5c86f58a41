-- A transaction that lives alone.
use Rattle.std.proofs.Common.{◌≡◌, ℕ, Bool, true, false, cond, ⊎_elim, List, [], ◌∷◌, ◌++◌, Option, Some, None, is_some, filter, take, drop, refl, ap, ap₂, sym, ◌∙◌}
use Rattle.std.specs.Prelude.{◌≢◌, ◌&&◌}
use Rattle.std.proofs.lemmas.Bool.{cases_eq, ne_eqb}
use Rattle.std.proofs.lemmas.Bool.Decides.{Decides-eqb}
use Rattle.std.proofs.lemmas.List.{map-append}
use Rattle.std.proofs.lemmas.List.Elements.{filter-append}
use Rattle.mt_model.specs.declared.objects.Lock.{Lock}
use Rattle.mt_model.specs.declared.operations.Op.{Op}
use Rattle.mt_model.specs.History.{Call, run}
use Rattle.mt_model.specs.Locks.{AreAllFree}
use Rattle.mt_model.specs.Model.{Base, reply_of, inverse_of}
use Rattle.mt_model.specs.declared.pending_add.Pending.{Pending}
use Rattle.mt_live.specs.declared.transactions.Role.TheVariants.{Stands, Back}
use Rattle.mt_live.specs.Alone.{NobodyLives, IsAlone, TakesOneBack}
use Rattle.mt_live.specs.Entries.{Entry, calls, kept}
use Rattle.mt_live.specs.Inverses.{inverses_on}
use Rattle.mt_live.specs.Machine.{State, committed_base, is_live, put, IsKept, begun, called, ended, returned, settled, booked, gone}
use Rattle.mt_live.specs.Sound.{Each}
use Rattle.mt_live.specs.Undoing.{only, is_counted, last_effect, after_first, mark_last, settle_after}
use Rattle.mt_live.proofs.AddLemmas.{eq_self}
use Rattle.mt_live.proofs.Cuts.{cut_of}
use Rattle.mt_live.proofs.Inverses.{takes_back, marked_same, settled_calls, nothing_after, counted_more, counted_same}
use Rattle.mt_live.proofs.Locking.{free_each}
use Rattle.mt_live.proofs.Schedule.{nobody_leaves_nothing}
use Rattle.mt_live.proofs.Settling.{settled_eased, eased_calls, eased_kept}

-- ---- put

pub put_own : {A : Type 0} (f : ℕ → A) (t : ℕ) (x : A) → put f t x t ≡ x
put_own f t x = ap (λ (c : Bool). cond c x (f t)) (eq_self t)

pub put_other : {A : Type 0} (f : ℕ → A) (t : ℕ) (x : A) (u : ℕ) → u ≢ t → put f t x u ≡ f u
put_other f t x u other = ap (λ (c : Bool). cond c x (f u)) (ne_eqb u t other)

-- ---- who lives

dead : {A : Type 0} (s : State) (u : ℕ) → s.sessions u ≡ None → is_live s u ≡ true → A
dead s u none lives = let e : false ≡ true = sym (ap (λ (o : Option ℕ). is_some o) none) ∙ lives in absurd cc

-- all that stands is its own
only_its : (t : ℕ) (live : ℕ → Bool) (es : List Entry) → ((u : ℕ) → u ≢ t → live u ≡ false) → Each (λ (e : Entry). live e.txn ≡ true) es → kept (only t) es ≡ es
only_its t live [] alone each = refl
only_its t live (e ∷ es) alone each = ⊎_elim
    (λ (same : e.txn ≡ t). ap (λ (c : Bool). cond c (e ∷ kept (only t) es) (kept (only t) es)) ((Decides-eqb e.txn t).1 same) ∙ ap (λ (fs : List Entry). e ∷ fs) (only_its t live es alone each.1))
    (λ (other : e.txn ≢ t). let f : false ≡ true = sym (alone e.txn other) ∙ each.0 in absurd cc) (cases_eq e.txn t)

stands_alone : (b : Base) (s : State) (t session : ℕ) (cs counted : List Call) → IsKept b s → IsAlone s t session cs counted → kept (only t) s.standing ≡ s.standing
stands_alone b s t session cs counted k alone = only_its t (is_live s) s.standing (λ u other. ap (λ (o : Option ℕ). is_some o) (alone.others u other)) k.owned.standing

pub alone_holds : (b : Base) (s : State) (t session : ℕ) (cs counted : List Call) → IsKept b s → IsAlone s t session cs counted → s.base ≡ run (committed_base b s) cs
alone_holds b s t session cs counted k alone =
    sym k.base ∙ ap (run (committed_base b s)) (ap calls (sym (stands_alone b s t session cs counted k alone)) ∙ alone.calls_are)

pub alone_is_free : (b : Base) (s : State) (t session : ℕ) (cs counted : List Call) → IsKept b s → IsAlone s t session cs counted → (ls : List Lock) → AreAllFree s.held t ls
alone_is_free b s t session cs counted k alone ls =
    free_each s.held t ls (λ x m u bars. dead s u (alone.others u bars.another) (k.owned.held u x bars.mode bars.holds))

-- ---- its events

pub begins_alone : (b : Base) (s : State) (session : ℕ) → IsKept b s → NobodyLives s → IsAlone (begun s session) s.next session [] []
begins_alone b s session k nobody = record {
  lives = put_own s.sessions s.next (Some session);
  others = λ u other. put_other s.sessions s.next (Some session) u other ∙ nobody u;
  calls_are = ap (λ (es : List Entry). calls (kept (only s.next) es)) (nobody_leaves_nothing b s k (λ u. dead s u (nobody u))).0;
  counted_are = ap (λ (es : List Entry). calls (filter (is_counted s.next) es)) (nobody_leaves_nothing b s k (λ u. dead s u (nobody u))).0;
  idle = runs_nothing (s.running s.next) refl;
}
  where
    runs_nothing : (r : Option Op) → s.running s.next ≡ r → s.running s.next ≡ None
    runs_nothing None is = is
    runs_nothing (Some op) is = dead s s.next (nobody s.next) (k.owned.running s.next op is)

pub alone_acts : (b : Base) (s : State) (t session : ℕ) (cs counted : List Call) (op : Op) → IsKept b s → IsAlone s t session cs counted
    → IsAlone (ended (called s t op) t op) t session (cs ++ (op, reply_of (run (committed_base b s) cs) op) ∷ []) (counted ++ (op, reply_of (run (committed_base b s) cs) op) ∷ [])
alone_acts b s t session cs counted op k alone = record {
  lives = alone.lives;
  others = alone.others;
  calls_are =
      let last : Entry = record { txn = t; op = op; reply = reply_of s.base op; role = Stands } in
      let its : kept (only t) (last ∷ []) ≡ last ∷ [] = ap (λ (c : Bool). cond c (last ∷ []) []) (eq_self t) in
      let split : kept (only t) (s.standing ++ last ∷ []) ≡ kept (only t) s.standing ++ last ∷ [] = filter-append (λ (e : Entry). only t e.txn) s.standing (last ∷ []) ∙ ap (λ (es : List Entry). kept (only t) s.standing ++ es) its in
      ap calls split ∙ map-append (λ (e : Entry). (e.op, e.reply)) (kept (only t) s.standing) (last ∷ [])
      ∙ ap₂ (λ (xs : List Call) (m : Base). xs ++ (op, reply_of m op) ∷ []) alone.calls_are (alone_holds b s t session cs counted k alone);
  counted_are = counted_more t s.standing (record { txn = t; op = op; reply = reply_of s.base op; role = Stands }) (ap (λ (c : Bool). c && true) (eq_self t))
      ∙ ap₂ (λ (xs : List Call) (m : Base). xs ++ (op, reply_of m op) ∷ []) alone.counted_are (alone_holds b s t session cs counted k alone);
  idle = put_own (put s.running t (Some op)) t None;
}

-- ---- it goes back

pub alone_returns : (b : Base) (s : State) (t session n : ℕ) (cs counted : List Call) (last : Entry) (i : Op) (ps : List Pending) → IsKept b s → IsAlone s t session cs counted
    → last_effect t s.standing ≡ Some last → is_some (last_effect t (after_first t n s.standing)) ≡ true → inverse_of last.op last.reply ≡ Some i
    → TakesOneBack (returned s t last i ps) t session n (committed_base b s) cs counted i
alone_returns b s t session n cs counted last i ps k alone is some inverse =
    let c = cut_of t s.standing last i is inverse in
    let h = takes_back t n s.standing last i c some in
    let its : Entry = record { txn = t; op = i; reply = reply_of s.base i; role = Back } in
    record {
      left = h.left;
      alone = record {
        lives = alone.lives;
        others = alone.others;
        calls_are =
            let own : kept (only t) (its ∷ []) ≡ its ∷ [] = ap (λ (x : Bool). cond x (its ∷ []) []) (eq_self t) in
            let split : kept (only t) (mark_last t s.standing ++ its ∷ []) ≡ kept (only t) (mark_last t s.standing) ++ its ∷ [] = filter-append (λ (e : Entry). only t e.txn) (mark_last t s.standing) (its ∷ []) ∙ ap (λ (es : List Entry). kept (only t) (mark_last t s.standing) ++ es) own in
            ap calls split ∙ map-append (λ (e : Entry). (e.op, e.reply)) (kept (only t) (mark_last t s.standing)) (its ∷ [])
            ∙ ap₂ (λ (xs : List Call) (m : Base). xs ++ (i, reply_of m i) ∷ []) (marked_same (only t) t s.standing last i c ∙ alone.calls_are) (alone_holds b s t session cs counted k alone);
        counted_are = counted_same t (mark_last t s.standing) its refl ∙ h.left_is;
        idle = alone.idle;
      };
      first = h.first ∙ ap (take n) alone.counted_are;
      rest = λ m. ap (λ (xs : List Call). inverses_on m (drop n xs)) (sym alone.counted_are) ∙ h.rest m;
    }

pub alone_settles : (s : State) (t session n : ℕ) (cs counted : List Call) → IsAlone s t session cs counted → last_effect t (after_first t n s.standing) ≡ None
    → IsAlone (settled s t n) t session cs (take n counted) × ((m : Base) → inverses_on m (drop n counted) ≡ [])
alone_settles s t session n cs counted alone none = (
  record {
    lives = alone.lives;
    others = alone.others;
    calls_are = eased_calls (kept (only t) s.standing) (kept (only t) (settle_after t n s.standing)) (eased_kept (only t) s.standing (settle_after t n s.standing) (settled_eased t n s.standing none)) ∙ alone.calls_are;
    counted_are = settled_calls t n s.standing ∙ ap (take n) alone.counted_are;
    idle = alone.idle;
  },
  λ m. ap (λ (xs : List Call). inverses_on m (drop n xs)) (sym alone.counted_are) ∙ nothing_after t n s.standing m none,
)

leaves : (s : State) (t session : ℕ) (cs counted : List Call) → IsAlone s t session cs counted → (u : ℕ) → put s.sessions t None u ≡ None
leaves s t session cs counted alone u = ⊎_elim (λ (same : u ≡ t). ap (put s.sessions t None) same ∙ put_own s.sessions t None)
    (λ (other : u ≢ t). put_other s.sessions t None u other ∙ alone.others u other) (cases_eq u t)

pub alone_commits : (s : State) (t session : ℕ) (cs counted : List Call) → IsAlone s t session cs counted
    → ((booked s t session).book ≡ s.book ++ record { session = session; calls = cs } ∷ []) × NobodyLives (booked s t session)
alone_commits s t session cs counted alone = (
  ap (λ (xs : List Call). s.book ++ record { session = session; calls = xs } ∷ []) alone.calls_are,
  leaves s t session cs counted alone,
)

pub alone_leaves : (s : State) (t session : ℕ) (cs counted : List Call) → IsAlone s t session cs counted → ((gone s t).book ≡ s.book) × NobodyLives (gone s t)
alone_leaves s t session cs counted alone = (refl, leaves s t session cs counted alone)
