-- The force steps of a commit that is the only one.
use Rattle.std.proofs.Common.{◌≡◌, ◌≤◌, ◌<◌, ◌+◌, ◌⊎◌, ◌==◌, ◌||◌, inl, inr, suc, ℕ, Bool, true, false, cond, List, [], ◌∷◌, ◌++◌, length, map, take, drop, Ok, Err, refl, ap, sym, subst, ◌∙◌, arith}
use Rattle.std.specs.Prelude.{not, nat_lt}
use Rattle.std.specs.List.{list_any}
use Rattle.std.proofs.lemmas.Bool.{cases_lt, le-ltb, lt-ltb}
use Rattle.std.proofs.lemmas.Bool.Decides.{Decides-eqb}
use mathlib.Core.Logic.{∥∥₁_map}
use Rattle.mt_base.specs.declared.refusal.Refusal.{Refusal}
use Rattle.mt_disk.specs.declared.device.Device.{Ghosts}
use Rattle.mt_frame.specs.declared.records.Record.{Record}
use Rattle.mt_live.proofs.Alone.{alone_commits}
use Rattle.mt_live.specs.Machine.{booked}
use Rattle.mt_log.specs.Words.{durable}
use Rattle.mt_model.proofs.Appends.{after-append}
use Rattle.mt_model.specs.declared.history.Committed.{Committed}
use Rattle.mt_model.specs.History.{Call, run}
use Rattle.mt_model.specs.Model.{Base}
use Rattle.mt_core.specs.Booked.{booked_each, durable_count, durable_txns, or_zero, session_at}
use Rattle.mt_core.specs.declared.parts.Commit.{Commit}
use Rattle.mt_txn.specs.Shown.{Shows}
use Rattle.mt_txn.specs.declared.answers.KernelForced.TheVariants as forced
use Rattle.mt_txn.specs.declared.kernel.Kernel.{Kernel}
use Rattle.mt_txn.proofs.Due.{due_none, due_more, due_settled, due_idle}
use Rattle.mt_alone.specs.Driven.{IsEnding, IsForcing, IsGivenUp, IsResting}
use Rattle.mt_model.specs.Backwards.{OpenCalls}
use Rattle.mt_alone.specs.Plays.{Play, committed}

-- ---- the commit's name

named_none : (c : Commit) (pos : ℕ) → pos < c.place → (durable_txns (c ∷ []) pos ≡ []) × (drop (durable_count (c ∷ []) pos) (c ∷ []) ≡ c ∷ [])
named_none c pos before =
    let test : nat_lt pos c.place ≡ true = lt-ltb pos c.place before in
    let count : durable_count (c ∷ []) pos ≡ 0 = ap (λ (b : Bool). cond (not b) (1 + 0) 0) test in
    (ap (λ (i : ℕ). map (λ (d : Commit). d.txn) (take i (c ∷ []))) count, ap (λ (i : ℕ). drop i (c ∷ [])) count)

named_one : (c : Commit) (pos : ℕ) → c.place ≤ pos → durable_txns (c ∷ []) pos ≡ c.txn ∷ []
named_one c pos behind =
    let test : nat_lt pos c.place ≡ false = le-ltb pos c.place behind in
    let count : durable_count (c ∷ []) pos ≡ 1 = ap (λ (b : Bool). cond (not b) (1 + 0) 0) test in
    ap (λ (i : ℕ). map (λ (d : Commit). d.txn) (take i (c ∷ []))) count

has_one : (c : Commit) (t : ℕ) (names : List ℕ) → names ≡ c.txn ∷ [] → c.txn ≡ t → list_any (λ (y : ℕ). y == t) names ≡ true
has_one c t names is own = ap (λ (ns : List ℕ). list_any (λ (y : ℕ). y == t) ns) is ∙ ap (λ (b : Bool). b || false) ((Decides-eqb c.txn t).1 own)

-- ---- the steps

module _ {D : Type 0} {g : Ghosts D} (p : Play) (t : ℕ) (calls : OpenCalls) where
  pub ending_none : (k : Kernel D g) → IsEnding p t calls 0 k → ⊥
  ending_none k e = due_none e.commit.place k.core.operations.store.log e.waits e.due

  pub ending_idle : (k n : Kernel D g) (rest : ℕ) → IsEnding p t calls rest k → IsForcing k (Ok forced.Idle) n → ⊥
  ending_idle k n rest e f = due_idle e.commit.place rest k.core.operations.store.log n.core.operations.store.log e.waits e.due f.log.0 f.appended

  pub ending_more : (k n : Kernel D g) (rest : ℕ) → IsEnding p t calls (suc rest) k → IsForcing k (Ok forced.More) n → IsEnding p t calls rest n
  ending_more k n rest e f = record {
    shown = ∥∥₁_map e.shown (λ (first, s, shows, plays). (first, s, f.forced first s shows, plays));
    commit = e.commit;
    queue = f.log.1 ∙ e.queue;
    own = e.own;
    waits =
        let there : length (durable n.core.operations.store.log) ≡ length (durable k.core.operations.store.log) = ap (λ (rs : List Record). length rs) f.log.0.0 in
        let before = e.waits in omega (arith, there, before);
    due = due_more e.commit.place rest k.core.operations.store.log n.core.operations.store.log e.due f.log.0 f.appended;
  }

  pub ending_durable : (k n : Kernel D g) (rest : ℕ) (names : _) → IsEnding p t calls (suc rest) k → IsForcing k (Ok (forced.Durable names)) n
      → ((list_any (λ (y : ℕ). y == t) names.items ≡ false) × IsEnding p t calls rest n) ⊎ ((list_any (λ (y : ℕ). y == t) names.items ≡ true) × IsResting (committed p calls) n)
  ending_durable k n rest names e f = by (cases_lt pos c.place)
    where
      c : Commit
      c = e.commit

      pos : ℕ
      pos = f.log.0

      by : (pos < c.place) ⊎ (c.place ≤ pos)
          → ((list_any (λ (y : ℕ). y == t) names.items ≡ false) × IsEnding p t calls rest n) ⊎ ((list_any (λ (y : ℕ). y == t) names.items ≡ true) × IsResting (committed p calls) n)
      by (inl before) =
          let none = named_none c pos before in
          let nobody : names.items ≡ [] = f.log.2 ∙ ap (λ (cs : List Commit). durable_txns cs pos) e.queue ∙ none.0 in
          inl (
            ap (λ (ns : List ℕ). list_any (λ (y : ℕ). y == t) ns) nobody,
            record {
              shown = ∥∥₁_map e.shown (λ (first, s, shows, plays). (first, s, subst (λ (ns : List ℕ). Shows first (booked_each s ns) n) nobody (f.forced first s shows), plays));
              commit = c;
              queue = f.log.3 ∙ ap (λ (cs : List Commit). drop (durable_count cs pos) cs) e.queue ∙ none.1;
              own = e.own;
              waits = let place = f.log.1.6 in omega (arith, place, before);
              due = due_settled c.place rest pos k.core.operations.store.log n.core.operations.store.log e.due f.log.1 f.appended before;
            },
          )
      by (inr behind) =
          let one : names.items ≡ c.txn ∷ [] = f.log.2 ∙ ap (λ (cs : List Commit). durable_txns cs pos) e.queue ∙ named_one c pos behind in
          let its : names.items ≡ t ∷ [] = one ∙ ap (λ (u : ℕ). u ∷ []) e.own in
          inr (
            has_one c t names.items one e.own,
            record {
              shown = ∥∥₁_map e.shown (λ (first, s, shows, (played, alone)).
                  let session : session_at s t ≡ p.session = ap or_zero alone.lives in
                  let now : Shows first (booked s t p.session) n = subst (λ (i : ℕ). Shows first (booked s t i) n) session (subst (λ (ns : List ℕ). Shows first (booked_each s ns) n) its (f.forced first s shows)) in
                  let leaves = alone_commits s t p.session calls.all calls.counted alone in
                  let last : Committed = record { session = p.session; calls = calls.all } in (
                    first,
                    booked s t p.session,
                    now,
                    (
                      record {
                        first_is = played.first_is;
                        book = leaves.0 ∙ ap (λ (cs : List Committed). cs ++ last ∷ []) played.book;
                        base = after-append first p.book (last ∷ []) ∙ ap (λ (b : Base). run b calls.all) played.base;
                      },
                      leaves.1,
                    ),
                  ));
              nothing = refl;
            },
          )

  pub ending_err : (k n : Kernel D g) (rest : ℕ) (why : Refusal) → IsEnding p t calls rest k → IsForcing k (Err why) n → IsGivenUp p n why
  ending_err k n rest why e f = (∥∥₁_map e.shown (λ (first, s, shows, plays). (first, s, f.forced first s shows, plays.0)), f.cause)

  -- where its name was found among those that are durable, and where it was not
  pub ending_found : (k n : Kernel D g) (rest : ℕ) (names : _) (ns : List ℕ) (found : Bool) → IsForcing k (Ok (forced.Durable names)) n → ns ≡ names.items → found ≡ list_any (λ (y : ℕ). y == t) ns → found ≡ true → IsEnding p t calls (suc rest) k
      → IsResting (committed p calls) n
  ending_found k n rest names ns found f same is was_found e = go (ending_durable k n rest names e f)
    where
      go : ((list_any (λ (y : ℕ). y == t) names.items ≡ false) × IsEnding p t calls rest n) ⊎ ((list_any (λ (y : ℕ). y == t) names.items ≡ true) × IsResting (committed p calls) n) → IsResting (committed p calls) n
      go (inl x) = absurd (let no : true ≡ false = sym was_found ∙ is ∙ ap (λ (us : List ℕ). list_any (λ (y : ℕ). y == t) us) same ∙ x.0 in cc)
      go (inr x) = x.1

  pub ending_missed : (k n : Kernel D g) (rest : ℕ) (names : _) (ns : List ℕ) (found : Bool) → IsForcing k (Ok (forced.Durable names)) n → ns ≡ names.items → found ≡ list_any (λ (y : ℕ). y == t) ns → found ≡ false → IsEnding p t calls (suc rest) k
      → IsEnding p t calls rest n
  ending_missed k n rest names ns found f same is not_found e = go (ending_durable k n rest names e f)
    where
      go : ((list_any (λ (y : ℕ). y == t) names.items ≡ false) × IsEnding p t calls rest n) ⊎ ((list_any (λ (y : ℕ). y == t) names.items ≡ true) × IsResting (committed p calls) n) → IsEnding p t calls rest n
      go (inl x) = x.1
      go (inr x) = absurd (let no : false ≡ true = sym not_found ∙ is ∙ ap (λ (us : List ℕ). list_any (λ (y : ℕ). y == t) us) same ∙ x.0 in cc)
