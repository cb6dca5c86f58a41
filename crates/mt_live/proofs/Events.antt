-- What each event leaves of entries that are sound.
use Rattle.std.proofs.Common.{◌≡◌, ◌≢◌, ℕ, ℤ, pos, ◌+ℤ◌, ◌≤ℤ◌, Bool, true, false, cond, not, ◌==◌, List, [], ◌∷◌, ◌++◌, Option, Some, None, is_some, bytes_eq, refl, ap, sym, ◌∙◌, subst, arith, append_assoc}
use Rattle.std.proofs.lemmas.Int.{ints}
use Rattle.std.proofs.lemmas.List.Elements.{filter-append}
use Rattle.std.proofs.lemmas.Bool.{and_parts}
use Rattle.std.proofs.lemmas.Bool.Decides.{Decides-eqb}
use Rattle.mt_base.specs.Modes.{granted_together}
use Rattle.mt_base.specs.declared.modes.LockMode.TheVariants as mode
use Rattle.mt_model.specs.declared.counters.Count.{Count}
use Rattle.mt_model.specs.declared.operations.Op.{Op}
use Rattle.mt_model.specs.declared.operations.Op.TheVariants.{Get, Insert, Update, Delete, Add, Read, Scan}
use Rattle.mt_model.specs.declared.operations.Reply.{Reply}
use Rattle.mt_model.specs.declared.operations.Reply.TheVariants.{Done, OutOfBounds}
use Rattle.mt_model.specs.declared.objects.Object.{Object}
use Rattle.mt_model.specs.declared.objects.Object.TheVariants.{Key, Counter, Relation}
use Rattle.mt_model.specs.Model.{Base, IsInBounds, object_of, same_object, moved, inverse_of, mode_of, locks_in, locks_of, reply_of, base_after}
use Rattle.mt_model.specs.Escrow.{total, lowest, highest, HasRoom}
use Rattle.mt_model.specs.Locks.{Held, HoldsEach, AreTogether}
use Rattle.mt_model.specs.Pending.{steps_at}
use Rattle.mt_model.proofs.Cells.{Cell, cell, next, idle, is_scan, touches, touches-own, cell-next, same-true, same-self, same_base}
use Rattle.mt_model.proofs.Split.{filter-swap}
use Rattle.mt_model.proofs.Steps.{stays_true, moved-moved}
use Rattle.mt_model.proofs.Undo.{inverse_asks}
use Rattle.mt_live.specs.Entries.{Entry, with_role, calls, runs, AreActed, kept, struck, IsExplained}
use Rattle.mt_model.specs.History.{run, IsActed}
use Rattle.mt_live.specs.declared.transactions.Role.{Role}
use Rattle.mt_live.specs.declared.transactions.Role.TheVariants.{Stands, TakenBack, Back}
use Rattle.mt_live.specs.Adds.{adds, op_step, step_before, forward_before, forward_at}
use Rattle.mt_live.specs.Taking.{IsBallot, Nests, did_something}
use Rattle.mt_live.specs.Undoing.{only, others}
use Rattle.mt_live.specs.Sound.{Each, IsLocked, IsDone, IsSound}
use Rattle.mt_live.specs.Laws.{IsMoved}
use Rattle.mt_live.proofs.Entries.{on, cell_runs, AreCellActed, calls-append, acted_front, runs-on, acted-on, acted_from_each, runs-append, acted_append}
use Rattle.mt_live.proofs.Shapes.{each_filter, Agree, AllAgree}
use Rattle.mt_live.proofs.Locking.{main_lock}
use Rattle.mt_live.proofs.AtCell.{with_step, steps, stays_first, count_run, strikes}
use Rattle.mt_live.proofs.Ballots.{Stays, steps_on, stays, stays_all, kept-append, kept_wider, forward_wider, room_kept, room_after, ballot_kept, ballot_more, ballot_back, Balanced, ballot_cut}
use Rattle.mt_live.proofs.Cuts.{IsIdle}
use Rattle.mt_live.proofs.Cutting.{each_append, each_front, each_back, stays_end, whole, back_if, CutAt, cut_cell}
use Rattle.mt_live.proofs.Moving.{Moves, moves}
use Rattle.mt_live.proofs.Nesting.{NoneStands, nests_more, nests_front, nests_rest, nests_back, inverse_step, nests_level, nests_row, touches_same}
use Rattle.mt_live.proofs.AddLemmas.{no_adds}
use Rattle.mt_live.proofs.Forward.{total_parts}

-- ---- the locks agree at each object

cond_each : {A : Type 0} (P : A → Type 0) (t : Bool) (x : A) (xs : List A) → (t ≡ true → P x) → Each P xs → Each P (cond t (x ∷ xs) xs)
cond_each P true x xs p h = (p refl, h)
cond_each P false x xs p h = h

scan_reads : (op : Op) → is_scan op ≡ true → mode_of op ≡ mode.Read
scan_reads (Scan r) is = refl
scan_reads (Get r k) is = absurd cc
scan_reads (Insert r k v) is = absurd cc
scan_reads (Update r k v) is = absurd cc
scan_reads (Delete r k) is = absurd cc
scan_reads (Add n d) is = absurd cc
scan_reads (Read n) is = absurd cc

-- nobody writes in a relation that another transaction holds for read
barred : (held : Held) → AreTogether held → (t u : ℕ) → t ≢ u → (r s : ℕ) (k : List ℕ) (x : Object) → held t (Relation r) mode.Read ≡ true
    → touches (Scan r) x ≡ true → same_object (Key s k) x ≡ true → held u (Relation s) mode.Intend ≡ true → ⊥
barred held locks t u apart r s k (Key q l) reads scanned own intends =
    let there : r ≡ q = (Decides-eqb r q).0 scanned in
    let here : s ≡ q = (Decides-eqb s q).0 (and_parts (s == q) (bytes_eq k l) own).0 in
    let both : granted_together mode.Read mode.Intend ≡ true =
    locks t u (Relation r) mode.Read mode.Intend apart reads (subst (λ z. held u (Relation z) mode.Intend ≡ true) (here ∙ sym there) intends) in
    absurd cc
barred held locks t u apart r s k (Counter c) reads scanned own intends = absurd cc
barred held locks t u apart r s k (Relation q) reads scanned own intends = absurd cc

-- what touches an object that another's scan touches reads it
beside_scan : (held : Held) → AreTogether held → (t u : ℕ) → t ≢ u → (scan op : Op) (x : Object) → is_scan scan ≡ true → HoldsEach held t (locks_of scan)
    → HoldsEach held u (locks_of op) → touches scan x ≡ true → touches op x ≡ true → mode_of op ≡ mode.Read
beside_scan held locks t u apart (Scan r) (Scan s) x is reads l scanned own = refl
beside_scan held locks t u apart (Scan r) (Get s k) x is reads l scanned own = refl
beside_scan held locks t u apart (Scan r) (Read n) x is reads l scanned own = refl
beside_scan held locks t u apart (Scan r) (Insert s k v) x is reads l scanned own = absurd (barred held locks t u apart r s k x reads.0 scanned own l.0)
beside_scan held locks t u apart (Scan r) (Update s k v) x is reads l scanned own = absurd (barred held locks t u apart r s k x reads.0 scanned own l.0)
beside_scan held locks t u apart (Scan r) (Delete s k) x is reads l scanned own = absurd (barred held locks t u apart r s k x reads.0 scanned own l.0)
beside_scan held locks t u apart (Scan r) (Add n d) (Key s k) is reads l scanned own = absurd cc
beside_scan held locks t u apart (Scan r) (Add n d) (Counter c) is reads l scanned own = absurd cc
beside_scan held locks t u apart (Scan r) (Add n d) (Relation s) is reads l scanned own = absurd cc
beside_scan held locks t u apart (Get r k) op x is reads l scanned own = absurd cc
beside_scan held locks t u apart (Insert r k v) op x is reads l scanned own = absurd cc
beside_scan held locks t u apart (Update r k v) op x is reads l scanned own = absurd cc
beside_scan held locks t u apart (Delete r k) op x is reads l scanned own = absurd cc
beside_scan held locks t u apart (Add n d) op x is reads l scanned own = absurd cc
beside_scan held locks t u apart (Read n) op x is reads l scanned own = absurd cc

agree : (held : Held) → AreTogether held → (e f : Entry) (x : Object) → IsLocked held e → IsLocked held f → touches e.op x ≡ true → touches f.op x ≡ true → Agree e f
agree held locks e f x le lf te tf apart = by (is_scan e.op) refl (is_scan f.op) refl
  where
    by : (s : Bool) → is_scan e.op ≡ s → (t : Bool) → is_scan f.op ≡ t → granted_together (mode_of e.op) (mode_of f.op) ≡ true
    by true scans t is =
        let reads : mode_of e.op ≡ mode.Read = scan_reads e.op scans in
        let beside : mode_of f.op ≡ mode.Read = beside_scan held locks e.txn f.txn apart e.op f.op x scans le lf te tf in
        rw (reads, beside) refl
    by false single true scans =
        let reads : mode_of f.op ≡ mode.Read = scan_reads f.op scans in
        let beside : mode_of e.op ≡ mode.Read = beside_scan held locks f.txn e.txn (λ same. apart (sym same)) f.op e.op x scans lf le tf te in
        rw (reads, beside) refl
    by false single false alone =
        locks e.txn f.txn x (mode_of e.op) (mode_of f.op) apart
        (subst (λ y. held e.txn y (mode_of e.op) ≡ true) (own e.op x single te) (main_lock held e.txn e.op le))
        (subst (λ y. held f.txn y (mode_of f.op) ≡ true) (own f.op x alone tf) (main_lock held f.txn f.op lf))
      where
        own : (op : Op) (y : Object) → is_scan op ≡ false → touches op y ≡ true → object_of op ≡ y
        own op y one t = same-true (object_of op) y (sym (touches-own op y one) ∙ t)

agree_with : (held : Held) → AreTogether held → (e : Entry) → IsLocked held e → (x : Object) → touches e.op x ≡ true → (es : List Entry) → Each (IsLocked held) es → Each (Agree e) (on x es)
agree_with held locks e le x te [] l = tt
agree_with held locks e le x te (f ∷ es) l =
    cond_each (Agree e) (touches f.op x) f (on x es) (λ tf. agree held locks e f x le l.0 te tf) (agree_with held locks e le x te es l.1)

cond_agree : (t : Bool) (e : Entry) (es : List Entry) → (t ≡ true → Each (Agree e) es) → AllAgree es → AllAgree (cond t (e ∷ es) es)
cond_agree true e es h a = (h refl, a)
cond_agree false e es h a = a

pub agree_on : (held : Held) → AreTogether held → (x : Object) (es : List Entry) → Each (IsLocked held) es → AllAgree (on x es)
agree_on held locks x [] l = tt
agree_on held locks x (e ∷ es) l =
    cond_agree (touches e.op x) e (on x es)
    (λ t. agree_with held locks e l.0 x t es l.1)
    (agree_on held locks x es l.1)

-- ---- the steps at one counter

cond_steps : (t : Bool) (e : Entry) (es : List Entry) (ds : List ℤ) → steps es ≡ ds → steps (cond t (e ∷ es) es) ≡ cond t (with_step e.op ds) ds
cond_steps true e es ds h = ap (with_step e.op) h
cond_steps false e es ds h = h

same_cond : {A : Type 0} (t : Bool) (x : A) → cond t x x ≡ x
same_cond true x = refl
same_cond false x = refl

with_at : (c : ℕ) (op : Op) (ds : List ℤ) → cond (touches op (Counter c)) (with_step op ds) ds ≡ step_before (op_step c op) ds
with_at c (Add n d) ds = choice (n == c)
  where
    choice : (t : Bool) → cond t (d ∷ ds) ds ≡ step_before (cond t (Some d) None) ds
    choice true = refl
    choice false = refl
with_at c (Get r k) ds = refl
with_at c (Insert r k v) ds = refl
with_at c (Update r k v) ds = refl
with_at c (Delete r k) ds = refl
with_at c (Read n) ds = same_cond (n == c) ds
with_at c (Scan r) ds = refl

pub steps-at : (c : ℕ) (es : List Entry) → steps (on (Counter c) es) ≡ steps_on c es
steps-at c [] = refl
steps-at c (e ∷ es) = cond_steps (touches e.op (Counter c)) e (on (Counter c) es) (steps_on c es) (steps-at c es) ∙ with_at c e.op (steps_on c es)

with_none : (r : ℕ) (k : List ℕ) (op : Op) → cond (touches op (Key r k)) (with_step op []) [] ≡ []
with_none r k (Add n d) = refl
with_none r k (Get s l) = same_cond (same_object (Key s l) (Key r k)) []
with_none r k (Insert s l v) = same_cond (same_object (Key s l) (Key r k)) []
with_none r k (Update s l v) = same_cond (same_object (Key s l) (Key r k)) []
with_none r k (Delete s l) = same_cond (same_object (Key s l) (Key r k)) []
with_none r k (Read n) = refl
with_none r k (Scan s) = same_cond (s == r) []

pub steps_none : (r : ℕ) (k : List ℕ) (es : List Entry) → steps (on (Key r k) es) ≡ []
steps_none r k [] = refl
steps_none r k (e ∷ es) = cond_steps (touches e.op (Key r k)) e (on (Key r k) es) [] (steps_none r k es) ∙ with_none r k e.op

with_none_at : (r : ℕ) (op : Op) → cond (touches op (Relation r)) (with_step op []) [] ≡ []
with_none_at r (Add n d) = refl
with_none_at r (Get s l) = refl
with_none_at r (Insert s l v) = refl
with_none_at r (Update s l v) = refl
with_none_at r (Delete s l) = refl
with_none_at r (Read n) = refl
with_none_at r (Scan s) = same_cond (s == r) []

pub steps_none_at : (r : ℕ) (es : List Entry) → steps (on (Relation r) es) ≡ []
steps_none_at r [] = refl
steps_none_at r (e ∷ es) = cond_steps (touches e.op (Relation r)) e (on (Relation r) es) [] (steps_none_at r es) ∙ with_none_at r e.op

zero_within : IsInBounds idle
zero_within = record { not_under = omega (arith, ints); not_over = omega (arith, ints) }

-- the counter of each cell stays in its bounds
pub stays_on : (b : Base) (es : List Entry) → ((c : ℕ) → Stays (b.counts c) (steps_on c es)) → (x : Object) → Stays (cell b x).count (steps (on x es))
stays_on b es h (Key r k) = subst (Stays idle) (sym (steps_none r k es)) zero_within
stays_on b es h (Counter c) = subst (Stays (b.counts c)) (sym (steps-at c es)) (h c)
stays_on b es h (Relation r) = subst (Stays idle) (sym (steps_none_at r es)) zero_within

pub kept-on : (p : ℕ → Bool) (x : Object) (es : List Entry) → kept p (on x es) ≡ on x (kept p es)
kept-on p x es = filter-swap (λ e. p e.txn) (λ e. touches e.op x) es

stays_whichever : (held : Held) (b : Base) (es : List Entry) → IsSound held b es → (x : Object) (p : ℕ → Bool) → Stays (cell b x).count (steps (kept p (on x es)))
stays_whichever held b es s x p =
    subst (λ w. Stays (cell b x).count (steps w)) (sym (kept-on p x es))
    (stays_on b (kept p es) (λ c. stays (b.counts c) c es (s.room c) (s.ballot c) p) x)

-- ---- what is sound is explained

pub explained : (held : Held) → AreTogether held → (b : Base) (es : List Entry) → IsSound held b es → IsExplained b es (runs b es)
explained held locks b es s = record {
  whichever = λ set. acted_from_each b (struck set es) (λ x.
      subst (AreCellActed x (cell b x)) (filter-swap (λ e. not (set e.txn)) (λ e. touches e.op x) es)
      (strikes x (cell b x) (on x es) (agree_on held locks x es s.locked) (each_filter _ (λ e. touches e.op x) es s.done)
      (stays_whichever held b es s x) (acted-on b es x s.acted) (λ t. not (set t))));
  all = refl;
}

-- ---- an operation ends

-- the counters after a run
pub counts_run : (b : Base) (es : List Entry) (x : Object) → AreActed b es → Each IsDone es → (cell (runs b es) x).count ≡ moved (cell b x).count (total (steps (on x es)))
counts_run b es x a d = ap (λ (c : Cell). c.count) (runs-on b es x) ∙ count_run x (cell b x) (on x es) (acted-on b es x a) (each_filter _ (λ e. touches e.op x) es d)

on-append : (x : Object) (es fs : List Entry) → on x (es ++ fs) ≡ on x es ++ on x fs
on-append x es fs = filter-append (λ e. touches e.op x) es fs

-- the counter is in its bounds in the end
stays_whole : (held : Held) (b : Base) (es : List Entry) → IsSound held b es → (c : ℕ) → Stays (b.counts c) (steps_on c es)
stays_whole held b es s c = stays_all (b.counts c) c es (s.room c) (s.ballot c)

steps_on-append : (c : ℕ) (es fs : List Entry) → total (steps_on c (es ++ fs)) ≡ total (steps_on c es) +ℤ total (steps_on c fs)
steps_on-append c [] fs = omega (arith, ints)
steps_on-append c (e ∷ es) fs = go (op_step c e.op) (steps_on-append c es fs)
  where
    go : (x : Option ℤ) → total (steps_on c (es ++ fs)) ≡ total (steps_on c es) +ℤ total (steps_on c fs) → total (step_before x (steps_on c (es ++ fs))) ≡ total (step_before x (steps_on c es)) +ℤ total (steps_on c fs)
    go None h = h
    go (Some d) h = omega (arith, ints, h)

-- an add that leads within the bounds was done
done_of : (b : Base) (op : Op) (r : Reply) → ((c : ℕ) → IsInBounds (moved (b.counts c) (total (step_before (op_step c op) [])))) → reply_of b op ≡ r → mode_of op ≡ mode.Add → r ≡ Done
done_of b (Add n d) r h is m =
    let t : (n == n) ≡ true = same-self (Counter n) in
    let k : IsInBounds (moved (b.counts n) (total (d ∷ []))) = subst (λ w. IsInBounds (moved (b.counts n) (total (step_before (cond w (Some d) None) [])))) t (h n) in
    let one : (d +ℤ pos 0) ≡ d = omega (arith, ints) in
    sym is ∙ ap (λ w. cond w Done OutOfBounds) (stays_true (b.counts n) d (subst (λ z. IsInBounds (moved (b.counts n) z)) one k))
done_of b (Get s l) r h is m = absurd cc
done_of b (Insert s l v) r h is m = absurd cc
done_of b (Update s l v) r h is m = absurd cc
done_of b (Delete s l) r h is m = absurd cc
done_of b (Read n) r h is m = absurd cc
done_of b (Scan q) r h is m = absurd cc

-- the bounds after the last of the entries
last_within : (b : Base) (es : List Entry) (e : Entry) → AreActed b es → Each IsDone es → ((c : ℕ) → HasRoom (b.counts c) (forward_at c (es ++ e ∷ []))) → ((c : ℕ) → IsBallot c (es ++ e ∷ []))
    → (c : ℕ) → IsInBounds (moved ((runs b es).counts c) (total (step_before (op_step c e.op) [])))
last_within b es e acted done room ballot c =
    let now : (runs b es).counts c ≡ moved (b.counts c) (total (steps_on c es)) = counts_run b es (Counter c) acted done ∙ ap (λ w. moved (b.counts c) (total w)) (steps-at c es) in
    let end = stays_end (b.counts c) (steps_on c (es ++ e ∷ [])) (stays_all (b.counts c) c (es ++ e ∷ []) (room c) (ballot c)) in
    let sum : moved (b.counts c) (total (steps_on c (es ++ e ∷ []))) ≡ moved (moved (b.counts c) (total (steps_on c es))) (total (step_before (op_step c e.op) [])) =
    ap (moved (b.counts c)) (steps_on-append c es (e ∷ [])) ∙ sym (moved-moved (b.counts c) (total (steps_on c es)) (total (step_before (op_step c e.op) []))) in
    subst IsInBounds (sum ∙ ap (λ n. moved n (total (step_before (op_step c e.op) []))) (sym now)) end

-- an entry comes behind entries, as the model has it: they are sound with it
pub followed : (held : Held) (b : Base) (es : List Entry) (e : Entry) → AreActed b es → Each (IsLocked held) es → Each IsDone es → IsLocked held e
    → ((c : ℕ) → HasRoom (b.counts c) (forward_at c (es ++ e ∷ []))) → ((c : ℕ) → IsBallot c (es ++ e ∷ [])) → ((t : ℕ) → Nests (kept (only t) (es ++ e ∷ [])) [])
    → reply_of (runs b es) e.op ≡ e.reply
    → IsSound held b (es ++ e ∷ []) × (runs b (es ++ e ∷ []) ≡ base_after (runs b es) e.op)
followed held b es e acted locked done lock room ballot nested says' = (
  record {
    acted = acted_append b es (e ∷ []) acted (says', tt);
    locked = each_append _ es (e ∷ []) locked (lock, tt);
    done = each_append _ es (e ∷ []) done (done_of (runs b es) e.op e.reply (last_within b es e acted done room ballot) says', tt);
    room = room;
    ballot = ballot;
    nested = nested;
  },
  runs-append b es (e ∷ []),
)

nests_with : (es : List Entry) (e : Entry) (t : ℕ) → e.role ≡ Stands → Nests (kept (only t) es) [] → Nests (kept (only t) (es ++ e ∷ [])) []
nests_with es e t is h = subst (λ w. Nests w []) (sym (kept-append (only t) es (e ∷ []))) (go (e.txn == t))
  where
    nil : (xs : List Entry) → xs ++ [] ≡ xs
    nil [] = refl
    nil (x ∷ xs) = ap (λ z. x ∷ z) (nil xs)

    go : (q : Bool) → Nests (kept (only t) es ++ cond q (e ∷ []) []) []
    go true = nests_more (kept (only t) es) e [] is h
    go false = subst (λ w. Nests w []) (sym (nil (kept (only t) es))) h

-- an operation ends, under its lock and with escrow's leave: what stands is sound with it, and the base is the next
pub ended : (held : Held) (b : Base) (es : List Entry) (e : Entry) → IsSound held b es → e.role ≡ Stands → IsLocked held e
    → ((c : ℕ) → HasRoom (b.counts c) (forward_at c (es ++ e ∷ []))) → reply_of (runs b es) e.op ≡ e.reply
    → IsSound held b (es ++ e ∷ []) × (runs b (es ++ e ∷ []) ≡ base_after (runs b es) e.op)
ended held b es e s is lock room says' =
    followed held b es e s.acted s.locked s.done lock room (λ c. ballot_more c es e is (s.ballot c)) (λ t. nests_with es e t is (s.nested t)) says'

-- ---- whole transactions go

kept_out : (p : ℕ → Bool) (t : ℕ) (es : List Entry) → kept (only t) (kept p es) ≡ cond (p t) (kept (only t) es) []
kept_out p t [] = sym (same_cond (p t) [])
kept_out p t (e ∷ es) = go (p e.txn) refl (e.txn == t) refl (p t) refl (kept_out p t es)
  where
    go : (a : Bool) → p e.txn ≡ a → (b : Bool) → (e.txn == t) ≡ b → (c : Bool) → p t ≡ c → kept (only t) (kept p es) ≡ cond (p t) (kept (only t) es) []
        → kept (only t) (cond a (e ∷ kept p es) (kept p es)) ≡ cond c (cond b (e ∷ kept (only t) es) (kept (only t) es)) []
    go true x true y true z h = ap (λ v. cond v (e ∷ kept (only t) (kept p es)) (kept (only t) (kept p es))) y ∙ ap (λ w. e ∷ w) (h ∙ ap (λ v. cond v (kept (only t) es) []) z)
    go true x true y false z h = let same : p e.txn ≡ p t = ap p ((Decides-eqb e.txn t).0 y) in absurd cc
    go true x false y true z h = ap (λ v. cond v (e ∷ kept (only t) (kept p es)) (kept (only t) (kept p es))) y ∙ (h ∙ ap (λ v. cond v (kept (only t) es) []) z)
    go true x false y false z h = ap (λ v. cond v (e ∷ kept (only t) (kept p es)) (kept (only t) (kept p es))) y ∙ (h ∙ ap (λ v. cond v (kept (only t) es) []) z)
    go false x true y true z h = let same : p e.txn ≡ p t = ap p ((Decides-eqb e.txn t).0 y) in absurd cc
    go false x true y false z h = h ∙ ap (λ v. cond v (kept (only t) es) []) z
    go false x false y true z h = h ∙ ap (λ v. cond v (kept (only t) es) []) z
    go false x false y false z h = h ∙ ap (λ v. cond v (kept (only t) es) []) z

pub nests_kept : (p : ℕ → Bool) (t : ℕ) (es : List Entry) → Nests (kept (only t) es) [] → Nests (kept (only t) (kept p es)) []
nests_kept p t es h = subst (λ w. Nests w []) (sym (kept_out p t es)) (go (p t))
  where
    go : (b : Bool) → Nests (cond b (kept (only t) es) []) []
    go true = h
    go false = refl

-- ---- a commit becomes durable

-- what is moved in front leaves the rest in its bounds
after_counter : (held : Held) (b : Base) (es : List Entry) → IsSound held b es → (p : ℕ → Bool) (c : ℕ) → Stays (moved (b.counts c) (total (steps_on c (kept p es)))) (steps_on c (struck p es))
after_counter held b es s p c =
    stays_all (moved (b.counts c) (total (steps_on c (kept p es)))) c (struck p es)
    (room_after (b.counts c) c p es (s.room c) (s.ballot c)) (ballot_kept c (λ t. not (p t)) es (s.ballot c))

after_at : (held : Held) (b : Base) (es : List Entry) → IsSound held b es → (p : ℕ → Bool) (x : Object) → Stays (moved (cell b x).count (total (steps (kept p (on x es))))) (steps (struck p (on x es)))
after_at held b es s p x =
    subst (λ w. Stays (moved (cell b x).count (total (steps w))) (steps (struck p (on x es)))) (sym (kept-on p x es))
    (subst (λ w. Stays (moved (cell b x).count (total (steps (on x (kept p es))))) (steps w)) (sym (kept-on (λ t. not (p t)) x es)) (by_kind x))
  where
    idle_still : Stays (moved idle (pos 0)) []
    idle_still = record { not_under = omega (arith, ints); not_over = omega (arith, ints) }

    by_kind : (y : Object) → Stays (moved (cell b y).count (total (steps (on y (kept p es))))) (steps (on y (struck p es)))
    by_kind (Key r k) =
        subst (λ w. Stays (moved idle (total w)) (steps (on (Key r k) (struck p es)))) (sym (steps_none r k (kept p es)))
        (subst (λ w. Stays (moved idle (pos 0)) w) (sym (steps_none r k (struck p es))) idle_still)
    by_kind (Relation r) =
        subst (λ w. Stays (moved idle (total w)) (steps (on (Relation r) (struck p es)))) (sym (steps_none_at r (kept p es)))
        (subst (λ w. Stays (moved idle (pos 0)) w) (sym (steps_none_at r (struck p es))) idle_still)
    by_kind (Counter c) =
        subst (λ w. Stays (moved (b.counts c) (total w)) (steps (on (Counter c) (struck p es)))) (sym (steps-at c (kept p es)))
        (subst (λ w. Stays (moved (b.counts c) (total (steps_on c (kept p es)))) w) (sym (steps-at c (struck p es))) (after_counter held b es s p c))

moves_at : (held : Held) → AreTogether held → (b : Base) (es : List Entry) → IsSound held b es → (p : ℕ → Bool) (x : Object) → Moves x (cell b x) p (on x es)
moves_at held locks b es s p x =
    moves x (cell b x) (on x es) (agree_on held locks x es s.locked) (each_filter _ (λ e. touches e.op x) es s.done) (stays_whichever held b es s x) (acted-on b es x s.acted) p (after_at held b es s p x)

cell_kept : (b : Base) (p : ℕ → Bool) (x : Object) (es : List Entry) → cell_runs (cell b x) (kept p (on x es)) ≡ cell (runs b (kept p es)) x
cell_kept b p x es = ap (cell_runs (cell b x)) (kept-on p x es) ∙ sym (runs-on b (kept p es) x)

pub commits : (held : Held) → AreTogether held → (b : Base) (es : List Entry) → IsSound held b es → (p : ℕ → Bool) → IsMoved held b p es
commits held locks b es s p = record {
  acted = subst (AreActed b) (kept_is p es) ((explained held locks b es s).whichever (λ t. not (p t)));
  rest = record {
    acted = acted_from_each (runs b (kept p es)) (struck p es) (λ x.
        subst (λ w. AreCellActed x (cell (runs b (kept p es)) x) w) (kept-on (λ t. not (p t)) x es)
        (subst (λ w. AreCellActed x w (struck p (on x es))) (cell_kept b p x es) (moves_at held locks b es s p x).acted));
    locked = each_filter _ (λ e. not (p e.txn)) es s.locked;
    done = each_filter _ (λ e. not (p e.txn)) es s.done;
    room = λ c. subst (λ n. HasRoom n (forward_at c (struck p es))) (sym (counts_kept c)) (room_after (b.counts c) c p es (s.room c) (s.ballot c));
    ballot = λ c. ballot_kept c (λ t. not (p t)) es (s.ballot c);
    nested = λ t. nests_kept (λ u. not (p u)) t es (s.nested t);
  };
  same = same_base (runs (runs b (kept p es)) (struck p es)) (runs b es) (λ x.
      runs-on (runs b (kept p es)) (struck p es) x
      ∙ (ap (cell_runs (cell (runs b (kept p es)) x)) (sym (kept-on (λ t. not (p t)) x es))
      ∙ (ap (λ w. cell_runs w (struck p (on x es))) (sym (cell_kept b p x es))
      ∙ ((moves_at held locks b es s p x).same
      ∙ sym (runs-on b es x)))));
}
  where
    not_not : (t : Bool) → not (not t) ≡ t
    not_not true = refl
    not_not false = refl

    kept_is : (q : ℕ → Bool) (fs : List Entry) → kept (λ t. not (not (q t))) fs ≡ kept q fs
    kept_is q fs = ap (λ f. kept f fs) (λ i t. not_not (q t) i)

    counts_kept : (c : ℕ) → (runs b (kept p es)).counts c ≡ moved (b.counts c) (total (steps_on c (kept p es)))
    counts_kept c =
        counts_run b (kept p es) (Counter c) (subst (AreActed b) (kept_is p es) ((explained held locks b es s).whichever (λ t. not (p t)))) (each_filter _ (λ (e : Entry). p e.txn) es s.done)
        ∙ ap (λ w. moved (b.counts c) (total w)) (steps-at c (kept p es))

-- ---- an abort goes on

room_cut : (n : Count) (c : ℕ) (front rest : List Entry) (e : Entry) (t : ℕ) → HasRoom n (forward_at c (front ++ e ∷ rest)) → HasRoom n (forward_at c (front ++ kept (others t) rest))
room_cut n c front rest e t h =
    let w = wider front in let x = w.0 in let y = w.1 in let l = h.low in let u = h.high in
    record { low = omega (arith, ints, x, l); high = omega (arith, ints, y, u) }
  where
    base : (lowest (forward_at c (e ∷ rest)) ≤ℤ lowest (forward_at c (kept (others t) rest))) × (highest (forward_at c (kept (others t) rest)) ≤ℤ highest (forward_at c (e ∷ rest)))
    base = (forward_wider e.role (op_step c e.op) (forward_at c rest) (forward_at c (kept (others t) rest)) (kept_wider c (others t) rest)).1

    wider : (xs : List Entry) → (lowest (forward_at c (xs ++ e ∷ rest)) ≤ℤ lowest (forward_at c (xs ++ kept (others t) rest))) × (highest (forward_at c (xs ++ kept (others t) rest)) ≤ℤ highest (forward_at c (xs ++ e ∷ rest)))
    wider [] = base
    wider (x ∷ xs) = (forward_wider x.role (op_step c x.op) (forward_at c (xs ++ e ∷ rest)) (forward_at c (xs ++ kept (others t) rest)) (wider xs)).0

-- ---- a list that goes with what is behind it

none_stands : (t : ℕ) (es : List Entry) → Each (IsIdle t) es → NoneStands (kept (only t) es)
none_stands t [] h = tt
none_stands t (e ∷ es) h = go (e.txn == t) refl (none_stands t es h.1)
  where
    go : (b : Bool) → (e.txn == t) ≡ b → NoneStands (kept (only t) es) → NoneStands (cond b (e ∷ kept (only t) es) (kept (only t) es))
    go true is rest = (h.0 ((Decides-eqb e.txn t).0 is), rest)
    go false is rest = rest

-- the sum of what is nested is nothing
nested_sum : (t : ℕ) (es : List Entry) → Each (IsIdle t) es → Each IsDone es → Nests (kept (only t) es) [] → (x : Object) → total (steps (kept (only t) (on x es))) ≡ pos 0
nested_sum t es idle' done nested x = ap (λ w. total (steps w)) (kept-on (only t) x es) ∙ by_kind x
  where
    by_kind : (y : Object) → total (steps (on y (kept (only t) es))) ≡ pos 0
    by_kind (Key r k) = ap total (steps_none r k (kept (only t) es))
    by_kind (Relation r) = ap total (steps_none_at r (kept (only t) es))
    by_kind (Counter c) =
        let none = none_stands t es idle' in
        let its = each_filter IsDone (λ (e : Entry). e.txn == t) es done in
        let level = nests_level c (kept (only t) es) none its nested in let u = level.0 in let d = level.1 in
        let s = total_parts c (kept (only t) es) in
        let a : total (steps_at c (adds (kept (only t) es))) ≡ pos 0 = ap (λ ps. total (steps_at c ps)) (no_adds (kept (only t) es) none its) in
        ap total (steps-at c (kept (only t) es)) ∙ omega (arith, ints, s, a, u, d)

cut_at : (t : ℕ) (e : Entry) (i : Op) (rest : List Entry) → Each (IsIdle t) rest → Each IsDone rest → Nests (kept (only t) rest) [] → (x : Object) (w : Bool)
    → (w ≡ true → e.txn ≡ t) → (w ≡ true → inverse_of e.op e.reply ≡ Some i) → CutAt w x t e i (on x rest)
cut_at t e i rest idle' done nested x w its inverse = record {
  its = its;
  inverse = inverse;
  row = λ c acted.
      ap (λ es. (cell_runs c es).row) (kept-on (only t) x rest)
      ∙ nests_row x (kept (only t) rest) c (none_stands t rest idle') nested (subst (AreCellActed x c) (kept-on (only t) x rest) acted);
  sum = nested_sum t rest idle' done nested x;
}

pub record Cuts (held : Held) (b : Base) (t : ℕ) (front rest : List Entry) (next_base : Base) : Type 0 where
  pub sound : IsSound held b (front ++ kept (others t) rest)
  pub base : runs b (front ++ kept (others t) rest) ≡ next_base

nests_cut : (t u : ℕ) (front rest : List Entry) (e : Entry) → e.txn ≡ t → e.role ≡ Stands → did_something e ≡ true → Nests (kept (only u) (front ++ e ∷ rest)) [] → Nests (kept (only u) (front ++ kept (others t) rest)) []
nests_cut t u front rest e its is did h = subst (λ w. Nests w []) (sym (kept-append (only u) front (kept (others t) rest) ∙ ap (λ w. kept (only u) front ++ w) (kept_out (others t) u rest))) (go (u == t) refl)
  where
    nil : (xs : List Entry) → xs ++ [] ≡ xs
    nil [] = refl
    nil (x ∷ xs) = ap (λ z. x ∷ z) (nil xs)

    go : (b : Bool) → (u == t) ≡ b → Nests (kept (only u) front ++ cond (not b) (kept (only u) rest) []) []
    go true same =
        let own : (e.txn == u) ≡ true = (Decides-eqb e.txn u).1 (its ∙ sym ((Decides-eqb u t).0 same)) in
        let k : Nests (kept (only u) front ++ e ∷ kept (only u) rest) [] = subst (λ w. Nests w []) (kept-append (only u) front (e ∷ rest) ∙ ap (λ v. kept (only u) front ++ cond v (e ∷ kept (only u) rest) (kept (only u) rest)) own) h in
        subst (λ w. Nests w []) (sym (nil (kept (only u) front))) (nests_front (kept (only u) front) e (kept (only u) rest) [] is did k)
    go false apart =
        let other : (e.txn == u) ≡ false = apart_is (e.txn == u) refl apart in
        subst (λ w. Nests w []) (kept-append (only u) front (e ∷ rest) ∙ ap (λ v. kept (only u) front ++ cond v (e ∷ kept (only u) rest) (kept (only u) rest)) other) h
      where
        apart_is : (v : Bool) → (e.txn == u) ≡ v → (u == t) ≡ false → v ≡ false
        apart_is true at far = let x : (u == t) ≡ true = (Decides-eqb u t).1 (sym ((Decides-eqb e.txn u).0 at) ∙ its) in absurd cc
        apart_is false at far = refl

-- the inverse of a transaction's last effect ends in its abort: neither it nor what is behind it stands
pub cut : (held : Held) → AreTogether held → (b : Base) (t : ℕ) (front rest : List Entry) (e : Entry) (i : Op) → IsSound held b (front ++ e ∷ rest) → e.txn ≡ t → e.role ≡ Stands
    → inverse_of e.op e.reply ≡ Some i → Each (IsIdle t) rest → Cuts held b t front rest (base_after (runs b (front ++ e ∷ rest)) i)
cut held locks b t front rest e i s its is h idle' = record {
  sound = record {
    acted = acted_from_each b (front ++ kept (others t) rest) (λ x. subst (AreCellActed x (cell b x)) (sym (cut_on x)) (at x).0);
    locked = each_append _ front (kept (others t) rest) (each_front _ front (e ∷ rest) s.locked) (each_filter _ (λ f. others t f.txn) rest (each_back _ front (e ∷ rest) s.locked).1);
    done = each_append _ front (kept (others t) rest) (each_front _ front (e ∷ rest) s.done) (each_filter _ (λ f. others t f.txn) rest behind);
    room = room;
    ballot = ballot;
    nested = λ u. nests_cut t u front rest e its is did (s.nested u);
  };
  base = same_base (runs b (front ++ kept (others t) rest)) (base_after (runs b (front ++ e ∷ rest)) i) (λ x.
      runs-on b (front ++ kept (others t) rest) x
      ∙ (ap (cell_runs (cell b x)) (cut_on x)
      ∙ ((at x).1
      ∙ (ap (λ c. cond (touches e.op x) (next i c) c) (sym (ap (cell_runs (cell b x)) (whole_on x)) ∙ sym (runs-on b (front ++ e ∷ rest) x))
      ∙ (ap (λ v. cond v (next i (cell (runs b (front ++ e ∷ rest)) x)) (cell (runs b (front ++ e ∷ rest)) x)) (touches_same e.op i e.reply x h)
      ∙ sym (cell-next (runs b (front ++ e ∷ rest)) i x))))));
}
  where
    did : did_something e ≡ true
    did = ap is_some h

    behind : Each IsDone rest
    behind = (each_back IsDone front (e ∷ rest) s.done).1

    own : (e.txn == t) ≡ true
    own = (Decides-eqb e.txn t).1 its

    mine : Nests (kept (only t) front ++ e ∷ kept (only t) rest) []
    mine = subst (λ w. Nests w []) (kept-append (only t) front (e ∷ rest) ∙ ap (λ v. kept (only t) front ++ cond v (e ∷ kept (only t) rest) (kept (only t) rest)) own) (s.nested t)

    nested : Nests (kept (only t) rest) []
    nested = nests_rest (kept (only t) front) e (kept (only t) rest) [] is did mine

    level : (c : ℕ) → Balanced c t rest
    level c = let l = nests_level c (kept (only t) rest) (none_stands t rest idle') (each_filter IsDone (λ (f : Entry). f.txn == t) rest behind) nested in record { up = l.0; down = l.1 }

    room : (c : ℕ) → HasRoom (b.counts c) (forward_at c (front ++ kept (others t) rest))
    room c = room_cut (b.counts c) c front rest e t (s.room c)

    ballot : (c : ℕ) → IsBallot c (front ++ kept (others t) rest)
    ballot c = ballot_cut c t front rest e its is (level c) (s.ballot c)

    whole_on : (x : Object) → on x (front ++ e ∷ rest) ≡ whole (touches e.op x) e (on x front) (on x rest)
    whole_on x = on-append x front (e ∷ rest)

    cut_on : (x : Object) → on x (front ++ kept (others t) rest) ≡ on x front ++ kept (others t) (on x rest)
    cut_on x = on-append x front (kept (others t) rest) ∙ ap (λ w. on x front ++ w) (sym (kept-on (others t) x rest))

    at : (x : Object) → AreCellActed x (cell b x) (on x front ++ kept (others t) (on x rest)) × (cell_runs (cell b x) (on x front ++ kept (others t) (on x rest)) ≡ back_if (touches e.op x) i (cell_runs (cell b x) (whole (touches e.op x) e (on x front) (on x rest))))
    at x =
        cut_cell (touches e.op x) x (cell b x) t e i (on x front) (on x rest)
        (subst AllAgree (whole_on x) (agree_on held locks x (front ++ e ∷ rest) s.locked))
        (subst (Each IsDone) (whole_on x) (each_filter IsDone (λ f. touches f.op x) (front ++ e ∷ rest) s.done))
        (subst (AreCellActed x (cell b x)) (whole_on x) (acted-on b (front ++ e ∷ rest) x s.acted))
        (cut_at t e i rest idle' behind nested x (touches e.op x) (λ w. its) (λ w. h))
        (subst (λ w. Stays (cell b x).count (steps w)) (cut_on x) (stays_on b (front ++ kept (others t) rest) (λ c. stays_all (b.counts c) c (front ++ kept (others t) rest) (room c) (ballot c)) x))

-- a transaction goes none of whose effects stands: what it took back goes with it
pub leaves : (held : Held) → AreTogether held → (b : Base) (t : ℕ) (es : List Entry) → IsSound held b es → Each (IsIdle t) es → Cuts held b t [] es (runs b es)
leaves held locks b t es s idle' = record {
  sound = record {
    acted = acted_from_each b (kept (others t) es) (λ x. subst (AreCellActed x (cell b x)) (kept-on (others t) x es) (at x).0);
    locked = each_filter _ (λ f. others t f.txn) es s.locked;
    done = each_filter _ (λ f. others t f.txn) es s.done;
    room = λ c. room_kept (b.counts c) c (others t) es (s.room c);
    ballot = λ c. ballot_kept c (others t) es (s.ballot c);
    nested = λ u. nests_kept (others t) u es (s.nested u);
  };
  base = same_base (runs b (kept (others t) es)) (runs b es) (λ x.
      runs-on b (kept (others t) es) x
      ∙ (ap (cell_runs (cell b x)) (sym (kept-on (others t) x es))
      ∙ ((at x).1 ∙ sym (runs-on b es x))));
}
  where
    nobody : Entry
    nobody = record { txn = t; op = Read 0; reply = Done; role = Stands }

    at : (x : Object) → AreCellActed x (cell b x) (kept (others t) (on x es)) × (cell_runs (cell b x) (kept (others t) (on x es)) ≡ cell_runs (cell b x) (on x es))
    at x =
        cut_cell false x (cell b x) t nobody (Read 0) [] (on x es)
        (agree_on held locks x es s.locked)
        (each_filter IsDone (λ f. touches f.op x) es s.done)
        (acted-on b es x s.acted)
        (cut_at t nobody (Read 0) es idle' s.done (s.nested t) x false (λ w. absurd cc) (λ w. absurd cc))
        (stays_whichever held b es s x (others t))

-- ---- an inverse ends in a transaction that goes on

marked_calls : (front rest : List Entry) (e : Entry) → calls (front ++ with_role TakenBack e ∷ rest) ≡ calls (front ++ e ∷ rest)
marked_calls front rest e = calls-append front (with_role TakenBack e ∷ rest) ∙ sym (calls-append front (e ∷ rest))

marked_forward : (c : ℕ) (front rest : List Entry) (e last : Entry) → e.role ≡ Stands → last.role ≡ Back → forward_at c ((front ++ with_role TakenBack e ∷ rest) ++ last ∷ []) ≡ forward_at c (front ++ e ∷ rest)
marked_forward c [] rest e last is back = here e.role is ∙ ap (forward_before e.role (op_step c e.op)) (behind rest)
  where
    here : (r : Role) → r ≡ Stands → forward_before TakenBack (op_step c e.op) (forward_at c (rest ++ last ∷ [])) ≡ forward_before r (op_step c e.op) (forward_at c (rest ++ last ∷ []))
    here r at = ap (λ q. forward_before q (op_step c e.op) (forward_at c (rest ++ last ∷ []))) (sym at)

    behind : (xs : List Entry) → forward_at c (xs ++ last ∷ []) ≡ forward_at c xs
    behind [] = ap (λ q. forward_before q (op_step c last.op) []) back
    behind (x ∷ xs) = ap (forward_before x.role (op_step c x.op)) (behind xs)
marked_forward c (x ∷ front) rest e last is back = ap (forward_before x.role (op_step c x.op)) (marked_forward c front rest e last is back)

same_each : (P : Entry → Type 0) (front rest : List Entry) (e f : Entry) → (P e → P f) → Each P (front ++ e ∷ rest) → Each P (front ++ f ∷ rest)
same_each P [] rest e f g h = (g h.0, h.1)
same_each P (x ∷ front) rest e f g h = (h.0, same_each P front rest e f g h.1)

nests_marked : (t u : ℕ) (front rest : List Entry) (e last : Entry) → e.txn ≡ t → e.role ≡ Stands → last.txn ≡ t → last.role ≡ Back → inverse_of e.op e.reply ≡ Some last.op → Each (IsIdle t) rest
    → Nests (kept (only u) (front ++ e ∷ rest)) [] → Nests (kept (only u) (front ++ with_role TakenBack e ∷ (rest ++ last ∷ []))) []
nests_marked t u front rest e last its is lasts back inverse idle' h = go (t == u) refl
  where
    nil : (xs : List Entry) → xs ++ [] ≡ xs
    nil [] = refl
    nil (x ∷ xs) = ap (λ z. x ∷ z) (nil xs)

    was : (v : Bool) → (e.txn == u) ≡ v → Nests (kept (only u) front ++ cond v (e ∷ kept (only u) rest) (kept (only u) rest)) []
    was v at = subst (λ w. Nests w []) (kept-append (only u) front (e ∷ rest) ∙ ap (λ z. kept (only u) front ++ cond z (e ∷ kept (only u) rest) (kept (only u) rest)) at) h

    now : (v : Bool) → (e.txn == u) ≡ v → (last.txn == u) ≡ v
        → kept (only u) (front ++ with_role TakenBack e ∷ (rest ++ last ∷ [])) ≡ kept (only u) front ++ cond v (with_role TakenBack e ∷ (kept (only u) rest ++ cond v (last ∷ []) [])) (kept (only u) rest ++ cond v (last ∷ []) [])
    now v at end =
        kept-append (only u) front (with_role TakenBack e ∷ (rest ++ last ∷ []))
        ∙ (ap (λ z. kept (only u) front ++ cond z (with_role TakenBack e ∷ kept (only u) (rest ++ last ∷ [])) (kept (only u) (rest ++ last ∷ []))) at
        ∙ ap (λ w. kept (only u) front ++ cond v (with_role TakenBack e ∷ w) w) (kept-append (only u) rest (last ∷ []) ∙ ap (λ z. kept (only u) rest ++ cond z (last ∷ []) []) end))

    go : (v : Bool) → (t == u) ≡ v → Nests (kept (only u) (front ++ with_role TakenBack e ∷ (rest ++ last ∷ []))) []
    go true same =
        let at : (e.txn == u) ≡ true = ap (λ z. z == u) its ∙ same in
        let end : (last.txn == u) ≡ true = ap (λ z. z == u) lasts ∙ same in
        let none : NoneStands (kept (only u) rest) = subst (λ z. NoneStands (kept (only z) rest)) ((Decides-eqb t u).0 same) (none_stands t rest idle') in
        subst (λ w. Nests w []) (sym (now true at end)) (nests_back (kept (only u) front) e (kept (only u) rest) last [] is none back inverse (was true at))
    go false same =
        let at : (e.txn == u) ≡ false = ap (λ z. z == u) its ∙ same in
        let end : (last.txn == u) ≡ false = ap (λ z. z == u) lasts ∙ same in
        subst (λ w. Nests w []) (sym (now false at end ∙ ap (λ z. kept (only u) front ++ z) (nil (kept (only u) rest)))) (was false at)

pub returned : (held : Held) (b : Base) (front rest : List Entry) (e last : Entry) → IsSound held b (front ++ e ∷ rest) → e.role ≡ Stands → last.txn ≡ e.txn → last.role ≡ Back
    → inverse_of e.op e.reply ≡ Some last.op → Each (IsIdle e.txn) rest → reply_of (runs b (front ++ e ∷ rest)) last.op ≡ last.reply
    → IsSound held b ((front ++ with_role TakenBack e ∷ rest) ++ last ∷ []) × (runs b ((front ++ with_role TakenBack e ∷ rest) ++ last ∷ []) ≡ base_after (runs b (front ++ e ∷ rest)) last.op)
returned held b front rest e last s is lasts back inverse idle' replied =
    let f = followed held b marked last
    (subst (IsActed b) (sym (marked_calls front rest e)) s.acted)
    (same_each (IsLocked held) front rest e (with_role TakenBack e) (λ h. h) s.locked)
    (same_each IsDone front rest e (with_role TakenBack e) (λ h. h) s.done)
    lock
    (λ c. subst (HasRoom (b.counts c)) (sym (marked_forward c front rest e last is back)) (s.room c))
    (λ c. subst (IsBallot c) (sym whole_list) (ballot_back c front rest e last is (record { txn = lasts; role = back; step = inverse_step c e.op last.op e.reply inverse }) (s.ballot c)))
    (λ u. subst (λ w. Nests (kept (only u) w) []) (sym whole_list) (nests_marked e.txn u front rest e last refl is lasts back inverse idle' (s.nested u)))
    (ap (λ m. reply_of m last.op) same ∙ replied) in
    (f.0, f.1 ∙ ap (λ m. base_after m last.op) same)
  where
    marked : List Entry
    marked = front ++ with_role TakenBack e ∷ rest

    same : runs b marked ≡ runs b (front ++ e ∷ rest)
    same = ap (run b) (marked_calls front rest e)

    whole_list : (front ++ with_role TakenBack e ∷ rest) ++ last ∷ [] ≡ front ++ with_role TakenBack e ∷ (rest ++ last ∷ [])
    whole_list = append_assoc front (with_role TakenBack e ∷ rest) (last ∷ [])

    lock : IsLocked held last
    lock =
        let own : IsLocked held e = (each_back (IsLocked held) front (e ∷ rest) s.locked).0 in
        let asks : locks_of last.op ≡ locks_of e.op = ap locks_in (inverse_asks e.op last.op e.reply inverse) in
        subst (λ u. HoldsEach held u (locks_of last.op)) (sym lasts) (subst (HoldsEach held e.txn) (sym asks) own)

-- ---- each beginning of what stands leaves the counters in their bounds

stays_front : (c : ℕ) (n : Count) (es fs : List Entry) → Stays n (steps_on c (es ++ fs)) → IsInBounds (moved n (total (steps_on c es)))
stays_front c n [] fs h = let first = stays_first n (steps_on c fs) h in let x = first.not_under in let y = first.not_over in record { not_under = omega (arith, ints, x); not_over = omega (arith, ints, y) }
stays_front c n (e ∷ es) fs h = go (op_step c e.op) h (λ m k. stays_front c m es fs k)
  where
    go : (x : Option ℤ) → Stays n (step_before x (steps_on c (es ++ fs))) → ((m : Count) → Stays m (steps_on c (es ++ fs)) → IsInBounds (moved m (total (steps_on c es)))) → IsInBounds (moved n (total (step_before x (steps_on c es))))
    go None k rec = rec n k
    go (Some d) k rec =
        let rest = rec (moved n d) k.1 in let x = rest.not_under in let y = rest.not_over in
        record { not_under = omega (arith, ints, x); not_over = omega (arith, ints, y) }

pub within_after : (held : Held) (b : Base) (es fs : List Entry) → IsSound held b (es ++ fs) → (c : ℕ) → IsInBounds ((runs b es).counts c)
within_after held b es fs s c =
    subst IsInBounds (sym (counts_run b es (Counter c) (acted_front b es fs s.acted) (each_front IsDone es fs s.done) ∙ ap (λ w. moved (b.counts c) (total w)) (steps-at c es)))
    (stays_front c (b.counts c) es fs (stays_whole held b (es ++ fs) s c))
