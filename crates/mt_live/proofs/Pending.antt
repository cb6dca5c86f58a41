-- Transaction by transaction the pending adds are those that stand and the one that runs, so there is
-- room for what stands.
use Rattle.std.proofs.Common.{◌≡◌, ◌≢◌, ℕ, ℤ, Bool, true, false, cond, ◌==◌, List, [], ◌∷◌, ◌++◌, refl, ap, sym, ◌∙◌, subst, arith}
use Rattle.std.proofs.lemmas.Int.{ints}
use Rattle.std.proofs.lemmas.Bool.Decides.{Decides-eqb}
use Rattle.mt_model.specs.declared.counters.Count.{Count}
use Rattle.mt_model.specs.declared.pending_add.Pending.{Pending}
use Rattle.mt_model.specs.Escrow.{lowest, highest, HasRoom}
use Rattle.mt_model.specs.Pending.{steps_at, pending_of}
use Rattle.mt_model.proofs.Sums.{lowest_below, highest_above}
use Rattle.mt_live.specs.Taking.{Wider}

-- one entry's step before others
abbrev led : Bool → ℤ → List ℤ → List ℤ
led t d ds = cond t (d ∷ ds) ds

pub record Alike (xs ys : List ℤ) : Type 0 where
  pub lows : lowest xs ≡ lowest ys
  pub highs : highest xs ≡ highest ys

swap_led : (s t : Bool) (d e : ℤ) (ds es : List ℤ) → Alike ds (led t e es) → Alike (led s d ds) (led t e (led s d es))
swap_led true true d e ds es h = let x = h.lows in let y = h.highs in record { lows = omega (arith, ints); highs = omega (arith, ints) }
swap_led true false d e ds es h = let x = h.lows in let y = h.highs in record { lows = omega (arith, ints); highs = omega (arith, ints) }
swap_led false true d e ds es h = h
swap_led false false d e ds es h = h

-- the first pending add of t taken out
pub record Out (t : ℕ) (ps : List Pending) (q : Pending) (qs : List Pending) : Type 0 where
  pub rest : List Pending
  pub its : pending_of t rest ≡ qs
  pub apart : (u : ℕ) → u ≢ q.txn → pending_of u rest ≡ pending_of u ps
  pub sums : (c : ℕ) → Alike (steps_at c ps) (steps_at c (q ∷ rest))

same_alike : (xs : List ℤ) → Alike xs xs
same_alike xs = record { lows = refl; highs = refl }

pub not_eq : (a b : ℕ) → a ≢ b → (x : Bool) → (a == b) ≡ x → x ≡ false
not_eq a b h true e = absurd (h ((Decides-eqb a b).0 e))
not_eq a b h false e = refl

out_step : (t : ℕ) (p : Pending) (ps : List Pending) (q : Pending) (qs : List Pending) → (pending_of t ps ≡ q ∷ qs → Out t ps q qs)
    → (s : Bool) → (p.txn == t) ≡ s → cond s (p ∷ pending_of t ps) (pending_of t ps) ≡ q ∷ qs → Out t (p ∷ ps) q qs
out_step t p ps q qs rec true is h =
    let same : p ≡ q = cc in
    let its' : pending_of t ps ≡ qs = cc in
    record {
      rest = ps;
      its = its';
      apart = λ u n. let x : (p.txn == u) ≡ false = not_eq p.txn u (λ e. n (sym e ∙ ap (λ (z : Pending). z.txn) same)) (p.txn == u) refl in rw x refl;
      sums = λ c. subst (λ z. Alike (steps_at c (p ∷ ps)) (steps_at c (z ∷ ps))) same (same_alike (steps_at c (p ∷ ps)));
    }
out_step t p ps q qs rec false is h =
    let o = rec h in
    record {
      rest = p ∷ o.rest;
      its = rw is o.its;
      apart = λ u n. ap (λ w. cond (p.txn == u) (p ∷ w) w) (o.apart u n);
      sums = λ c. swap_led (p.counter == c) (q.counter == c) p.step q.step (steps_at c ps) (steps_at c o.rest) (o.sums c);
    }

pub first_out : (t : ℕ) (ps : List Pending) (q : Pending) (qs : List Pending) → pending_of t ps ≡ q ∷ qs → Out t ps q qs
first_out t [] q qs h = absurd cc
first_out t (p ∷ ps) q qs h = out_step t p ps q qs (λ k. first_out t ps q qs k) (p.txn == t) refl h

-- ps has, transaction by transaction, those of qs and then others
abbrev pub Covers : List Pending → List Pending → (ℕ → List Pending) → Type 0
Covers ps qs rest = (t : ℕ) → pending_of t ps ≡ pending_of t qs ++ rest t

led_wider : (t : Bool) (d : ℤ) (xs ds es : List ℤ) → Alike xs (led t d ds) → Wider ds es → Wider xs (led t d es)
led_wider true d xs ds es h w = let a = h.lows in let b = h.highs in let x = w.lows in let y = w.highs in record { lows = omega (arith, ints); highs = omega (arith, ints) }
led_wider false d xs ds es h w = let a = h.lows in let b = h.highs in let x = w.lows in let y = w.highs in record { lows = omega (arith, ints); highs = omega (arith, ints) }

covers_rest : (q : Pending) (qs ps : List Pending) (rest : ℕ → List Pending) (h : Covers ps (q ∷ qs) rest) (o : Out q.txn ps q (pending_of q.txn qs ++ rest q.txn))
    → (u : ℕ) (s : Bool) → (q.txn == u) ≡ s → pending_of u o.rest ≡ pending_of u qs ++ rest u
covers_rest q qs ps rest h o u true is =
    let same : q.txn ≡ u = (Decides-eqb q.txn u).0 is in
    subst (λ v. pending_of v o.rest ≡ pending_of v qs ++ rest v) same o.its
covers_rest q qs ps rest h o u false is =
    let apart : u ≢ q.txn = λ e. let x : (q.txn == u) ≡ true = (Decides-eqb q.txn u).1 (sym e) in absurd cc in
    o.apart u apart ∙ (rw is at (h u))

pub covers_wider : (qs ps : List Pending) (rest : ℕ → List Pending) → Covers ps qs rest → (c : ℕ) → Wider (steps_at c ps) (steps_at c qs)
covers_wider [] ps rest h c = let x = lowest_below (steps_at c ps) in let y = highest_above (steps_at c ps) in record { lows = x; highs = y }
covers_wider (q ∷ qs) ps rest h c =
    let t : (q.txn == q.txn) ≡ true = (Decides-eqb q.txn q.txn).1 refl in
    let e : pending_of q.txn ps ≡ q ∷ (pending_of q.txn qs ++ rest q.txn) = rw t at (h q.txn) in
    let o = first_out q.txn ps q (pending_of q.txn qs ++ rest q.txn) e in
    led_wider (q.counter == c) q.step (steps_at c ps) (steps_at c o.rest) (steps_at c qs) (o.sums c)
    (covers_wider qs o.rest rest (λ u. covers_rest q qs ps rest h o u (q.txn == u) refl) c)

pub room_wider : (n : Count) (xs ys : List ℤ) → Wider xs ys → HasRoom n xs → HasRoom n ys
room_wider n xs ys w h =
    let a = w.lows in let b = w.highs in let l = h.low in let u = h.high in
    record { low = omega (arith, ints); high = omega (arith, ints) }
