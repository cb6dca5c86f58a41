-- The calls at positions, as calls are added, and as positions are added and cut off.
use Rattle.std.proofs.Common.{◌≡◌, ◌∙◌, ◌<◌, ◌+◌, ◌++◌, ◌∷◌, [], ℕ, All, List, ap, arith, drop, get_or, length, refl, suc, subst, sym, take}
use Rattle.std.proofs.Math.Seq.{get_or-append_seam}
use Rattle.std.proofs.lemmas.List.{drop_more, get_or-map, get_or_append_left, get_or_default, length-append, length-map, length-take, map-append, take-map}
use Rattle.std.proofs.lemmas.List.Elements.{All-get_or, All-push, All-take}
use Rattle.std.specs.Option.{option_to_list}
use Rattle.mt_inverse.specs.Steps.{IsWithinSteps}
use Rattle.mt_model.specs.Backwards.{call_back, calls_back}
use Rattle.mt_model.specs.History.{Call}
use Rattle.mt_model.specs.declared.operations.Op.TheVariants.{Read}
use Rattle.mt_model.specs.declared.operations.Reply.TheVariants.{Missing}
use Rattle.mt_locked.specs.Tokens.{ArePositions, call_at, calls_at}

abbrev no_call : Call
no_call = (Read 0, Missing)

-- further calls leave those at positions that there were
more : (calls added : List Call) (positions : List ℕ) → All (λ (p : ℕ). p < length calls) positions → calls_at (calls ++ added) positions ≡ calls_at calls positions
more calls added [] within = refl
more calls added (p ∷ ps) within =
    let here : p < length calls = within 0 0 (omega arith) in
    let rest : All (λ (q : ℕ). q < length calls) ps = λ k d less. within (suc k) d (omega (arith, less)) in
    λ i. get_or_append_left calls added no_call p here i ∷ more calls added ps rest i

still_within : (calls added : List Call) (positions : List ℕ) → All (λ (p : ℕ). p < length calls) positions → All (λ (p : ℕ). p < length (calls ++ added)) positions
still_within calls added positions within k d less =
    let there = within k d less in let long = length-append calls added in omega (arith, there, long)

-- ---- one call more, which counts

pub pushed : (calls : List Call) (c : Call) (positions : List ℕ) → All (λ (p : ℕ). p < length calls) positions → calls_at (calls ++ c ∷ []) (positions ++ length calls ∷ []) ≡ calls_at calls positions ++ c ∷ []
pushed calls c positions within =
    map-append (call_at (calls ++ c ∷ [])) positions (length calls ∷ [])
    ∙ (λ i. more calls (c ∷ []) positions within i ++ get_or-append_seam calls c [] no_call i ∷ [])

pub pushed_positions : (calls : List Call) (c : Call) (positions : List ℕ) → IsWithinSteps c.0 → length positions < 65535 → ArePositions calls positions
    → ArePositions (calls ++ c ∷ []) (positions ++ length calls ∷ [])
pushed_positions calls c positions step few old = record {
  within = All-push (λ p. p < length (calls ++ c ∷ [])) positions (length calls) (still_within calls (c ∷ []) positions old.within) (let long = length-append calls (c ∷ []) in omega (arith, long));
  steps = subst (All (λ (x : Call). IsWithinSteps x.0)) (sym (pushed calls c positions old.within)) (All-push (λ x. IsWithinSteps x.0) (calls_at calls positions) c old.steps step);
  few = let long = length-append positions (length calls ∷ []) in omega (arith, few, long);
}

-- ---- calls that do not count, and fewer that do

pub cut : (calls added : List Call) (n : ℕ) (positions : List ℕ) → All (λ (p : ℕ). p < length calls) positions → calls_at (calls ++ added) (take n positions) ≡ take n (calls_at calls positions)
cut calls added n positions within = more calls added (take n positions) (All-take (λ p. p < length calls) n positions within) ∙ sym (take-map (call_at calls) n positions)

pub cut_positions : (calls added : List Call) (n : ℕ) (positions : List ℕ) → ArePositions calls positions → ArePositions (calls ++ added) (take n positions)
cut_positions calls added n positions old = record {
  within = still_within calls added (take n positions) (All-take (λ p. p < length calls) n positions old.within);
  steps = subst (All (λ (x : Call). IsWithinSteps x.0)) (sym (cut calls added n positions old.within)) (All-take (λ x. IsWithinSteps x.0) n (calls_at calls positions) old.steps);
  few = let long = length-take n positions in let few = old.few in omega (arith, few, long);
}

-- ---- the inverses

-- What is read at one of these positions is the call there. An inverse of it can be named, and comes after those of
-- later calls.
module _ (calls : List Call) (positions : List ℕ) (i position : ℕ) (call : Call) (are : ArePositions calls positions) (below : i < length positions) (is_position : position ≡ get_or positions i position)
    (is_call : call ≡ get_or calls position call) where
  read : get_or (calls_at calls positions) i no_call ≡ call
  read =
      let within : get_or positions i 0 < length calls = All-get_or (λ p. p < length calls) positions i 0 below are.within in
      let same : get_or positions i 0 ≡ position = get_or_default positions i 0 position below ∙ sym is_position in
      get_or-map (call_at calls) positions i 0 no_call below ∙ ap (λ p. get_or calls p no_call) same
      ∙ get_or_default calls position no_call call (subst (λ p. p < length calls) same within) ∙ sym is_call

  long : i < length (calls_at calls positions)
  long = let same = length-map positions (call_at calls) in omega (arith, below, same)

  pub step_at : IsWithinSteps call.0
  step_at = subst (λ (x : Call). IsWithinSteps x.0) read (All-get_or (λ x. IsWithinSteps x.0) (calls_at calls positions) i no_call long are.steps)

  pub one_more : calls_back (drop i (calls_at calls positions)) ≡ calls_back (drop (i + 1) (calls_at calls positions)) ++ option_to_list (call_back call)
  one_more =
      ap calls_back (drop_more (calls_at calls positions) i no_call long)
      ∙ ap (λ (x : Call). calls_back (drop (i + 1) (calls_at calls positions)) ++ option_to_list (call_back x)) read
