-- A bucket splits: the buckets stay buckets, and the map is the same.
use Rattle.std.proofs.Common.{◌≡◌, ◌≢◌, ℕ, suc, Bool, true, false, not, List, refl, ap, sym, ◌∙◌, subst, filter, ◌⊎◌, inl, inr}
use Rattle.std.proofs.lemmas.Bool.{both_ways, cases_eq, not-true}
use Rattle.mt_bucket.specs.Entries.{Entry, look}
use Rattle.mt_bucket.specs.Hash.{hash, high}
use Rattle.mt_index.specs.Maps.{Once, Each, Agree}
use Rattle.mt_index.specs.Buckets.{IsBuckets, lookup, Splits}
use Rattle.mt_index.proofs.Lists.{at_parts, look_filter, once_filter, each_map, each_filter}

-- where a hash is after the split
data Side (names names2 : ℕ → ℕ) (b q l h : ℕ) : Type 0 where
  Rest : names h ≢ b → names2 h ≡ names h → Side names names2 b q l h
  Low : names h ≡ b → high l h ≡ false → names2 h ≡ b → Side names names2 b q l h
  Up : names h ≡ b → high l h ≡ true → names2 h ≡ q → Side names names2 b q l h

side : (b q l : ℕ) (names depth : ℕ → ℕ) (content : ℕ → List Entry) (names2 depth2 : ℕ → ℕ) (content2 : ℕ → List Entry)
    → Splits b q l names depth content names2 depth2 content2 → (h : ℕ) → Side names names2 b q l h
side b q l names depth content names2 depth2 content2 s h = go (cases_eq (names h) b) (high l h) refl
  where
    go : (names h ≡ b) ⊎ (names h ≡ b → ⊥) → (t : Bool) → high l h ≡ t → Side names names2 b q l h
    go (inl here) true is = Up here is (s.up h here is)
    go (inl here) false is = Low here is (s.low h here is)
    go (inr there) t is = Rest there (s.rest h there)

pub split_kept : (b q l : ℕ) (names depth : ℕ → ℕ) (content : ℕ → List Entry) (names2 depth2 : ℕ → ℕ) (content2 : ℕ → List Entry)
    → IsBuckets names depth content → Splits b q l names depth content names2 depth2 content2
    → IsBuckets names2 depth2 content2 × ((r : ℕ) (k : List ℕ) → lookup names2 content2 r k ≡ lookup names content r k)
split_kept b q l names depth content names2 depth2 content2 is s = (
  record { same = λ h k. same h k (at h) (at k); apart = λ h k. apart h k (at h) (at k); own = λ h. own h (at h); once = λ h. once h (at h) },
  λ r k. looked r k (at (hash k)),
)
  where
    At : ℕ → Type 0
    At h = Side names names2 b q l h

    at : (h : ℕ) → Side names names2 b q l h
    at = side b q l names depth content names2 depth2 content2 s

    deep : (h : ℕ) → names h ≢ b → depth2 (names h) ≡ depth (names h)
    deep h there = s.depth_rest h there

    lists : (h : ℕ) → names h ≢ b → content2 (names h) ≡ content (names h)
    lists h there = s.content_rest h there

    level : (h : ℕ) → names h ≡ b → depth (names h) ≡ l
    level h here = ap depth here ∙ s.level

    same : (h k : ℕ) → Side names names2 b q l h → Side names names2 b q l k → names2 h ≡ names2 k → Agree (depth2 (names2 h)) h k
    same h k (Rest out is2) (Rest out3 is3) e = subst (λ d. Agree d h k) (sym (ap depth2 is2 ∙ deep h out)) (is.same h k (sym is2 ∙ e ∙ is3))
    same h k (Rest out is2) (Low home bit is3) e = absurd (out (sym is2 ∙ e ∙ is3))
    same h k (Rest out is2) (Up home bit is3) e = absurd (s.fresh h (sym is2 ∙ e ∙ is3))
    same h k (Low home bit is2) (Rest out is3) e = absurd (out (sym is3 ∙ sym e ∙ is2))
    same h k (Low home bit is2) (Low home3 bit3 is3) e = subst (λ d. Agree d h k) (sym (ap depth2 is2 ∙ s.depth_low))
        (subst (λ d. Agree d h k) (level h home) (is.same h k (home ∙ sym home3)), bit ∙ sym bit3)
    same h k (Low home bit is2) (Up home3 bit3 is3) e = absurd (s.fresh h (home ∙ sym is2 ∙ e ∙ is3))
    same h k (Up home bit is2) (Rest out is3) e = absurd (s.fresh k (sym is3 ∙ sym e ∙ is2))
    same h k (Up home bit is2) (Low home3 bit3 is3) e = absurd (s.fresh h (home ∙ sym is3 ∙ sym e ∙ is2))
    same h k (Up home bit is2) (Up home3 bit3 is3) e = subst (λ d. Agree d h k) (sym (ap depth2 is2 ∙ s.depth_up))
        (subst (λ d. Agree d h k) (level h home) (is.same h k (home ∙ sym home3)), bit ∙ sym bit3)

    joined : (h k : ℕ) → names h ≡ b → Agree l h k → names k ≡ b
    joined h k home a = sym (is.apart h k (subst (λ d. Agree d h k) (sym (level h home)) a)) ∙ home

    apart : (h k : ℕ) → Side names names2 b q l h → Side names names2 b q l k → Agree (depth2 (names2 h)) h k → names2 h ≡ names2 k
    apart h k (Rest out is2) there a = rest there
      where
        e : names h ≡ names k
        e = is.apart h k (subst (λ d. Agree d h k) (ap depth2 is2 ∙ deep h out) a)

        rest : Side names names2 b q l k → names2 h ≡ names2 k
        rest (Rest out3 is3) = is2 ∙ e ∙ sym is3
        rest (Low home3 bit3 is3) = absurd (out (e ∙ home3))
        rest (Up home3 bit3 is3) = absurd (out (e ∙ home3))
    apart h k (Low home bit is2) there a = low there
      where
        a2 : Agree (suc l) h k
        a2 = subst (λ d. Agree d h k) (ap depth2 is2 ∙ s.depth_low) a

        low : Side names names2 b q l k → names2 h ≡ names2 k
        low (Rest out3 is3) = absurd (out3 (joined h k home a2.0))
        low (Low home3 bit3 is3) = is2 ∙ sym is3
        low (Up home3 bit3 is3) = absurd (both_ways (high l h) bit (a2.1 ∙ bit3))
    apart h k (Up home bit is2) there a = up there
      where
        a2 : Agree (suc l) h k
        a2 = subst (λ d. Agree d h k) (ap depth2 is2 ∙ s.depth_up) a

        up : Side names names2 b q l k → names2 h ≡ names2 k
        up (Rest out3 is3) = absurd (out3 (joined h k home a2.0))
        up (Low home3 bit3 is3) = absurd (both_ways (high l k) bit3 (sym a2.1 ∙ bit))
        up (Up home3 bit3 is3) = is2 ∙ sym is3

    stays : (x y : ℕ) → names x ≢ b → names y ≡ names x → names2 y ≡ names x
    stays x y out e = s.rest y (λ w. out (sym e ∙ w)) ∙ e

    own : (h : ℕ) → Side names names2 b q l h → Each (λ e. names2 (hash e.key) ≡ names2 h) (content2 (names2 h))
    own h (Rest out is2) = rw (is2, lists h out) (each_map (λ e. names (hash e.key) ≡ names h) (λ e. names2 (hash e.key) ≡ names h)
        (λ e w. stays h (hash e.key) out w) (content (names h)) (is.own h))
    own h (Low home bit is2) = rw (is2, s.stay)
        (each_map (λ e. (names (hash e.key) ≡ b) × (not (high l (hash e.key)) ≡ true)) (λ e. names2 (hash e.key) ≡ b)
        (λ e w. s.low (hash e.key) w.0 (not-true (high l (hash e.key)) w.1)) (filter (λ e. not (high l (hash e.key))) (content b))
        (each_filter (λ e. names (hash e.key) ≡ b) (λ e. not (high l (hash e.key))) (content b) (rw home at (is.own h))))
    own h (Up home bit is2) = rw (is2, s.move)
        (each_map (λ e. (names (hash e.key) ≡ b) × (high l (hash e.key) ≡ true)) (λ e. names2 (hash e.key) ≡ q)
        (λ e w. s.up (hash e.key) w.0 w.1) (filter (λ e. high l (hash e.key)) (content b))
        (each_filter (λ e. names (hash e.key) ≡ b) (λ e. high l (hash e.key)) (content b) (rw home at (is.own h))))

    once : (h : ℕ) → Side names names2 b q l h → Once (content2 (names2 h))
    once h (Rest out is2) = rw (is2, lists h out) (is.once h)
    once h (Low home bit is2) = rw (is2, s.stay) (once_filter (λ e. not (high l (hash e.key))) (content b) (rw home at (is.once h)))
    once h (Up home bit is2) = rw (is2, s.move) (once_filter (λ e. high l (hash e.key)) (content b) (rw home at (is.once h)))

    looked : (r : ℕ) (k : List ℕ) → Side names names2 b q l (hash k) → lookup names2 content2 r k ≡ lookup names content r k
    looked r k (Rest out is2) = ap (λ x. look r k (content2 x)) is2 ∙ ap (look r k) (lists (hash k) out)
    looked r k (Low home bit is2) = ap (λ x. look r k (content2 x)) is2 ∙ ap (look r k) s.stay
        ∙ look_filter (λ e. not (high l (hash e.key))) r k (content b) (λ e w. ap (λ x. not (high l (hash x))) (at_parts r k e w).1 ∙ ap not bit)
        ∙ ap (λ x. look r k (content x)) (sym home)
    looked r k (Up home bit is2) = ap (λ x. look r k (content2 x)) is2 ∙ ap (look r k) s.move
        ∙ look_filter (λ e. high l (hash e.key)) r k (content b) (λ e w. ap (λ x. high l (hash x)) (at_parts r k e w).1 ∙ bit)
        ∙ ap (λ x. look r k (content x)) (sym home)
