-- One slot rules a device.
use Rattle.std.proofs.Common.{◌≡◌, inl, inr, ⊎_elim, ◌<◌, ◌∙◌, ℕ, List, ap, subst, arith}
use Rattle.mt_frame.specs.Laws.{OneSlot}
use Rattle.mt_frame.specs.declared.slots.MasterSlot.{MasterSlot}
use Rattle.mt_log.specs.Masters.{IsBefore, IsClosedAt, IsOpenAt, IsRuling, IsUnformatted, Rules}
use Rattle.mt_log.proofs.Ruling.{not_closed, one_open, ruled}
use Rattle.mt_base.specs.declared.format.Format.TheVariants.{Two}
use Rattle.mt_restart.specs.OfFormat.{HasOtherFormat}
use Rattle.mt_restart.specs.Recovered.{AreRestored}

module _ (one : OneSlot) (c : List ℕ) where
  not_both : (at other : ℕ) (s t : MasterSlot) → Rules c at other s → Rules c other at t → ⊥
  not_both at other s t r q = ⊎_elim
      (λ (closed : IsClosedAt c other). not_closed c other t q.own closed)
      (λ (b : (older : MasterSlot) × IsOpenAt c other older × IsBefore older s). ⊎_elim
      (λ (closed : IsClosedAt c at). not_closed c at s r.own closed)
      (λ (d : (older : MasterSlot) × IsOpenAt c at older × IsBefore older t).
      let less : t.epoch < s.epoch = subst (λ (o : MasterSlot). o.epoch < s.epoch) (one_open one c other b.0 t b.1 q.own) b.2.epoch in
      let more : s.epoch < t.epoch = subst (λ (o : MasterSlot). o.epoch < t.epoch) (one_open one c at d.0 s d.1 r.own) d.2.epoch in
      omega (arith, less, more))
      q.beside)
      r.beside

  pub one_rules : (s t : MasterSlot) → IsRuling c s → IsRuling c t → s ≡ t
  one_rules s t (inl r) (inl q) = one_open one c 0 s t r.own q.own
  one_rules s t (inr r) (inr q) = one_open one c 4096 s t r.own q.own
  one_rules s t (inl r) (inr q) = absurd (not_both 0 4096 s t r q)
  one_rules s t (inr r) (inl q) = absurd (not_both 4096 0 s t r q)

-- bytes of which a restart makes pages are of format 2
pub not_other : OneSlot → (c : List ℕ) (items : List (List ℕ)) → AreRestored c items → HasOtherFormat Two c → ⊥
not_other one c items x other = other.2 (ap (λ (m : MasterSlot). m.format) (one_rules one c other.0 x.slot other.1 x.replayed.repeated.area.rules) ∙ x.second)

-- bytes of which a restart makes pages are formatted
pub not_unformatted : (c : List ℕ) (items : List (List ℕ)) → AreRestored c items → IsUnformatted c → ⊥
not_unformatted c items x = ruled c x.slot x.replayed.repeated.area.rules
