-- What operations keep beside formatted pages is the same for all pages that are formatted so.
use Rattle.std.proofs.Common.{◌≡◌, ◌<◌, ◌∙◌, ⊎_elim, ℕ, zero, suc, length, sym, ap, arith}
use Rattle.std.proofs.lemmas.List.{ext_get_or}
use Rattle.std.specs.Prelude.{Result, Ok, Err, IfOk}
use Rattle.mt_base.specs.declared.refusal.Refusal.{Refusal}
use Rattle.mt_op.specs.Begun.{FitsPages, idle_claims}
use Rattle.mt_op.specs.declared.next_area.Idle.{Idle}
use Rattle.mt_space.specs.Changes.{PageBytes}
use Rattle.mt_space.specs.Kinds.{kind}
use Rattle.mt_space.specs.Rooms.{mapped}
use Rattle.mt_steps.specs.Formatted.{IsFormatted}
use Rattle.mt_format.specs.Firsts.{IsFirstIdle}
use Rattle.mt_format.specs.Schemas.{pages_in, relations_in, counters_in}
use Rattle.mt_format.specs.declared.schema.Schema.{Schema}

free_after : (relations counters total : ℕ) (pages : PageBytes) → IsFormatted relations counters total pages → (p : ℕ) → 3 < p → kind pages p ≡ 0
free_after relations counters total pages formed p behind = ⊎_elim
    (λ free. free)
    (λ other. ⊎_elim
    (λ (bucket : kind pages p ≡ 2). let at = formed.one_bucket p bucket in absurd (omega (arith, at, behind)))
    (λ (records : kind pages p ≡ 3). absurd (formed.no_records p records))
    other)
    ((formed.kinds p).taken (omega (arith, behind)))

module _ (relations counters total : ℕ) (f g : PageBytes) (one : IsFormatted relations counters total f) (other : IsFormatted relations counters total g) where
  same_kind : (p : ℕ) → kind f p ≡ kind g p
  same_kind zero = one.index.space_fixed ∙ sym other.index.space_fixed
  same_kind (suc zero) = one.index.directory_fixed ∙ sym other.index.directory_fixed
  same_kind (suc (suc zero)) = (one.kinds 2).fixed (omega arith) ∙ sym ((other.kinds 2).fixed (omega arith))
  same_kind (suc (suc (suc zero))) = one.index.bucket ∙ sym other.index.bucket
  same_kind (suc (suc (suc (suc p)))) = free_after relations counters total f one (suc (suc (suc (suc p)))) (omega arith) ∙ sym (free_after relations counters total g other (suc (suc (suc (suc p)))) (omega arith))

  same_map : f 0 ≡ g 0
  same_map = ext_get_or 0 (f 0) (g 0) (one.map ∙ sym other.map) (λ p lt. same_kind p)

  pub fits_other : (idle : Idle) → FitsPages total f idle → FitsPages total g idle
  fits_other idle fits = record {
    locks = fits.locks;
    map = fits.map ∙ same_map;
    space = fits.space ∙ ap (λ map. mapped map total) same_map;
    claims = fits.claims;
    rooms = fits.rooms;
    noted = record {
      records = λ p lt records. absurd (other.no_records p records);
      others = λ p lt not. fits.noted.others p lt (one.no_records p);
    };
  }

pub first_idle : (s : Schema) (f : PageBytes) (made : Result Idle Refusal) → IsFormatted (relations_in s) (length (counters_in s)) (pages_in s) f → IfOk made (FitsPages (pages_in s) f)
    → IfOk made (λ idle. idle_claims idle ≡ 0) → IfOk made (IsFirstIdle s)
first_idle s f (Ok idle) formed fits none = record {
  fits = λ g other. fits_other (relations_in s) (length (counters_in s)) (pages_in s) f g formed other idle fits;
  unclaimed = none;
}
first_idle s f (Err why) formed fits none = tt
