-- A device as it is formatted represents the schema's first base.
use Rattle.std.proofs.Common.{◌≡◌, ◌<◌, ℕ, List, [], ◌∷◌, length, refl, sym, subst, arith}
use Rattle.mt_base.specs.declared.format.Format.TheVariants.{One, Two}
use Rattle.mt_log.specs.Holds.{HoldsBatches}
use Rattle.mt_log.specs.Masters.{area_size}
use Rattle.mt_model.specs.Model.{Base, IsBase}
use Rattle.mt_pool.specs.Images.{slot}
use Rattle.mt_replay.specs.Recoverable.{IsRecoverable}
use Rattle.mt_replay.specs.Stands.{CanRestart, IsReadAs}
use Rattle.mt_space.specs.Changes.{PageBytes}
use Rattle.mt_steps.proofs.Formatting.{formatted_good}
use Rattle.mt_steps.specs.Plans.{IsGood}
use Rattle.mt_format.proofs.Begun.{first_end, first_rules, first_start}
use Rattle.mt_format.specs.Formats.{IsFormattedAs, first_slot}
use Rattle.mt_format.specs.Schemas.{pages_in, relations_in, counters_in, schema_base}
use Rattle.mt_format.specs.declared.schema.Schema.{Schema}

-- a restart over no record at all leaves the pages, and the base that they hold
recoverable_none : (relations counters total bytes : ℕ) (pages : PageBytes) (b : Base) → IsGood relations counters total pages → IsBase b → 5 < bytes → IsRecoverable relations counters total bytes pages b []
recoverable_none relations counters total bytes pages b good bounds large = record {
  leads = record { good = good; base = λ x holds. holds; acted = λ x holds. tt };
  serial = record { same = refl; acted = tt; bounds = bounds };
  within = tt;
  free = omega arith;
  images = omega (arith, large);
}

pub read_first : (s : Schema) (c : List ℕ) → IsFormattedAs s c → IsReadAs c (first_slot s) (slot 8192 c) ([] ∷ [])
read_first s c f = record {
  rules = first_rules s c f;
  held = subst (λ (X : Type 0). X) (λ i. HoldsBatches c (sym (first_start s) i) (sym (first_end s) i) (pages_in s) ([] ∷ [])) f.area;
  of_its_format = (tt, tt);
  gives = λ p lt. refl;
}

pub good_first : (s : Schema) (c : List ℕ) → IsFormattedAs s c → IsGood (relations_in s) (length (counters_in s)) (pages_in s) (slot 8192 c)
good_first s c f = formatted_good (relations_in s) (length (counters_in s)) (pages_in s) (slot 8192 c) f.pages

pub format_stands : (s : Schema) (c : List ℕ) → IsBase (schema_base s) → IsFormattedAs s c → CanRestart (relations_in s) (length (counters_in s)) c (schema_base s)
format_stands s c bounds f = record {
  stands = record { slot = first_slot s; opening = slot 8192 c; batches = [] ∷ []; read = read_first s c f; first = schema_base s; holds = f.base; bounds = bounds; is = refl };
  is_of = refl;
  fits = s.relation_count;
  recoverable = recoverable_none (relations_in s) (length (counters_in s)) (pages_in s) (area_size (first_slot s)) (slot 8192 c) (schema_base s) (good_first s c f) bounds (let some = s.area_size.0 in omega (arith, some));
  short = λ (first : Two ≡ One). absurd cc;
}
