-- What an edit of a table leaves of the base that it represents.
use Rattle.std.proofs.Common.{◌≡◌, ℕ, ◌<◌, ◌==◌, Bool, true, false, cond, List, Option, length, set, refl, sym, subst}
use Rattle.std.proofs.lemmas.Bool.Decides.{Decides-eqb}
use Rattle.std.proofs.lemmas.List.{get_or-set_same, get_or-set_other}
use Rattle.mt_model.specs.declared.counters.Count.{Count}
use Rattle.mt_rows.specs.declared.rows.Row.{Row}
use Rattle.mt_rows.specs.Rows.{IsAltered}
use Rattle.mt_model.specs.Model.{alter_row, alter_count}
use Rattle.mt_model.specs.Tables.{count_at, no_count}
use Rattle.mt_model.specs.Views.{base_from}
use Rattle.mt_model.proofs.Cells.{base_equal}

count_at-set : (ns : List Count) (c e : ℕ) (f : Count → Count) → c < length ns → (t : Bool) → (c == e) ≡ t
    → count_at (set ns c (f (count_at ns c))) e ≡ cond t (f (count_at ns e)) (count_at ns e)
count_at-set ns c e f lt true same =
    let is : c ≡ e = (Decides-eqb c e).0 same in
    subst (λ k. count_at (set ns c (f (count_at ns c))) k ≡ f (count_at ns k)) is
    (get_or-set_same ns c (f (count_at ns c)) no_count lt)
count_at-set ns c e f lt false same =
    get_or-set_other ns c e (f (count_at ns c)) no_count
    (λ is. let test : (c == e) ≡ true = (Decides-eqb c e).1 (sym is) in absurd cc)

-- one counter of a list is altered
pub base-set : (rows : List Row) (ns : List Count) (c : ℕ) (f : Count → Count) → c < length ns
    → base_from rows (set ns c (f (count_at ns c))) ≡ alter_count (base_from rows ns) c f
base-set rows ns c f lt =
    base_equal (base_from rows (set ns c (f (count_at ns c)))) (alter_count (base_from rows ns) c f) (λ r k. refl)
    (λ e. count_at-set ns c e f lt (c == e) refl)

-- what is under one key is
pub base-altered : (old new : List Row) (ns : List Count) (r : ℕ) (k : List ℕ) (f : Option (List ℕ) → Option (List ℕ)) → IsAltered old new r k f
    → base_from new ns ≡ alter_row (base_from old ns) r k f
base-altered old new ns r k f altered = base_equal (base_from new ns) (alter_row (base_from old ns) r k f) altered (λ c. refl)
