-- What the sets of the rules know of the records so far.
use Rattle.std.specs.Prelude.{◌≡◌, ℕ, List}
use Rattle.std.specs.declared.cmp.Ordering.{Ordering}
use Rattle.std.specs.Ordering.{nat_cmp, ordering_then}
use Rattle.std.specs.BTreeSet.{contains}
use Rattle.mt_frame.specs.declared.records.Record.{Record}
use Rattle.mt_area_rules.specs.declared.area_rules.AreaRules.{AreaRules}
use Rattle.mt_area_rules.specs.History.{some_record, ends_txn, ends_op, finishes, undoes_op, is_of_page}

-- pairs in order: by their first numbers, then by their second
abbrev pub pair_cmp : ℕ × ℕ → ℕ × ℕ → Ordering
pair_cmp x y = ordering_then (nat_cmp x.0 y.0) (nat_cmp x.1 y.1)

-- the sets have just what these records reported
pub record Knows (rules : AreaRules) (earlier : List Record) : Type 0 where
  pub ended : (t : ℕ) → contains nat_cmp rules.ended t ≡ some_record (ends_txn t) earlier
  pub imaged : (p : ℕ) → contains nat_cmp rules.imaged p ≡ some_record (is_of_page p) earlier
  pub over : (o : ℕ) → contains nat_cmp rules.over o ≡ some_record (ends_op o) earlier
  pub finished : (t o : ℕ) → contains pair_cmp rules.finished (t, o) ≡ some_record (finishes t o) earlier
  pub undone : (t o : ℕ) → contains pair_cmp rules.undone (t, o) ≡ some_record (undoes_op t o) earlier
