-- A base of the code as the model sees it.
use Rattle.std.specs.Prelude.{ℕ, List}
use Rattle.mt_rows.specs.declared.rows.Row.{Row}
use Rattle.mt_rows.specs.Rows.{value_at}
use Rattle.mt_rows.proofs.Listings.{listed}
use Rattle.mt_model.specs.declared.counters.Count.{Count}
use Rattle.mt_model.specs.declared.tables.Base as code
use Rattle.mt_model.specs.Model.{Base}
use Rattle.mt_model.specs.Tables.{count_at}

-- the base that rows and counters represent
abbrev pub base_from : List Row → List Count → Base
base_from rows counts = record {
  rows = λ r k. value_at rows r k;
  counts = λ c. count_at counts c;
  listing = listed rows;
}

abbrev pub base_of : code.Base → Base
base_of b = base_from b.rows b.counters

-- its rows in order, its counters in order, and how many relations it has
abbrev pub rows_of : code.Base → List Row
rows_of b = b.rows

abbrev pub counters_of : code.Base → List Count
counters_of b = b.counters

abbrev pub relations_of : code.Base → ℕ
relations_of b = b.relations
