-- The names that represent no mark.
use Rattle.std.specs.Prelude.{[]}
use Rattle.atomic_table.specs.Seated.{TableId}
use Rattle.mt_model.specs.declared.tables.Base.{Base}

abbrev pub no_mark : TableId
no_mark = record { words = 0; slots = 0; views_name = 0; atom = 0; block = 0; offset = 0; slot_names = [] }

abbrev pub no_base : Base
no_base = record { relations = 0; rows = []; counters = [] }
