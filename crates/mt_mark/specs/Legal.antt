-- Which lists of transactions are legal from a base in code.
use Rattle.std.specs.Prelude.{List}
use Rattle.mt_model.specs.declared.tables.Base.{Base}
use Rattle.mt_model.specs.declared.history.Committed.{Committed}
use Rattle.mt_model.specs.History as model
use Rattle.mt_model.specs.Views.{base_of}

abbrev pub IsLegal : Base → List Committed → Type 0
IsLegal b ts = model.IsLegal (base_of b) ts
