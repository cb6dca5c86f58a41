-- Operations over a device that is opened.
use Rattle.std.proofs.Common.{◌≡◌, List, [], sym, subst}
use Rattle.std.proofs.lemmas.List.Elements.{All-nil}
use Rattle.mt_frame.specs.declared.records.Record.{Record}
use Rattle.mt_frame.specs.Grammar.{txn_of}
use Rattle.mt_op.specs.Begun.{AreImages}

-- a log without a record has no other than images
pub no_images : (records : List Record) → records ≡ [] → AreImages records
no_images records none = subst AreImages (sym none) (All-nil (λ (r : Record). txn_of r ≡ 0))
