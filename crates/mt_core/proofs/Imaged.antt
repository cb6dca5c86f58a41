-- Images, with which a log's area may begin. They end nothing, and nothing is recorded by them. The pages held are those of the opening.
use Rattle.std.proofs.Common.{◌≡◌, ℕ, false, List, [], ◌∷◌, ◌++◌, refl, subst, arith}
use Rattle.std.specs.List.{AllByRecursion}
use Rattle.std.proofs.lemmas.List.Elements.{All-from_recursion, recursion_from_All}
use Rattle.mt_frame.specs.Grammar.{IsTxn, IsRecord}
use Rattle.mt_frame.specs.Grammar.{txn_of}
use Rattle.mt_area_rules.specs.History.{some_record, ends_txn, ends_op}
use Rattle.mt_frame.specs.declared.records.Record.{Record}
use Rattle.mt_frame.specs.declared.records.Record.TheVariants.{Page, OpEnd, OpDropped, Commit, AbortEnd}
use Rattle.mt_log.proofs.Prefix.{each_front}
use Rattle.mt_op.proofs.Stored.{unlogged_held}
use Rattle.mt_op.specs.Begun.{AreImages}
use Rattle.mt_replay.specs.Recoverable.{EachBeginning, pages_held}
use Rattle.mt_replay.specs.Recorded.{Recorded, plus_records, calls_in}
use Rattle.mt_space.specs.Changes.{PageBytes}
use Rattle.mt_core.specs.Restartable.{IsQuiet}

-- no transaction and no operation ends in these records, and nothing is recorded by them
pub record EndNothing (records : List Record) : Type 0 where
  pub txns : (t : ℕ) → some_record (ends_txn t) records ≡ false
  pub ops : (n : ℕ) → some_record (ends_op n) records ≡ false
  pub calls : calls_in records ≡ []
  pub outcome : (x : Recorded) → plus_records x records ≡ x

-- a transaction's number is not 0
some_txn : (t : ℕ) → IsTxn t → t ≡ 0 → ⊥
some_txn t named none = let some = named.0 in omega arith

-- by the grammar each record of no transaction is one of a page
each_ends_nothing : (records : List Record) → AllByRecursion IsRecord records → AllByRecursion (λ (r : Record). txn_of r ≡ 0) records → EndNothing records
each_ends_nothing [] each none = record { txns = λ t. refl; ops = λ n. refl; calls = refl; outcome = λ x. refl }
each_ends_nothing (Page txn op page image start old new ∷ rs) each none = let rest = each_ends_nothing rs each.1 none.1 in record { txns = rest.txns; ops = rest.ops; calls = rest.calls; outcome = rest.outcome }
each_ends_nothing (OpEnd txn op undoes done ∷ rs) each none = absurd (some_txn txn each.0.0 none.0)
each_ends_nothing (OpDropped txn op ∷ rs) each none = absurd (some_txn txn each.0.0 none.0)
each_ends_nothing (Commit txn ∷ rs) each none = absurd (some_txn txn each.0 none.0)
each_ends_nothing (AbortEnd txn ∷ rs) each none = absurd (some_txn txn each.0 none.0)

pub images_end_nothing : (records : List Record) → AllByRecursion IsRecord records → AreImages records → EndNothing records
images_end_nothing records each images = each_ends_nothing records each (recursion_from_All (λ (r : Record). txn_of r ≡ 0) records images)

-- the pages held are those of the opening
pub images_held : (opening : PageBytes) (records : List Record) → AreImages records → pages_held opening records ≡ opening
images_held opening records images = unlogged_held (record { locks = []; opening = opening; records = records; present = opening; total = 0 }) images

-- a beginning of images has no other records
front_images : (front back : List Record) → AreImages (front ++ back) → AreImages front
front_images front back images =
    let none = recursion_from_All (λ (r : Record). txn_of r ≡ 0) (front ++ back) images in
    All-from_recursion (λ (r : Record). txn_of r ≡ 0) front (each_front (λ (r : Record). txn_of r ≡ 0) front back none)

-- by each beginning of images is recorded what is by no record at all, and the pages held stay
pub images_quiet : (opening : PageBytes) (records : List Record) → AllByRecursion IsRecord records → AreImages records → EachBeginning (IsQuiet opening []) records
images_quiet opening records each images front back is =
    let alone : AreImages front = front_images front back (subst AreImages is images) in
    let nothing = images_end_nothing front (each_front IsRecord front back (subst (AllByRecursion IsRecord) is each)) alone in
    record { held = images_held opening front alone; calls = nothing.calls; outcome = nothing.outcome }
