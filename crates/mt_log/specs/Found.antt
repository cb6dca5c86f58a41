-- What a scan has found.
use Rattle.std.specs.Prelude.{ℕ, List, map}
use Rattle.mt_frame.specs.declared.records.Record.{Record}
use Rattle.mt_log.specs.declared.batch.Batch.{Batch}

-- the records of each batch
abbrev pub records_of : List Batch → List (List Record)
records_of batches = map (λ batch. batch.records.items) batches

-- where each batch stands
abbrev pub places_of : List Batch → List ℕ
places_of batches = map (λ batch. batch.place) batches
