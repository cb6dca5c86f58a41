-- What a schema is seen as.
use Rattle.std.specs.Prelude.{ℕ, ◌+◌, ◌*◌, List}
use Rattle.mt_base.specs.declared.limits.TheConstants.{MASTER_BYTES, MIB_BYTES, PAGE_BYTES}
use Rattle.mt_base.specs.Limits.{device_bytes_of}
use Rattle.mt_model.specs.declared.counters.Count.{Count}
use Rattle.mt_model.specs.Model.{Base}
use Rattle.mt_model.specs.Views.{base_of, relations_of, counters_of}
use Rattle.mt_format.specs.declared.schema.Schema.{Schema}

-- how many pages, MiB of a log area, and relations
abbrev pub pages_in : Schema → ℕ
pages_in s = s.pages

abbrev pub mib_in : Schema → ℕ
mib_in s = s.area_mib

abbrev pub relations_in : Schema → ℕ
relations_in s = relations_of s.base

-- the counters, each at its start
abbrev pub counters_in : Schema → List Count
counters_in s = counters_of s.base

-- no rows, and each counter at its start
abbrev pub schema_base : Schema → Base
schema_base s = base_of s.base

-- the bytes of a device of it
abbrev pub device_bytes : Schema → ℕ
device_bytes s = device_bytes_of s.pages s.area_mib

-- where its pages end, and its first log area begins
abbrev pub pages_end : Schema → ℕ
pages_end s = MASTER_BYTES + PAGE_BYTES * s.pages

abbrev pub area_end : Schema → ℕ
area_end s = pages_end s + s.area_mib * MIB_BYTES
