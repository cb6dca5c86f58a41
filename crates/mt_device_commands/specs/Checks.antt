-- What `check` reports of a device.
use Rattle.std.specs.Prelude.{ℕ, ◌≡◌, ◌⊎◌, Bool, true, false, List, [], ◌∷◌, ◌++◌, Option, IfSome, codes}
use Rattle.std.specs.Borrow.{Bor}
use Rattle.std.specs.Fmt.{decimal}
use Rattle.std.specs.List.{concat}
use Rattle.std.specs.Io.KnownBytes.{Appends, Keeps}
use Rattle.mt_base.specs.Limits.{number_of_format}
use Rattle.mt_base.specs.declared.refusal.Refusal.{Refusal}
use Rattle.mt_replay.specs.Refused.{BreaksFormat, BreaksLog, IsCause}
use Rattle.mt_restart.specs.Inspected.{IsSound}
use Rattle.mt_restart.specs.Reported.{IsReport}
use Rattle.mt_restart.specs.declared.report_figures.Report.{Report}
use Rattle.mt_script.specs.Answers.{AppendsFront}
use Rattle.mt_folder.specs.Folders.{IsFileRefusal}
use Rattle.mt_report.specs.declared.faults.Fault.{Fault}
use Rattle.mt_report.specs.declared.faults.Fault.TheVariants.{Output, Refused}

-- ---- what is printed

-- a line of a word and the number after it
abbrev pub number_line : List ℕ → ℕ → List ℕ
number_line word n = word ++ (decimal n ++ 10 ∷ [])

abbrev pub figure_line : Bor (List ℕ) × ℕ → List ℕ
figure_line f = number_line f.0.now f.1

-- a line for each figure of a report
abbrev pub report_text : Report → List ℕ
report_text r = concat (number_line (codes "format ") (number_of_format r.format)
    ∷ number_line (codes "epoch ") r.epoch ∷ number_line (codes "area ") r.area
    ∷ number_line (codes "batches ") r.batches ∷ number_line (codes "records ") r.records
    ∷ number_line (codes "commits ") r.commits ∷ [])

-- the last line, if the pages were looked at
abbrev pub pages_text : Bool → List ℕ
pages_text true = codes "pages ok\n"
pages_text false = []

abbrev pub check_text : Bool → Report → List ℕ
check_text pages r = report_text r ++ pages_text pages

-- ---- of which bytes

-- the report is that of these bytes, whose pages break no rule if that was asked for
pub record Reports (pages : Bool) (c : List ℕ) (report : Report) : Type 0 where
  pub log : IsReport c report
  pub pages_too : pages ≡ true → IsSound c

-- why these bytes are refused: with pages for what breaks the format, and else for what breaks the log
abbrev pub IsRefusedFor : Bool → List ℕ → Refusal → Type 0
IsRefusedFor true c why = IsCause BreaksFormat c (Unit {0}) why
IsRefusedFor false c why = IsCause BreaksLog c (Unit {0}) why

-- ---- of which file

-- these bytes are those of the file, if they are known
abbrev pub IsContentOf : Option (List ℕ) → List ℕ → Type 0
IsContentOf bytes c = IfSome bytes (λ held. c ≡ held)

abbrev pub ReportsOn : Bool → Option (List ℕ) → Report → Type 0
ReportsOn pages bytes report = (c : List ℕ) × IsContentOf bytes c × Reports pages c report

-- why nothing is reported of a file: it is not opened, or its bytes are refused
abbrev pub IsUnreported : Bool → Option (List ℕ) → Refusal → Type 0
IsUnreported pages bytes why = IsFileRefusal bytes why ⊎ ((c : List ℕ) × IsContentOf bytes c × IsRefusedFor pages c why)

-- the lines of such a report were written
pub record HasChecked (pages : Bool) (bytes was now : Option (List ℕ)) : Type 0 where
  pub report : Report
  pub of : ReportsOn pages bytes report
  pub outcome : Appends was now (check_text pages report)

-- why a check did not end well: nothing is written if nothing is reported, and else the output failed within the lines
pub data IsUnchecked (pages : Bool) (bytes was now : Option (List ℕ)) : Fault → Type 0 where
  unreported : (why : Refusal) → IsUnreported pages bytes why → Keeps was now
      → IsUnchecked pages bytes was now (Refused why)
  unheard_check : (report : Report) → ReportsOn pages bytes report → AppendsFront was now (check_text pages report)
      → IsUnchecked pages bytes was now Output
