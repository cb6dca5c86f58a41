use Rattle.std.proofs.Common.{[], codes}
use Rattle.std.proofs.lemmas.Result.{err_from_is_err_and, on_err_weaker, on_ok_weaker}
use Rattle.std.proofs.KnownBytes.{Appends-trans}
use Rattle.mt_script.proofs.TextLemmas.{front_then, front_whole}
use Rattle.mt_base.specs.declared.refusal.Refusal.TheVariants as refusal
use Rattle.mt_report.specs.Advice.{advice_line, fault_line}
use Rattle.mt_report.specs.declared.faults.Fault.TheVariants.{Refused}
use Rattle.mt_report.proofs.faults.write_unread.Goals as goal

pub returns-in_err-write_fault-clause-front : goal.returns-in_err-write_fault-clause-front
returns-in_err-write_fault-clause-front g c =
    let p = err_from_is_err_and c.from_residual.result c.from_residual.ensures.1 in
    rw p.1 (front_whole _ _ (fault_line (Refused refusal.NoMemory)) (advice_line (codes "mtk") (codes "there is not enough memory")) c.in_err-write_fault.ensures.front)

pub returns-clause-all : goal.returns-clause-all
returns-clause-all g c = on_ok_weaker c.put.result (λ all. Appends-trans _ _ _ (fault_line (Refused refusal.NoMemory)) (codes "mtk: there is not enough memory\n") c.in_ok-write_fault.ensures.all all) c.put.ensures.all

pub returns-clause-front : goal.returns-clause-front
returns-clause-front g c =
    on_err_weaker c.put.result (λ front. front_then _ _ _ (fault_line (Refused refusal.NoMemory)) (codes "mtk: there is not enough memory\n") [] c.in_ok-write_fault.ensures.all front) c.put.ensures.front
