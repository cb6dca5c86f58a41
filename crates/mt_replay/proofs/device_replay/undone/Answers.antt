use Rattle.std.proofs.Common.{◌≡◌, ◌+◌, ◌*◌, ℕ, List, ⊎_elim, ap, subst}
use Rattle.std.specs.Prelude.{Err}
use Rattle.std.proofs.lemmas.Result.{err_from_is_err_and}
use Rattle.mt_base.specs.declared.refusal.Refusal.{Refusal}
use Rattle.mt_base.specs.declared.refusal.Refusal.TheVariants.{BadFormat, NoMemory}
use Rattle.mt_page_rules.specs.Checks.{AreCheckedIn}
use Rattle.mt_replay.specs.Losers.{HasUndone, StopsAt}
use Rattle.mt_page_rules.specs.Faults.{IsFaulty}
use Rattle.mt_replay.specs.Refused.{AreUndone}
use Rattle.mt_replay.specs.Stands.{ShowsBase}
use Rattle.mt_replay.proofs.Areas.{if_ok, not_broken, not_stopped, only_memory, shows}
use Rattle.mt_replay.proofs.Causes.{undo_cause, undone_good}
use Rattle.mt_replay.proofs.device_replay.undone.Goals as goal

pub returns-in_err-checked-clause-no_other_refusal : goal.returns-in_err-checked-clause-no_other_refusal
returns-in_err-checked-clause-no_other_refusal c = λ relations counters b held.
    let why = c.in_err-checked.field-0.0 in
    let p = err_from_is_err_and c.from_residual.result c.from_residual.ensures.1 in
    rw (p.1, p.2) (⊎_elim
    (λ (memory : why ≡ NoMemory). memory)
    (λ (bad : (q : ℕ) × (why ≡ BadFormat (8192 + 4096 * q)) × IsFaulty c.args.format c.args.pages.items q). absurd (not_broken c.restart_finds_the_base.ensures c.each_inverse_finds.ensures c.only_own_pages_matter.ensures c.args.format relations counters c.args.pages.items c.args.losers.now b held
    (c.in_err-checked.ensures.bad (8192 + 4096 * bad.0) (ap (λ (w : Refusal). Err w) bad.1))))
    c.in_err-checked.ensures.cause)

pub returns-clause-found : goal.returns-clause-found
returns-clause-found c = λ relations counters b held.
    if_ok (λ restored. HasUndone c.in_ok-checked.checked.pages.items c.args.losers.now restored.pages.items) (λ restored. ShowsBase relations counters restored.pages.items b) c.undo_all.result
    (λ restored undone. shows c.restart_finds_the_base.ensures c.each_inverse_finds.ensures c.only_own_pages_matter.ensures c.args.format relations counters c.args.pages.items c.args.losers.now b held restored.pages.items
    (subst (λ (items : List (List ℕ)). HasUndone items c.args.losers.now restored.pages.items) c.in_ok-checked.ensures.pages undone))
    c.undo_all.ensures.undone

pub returns-clause-no_other_refusal : goal.returns-clause-no_other_refusal
returns-clause-no_other_refusal c = λ relations counters b held.
    only_memory c.undo_all.result c.undo_all.ensures.cause
    (λ at is. not_stopped c.restart_finds_the_base.ensures c.each_inverse_finds.ensures c.only_own_pages_matter.ensures c.args.format relations counters c.args.pages.items c.args.losers.now b held at
    (subst (λ (items : List (List ℕ)). StopsAt items c.args.losers.now at) c.in_ok-checked.ensures.pages (c.undo_all.ensures.bad at is)))

pub returns-clause-undone : goal.returns-clause-undone
returns-clause-undone c =
    let checked = c.in_ok-checked.checked.pages.items in
    if_ok (λ restored. HasUndone checked c.args.losers.now restored.pages.items) (λ restored. AreUndone c.args.format c.args.pages.items c.args.losers.now restored.pages.items) c.undo_all.result
    (λ restored undone. subst (λ (items : List (List ℕ)). AreUndone c.args.format items c.args.losers.now restored.pages.items) c.in_ok-checked.ensures.pages
    (undone_good c.only_own_pages_matter.ensures c.args.format checked c.args.losers.now restored.pages.items c.in_ok-checked.ensures.good undone))
    c.undo_all.ensures.undone

pub returns-clause-cause : goal.returns-clause-cause
returns-clause-cause c =
    undo_cause c.args.format c.args.pages.items c.args.losers.now c.undo_all.result (subst (AreCheckedIn c.args.format) c.in_ok-checked.ensures.pages c.in_ok-checked.ensures.good)
    (λ at is. subst (λ (items : List (List ℕ)). StopsAt items c.args.losers.now at) c.in_ok-checked.ensures.pages (c.undo_all.ensures.bad at is)) c.undo_all.ensures.cause
