use Rattle.std.proofs.Common.{rules, ◌≡◌, inl, inr, ℕ, Bool, List, refl, sym, subst}
use Rattle.std.proofs.lemmas.Result.{err_from_is_err_and}
use Rattle.mt_frame.specs.declared.records.Record.{Record}
use Rattle.mt_frame.specs.declared.slots.MasterSlot.{MasterSlot}
use Rattle.mt_replay.specs.Marking.{IsMarked}
use Rattle.mt_restart.specs.Beside.{IsBeside}
use Rattle.mt_restart.specs.Found.{AreMarked, CanTurn, IsPrepared}
use Rattle.mt_restart.specs.Turned.{AreImagesOf}
use Rattle.mt_restart.specs.declared.restart_writes.Marks.{Marks}
use Rattle.mt_log.proofs.Calls.{one_outcome}
use Rattle.mt_restart.proofs.Refusals.{not_ok}
use Rattle.mt_restart.proofs.recovery.prepare.Goals as goal

-- the marks of the passes, with the images of the lost pages
marks_are : (c : List ℕ) (ruling : MasterSlot) (items pages : List (List ℕ)) (m : Marks) (marked : List Bool) → pages ≡ items → marked ≡ m.lost.items → (k : IsMarked c ruling items m.imaged.items m.lost.items)
    → AreImagesOf pages marked m.images.items → AreMarked c ruling items k.batches m
marks_are c ruling items pages m marked same lost k images = record {
  rules = k.area.rules;
  held = k.area.held;
  count = k.count;
  imaged = k.imaged_are;
  lost = k.lost_are;
  images = subst (λ (l : List Bool). AreImagesOf items l m.images.items) lost (subst (λ (l : List (List ℕ)). AreImagesOf l marked m.images.items) same images);
}

pub returns-in_err-images : goal.returns-in_err-images
returns-in_err-images c =
    let p = err_from_is_err_and c.from_residual.result c.from_residual.ensures.1 in
    record {
      found = λ bytes marked. not_ok _ c.from_residual.result p.0 p.1;
      ruling = not_ok _ c.from_residual.result p.0 p.1;
      restored = not_ok _ c.from_residual.result p.0 p.1;
      cause = rw (p.1, p.2) (inl c.in_err-images.ensures.only_memory);
    }

pub returns-then-not-can_turn : goal.returns-then-not-can_turn
returns-then-not-can_turn c = record {
  found = λ bytes marked. tt;
  ruling = tt;
  restored = tt;
  cause = let x = c.args.replayed in
      inr (
        refl,
        λ bytes marked.
            let marks : Marks = record { imaged = x.imaged; lost = x.lost; images = c.in_ok-images.images } in
            record {
              batches = marked.batches;
              marks = marks;
              marked = marks_are bytes x.ruling x.restored.pages.items c.deref.result.now marks c.deref-2.result.now c.deref.ensures.value c.deref-2.ensures.value marked c.in_ok-images.ensures.images;
              none = λ can. one_outcome c.can_turn.result (c.can_turn.ensures.1 (subst (λ (l : List Record). CanTurn x.ruling l) (sym c.deref-3.ensures.value) can)) c.if-not-can_turn.true;
            },
      );
}

pub returns-in_err-prepared : goal.returns-in_err-prepared
returns-in_err-prepared c =
    let p = err_from_is_err_and c.from_residual-in_err-prepared.result c.from_residual-in_err-prepared.ensures.1 in
    record {
      found = λ bytes marked. not_ok _ c.from_residual-in_err-prepared.result p.0 p.1;
      ruling = not_ok _ c.from_residual-in_err-prepared.result p.0 p.1;
      restored = not_ok _ c.from_residual-in_err-prepared.result p.0 p.1;
      cause = rw (p.1, p.2) (inl c.in_err-prepared.ensures.only_memory);
    }

pub returns-in_err-beside : goal.returns-in_err-beside
returns-in_err-beside c =
    let p = err_from_is_err_and c.from_residual-in_err-beside.result c.from_residual-in_err-beside.ensures.1 in
    record {
      found = λ bytes marked. not_ok _ c.from_residual-in_err-beside.result p.0 p.1;
      ruling = not_ok _ c.from_residual-in_err-beside.result p.0 p.1;
      restored = not_ok _ c.from_residual-in_err-beside.result p.0 p.1;
      cause = rw (p.1, p.2) (inl c.in_err-beside.ensures.only_memory);
    }

pub returns : goal.returns
returns c = record {
  found = λ bytes marked.
      let x = c.args.replayed in
      record {
        batches = marked.batches;
        marked = marks_are bytes x.ruling x.restored.pages.items c.deref.result.now (record { imaged = x.imaged; lost = x.lost; images = c.in_ok-images.images }) c.deref-2.result.now c.deref.ensures.value c.deref-2.ensures.value marked c.in_ok-images.ensures.images;
        turns = subst (CanTurn x.ruling) c.deref-3.ensures.value (c.can_turn.ensures.0 c.if-not-can_turn.false);
        checked = c.requires.checked;
        prepared = subst (λ (l : List Record). IsPrepared x.ruling l c.in_ok-prepared.prepared) c.deref-4.ensures.value c.in_ok-prepared.ensures.prepared;
        beside = subst (λ (l : List (List ℕ)). IsBeside l c.args.frames c.in_ok-beside.beside) c.deref-5.ensures.value c.in_ok-beside.ensures.beside;
      };
  ruling = search rules;
  restored = search rules;
  cause = search rules;
}
