-- Scripts that were served at once, to a device and to a file.
use Rattle.std.proofs.Common.{◌≡◌, ◌∙◌, ◌<◌, ◌≤◌, ℕ, List, Bool, true, false, Option, Result, Ok, Err, refl, sym, subst, arith}
use Rattle.std.specs.Io.KnownBytes.{Appends}
use Rattle.std.specs.Result.{IfErr, OnErr, OnOk}
use Rattle.mt_disk.specs.declared.device.Device.{Ghosts}
use Rattle.mt_folder.proofs.FolderLemmas.{kept_then, put_then}
use Rattle.mt_folder.specs.Folders.{AreKept, Files, IsFileRefusal, IsHeld, IsLent, Puts}
use Rattle.mt_model.specs.Model.{Base}
use Rattle.mt_model.specs.Views.{base_of}
use Rattle.mt_model.specs.declared.history.Committed.{Committed}
use Rattle.mt_script.specs.Answers.{AppendsFront}
use Rattle.mt_script.specs.declared.answers.Answer.{Answer}
use Rattle.mt_script.specs.declared.lines.Line.{Line}
use Rattle.mt_server.specs.Heard.{AreAllReported, IsEnd, ends, fails}
use Rattle.mt_server.specs.Serves.{IsServedOn}
use Rattle.mt_txn.specs.Restarted.{FindsCommits}
use Rattle.mt_txn.specs.Shown.{Restarts, is_failed}
use Rattle.mt_txn.specs.Turned.{HasNobody}
use Rattle.mt_txn.specs.declared.kernel.Kernel.{Kernel}
use Rattle.mt_model.specs.Backwards.{OpenCalls}
use Rattle.mt_alone.proofs.LeftLemmas.{stands_more}
use Rattle.mt_restart.proofs.Living.{stands_book}
use Rattle.mt_device_commands.proofs.HeldLemmas.{held_before}
use Rattle.mt_cli.proofs.ServeLemmas.{put_back}
use Rattle.mt_cli.specs.Serves.{AreServedAtOnce, AreServedAtOnceIn, AreServedBy, AreUnservedBy, IsServedAtOnce, IsServedIn, IsUnservedAtOnce, IsUnservedIn, failed_at_once, let_go, no_device_at_once, too_many_at_once, unheard_at_once, IsEndOf, texts_in_order}
use Rattle.mt_report.specs.declared.faults.Fault.{Fault}

-- ---- the kernel

-- transcripts that are so reported are so where the device may have failed
end_anyway : (failed : Bool) (u : Option OpenCalls) (rest : List Line) (last : List Answer) → IsEnd failed u rest last → IsEnd true u rest last
end_anyway failed u _ _ ends = ends
end_anyway failed u _ _ (fails rest has) = fails rest refl

reported_anyway : (failed : Bool) (scripts : List (List Line)) (texts : List (List ℕ)) (book : List Committed) → AreAllReported failed scripts texts book → AreAllReported true scripts texts book
reported_anyway failed scripts texts book x = record {
  count = x.count;
  booked = x.booked;
  each = λ i lines lt is.
      let t = x.each i lines lt is in
      record {
        before = t.before;
        rest = t.rest;
        lines_are = t.lines_are;
        answers = t.answers;
        last = t.last;
        open_then = t.open_then;
        hears = t.hears;
        end = end_anyway failed t.open_then t.rest t.last t.end;
        text_is = t.text_is;
        stands = t.stands;
        highest = t.highest;
        rises = t.rises;
      };
  many = x.many;
  whole = x.whole;
}

module _ {D : Type 0} {g : Ghosts D} where
  -- it is so of a kernel that is or is not cut off
  pub served_at_once : (c : List ℕ) (scripts : List (List Line)) (texts : List (List ℕ)) (n : Kernel D g) (d : List ℕ) → IsServedOn c n → AreAllReported (is_failed n) scripts texts n.core.book.items
      → ((first : Base) → Restarts first n → ∥ FindsCommits n.relations n.counters first n.core d ∥₁) → (cut : Bool) → (cut ≡ false → HasNobody n × (is_failed n ≡ false)) → AreServedAtOnce cut c scripts texts d
  served_at_once c scripts texts n d x outcome finds false rests = record {
    first = x.first;
    is = x.is;
    book = n.core.book.items;
    legal = x.legal;
    outcome = subst (λ (f : Bool). AreAllReported f scripts texts n.core.book.items) (rests refl).1 outcome;
    relations = n.relations;
    counters = n.counters;
    stands = stands_book (base_of x.first) n d (rests refl).0 x.began.1 (finds (base_of x.first) x.began.1);
  }
  served_at_once c scripts texts n d x outcome finds true rests = record {
    first = x.first;
    is = x.is;
    book = n.core.book.items;
    legal = x.legal;
    outcome = reported_anyway (is_failed n) scripts texts n.core.book.items outcome;
    relations = n.relations;
    counters = n.counters;
    stands = stands_more (base_of x.first) n d (finds (base_of x.first) x.began.1);
  }

-- ---- the file

module _ (old mid new : Files) (file before behind : List ℕ) (scripts : List (List Line)) (texts : List (List ℕ)) (held : IsHeld old file before) (lent : IsLent old mid file) (put : Puts mid new file behind) where
  -- the device is back in its file
  back_in : (failed : Bool) → AreServedAtOnce failed before scripts texts behind → AreServedAtOnceIn failed old new file scripts texts
  back_in failed served = record { before = before; behind = behind; held = held; put = put_back old mid new file behind lent put; served = served }

  pub reported_at_once : (failed : Bool) (was now : Option (List ℕ)) (r : Result (Unit {0}) Fault) → AreServedAtOnce failed before scripts texts behind → OnOk r ((failed ≡ false) × Appends was now (texts_in_order texts))
      → OnOk r (IsServedAtOnce old new file scripts was now)
  reported_at_once failed was now (Ok u) served (whole, outcome) = record { texts = texts; served = subst (λ (f : Bool). AreServedAtOnceIn f old new file scripts texts) whole (back_in failed served); outcome = outcome }
  reported_at_once failed was now (Err fault) served outcome = tt

  pub unreported_at_once : (failed : Bool) (was now : Option (List ℕ)) (r : Result (Unit {0}) Fault) → AreServedAtOnce failed before scripts texts behind → OnErr r (AppendsFront was now (texts_in_order texts)) → IfErr r (IsEndOf failed)
      → IfErr r (IsUnservedAtOnce old new file scripts was now)
  unreported_at_once failed was now (Ok u) served front why = tt
  unreported_at_once false was now (Err fault) served front why = subst (IsUnservedAtOnce old new file scripts was now) (sym why) (unheard_at_once texts (back_in false served) front)
  unreported_at_once true was now (Err fault) served front why = subst (IsUnservedAtOnce old new file scripts was now) (sym why) (failed_at_once texts (back_in true served) front)

-- ---- after reads that left each file as it was

lent_then : (old mid new : Files) (name : List ℕ) → AreKept old mid → IsLent mid new name → IsLent old new name
lent_then old mid new name kept lent = record { outcome = lent.outcome ∙ kept.outcome; there = lent.there; others = λ other apart. lent.others other apart ∙ kept.all other }

in_then : (old mid new : Files) (file : List ℕ) (scripts : List (List Line)) (texts : List (List ℕ)) → AreKept old mid → (failed : Bool)
    → AreServedAtOnceIn failed mid new file scripts texts → AreServedAtOnceIn failed old new file scripts texts
in_then old mid new file scripts texts kept failed x = record { before = x.before; behind = x.behind; held = held_before old mid file x.before kept x.held; put = put_then old mid new file x.behind kept x.put; served = x.served }

pub at_once_then : (old mid new : Files) (file : List ℕ) (scripts : List (List Line)) (was now : Option (List ℕ)) → AreKept old mid → IsServedAtOnce mid new file scripts was now → IsServedAtOnce old new file scripts was now
at_once_then old mid new file scripts was now kept x = record { texts = x.texts; served = in_then old mid new file scripts x.texts kept false x.served; outcome = x.outcome }

pub not_at_once_then : (old mid new : Files) (file : List ℕ) (scripts : List (List Line)) (was now : Option (List ℕ)) (fault : Fault) → AreKept old mid → IsUnservedAtOnce mid new file scripts was now fault
    → IsUnservedAtOnce old new file scripts was now fault
not_at_once_then old mid new file scripts was now _ kept (no_device_at_once why cause still keeps) =
    no_device_at_once why (subst (λ (o : Option (List ℕ)). IsFileRefusal o why) (kept.all file) cause) (kept_then old mid new kept still) keeps
not_at_once_then old mid new file scripts was now _ kept (too_many_at_once many still keeps) = too_many_at_once many (kept_then old mid new kept still) keeps
not_at_once_then old mid new file scripts was now _ kept (let_go before why held cause lent keeps) = let_go before why (held_before old mid file before kept held) cause (lent_then old mid new file kept lent) keeps
not_at_once_then old mid new file scripts was now _ kept (unheard_at_once texts x front) = unheard_at_once texts (in_then old mid new file scripts texts kept false x) front
not_at_once_then old mid new file scripts was now _ kept (failed_at_once texts x front) = failed_at_once texts (in_then old mid new file scripts texts kept true x) front

-- ---- so many workers

module _ (stop : Bool) (workers : ℕ) (old new : Files) (file : List ℕ) (scripts : List (List Line)) (was now : Option (List ℕ)) where
  pub by_several : 1 < workers → IsServedAtOnce old new file scripts was now → AreServedBy stop workers old new file scripts was now
  by_several several x = (λ one. absurd (omega (arith, one, several)), λ u. x)

  pub by_one : workers ≤ 1 → IsServedIn stop old new file scripts was now → AreServedBy stop workers old new file scripts was now
  by_one one x = (λ u. x, λ several. absurd (omega (arith, one, several)))

  pub not_by_several : (fault : Fault) → 1 < workers → IsUnservedAtOnce old new file scripts was now fault → AreUnservedBy stop workers old new file scripts was now fault
  not_by_several fault several x = (λ one. absurd (omega (arith, one, several)), λ u. x)

  pub not_by_one : (fault : Fault) → workers ≤ 1 → IsUnservedIn stop old new file scripts was now fault → AreUnservedBy stop workers old new file scripts was now fault
  not_by_one fault one x = (λ u. x, λ several. absurd (omega (arith, one, several)))
