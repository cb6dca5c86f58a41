-- What follows of a step of a flush, in the words of callers.
use Rattle.std.proofs.Common.{◌≡◌, ℕ, Result, Ok, Err, ap, subst}
use Rattle.mt_disk.specs.declared.device.DeviceFault.{DeviceFault}
use Rattle.mt_pool.specs.FlushSteps.{FlushSteps, HasFlushed}
use Rattle.mt_pool.specs.Views.{Cleans}
use Rattle.mt_pool.specs.declared.flushes.Flushed.{Flushed}
use Rattle.mt_pool.specs.declared.flushes.Flushed.TheVariants.{Page, Force, Clean}
use Rattle.mt_pool.specs.declared.pool.Pool.{Pool}

-- the page that is written
abbrev page_of : Result Flushed DeviceFault → ℕ
page_of (Ok (Page p)) = p
page_of (Ok Force) = 0
page_of (Ok Clean) = 0
page_of (Err e) = 0

pub flushed : (durable : ℕ) (old new : Pool) (r : Result Flushed DeviceFault) → FlushSteps durable old new r → HasFlushed durable old new r
flushed durable old new (Ok (Page q)) f =
    let cleans : (p : ℕ) → Ok (Page q) ≡ Ok (Page p) → Cleans old new durable p = λ p is. subst (Cleans old new durable) (ap page_of is) f.cleans in
    record {
      waits = f.waits;
      there = f.there;
      page = λ p is. (cleans p is).1.waited;
      written = cleans;
      fewer = λ p is. f.fewer;
      barred = λ is. absurd (cc);
      same = λ is. absurd (cc);
      nothing = λ is. absurd (cc);
      fault = λ is. absurd (cc);
    }
flushed durable old new (Ok Force) f = record {
  waits = ap (λ (x : Pool). x.waits) f.1;
  there = ap (λ (x : Pool). x.of_page) f.1;
  page = λ p is. absurd (cc);
  written = λ p is. absurd (cc);
  fewer = λ p is. absurd (cc);
  barred = λ is. f.0;
  same = λ is. f.1;
  nothing = λ is. absurd (cc);
  fault = λ is. absurd (cc);
}
flushed durable old new (Ok Clean) f = record {
  waits = f.waits;
  there = f.there;
  page = λ p is. absurd (cc);
  written = λ p is. absurd (cc);
  fewer = λ p is. absurd (cc);
  barred = λ is. absurd (cc);
  same = λ is. absurd (cc);
  nothing = λ is. f.none;
  fault = λ is. absurd (cc);
}
flushed durable old new (Err e) f = record {
  waits = ap (λ (x : Pool). x.waits) f;
  there = ap (λ (x : Pool). x.of_page) f;
  page = λ p is. absurd (cc);
  written = λ p is. absurd (cc);
  fewer = λ p is. absurd (cc);
  barred = λ is. absurd (cc);
  same = λ is. absurd (cc);
  nothing = λ is. absurd (cc);
  fault = λ is. f;
}
