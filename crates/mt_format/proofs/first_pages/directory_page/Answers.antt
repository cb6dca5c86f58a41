use Rattle.std.proofs.Common.{◌≡◌, ◌∙◌, ◌≤◌, ◌+◌, ◌*◌, ◌^◌, ℕ, get_or, ap, subst, min, arith}
use Rattle.mt_index.specs.Pages.{depth_in}
use Rattle.mt_format.proofs.Zeros.{zero_at}
use Rattle.mt_format.proofs.first_pages.directory_page.Goals as goal

pub returns : goal.returns
returns c =
    let page = c.put_u16.new.page in
    let torn = c.put_u16.ensures.rest in
    let first : get_or page 0 0 ≡ 0 = torn.below 0 (omega arith) ∙ zero_at 4096 0 in
    let no_bits : depth_in page ≡ 0 = ap (λ (n : ℕ). min n 9) first in
    record {
      formed = record {
        size = torn.size;
        shallow = omega (arith, first);
        zeros = λ i from to. torn.below i to ∙ zero_at 4096 i;
        rest = λ i behind. torn.above i (subst (λ (n : ℕ). 8 + 2 * 2 ^ n ≤ i) no_bits behind) ∙ zero_at 4096 i;
      };
      no_bits = no_bits;
      pointer = c.put_u16.ensures.number;
    }
