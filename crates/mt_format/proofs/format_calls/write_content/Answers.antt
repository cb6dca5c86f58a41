use Rattle.std.proofs.Common.{rules, inl, refl, sym, subst, arith}
use Rattle.mt_log.proofs.Calls.{if_ok}
use Rattle.mt_format.proofs.Formed.{pages_kept}
use Rattle.mt_format.specs.Formats.{HasFirstPages}
use Rattle.mt_format.proofs.format_calls.write_content.Goals as goal

pub returns : goal.returns
returns g c = record {
  pages = let seen = g.D.Device.seen in
      let s = c.args.schema.now in
      let start = c.of-area.ensures.first refl in
      if_ok c.sync.result (subst (HasFirstPages s) (sym c.sync.ensures.seen)
      (pages_kept s c.of-area.result.start 6 (seen c.write_pages.new.device) (seen c.write_at.new.self) c.in_ok-write_at.ensures.rest (inl (omega (arith, start))) c.in_ok-write_pages.ensures.pages));
  area = search rules;
  durable = search rules;
  moments = search rules;
  tears = search rules;
  cause = search rules;
}
