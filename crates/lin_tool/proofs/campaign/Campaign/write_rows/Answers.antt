use Rattle.std.proofs.Common.{◌≡◌, ◌∙◌, ◌+◌, ◌<◌, max, arith, refl, subst, sym, Err, Ok}
use Rattle.std.proofs.KnownBytes.{Keeps-refl, Keeps-trans}
use Rattle.std.proofs.lemmas.Result.{err_from_is_err_and}
use Rattle.lin_tool.specs.campaign.Steps.{SaysLines, WritesRow, end_part_row, first_disturbed, first_part_row}
use Rattle.lin_tool.proofs.CampaignEnds.{rows-broke, rows-written, wrote-more, wrote-none}
use Rattle.lin_tool.proofs.campaign.Campaign.write_rows.Goals as goal

pub loop-number-init : goal.loop-number-init
loop-number-init g c =
    let t = c.args.table.now in
    let first : first_disturbed (first_part_row t) ≡ c.first_disturbed-number.result = omega (arith, c.first_disturbed-number.ensures, c.bounds-from.ensures.first) in
    record {
      same = refl;
      rows = omega (arith, first, c.requires.none);
      few = omega (arith, first);
      quiet = λ so. Keeps-refl (g.E.Write.contents c.args.errors.now);
      wrote = λ ls says. wrote-none c.args.self.now t c.args.cluster ls c.first_disturbed-number.result c.args.counts.now (g.W.Write.contents c.args.writer.now) first;
    }

pub returns-in_err-handed-clause-writes : goal.returns-in_err-handed-clause-writes
returns-in_err-handed-clause-writes g c = λ ls says.
    let on = c.args.self.now in
    let t = c.args.table.now in
    let inv = c.loop-number.invariant in
    let now = g.W.Write.contents c.loop-number.writer in
    let new = g.W.Write.contents c.one_row.new.writer in
    let there : c.loop-number.number < end_part_row t = omega (arith, c.bounds-from.ensures.end) in
    let row = c.in_err-handed.ensures.writes ls (subst (λ x. SaysLines on x ls) (sym inv.same) says) in
    let p = err_from_is_err_and c.from_residual.result c.from_residual.ensures.1 in
    rw (p.1, p.2)
    (rows-broke on t c.args.cluster ls c.loop-number.number c.in_err-handed.field-0.0 c.args.counts.now c.loop-number.counts c.one_row.new.counts (g.W.Write.contents c.args.writer.now) now new there
    (inv.wrote ls says) (subst (λ x. WritesRow on t x ls c.loop-number.number (Err c.in_err-handed.field-0.0) c.loop-number.counts c.one_row.new.counts now new) inv.same row))

pub loop-number-preserved : goal.loop-number-preserved
loop-number-preserved g c =
    let on = c.args.self.now in
    let t = c.args.table.now in
    let inv = c.loop-number.invariant in
    let now = g.W.Write.contents c.loop-number.writer in
    let new = g.W.Write.contents c.one_row.new.writer in
    let counted = rw c.in_ok-handed.was at c.one_row.ensures.rows in
    record {
      same = c.in_ok-handed.ensures.same ∙ inv.same;
      rows = omega (arith, counted, inv.rows);
      few = omega (arith, c.bounds-from.ensures.end);
      quiet = λ so. Keeps-trans (g.E.Write.contents c.args.errors.now) (g.E.Write.contents c.loop-number.errors) (g.E.Write.contents c.watch.new.errors) (inv.quiet so) (c.watch.ensures so);
      wrote = λ ls says.
          let row = rw c.in_ok-handed.was at (c.one_row.ensures.writes ls (subst (λ x. SaysLines on x ls) (sym inv.same) says)) in
          wrote-more on t c.args.cluster c.in_ok-handed.handed ls c.loop-number.number (c.loop-number.number + 1) c.args.counts.now c.loop-number.counts c.one_row.new.counts
          (g.W.Write.contents c.args.writer.now) now new refl (inv.wrote ls says)
          (subst (λ x. WritesRow on t x ls c.loop-number.number (Ok c.in_ok-handed.handed) c.loop-number.counts c.one_row.new.counts now new) inv.same row);
    }

pub returns-clause-writes : goal.returns-clause-writes
returns-clause-writes g c = λ ls says.
    let t = c.args.table.now in
    let inv = c.loop-number.invariant in
    let end : c.loop-number.number ≡ max (end_part_row t) (first_disturbed (first_part_row t)) = omega (arith, inv.few, inv.rows, c.bounds-from.ensures.end, c.bounds-from.ensures.first, c.first_disturbed-number.ensures) in
    rows-written c.args.self.now t c.args.cluster c.loop-number.handed ls c.loop-number.number c.args.counts.now c.loop-number.counts (g.W.Write.contents c.args.writer.now)
    (g.W.Write.contents c.loop-number.writer) end (inv.wrote ls says)
