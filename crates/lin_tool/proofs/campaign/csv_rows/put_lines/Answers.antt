use Rattle.std.proofs.Common.{◌+◌, arith, drop, map}
use Rattle.std.specs.Prelude.{codes}
use Rattle.std.specs.Fmt.{decimal}
use Rattle.lin_tool.specs.Separated.{with_separators}
use Rattle.lin_tool.proofs.CampaignTexts.{at-item, marked-end, marked-next}
use Rattle.lin_tool.proofs.Remaining.{none-put, put-more, put-whole, same-rest}
use Rattle.lin_tool.proofs.campaign.csv_rows.put_lines.Goals as goal

pub loop-line-init : goal.loop-line-init
loop-line-init g c = none-put c.args.out.now _

pub loop-line-preserved : goal.loop-line-preserved
loop-line-preserved g c =
    let f = decimal in
    let xs = c.args.lines.now in
    let i = c.loop-line.line-index in
    let other = codes ";" in
    let rest = with_separators other other (map f (drop (i + 1) xs)) in
    put-more rest (put-more _ (same-rest (marked-next f c.loop-line.mark.now other xs i _ (at-item xs i _ (omega arith))) c.loop-line.invariant) c.put.ensures) c.put_number.ensures

pub returns : goal.returns
returns g c =
    put-whole (same-rest (marked-end (decimal) c.loop-line.mark.now (codes ";") c.args.lines.now c.loop-line.line-index (omega arith)) c.loop-line.invariant)
