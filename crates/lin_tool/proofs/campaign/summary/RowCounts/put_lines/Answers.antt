use Rattle.std.proofs.Common.{◌≡◌, ◌∙◌, ap, arith, flat_map, length}
use Rattle.std.specs.Prelude.{filter}
use Rattle.lin_frame.specs.Words.{numbers}
use Rattle.lin_text.proofs.Growing.{grows-more, grows-nothing, same-growth}
use Rattle.lin_tool.specs.campaign.Summary.{RowCountsData, is_counted, line_count_text, rows_of}
use Rattle.lin_tool.proofs.CampaignCounts.{all-lines, texts-next}
use Rattle.lin_tool.proofs.campaign.summary.RowCounts.put_lines.Goals as goal

pub loop-line-init : goal.loop-line-init
loop-line-init g c = λ rows h. grows-nothing c.args.out.now

pub loop-line-preserved : goal.loop-line-preserved
loop-line-preserved g c = λ rows h.
    let f = line_count_text c.args.script.name.now c.args.script.cluster.now c.args.script.judgements.now (rows_of rows) in
    same-growth (texts-next f (is_counted c.args.script.judgements.now (rows_of rows)) c.loop-line.line) (grows-more (c.loop-line.invariant rows h) (c.put_if_counted.ensures rows h))

pub returns : goal.returns
returns g c = λ rows h.
    let f = line_count_text c.args.script.name.now c.args.script.cluster.now c.args.script.judgements.now (rows_of rows) in
    let p = is_counted c.args.script.judgements.now (rows_of rows) in
    let end : c.loop-line.line ≡ length c.args.self.now.lines = let same = ap (λ (a : RowCountsData). length a.lines) c.self.view_is in omega (arith, same) in
    same-growth (ap (λ n. flat_map f (filter p (numbers n))) end ∙ ap (flat_map f) (all-lines c.args.script.judgements.now (rows_of rows) c.args.self.now.lines h.lines)) (c.loop-line.invariant rows h)
