use Rattle.std.proofs.Common.{subst, sym}
use Rattle.std.proofs.lemmas.List.Elements.{All-set}
use Rattle.lin_tool.specs.campaign.Summary.{IsLineCount}
use Rattle.lin_tool.proofs.campaign.summary.count_line.Goals as goal

pub returns-in_err-add_lines-clause-counts : goal.returns-in_err-add_lines-clause-counts
returns-in_err-add_lines-clause-counts c = c.add_lines.ensures.counts c.args.row c.requires

pub counted-requires : goal.counted-requires
counted-requires c =
    subst (λ l. IsLineCount c.args.row l) (sym c.index-one.ensures) (c.add_lines.ensures.counts c.args.row c.requires c.args.line c.index-one.result.now c.in_ok-add_lines.ensures.there)

pub returns-clause-counts : goal.returns-clause-counts
returns-clause-counts c =
    All-set (IsLineCount c.args.row) c.add_lines.new.lines.items c.args.line c.counted.result c.counted.ensures.count (c.add_lines.ensures.counts c.args.row c.requires)
