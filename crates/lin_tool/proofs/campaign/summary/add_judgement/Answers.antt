use Rattle.std.proofs.Common.{subst, sym}
use Rattle.std.proofs.lemmas.List.Elements.{All-set}
use Rattle.lin_tool.specs.campaign.Summary.{IsLineCount}
use Rattle.lin_tool.proofs.campaign.summary.add_judgement.Goals as goal

pub returns-clause-counts : goal.returns-clause-counts
returns-clause-counts c = λ rows h.
    let one = c.index-one.result.now in
    let all = c.add_lines.ensures.counts rows h in
    All-set (IsLineCount rows) c.add_lines.new.lines.items c.args.line (record { judgement = c.or.result; broken = one.broken; last = one.last })
    (subst (λ l. IsLineCount rows l) (sym c.index-one.ensures) (all c.args.line one c.in_ok-add_lines.ensures.there)) all
