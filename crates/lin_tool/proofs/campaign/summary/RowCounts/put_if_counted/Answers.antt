use Rattle.std.proofs.Common.{◌∙◌, ◌||◌, [], ap, arith, if◌then◌else◌, length, ltb, subst, sym}
use Rattle.lin_text.proofs.Growing.{grows-nothing, same-growth}
use Rattle.lin_tool.specs.campaign.Summary.{RowCountsData, IsCountOf, line_count_text, rows_of}
use Rattle.lin_tool.proofs.CampaignCounts.{counted-is, line-there}
use Rattle.lin_tool.proofs.campaign.summary.RowCounts.put_if_counted.Goals as goal

pub returns-then-either : goal.returns-then-either
returns-then-either g c = λ rows h.
    let js = c.args.script.judgements.now in
    let n = c.args.line in
    let one = c.index.result.now in
    let rs = rows_of rows in
    let lines = ap (λ (a : RowCountsData). a.lines) c.self.view_is in
    let there = line-there c.self.inside.lines.items c.args.self.now.lines n one c.index.ensures (let many = ap length lines in omega (arith, many)) lines in
    let is = subst (λ l. IsCountOf js rs n l) (sym there) (h.lines n) in
    let counted = sym (counted-is js rs n one is) ∙ ap (λ b. b || ltb 0 one.broken) (sym c.is_some.ensures) ∙ sym c.either.ensures ∙ c.if-either.true in
    same-growth (ap (λ b. if b then line_count_text c.args.script.name.now c.args.script.cluster.now js rs n else []) (sym counted)) (c.put_count.ensures rs is h.rows_are)

pub returns-else-either : goal.returns-else-either
returns-else-either g c = λ rows h.
    let js = c.args.script.judgements.now in
    let n = c.args.line in
    let one = c.index.result.now in
    let rs = rows_of rows in
    let lines = ap (λ (a : RowCountsData). a.lines) c.self.view_is in
    let there = line-there c.self.inside.lines.items c.args.self.now.lines n one c.index.ensures (let many = ap length lines in omega (arith, many)) lines in
    let is = subst (λ l. IsCountOf js rs n l) (sym there) (h.lines n) in
    let counted = sym (counted-is js rs n one is) ∙ ap (λ b. b || ltb 0 one.broken) (sym c.is_some.ensures) ∙ sym c.either.ensures ∙ c.if-either.false in
    same-growth (ap (λ b. if b then line_count_text c.args.script.name.now c.args.script.cluster.now js rs n else []) (sym counted)) (grows-nothing c.args.out.now)
