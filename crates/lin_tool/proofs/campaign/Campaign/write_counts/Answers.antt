use Rattle.std.proofs.Common.{◌∙◌, rules, sym}
use Rattle.lin_text.specs.Written.{WritesText}
use Rattle.lin_text.proofs.Growing.{grows-more, text-written}
use Rattle.lin_tool.specs.campaign.Steps.{counts_text}
use Rattle.lin_tool.proofs.campaign.Campaign.write_counts.Goals as goal

pub returns : goal.returns
returns g c = λ named are rows.
    let worst = c.in_ok-faults.ensures c.args.table.now.judgements.now named are rows ∙ sym c.as_slice.ensures.value in
    let put = grows-more (c.put_lines.ensures named are) (c.put_numbers.ensures c.args.table.now.judgements.now named are worst) in
    let same = sym (put.same ∙ c.new-out.ensures.same) in
    let written = text-written c.new-out.ensures put c.finish.ensures in
    let there : WritesText (g.E.Write.contents c.args.errors.now) (g.E.Write.contents c.errors-1.given.0) c.finish.result (counts_text c.args.self.now c.args.table.now c.args.cluster.now named) =
    search rules in
    (c.finish.result, there)
