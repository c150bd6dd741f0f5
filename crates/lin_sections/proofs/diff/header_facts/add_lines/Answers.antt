use Rattle.std.proofs.Common.{List, [], ◌∷◌, cond, map}
use Rattle.std.specs.Prelude.{filter}
use Rattle.lin_ldf.specs.Symbols.{Symbol}
use Rattle.lin_sections.specs.Things.{is_other_line, line_fact}
use Rattle.lin_sections.proofs.FactSteps.{added-more, kept-mapped}
use Rattle.lin_sections.proofs.diff.header_facts.add_lines.Goals as goal

pub loop-line-preserved : goal.loop-line-preserved
loop-line-preserved c =
    added-more (λ (ls : List (List Symbol)). map line_fact (filter is_other_line ls)) (λ (l : List Symbol). cond (is_other_line l) (line_fact l ∷ []) [])
    c.args.lines.now c.loop-line.line-index c.line-item.result c.args.facts.now.items c.loop-line.facts.items c.add_line.new.facts.items
    (kept-mapped line_fact is_other_line c.args.lines.now c.loop-line.line-index c.line-item.result c.loop-line-test.true)
    c.line-item.is c.loop-line.invariant c.in_ok-add_line.ensures
