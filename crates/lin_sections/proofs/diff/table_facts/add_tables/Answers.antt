use Rattle.std.proofs.Common.{◌∙◌, ◌++◌, flat_map, sym}
use Rattle.lin_sections.specs.Statements.{statements}
use Rattle.lin_sections.specs.Things.{named_lines}
use Rattle.lin_sections.proofs.StatementSteps.{found-more, found-all, statement-less}
use Rattle.lin_sections.proofs.diff.table_facts.add_tables.Goals as goal

pub loop-parser-preserved : goal.loop-parser-preserved
loop-parser-preserved c =
    found-more named_lines c.loop-parser.parser c.pass_statement.new.parser c.loop-parser.tables.items c.add_table.new.tables.items
    (c.args.tables.now.items ++ flat_map named_lines (statements c.args.parser.now))
    (sym c.has_line.ensures ∙ c.loop-parser-test.true) c.in_ok-pass_statement.ensures c.in_ok-add_table.ensures c.loop-parser.invariant

pub loop-parser-smaller : goal.loop-parser-smaller
loop-parser-smaller c =
    statement-less c.loop-parser.parser c.pass_statement.new.parser (sym c.has_line.ensures ∙ c.loop-parser-test.true) c.in_ok-pass_statement.ensures

pub returns : goal.returns
returns c =
    found-all named_lines c.loop-parser.parser c.loop-parser.tables.items
    (c.args.tables.now.items ++ flat_map named_lines (statements c.args.parser.now))
    (sym c.has_line.ensures ∙ c.loop-parser-test.false) c.loop-parser.invariant
