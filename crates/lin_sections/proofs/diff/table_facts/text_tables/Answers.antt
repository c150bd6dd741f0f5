use Rattle.std.proofs.Common.{◌∙◌, List, [], cond, flat_map, ap, sym}
use Rattle.lin_ldf.specs.Stream.{start_of}
use Rattle.lin_ldf.specs.Symbols.{symbols_in}
use Rattle.lin_sections.specs.Statements.{statements}
use Rattle.lin_sections.specs.Things.{section_tables}
use Rattle.lin_sections.specs.declared.diff.table_facts.TableLines.{TableLines}
use Rattle.lin_sections.proofs.StatementSteps.{found-more, found-all, statement-less}
use Rattle.lin_sections.proofs.diff.table_facts.text_tables.Goals as goal

pub loop-parser-preserved : goal.loop-parser-preserved
loop-parser-preserved c =
    found-more section_tables c.loop-parser.parser c.pass_statement.new.parser c.loop-parser.tables.items c.add_section.new.tables.items
    (flat_map section_tables (statements (symbols_in c.args.source.now (start_of c.args.source.now).tokens)))
    (sym c.has_line.ensures ∙ c.loop-parser-test.true) c.in_ok-pass_statement.ensures c.in_ok-add_section.ensures c.loop-parser.invariant

pub loop-parser-smaller : goal.loop-parser-smaller
loop-parser-smaller c =
    statement-less c.loop-parser.parser c.pass_statement.new.parser (sym c.has_line.ensures ∙ c.loop-parser-test.true) c.in_ok-pass_statement.ensures

pub returns : goal.returns
returns c =
    let all : List TableLines = flat_map section_tables (statements (symbols_in c.args.source.now (start_of c.args.source.now).tokens)) in
    found-all section_tables c.loop-parser.parser c.loop-parser.tables.items all (sym c.has_line.ensures ∙ c.loop-parser-test.false) c.loop-parser.invariant
    ∙ ap (λ b. cond b all []) (sym (sym c.has_commands.ensures ∙ c.if-not-has_commands.false))
