use Rattle.std.proofs.Common.{◌∙◌, ◌++◌, flat_map, refl, sym}
use Rattle.lin_sections.specs.Configuring.{table_requests, table_command_warnings}
use Rattle.lin_sections.specs.Statements.{statements}
use Rattle.lin_sections.proofs.StatementSteps.{found-all, found-more, statement-less}
use Rattle.lin_sections.proofs.configuring.add_tables.Goals as goal

pub loop-parser-init : goal.loop-parser-init
loop-parser-init c = record { tables = refl; warned = refl }

pub loop-parser-preserved : goal.loop-parser-preserved
loop-parser-preserved c =
    let h = sym c.has_line.ensures ∙ c.loop-parser-test.true in
    let k = c.args.cluster.now in
    let ids = c.args.identities.now in
    record {
      tables = found-more (table_requests k ids) c.loop-parser.parser c.pass_statement.new.parser c.loop-parser.tables.items c.add_table.new.tables.items (c.args.tables.now.items ++ flat_map (table_requests k ids) (statements c.args.parser.now)) h c.in_ok-pass_statement.ensures c.in_ok-add_table.ensures.tables c.loop-parser.invariant.tables;
      warned = found-more (table_command_warnings k ids) c.loop-parser.parser c.pass_statement.new.parser c.loop-parser.warned.items c.add_table.new.warned.items (c.args.warned.now.items ++ flat_map (table_command_warnings k ids) (statements c.args.parser.now)) h c.in_ok-pass_statement.ensures c.in_ok-add_table.ensures.warned c.loop-parser.invariant.warned;
    }

pub loop-parser-smaller : goal.loop-parser-smaller
loop-parser-smaller c = statement-less c.loop-parser.parser c.pass_statement.new.parser (sym c.has_line.ensures ∙ c.loop-parser-test.true) c.in_ok-pass_statement.ensures

pub returns : goal.returns
returns c =
    let h = sym c.has_line.ensures ∙ c.loop-parser-test.false in
    let k = c.args.cluster.now in
    let ids = c.args.identities.now in
    record {
      tables = found-all (table_requests k ids) c.loop-parser.parser c.loop-parser.tables.items (c.args.tables.now.items ++ flat_map (table_requests k ids) (statements c.args.parser.now)) h c.loop-parser.invariant.tables;
      warned = found-all (table_command_warnings k ids) c.loop-parser.parser c.loop-parser.warned.items (c.args.warned.now.items ++ flat_map (table_command_warnings k ids) (statements c.args.parser.now)) h c.loop-parser.invariant.warned;
    }
