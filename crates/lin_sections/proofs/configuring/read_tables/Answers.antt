use Rattle.std.proofs.Common.{◌∙◌, ◌++◌, flat_map, sym}
use Rattle.lin_ldf.specs.Stream.{start_of}
use Rattle.lin_ldf.specs.Symbols.{symbols_in}
use Rattle.lin_sections.specs.Configuring.{section_requests, section_warnings}
use Rattle.lin_sections.specs.Statements.{statements}
use Rattle.lin_sections.proofs.StatementSteps.{found-all, found-more, statement-less}
use Rattle.lin_sections.proofs.configuring.read_tables.Goals as goal

pub loop-parser-preserved : goal.loop-parser-preserved
loop-parser-preserved c =
    let h = sym c.has_line.ensures ∙ c.loop-parser-test.true in
    let k = c.args.cluster.now in
    let ids = c.args.identities.now in
    let all = statements (symbols_in c.args.source.now (start_of c.args.source.now).tokens) in
    record {
      tables = found-more (section_requests k ids) c.loop-parser.parser c.pass_statement.new.parser c.loop-parser.tables.items c.add_section.new.tables.items (flat_map (section_requests k ids) all) h c.in_ok-pass_statement.ensures c.in_ok-add_section.ensures.tables c.loop-parser.invariant.tables;
      warned = found-more (section_warnings k ids) c.loop-parser.parser c.pass_statement.new.parser c.loop-parser.warned.items c.add_section.new.warned.items (c.args.warned.now.items ++ flat_map (section_warnings k ids) all) h c.in_ok-pass_statement.ensures c.in_ok-add_section.ensures.warned c.loop-parser.invariant.warned;
    }

pub loop-parser-smaller : goal.loop-parser-smaller
loop-parser-smaller c = statement-less c.loop-parser.parser c.pass_statement.new.parser (sym c.has_line.ensures ∙ c.loop-parser-test.true) c.in_ok-pass_statement.ensures

pub returns : goal.returns
returns c =
    let h = sym c.has_line.ensures ∙ c.loop-parser-test.false in
    let k = c.args.cluster.now in
    let ids = c.args.identities.now in
    let all = statements (symbols_in c.args.source.now (start_of c.args.source.now).tokens) in
    record {
      tables = found-all (section_requests k ids) c.loop-parser.parser c.loop-parser.tables.items (flat_map (section_requests k ids) all) h c.loop-parser.invariant.tables;
      warned = found-all (section_warnings k ids) c.loop-parser.parser c.loop-parser.warned.items (c.args.warned.now.items ++ flat_map (section_warnings k ids) all) h c.loop-parser.invariant.warned;
    }
