use Rattle.std.proofs.Common.{◌∙◌, ap, sym}
use Rattle.lin_ldf.specs.Stream.{start_of}
use Rattle.lin_ldf.specs.Symbols.{symbols_in}
use Rattle.lin_sections.specs.Attributes.{attribute_blocks, node_attributes}
use Rattle.lin_sections.proofs.ReadingSteps.{tokens-are}
use Rattle.lin_sections.proofs.StatementSteps.{found-more, found-all, statement-less}
use Rattle.lin_sections.proofs.attribute_blocks.read_attributes.Goals as goal

pub loop-parser-preserved : goal.loop-parser-preserved
loop-parser-preserved c =
    found-more attribute_blocks c.loop-parser.parser c.pass_statement.new.parser c.loop-parser.blocks.items c.add_section.new.blocks.items (node_attributes (symbols_in c.args.source.now (start_of c.args.source.now).tokens)) (sym c.has_line.ensures ∙ c.loop-parser-test.true) c.in_ok-pass_statement.ensures c.in_ok-add_section.ensures c.loop-parser.invariant

pub loop-parser-smaller : goal.loop-parser-smaller
loop-parser-smaller c =
    statement-less c.loop-parser.parser c.pass_statement.new.parser (sym c.has_line.ensures ∙ c.loop-parser-test.true) c.in_ok-pass_statement.ensures

pub returns : goal.returns
returns c =
    let all =
    c.new.ensures ∙ found-all attribute_blocks c.loop-parser.parser c.loop-parser.blocks.items (node_attributes (symbols_in c.args.source.now (start_of c.args.source.now).tokens)) (sym c.has_line.ensures ∙ c.loop-parser-test.false) c.loop-parser.invariant in
    record {
      read = all;
      tokens = λ ts are. all ∙ ap (λ us. node_attributes (symbols_in c.args.source.now us)) (tokens-are c.args.source.now ts are);
    }
