use Rattle.std.proofs.Common.{◌≡◌, ◌∙◌, ap, sym}
use Rattle.lin_ldf.specs.Symbols.{symbols_in}
use Rattle.lin_ldf.specs.Stream.{start_of}
use Rattle.lin_sections.specs.Unknown.{unknown_of_section, unknown_words}
use Rattle.lin_sections.proofs.ReadingSteps.{tokens-are}
use Rattle.lin_sections.proofs.StatementSteps.{found-more, found-all, statement-less}
use Rattle.lin_sections.proofs.unknown.unknown_words.Goals as goal

pub loop-parser-preserved : goal.loop-parser-preserved
loop-parser-preserved c =
    found-more unknown_of_section c.loop-parser.parser c.pass_statement.new.parser c.loop-parser.found.items c.add_section.new.found.items (unknown_words (symbols_in c.args.source.now (start_of c.args.source.now).tokens)) (sym c.has_line.ensures ∙ c.loop-parser-test.true) c.in_ok-pass_statement.ensures c.in_ok-add_section.ensures c.loop-parser.invariant

pub loop-parser-smaller : goal.loop-parser-smaller
loop-parser-smaller c =
    statement-less c.loop-parser.parser c.pass_statement.new.parser (sym c.has_line.ensures ∙ c.loop-parser-test.true) c.in_ok-pass_statement.ensures

pub returns : goal.returns
returns c =
    let read : c.loop-parser.found.items ≡ unknown_words (symbols_in c.args.source.now (start_of c.args.source.now).tokens) =
    found-all unknown_of_section c.loop-parser.parser c.loop-parser.found.items (unknown_words (symbols_in c.args.source.now (start_of c.args.source.now).tokens)) (sym c.has_line.ensures ∙ c.loop-parser-test.false) c.loop-parser.invariant in
    record {
      read = read;
      tokens = λ ts are. read ∙ ap (λ us. unknown_words (symbols_in c.args.source.now us)) (tokens-are c.args.source.now ts are);
    }
