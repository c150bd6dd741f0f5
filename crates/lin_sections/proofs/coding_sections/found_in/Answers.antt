use Rattle.std.proofs.Common.{◌∙◌, List, ap, sym}
use Rattle.lin_ldf.specs.Symbols.{Symbol, symbols_in}
use Rattle.lin_ldf.specs.Stream.{start_of}
use Rattle.lin_sections.specs.Reading.{found_of, nothing_read}
use Rattle.lin_values.specs.declared.codings.Codings.{Codings}
use Rattle.lin_sections.proofs.ReadingSteps.{statements_from, statement-more, statement-less, statements-done, is-left}
use Rattle.lin_sections.proofs.coding_sections.found_in.Goals as goal

pub loop-parser-preserved : goal.loop-parser-preserved
loop-parser-preserved c =
    statement-more c.args.most (c.loop-parser.parser, found_of c.loop-parser.found) (c.add_statement.new.parser, found_of c.add_statement.new.found) (statements_from c.args.most (symbols_in c.args.source.now (start_of c.args.source.now).tokens, nothing_read)) (is-left c.loop-parser.parser c.front_kind.result c.is_some.result c.front_kind.ensures c.is_some.ensures ∙ c.loop-parser-test.true) c.in_ok-add_statement.ensures c.loop-parser.invariant

pub loop-parser-smaller : goal.loop-parser-smaller
loop-parser-smaller c =
    statement-less c.args.most (c.loop-parser.parser, found_of c.loop-parser.found) (c.add_statement.new.parser, found_of c.add_statement.new.found) (is-left c.loop-parser.parser c.front_kind.result c.is_some.result c.front_kind.ensures c.is_some.ensures ∙ c.loop-parser-test.true) c.in_ok-add_statement.ensures

pub returns : goal.returns
returns c =
    sym (ap (λ (x : List Symbol × Codings). x.1) (statements-done c.args.most (c.loop-parser.parser, found_of c.loop-parser.found) (statements_from c.args.most (symbols_in c.args.source.now (start_of c.args.source.now).tokens, nothing_read)) (is-left c.loop-parser.parser c.front_kind.result c.is_some.result c.front_kind.ensures c.is_some.ensures ∙ c.loop-parser-test.false) c.loop-parser.invariant))
