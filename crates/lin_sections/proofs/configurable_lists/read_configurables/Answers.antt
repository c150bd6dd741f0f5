use Rattle.std.proofs.Common.{◌≡◌, ◌∙◌, List, [], ap, sym}
use Rattle.lin_ldf.specs.Symbols.{Symbol, symbols_in}
use Rattle.lin_ldf.specs.Stream.{start_of}
use Rattle.lin_ldf.specs.declared.token.Token.{Token}
use Rattle.lin_cluster.specs.declared.lints.configurable.Configurable.{Configurable}
use Rattle.lin_sections.specs.Configured.{configurables}
use Rattle.lin_sections.proofs.ReadingSteps.{is-left, tokens-are}
use Rattle.lin_sections.proofs.ConfiguredSteps.{statements_from, statement-more, statement-less, statements-done}
use Rattle.lin_sections.proofs.UnmentionedSections.{none-configurable}
use Rattle.lin_sections.proofs.configurable_lists.read_configurables.Goals as goal

pub loop-parser-preserved : goal.loop-parser-preserved
loop-parser-preserved c =
    statement-more (c.loop-parser.parser, c.loop-parser.all.items) (c.add_statement.new.parser, c.add_statement.new.all.items) (statements_from (symbols_in c.args.source.now (start_of c.args.source.now).tokens, [])) (is-left c.loop-parser.parser c.front_kind.result c.is_some.result c.front_kind.ensures c.is_some.ensures ∙ c.loop-parser-test.true) c.in_ok-add_statement.ensures c.loop-parser.invariant

pub loop-parser-smaller : goal.loop-parser-smaller
loop-parser-smaller c =
    statement-less (c.loop-parser.parser, c.loop-parser.all.items) (c.add_statement.new.parser, c.add_statement.new.all.items) (is-left c.loop-parser.parser c.front_kind.result c.is_some.result c.front_kind.ensures c.is_some.ensures ∙ c.loop-parser-test.true) c.in_ok-add_statement.ensures

pub returns : goal.returns
returns c =
    let done = statements-done (c.loop-parser.parser, c.loop-parser.all.items) (statements_from (symbols_in c.args.source.now (start_of c.args.source.now).tokens, [])) (is-left c.loop-parser.parser c.front_kind.result c.is_some.result c.front_kind.ensures c.is_some.ensures ∙ c.loop-parser-test.false) c.loop-parser.invariant in
    let all = c.new-2.ensures ∙ sym (ap (λ (x : List Symbol × List Configurable). x.1) done) in
    record {
      read = all;
      tokens = λ ts are. all ∙ ap (λ us. configurables (symbols_in c.args.source.now us)) (tokens-are c.args.source.now ts are);
    }

none-read : (c : goal.After-new) (ts : List Token) → c.new.result ≡ configurables (symbols_in c.args.source.now ts)
none-read c ts = c.new.ensures ∙ c.new-all.ensures.items ∙ sym (none-configurable (symbols_in c.args.source.now ts) (c.mentions.ensures ts c.if-not-mentions.true))

pub returns-then-not-mentions : goal.returns-then-not-mentions
returns-then-not-mentions c = record { read = none-read c (start_of c.args.source.now).tokens; tokens = λ ts are. none-read c ts }
