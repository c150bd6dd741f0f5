use Rattle.std.proofs.Common.{◌≡◌, ◌∙◌, ℕ, Bool, List, Option, ap, subst, sym}
use Rattle.std.specs.Prelude.{codes, find, option_and_then, IfOk}
use Rattle.std.specs.Option.{option_map}
use Rattle.lin_ldf.specs.Stream.{start_of}
use Rattle.lin_ldf.specs.Symbols.{Symbol, symbols_in}
use Rattle.lin_ldf.specs.Words.{is_word_next}
use Rattle.lin_sections.specs.AttributeValues.{header_version, version_line}
use Rattle.lin_sections.specs.Statements.{statements}
use Rattle.lin_sections.proofs.ReadingSteps.{tokens-are}
use Rattle.lin_sections.proofs.StatementSteps.{found-first, found-later, found-none, statement-less}
use Rattle.lin_sections.proofs.attribute_values.header_version.Goals as goal

abbrev is_version : List Symbol → Bool
is_version = is_word_next (codes "LIN_protocol_version")

-- the version in the statement that was found
abbrev version_in : Option (List Symbol) → Option (List ℕ)
version_in o = option_and_then (λ us. option_map (λ r. r.0) (version_line.read us)) o

pub loop-parser-preserved : goal.loop-parser-preserved
loop-parser-preserved c =
    found-later is_version c.loop-parser.parser c.pass_statement.new.parser (find is_version (statements (symbols_in c.args.source.now (start_of c.args.source.now).tokens))) (sym c.has_line.ensures ∙ c.loop-parser-test.true) (sym c.is_at_word.ensures ∙ c.if-is_at_word.false) c.in_ok-pass_statement.ensures c.loop-parser.invariant

pub loop-parser-smaller : goal.loop-parser-smaller
loop-parser-smaller c =
    statement-less c.loop-parser.parser c.pass_statement.new.parser (sym c.has_line.ensures ∙ c.loop-parser-test.true) c.in_ok-pass_statement.ensures

-- that of the first line
read : (c : goal.After-drop-parser-inside) → IfOk c.if_read.result (λ v. v ≡ header_version (symbols_in c.args.source.now (start_of c.args.source.now).tokens))
read c =
    let first = found-first is_version c.loop-parser.parser (find is_version (statements (symbols_in c.args.source.now (start_of c.args.source.now).tokens))) (sym c.has_line.ensures ∙ c.loop-parser-test.true) (sym c.is_at_word.ensures ∙ c.if-is_at_word.true) c.loop-parser.invariant in
    subst (λ (o : Option (List Symbol)). IfOk c.if_read.result (λ v. v ≡ version_in o)) (sym first) (c.if_read.ensures (version_line.read c.loop-parser.parser) c.version_line.new.parser c.version_line.ensures)

pub returns-then-is_at_word-clause-read : goal.returns-then-is_at_word-clause-read
returns-then-is_at_word-clause-read c = read c

pub returns-then-is_at_word-clause-tokens : goal.returns-then-is_at_word-clause-tokens
returns-then-is_at_word-clause-tokens c = λ ts are.
    subst (λ us. IfOk c.if_read.result (λ v. v ≡ header_version (symbols_in c.args.source.now us))) (tokens-are c.args.source.now ts are) (read c)

pub returns : goal.returns
returns c =
    let none = found-none is_version c.loop-parser.parser (find is_version (statements (symbols_in c.args.source.now (start_of c.args.source.now).tokens))) (sym c.has_line.ensures ∙ c.loop-parser-test.false) c.loop-parser.invariant in
    let nothing = sym (ap version_in none) in
    record {
      read = nothing;
      tokens = λ ts are. nothing ∙ ap (λ us. header_version (symbols_in c.args.source.now us)) (tokens-are c.args.source.now ts are);
    }
