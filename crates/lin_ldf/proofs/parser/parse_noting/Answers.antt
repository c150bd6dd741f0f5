use Rattle.std.proofs.Common.{◌≡◌, List, Some, Ok, Err, sym, subst, inl}
use Rattle.lin_ldf.specs.Symbols.{Symbol}
use Rattle.lin_ldf.specs.Forms.{Gives}
use Rattle.lin_ldf.specs.Grammar.{file}
use Rattle.lin_ldf.specs.Stream.{start_of}
use Rattle.lin_ldf.proofs.Described.{described_once}
use Rattle.lin_ldf.proofs.Parsed.{no_fault, parsed_found, parsed_only, found_no_fault, faulty_only, faulty_first, all_tokens}
use Rattle.lin_ldf.proofs.parser.parse_noting.Goals as goal

pub returns-in-Ok : goal.returns-in-Ok
returns-in-Ok c =
    let source = c.args.source.now in
    let read = subst (λ (ss : List Symbol). Gives (Ok c.in-Ok.found) c.file_noting.new.self (file.read ss)) c.new-parser.ensures c.in-Ok.ensures in
    record {
      found = parsed_found source c.in-Ok.found c.file_noting.new.self read;
      only = parsed_only source (Ok c.in-Ok.found) c.file_noting.new.self read;
      one = described_once source;
      first = λ e is other. absurd (found_no_fault source c.in-Ok.found c.file_noting.new.self read e is other);
    }

pub returns-in-Err-OutOfMemory-clause-one : goal.returns-in-Err-OutOfMemory-clause-one
returns-in-Err-OutOfMemory-clause-one c = described_once c.args.source.now

pub returns-in-Some : goal.returns-in-Some
returns-in-Some c =
    let source = c.args.source.now in
    let some : (start_of source).fault ≡ Some c.in-Some.first = sym c.in-Some.ensures in
    record {
      found = tt;
      only = λ d h. absurd (faulty_only source c.in-Some.first some d h);
      one = described_once source;
      first = λ e is other. inl (faulty_first source c.in-Some.first some e is other);
    }

pub returns : goal.returns
returns c =
    let source = c.args.source.now in
    let are = all_tokens source (sym c.in-None.ensures) in
    let read = subst (λ (ss : List Symbol). Gives (Err c.in-Err.fault) c.file_noting.new.self (file.read ss)) c.new-parser.ensures c.in-Err.ensures in
    record {
      found = tt;
      only = parsed_only source (Err c.in-Err.fault) c.file_noting.new.self read;
      one = described_once source;
      first = λ e is other. absurd (no_fault source _ are e is other);
    }
