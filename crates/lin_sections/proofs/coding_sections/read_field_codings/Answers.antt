use Rattle.std.proofs.Common.{◌∙◌, ap}
use Rattle.lin_ldf.specs.Symbols.{symbols_in}
use Rattle.lin_values.specs.declared.codings.Codings.{Codings}
use Rattle.lin_sections.specs.Reading.{field_codings}
use Rattle.lin_sections.proofs.ReadingSteps.{tokens-are}
use Rattle.lin_sections.proofs.coding_sections.read_field_codings.Goals as goal

pub returns : goal.returns
returns c =
    let all-read = ap (λ (k : Codings). record k { wide = c.args.wide.now }) c.in_ok-types.ensures in
    record {
      read = rw (c.new.ensures, c.new-2.ensures, c.new-3.ensures, c.in_ok-copied_names.ensures) all-read;
      tokens = λ ts are.
          rw (c.new.ensures, c.new-2.ensures, c.new-3.ensures, c.in_ok-copied_names.ensures)
          (all-read ∙ ap (λ us. field_codings c.args.wide.now (symbols_in c.args.source.now us)) (tokens-are c.args.source.now ts are));
    }
