use Rattle.std.proofs.Common.{◌≡◌, ◌∙◌, ap}
use Rattle.lin_ldf.specs.Symbols.{symbols_in}
use Rattle.lin_ldf.specs.Stream.{start_of}
use Rattle.lin_sections.specs.Reading.{codings}
use Rattle.lin_sections.proofs.ReadingSteps.{tokens-are}
use Rattle.lin_sections.proofs.coding_sections.read_codings.Goals as goal

all-read : (c : goal.After-new-5) → record { types = c.new.result; lines = c.new-2.result; bad = c.new-3.result; wide = c.new-5.result } ≡ codings (symbols_in c.args.source.now (start_of c.args.source.now).tokens)
all-read c = rw (c.new.ensures, c.new-2.ensures, c.new-3.ensures, c.new-5.ensures, c.new-4.ensures.items) c.in_ok-types.ensures

pub returns : goal.returns
returns c = record {
  read = all-read c;
  tokens = λ ts are. all-read c ∙ ap (λ us. codings (symbols_in c.args.source.now us)) (tokens-are c.args.source.now ts are);
}
