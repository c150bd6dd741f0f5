use Rattle.std.proofs.Common.{◌≡◌, ◌∙◌, [], sym}
use Rattle.lin_ldf.specs.Stream.{start_of}
use Rattle.lin_ldf.specs.Symbols.{symbols_in}
use Rattle.lin_sections.proofs.Unattributed.{none-attributed}
use Rattle.lin_sections.proofs.diff.compared.attribute_blocks.Goals as goal

pub returns-else-mentions : goal.returns-else-mentions
returns-else-mentions c =
    let none : c.new-else-mentions.result ≡ [] = cc in
    none ∙ sym (none-attributed (symbols_in c.args.source.now (start_of c.args.source.now).tokens) (c.mentions.ensures (start_of c.args.source.now).tokens c.if-mentions.false))
