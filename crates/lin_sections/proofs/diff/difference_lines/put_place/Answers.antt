use Rattle.std.proofs.Common.{ap, sym}
use Rattle.lin_sections.specs.ListedDifferences.{after_space}
use Rattle.lin_text.proofs.Growing.{grows-more, same-growth}
use Rattle.lin_sections.specs.ListedDifferences.{file_place}
use Rattle.lin_sections.proofs.diff.difference_lines.put_place.Goals as goal

pub returns-in-Some : goal.returns-in-Some
returns-in-Some g c =
    same-growth (ap (λ place. after_space (file_place c.args.file.now place)) (sym c.in-Some.is))
    (grows-more c.put_byte.ensures (grows-more c.put_text.ensures (grows-more c.put_numbered.ensures c.put_numbered-in-Some.ensures)))

pub returns-in-None : goal.returns-in-None
returns-in-None g c =
    same-growth (ap (λ place. after_space (file_place c.args.file.now place)) (sym c.in-None.is)) (grows-more c.put_byte.ensures c.put_byte-in-None.ensures)
