use Rattle.std.proofs.Common.{ap, sym}
use Rattle.std.specs.Prelude.{option_map}
use Rattle.lin_sections.specs.ListedDifferences.{after_space}
use Rattle.lin_text.proofs.Growing.{grows-more, same-growth}
use Rattle.lin_sections.specs.ListedDifferences.{fact_value_word}
use Rattle.lin_sections.proofs.diff.difference_lines.put_value.Goals as goal

pub returns-in-Some : goal.returns-in-Some
returns-in-Some g c =
    same-growth (ap (λ value. after_space (fact_value_word (option_map (λ v. v.now) value))) (sym c.in-Some.is)) (grows-more c.put_byte.ensures c.put.ensures)

pub returns-in-None : goal.returns-in-None
returns-in-None g c =
    same-growth (ap (λ value. after_space (fact_value_word (option_map (λ v. v.now) value))) (sym c.in-None.is)) (grows-more c.put_byte.ensures c.put_byte-in-None.ensures)
