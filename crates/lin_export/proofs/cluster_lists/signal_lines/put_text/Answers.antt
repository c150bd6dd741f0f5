use Rattle.std.proofs.Common.{Option, option_map, flat_map, sym, ap}
use Rattle.lin_log.specs.Words.{spaced_word}
use Rattle.lin_log.proofs.Ends.{grows-last}
use Rattle.lin_text.proofs.Growing.{grows-more, same-growth}
use Rattle.lin_values.specs.Meaning.{meant}
use Rattle.lin_values.specs.declared.meaning.Meaning.{Meaning}
use Rattle.lin_export.specs.ListedSignals.{meaning_words}
use Rattle.lin_export.proofs.cluster_lists.signal_lines.put_text.Goals as goal

pub returns-in-Some : goal.returns-in-Some
returns-in-Some g c =
    same-growth (ap (λ (m : Option Meaning). flat_map spaced_word (meaning_words (option_map meant m))) (sym c.in-Some.is))
    (grows-last (grows-more c.put_byte.ensures c.put_meaning.ensures))
