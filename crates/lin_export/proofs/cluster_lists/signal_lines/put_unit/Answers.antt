use Rattle.std.proofs.Common.{◌≡◌, ◌==◌, ◌∷◌, ◌∙◌, [], ℕ, List, append-nil, false, flat_map, length, sym}
use Rattle.lin_text.proofs.Growing.{grows-more, same-growth}
use Rattle.lin_log.specs.Words.{spaced_word}
use Rattle.lin_export.specs.ListedSignals.{unit_words}
use Rattle.lin_export.proofs.cluster_lists.signal_lines.put_unit.Goals as goal

unit-said : (unit : List ℕ) → (length unit == 0) ≡ false → spaced_word unit ≡ flat_map spaced_word (unit_words unit)
unit-said [] h = cc
unit-said (b ∷ bs) h = sym (append-nil (spaced_word (b ∷ bs)))

pub returns-then-not-is_empty : goal.returns-then-not-is_empty
returns-then-not-is_empty g c = same-growth (unit-said c.args.unit.now (sym c.is_empty.ensures ∙ c.if-not-is_empty.true)) (grows-more c.put_byte.ensures c.put.ensures)
