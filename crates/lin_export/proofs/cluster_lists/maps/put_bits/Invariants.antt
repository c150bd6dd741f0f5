use Rattle.std.proofs.Common.{◌+◌, ◌-◌, ◌*◌, ◌∷◌, [], flat_map}
use Rattle.lin_frame.specs.Words.{numbers}
use Rattle.lin_log.specs.Words.{spaced_word}
use Rattle.lin_text.specs.Written.{Grows}
use Rattle.lin_export.specs.Marks.{bit_mark}
use Rattle.lin_export.proofs.cluster_lists.maps.put_bits.Given as goal

abbrev pub invariant-loop-bit : goal.invariant-loop-bit
invariant-loop-bit g l = Grows g.W.Write.contents l.initial.out l.out (flat_map (λ j. spaced_word (bit_mark l.fn.layout (8 * l.fn.byte + (7 - j)) ∷ [])) (numbers l.bit))
