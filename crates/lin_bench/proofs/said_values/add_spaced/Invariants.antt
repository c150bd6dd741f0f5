use Rattle.std.proofs.Common.{◌≡◌, ◌++◌, flat_map, length}
use Rattle.lin_log.specs.Words.{spaced_word}
use Rattle.lin_bench.specs.Parts.{fields_of}
use Rattle.lin_bench.proofs.said_values.add_spaced.Given as goal

abbrev pub invariant-loop-field : goal.invariant-loop-field
invariant-loop-field l =
    l.text.items ++ flat_map spaced_word (fields_of l.left) ≡ l.fn.text.items ++ flat_map spaced_word (fields_of l.fields)

abbrev pub decreases-loop-field : goal.decreases-loop-field
decreases-loop-field l = length (fields_of l.left)
