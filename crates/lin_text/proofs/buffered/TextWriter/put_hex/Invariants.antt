use Rattle.std.proofs.Common.{◌≡◌, ℕ, List, ◌++◌, length}
use Rattle.hex.specs.Hex.{encode_upper}
use Rattle.lin_text.specs.Written.{Grows}
use Rattle.lin_text.proofs.buffered.TextWriter.put_hex.Given as goal

abbrev pub invariant-loop-left : goal.invariant-loop-left
invariant-loop-left g l =
    (done : List ℕ) × Grows g.W.Write.contents l.initial.self l.self done
    × (encode_upper l.bytes ≡ done ++ encode_upper l.left)

abbrev pub decreases-loop-left : goal.decreases-loop-left
decreases-loop-left g l = length l.left
