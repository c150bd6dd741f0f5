use Rattle.std.proofs.Common.{◌≡◌, ◌≤◌, ℕ, List, ◌++◌, length}
use Rattle.lin_live.specs.Begun.{bytes_within_line}
use Rattle.lin_live.specs.Lines.{HasNoLf}
use Rattle.lin_live.proofs.Adding.{IsFed}
use Rattle.lin_live.proofs.serving.feed.Given as goal

-- each line that ended so far was answered
abbrev pub invariant-loop-end : goal.invariant-loop-end
invariant-loop-end g l = record {
  few : length l.rest ≤ length l.piece;
  fed : (bytes : List ℕ) → l.fn.begun ≡ bytes_within_line bytes → HasNoLf bytes
      → IsFed g.S.Answering.reply (g.S.Answering.state l.fn.state) (g.S.Answering.state l.state) (g.W.Write.contents l.fn.writer) (g.W.Write.contents l.writer) l.begun (bytes ++ l.piece) l.rest;
}

abbrev pub decreases-loop-end : goal.decreases-loop-end
decreases-loop-end g l = length l.rest
