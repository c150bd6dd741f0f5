use Rattle.std.proofs.Common.{◌≡◌, ℕ, List}
use Rattle.std.specs.Io.KnownBytes.{Consumes}
use Rattle.lin_live.specs.Begun.{bytes_within_line}
use Rattle.lin_live.specs.Lines.{ended_lines, after_last_lf}
use Rattle.lin_live.specs.Serving.{Answers}
use Rattle.lin_live.proofs.serving.live.Given as goal

-- each line that an LF ended in what was read was answered, and what stands after it is kept
abbrev pub invariant-loop : goal.invariant-loop
invariant-loop g l = (read : List ℕ) × Consumes (g.R.Read.remaining l.fn.reader) (g.R.Read.remaining l.reader) read
    × Answers g.S.Answering.reply (g.S.Answering.state l.fn.state) (g.S.Answering.state l.state) (g.W.Write.contents l.fn.writer) (g.W.Write.contents l.writer) (ended_lines read)
    × (l.begun ≡ bytes_within_line (after_last_lf read))
