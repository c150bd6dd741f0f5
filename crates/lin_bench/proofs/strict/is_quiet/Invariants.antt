use Rattle.std.proofs.Common.{◌≡◌, drop}
use Rattle.lin_bench.specs.Strict.{expects_something, lines_of_test}
use Rattle.lin_bench.proofs.strict.is_quiet.Given as goal

-- nothing was expected so far
abbrev pub invariant-loop-line : goal.invariant-loop-line
invariant-loop-line l = expects_something (lines_of_test (drop l.line-index l.lines)) ≡ expects_something (lines_of_test l.lines)
