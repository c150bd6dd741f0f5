use Rattle.std.proofs.Common.{◌≡◌, ◌++◌, List, ℕ, drop, map}
use Rattle.std.specs.Borrow.{Bor}
use Rattle.lin_bench.specs.declared.parameters.GivenParameter.{GivenParameter}
use Rattle.lin_tool.specs.Playing.{given_names}
use Rattle.lin_tool.proofs.play_command.given_names.Given as goal

abbrev pub invariant-loop-one : goal.invariant-loop-one
invariant-loop-one l = map (λ (n : Bor (List ℕ)). n.now) l.names.items ++ given_names (drop l.one-index l.given) ≡ given_names l.given
