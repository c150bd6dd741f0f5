use Rattle.std.proofs.Common.{take, map}
use Rattle.lin_text.specs.Written.{Grows}
use Rattle.lin_export.specs.CheckObject.{problem_object}
use Rattle.lin_export.specs.Found.{problem_data}
use Rattle.lin_export.specs.Json.{with_commas}
use Rattle.lin_export.proofs.check_object.problems.put_problems.Given as goal

abbrev pub invariant-loop-place : goal.invariant-loop-place
invariant-loop-place g l = Grows g.W.Write.contents l.initial.out l.out (with_commas (map (λ p. problem_object (problem_data p)) (take l.place l.problems)))
