use Rattle.std.proofs.Common.{◌≡◌, drop, find}
use Rattle.std.specs.Str.{bytes_eq}
use Rattle.lin_bench.specs.declared.parameters.GivenParameter.{GivenParameter}
use Rattle.lin_bench.proofs.parameters.text_given.Given as goal

-- none so far has the name
abbrev pub invariant-loop-one : goal.invariant-loop-one
invariant-loop-one l = find (λ (g : GivenParameter). bytes_eq g.name.now l.name) (drop l.one-index l.given) ≡ find (λ (g : GivenParameter). bytes_eq g.name.now l.name) l.given
