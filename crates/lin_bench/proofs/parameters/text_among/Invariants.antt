use Rattle.std.proofs.Common.{◌≡◌, drop, find}
use Rattle.std.specs.Str.{bytes_eq}
use Rattle.lin_bench.specs.declared.parameters.Parameter.{Parameter}
use Rattle.lin_bench.proofs.parameters.text_among.Given as goal

-- none so far has the name
abbrev pub invariant-loop-one : goal.invariant-loop-one
invariant-loop-one l = find (λ (p : Parameter). bytes_eq p.name l.name) (drop l.one-index l.parameters) ≡ find (λ (p : Parameter). bytes_eq p.name l.name) l.parameters
