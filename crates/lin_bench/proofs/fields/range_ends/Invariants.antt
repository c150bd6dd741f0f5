use Rattle.std.proofs.Common.{◌≡◌, List, ℕ, ◌++◌, drop, take, option_map}
use Rattle.lin_bench.specs.Fields.{range_ends}
use Rattle.lin_bench.proofs.fields.range_ends.Given as goal

abbrev pub invariant-loop-i : goal.invariant-loop-i
invariant-loop-i l =
    range_ends l.field ≡ option_map (λ (ends : List ℕ × List ℕ). (take l.i l.field ++ ends.0, ends.1)) (range_ends (drop l.i l.field))
