use Rattle.std.proofs.Common.{◌≡◌, drop, take}
use Rattle.lin_bench.specs.Strict.{first_refusal}
use Rattle.lin_bench.proofs.replies.refusal_among.Given as goal

-- none stands among the entries so far
abbrev pub invariant-loop-index : goal.invariant-loop-index
invariant-loop-index l =
    first_refusal (drop l.index (take l.fn.to l.fn.log.entries)) ≡ first_refusal (drop l.fn.from (take l.fn.to l.fn.log.entries))
