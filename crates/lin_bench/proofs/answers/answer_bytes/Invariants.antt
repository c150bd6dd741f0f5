use Rattle.std.proofs.Common.{◌≡◌, ◌++◌, drop, option_map}
use Rattle.lin_bench.specs.Rules.{answer_bytes}
use Rattle.lin_bench.proofs.answers.answer_bytes.Given as goal

abbrev pub invariant-loop-part : goal.invariant-loop-part
invariant-loop-part l =
    answer_bytes l.message l.parts ≡ option_map (λ more. l.bytes.items ++ more) (answer_bytes l.message (drop l.part-index l.parts))
