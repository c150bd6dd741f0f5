use Rattle.std.proofs.Common.{◌≡◌, ◌++◌, map, take}
use Rattle.std.specs.Prelude.{filter}
use Rattle.lin_bench.specs.Added.{is_repeated, step_to_repeat}
use Rattle.lin_bench.proofs.ruled.RuledCore.repeat.Given as goal

abbrev pub invariant-loop-repeated : goal.invariant-loop-repeated
invariant-loop-repeated l =
    l.steps.items
    ≡ l.fn.steps.items
    ++ map step_to_repeat (filter (is_repeated l.began l.time l.self.rules.offs) (take l.repeated-index l.self.rules.everies))
