use Rattle.std.proofs.Common.{◌≡◌, ◌==◌, ◌++◌, ℕ, nat_lt, map}
use Rattle.std.specs.Prelude.{count_by, filter}
use Rattle.lin_frame.specs.Words.{numbers}
use Rattle.lin_bench.specs.declared.got.Pending.TheVariants.{AnswersNoted}
use Rattle.lin_bench.proofs.ruled.add_noted.Given as goal

abbrev pub invariant-loop-node : goal.invariant-loop-node
invariant-loop-node l =
    l.all.items
    ≡ l.fn.all.items
    ++ map (λ (n : ℕ × ℕ). AnswersNoted n.0 n.1)
    (filter (λ (n : ℕ × ℕ). nat_lt 0 n.1)
    (map (λ n. (n, count_by (λ m. m.node == n) l.ruled.rules.noted)) (numbers l.node)))
