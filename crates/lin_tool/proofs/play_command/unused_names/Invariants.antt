use Rattle.std.proofs.Common.{◌≡◌, ◌++◌, List, ℕ, drop, map}
use Rattle.std.specs.Borrow.{Bor}
use Rattle.lin_bench.specs.Files.{source_data}
use Rattle.lin_tool.specs.Playing.{unused_names}
use Rattle.lin_tool.proofs.play_command.unused_names.Given as goal

abbrev pub invariant-loop-name : goal.invariant-loop-name
invariant-loop-name l =
    map (λ (n : Bor (List ℕ)). n.now) l.unused.items ++ unused_names (source_data l.source) (map (λ (n : Bor (List ℕ)). n.now) (drop l.name-index l.names))
    ≡ unused_names (source_data l.source) (map (λ (n : Bor (List ℕ)). n.now) l.names)
