use Rattle.std.proofs.Common.{◌≡◌, List, ℕ, drop, map}
use Rattle.std.specs.Borrow.{Bor}
use Rattle.std.specs.Option.{option_map}
use Rattle.lin_tool.specs.Playing.{first_of_names}
use Rattle.lin_tool.proofs.UnusedNames.{first_after}
use Rattle.lin_tool.proofs.play_command.first_of_names.Given as goal

abbrev pub invariant-loop-name : goal.invariant-loop-name
invariant-loop-name l =
    first_after (option_map (λ (n : Bor (List ℕ)). n.now) l.first) (map (λ (n : Bor (List ℕ)). n.now) (drop l.name-index l.names))
    ≡ first_of_names (map (λ (n : Bor (List ℕ)). n.now) l.names)
