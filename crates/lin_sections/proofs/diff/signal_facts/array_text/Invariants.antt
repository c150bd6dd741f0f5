use Rattle.std.proofs.Common.{◌≡◌, ◌++◌, ◌%◌, flat_map, take}
use Rattle.std.specs.Prelude.{codes}
use Rattle.lin_sections.specs.FactTexts.{two_hex_digits}
use Rattle.lin_sections.proofs.diff.signal_facts.array_text.Given as goal

abbrev pub invariant-loop-value : goal.invariant-loop-value
invariant-loop-value l =
    l.text.items ≡ codes "x" ++ flat_map (λ n. two_hex_digits (n.value % 256)) (take l.value-index l.values)
