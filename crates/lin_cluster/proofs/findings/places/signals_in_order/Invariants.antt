use Rattle.std.proofs.Common.{◌≡◌, ◌++◌, ◌<◌, ℕ, true, take, false}
use Rattle.std.specs.Prelude.{◌↔◌, ◌==◌}
use Rattle.std.specs.List.{flat_map, list_any}
use Rattle.std.specs.List.{enumerate_from}
use Rattle.std.specs.Option.{option_map_or}
use Rattle.lin_cluster.specs.Described.{signal_number}
use Rattle.lin_cluster.specs.Findings.{in_placed}
use Rattle.lin_cluster.specs.FindingsNames.{signal_named}
use Rattle.lin_cluster.specs.FindingsPlaces.{has_number, has_bit_between}
use Rattle.lin_cluster.specs.FindingsRanges.{HasBit, IsRanges}
use Rattle.lin_cluster.proofs.findings.places.signals_in_order.Given as goal

abbrev pub invariant-loop-placed : goal.invariant-loop-placed
invariant-loop-placed l = record {
  found : l.found.items ≡ l.fn.found.items ++ flat_map (in_placed l.signals l.frame l.all_placed) (take l.placed-index (enumerate_from 0 l.all_placed));
  apart : IsRanges l.earlier.ranges;
  numbers : (q : ℕ) → has_number l.earlier.numbers q ≡ list_any (λ p. signal_number l.signals p.signal == q) (take l.placed-index l.all_placed);
  ranges : (a b : ℕ) → a < b → HasBit l.earlier.ranges a b ↔ (list_any (λ p. option_map_or (λ t. has_bit_between a b p t.size.value) (signal_named l.signals p.signal) false) (take l.placed-index l.all_placed) ≡ true);
}
