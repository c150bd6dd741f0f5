use Rattle.std.specs.Prelude.{◌≡◌, ◌++◌, length, map, option_map, reverse}
use Rattle.lin_bench.specs.Files.{source_data}
use Rattle.lin_bench.specs.Listed.{listed_in}
use Rattle.lin_bench.specs.Resolving.{items_left}
use Rattle.lin_bench.specs.Scripts.{bad_items, bad_lines, is_listed, once_after}
use Rattle.lin_bench.specs.declared.place.LinePlace.{LinePlace}
use Rattle.lin_bench.proofs.script.bad_lines.Given as goal

abbrev pub invariant-loop-bad : goal.invariant-loop-bad
invariant-loop-bad l = record {
  same : l.bad.items ++ once_after (reverse (map (λ b. b.0) l.bad.items)) (bad_items l.cluster (option_map (λ k. k.now) l.coded) l.limits (items_left l.script)) ≡ bad_lines l.cluster (option_map (λ k. k.now) l.coded) l.limits (source_data l.source);
  flags : (p : LinePlace) → listed_in l.listed p ≡ is_listed (reverse (map (λ b. b.0) l.bad.items)) p;
}

abbrev pub decreases-loop-bad : goal.decreases-loop-bad
decreases-loop-bad l = length (items_left l.script)
