use Rattle.std.proofs.Common.{◌≡◌, ℕ, List, take}
use Rattle.std.specs.Prelude.{find}
use Rattle.std.specs.Option.{option_map}
use Rattle.std.specs.Str.{bytes_eq}
use Rattle.indexmap.specs.IndexMap.{get_by}
use Rattle.lin_cluster.specs.Names.{NumbersFirst}
use Rattle.lin_parts.specs.declared.description.Name.{Name}
use Rattle.lin_values.specs.Gathered.{signal_without_coding}
use Rattle.lin_values.proofs.coded.signals_by_name.Given as goal

abbrev pub invariant-loop-signal : goal.invariant-loop-signal
invariant-loop-signal l = (names : List Name) → NumbersFirst (λ n. n) names l.wide.map → (q : List ℕ) → get_by (λ k. bytes_eq q k.now) l.signals ≡ option_map (signal_without_coding names) (find (λ s. bytes_eq s.name q) (take l.signal l.cluster.signals))
