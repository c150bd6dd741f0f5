use Rattle.std.proofs.Common.{List, None, ◌≡◌, take}
use Rattle.std.specs.Prelude.{flat_map}
use Rattle.lin_core.specs.History.{events}
use Rattle.lin_core.specs.declared.log.LogEntry.{LogEntry}
use Rattle.lin_bench.specs.LeftEvents.{AreOf}
use Rattle.lin_bench.specs.Searches.{IsSearchState, is_sought, taken_by}
use Rattle.lin_bench.specs.Verdicts.{first_so}
use Rattle.lin_bench.proofs.left_events.first_in.Given as goal

abbrev pub invariant-loop-index : goal.invariant-loop-index
invariant-loop-index l =
    (es : List LogEntry) → IsSearchState es l.taken → AreOf es l.entry l.told
    → first_so (is_sought l.sought (taken_by es l.taken)) (flat_map events (take l.entry es)) (take l.index l.told) ≡ None
