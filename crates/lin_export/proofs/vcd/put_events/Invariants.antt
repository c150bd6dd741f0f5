use Rattle.std.proofs.Common.{ℕ, take, flat_map}
use Rattle.lin_export.specs.PutsGroups.{AreCounts, PutsGroups}
use Rattle.lin_export.specs.Vcd.{event_group}
use Rattle.lin_export.proofs.vcd.put_events.Given as goal

abbrev pub invariant-loop-event : goal.invariant-loop-event
invariant-loop-event g l = (count : ℕ → ℕ) → AreCounts count l.counts
    → PutsGroups g.W.Write.contents l.initial.out l.out l.initial.last l.last (flat_map (event_group l.cluster l.at count) (take l.event-index l.events))
