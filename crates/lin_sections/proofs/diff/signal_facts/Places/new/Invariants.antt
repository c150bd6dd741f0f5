use Rattle.std.proofs.Common.{◌≡◌, map, take}
use Rattle.lin_sections.specs.Numbering.{ArePlaces}
use Rattle.lin_sections.specs.SignalPlaces.{alone_names, without_places}
use Rattle.lin_sections.proofs.diff.signal_facts.Places.new.Given as goal

abbrev pub invariant-loop-signal : goal.invariant-loop-signal
invariant-loop-signal l = record {
  numbers : ArePlaces (alone_names l.others (map (λ s. s.name.text) (take l.signal-index l.signals))) l.places.numbers.map;
  all : l.places.all.items ≡ without_places (alone_names l.others (map (λ s. s.name.text) (take l.signal-index l.signals)));
}
