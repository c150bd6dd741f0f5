use Rattle.std.proofs.Common.{◌≡◌, List, take, map}
use Rattle.lin_sections.specs.declared.diff.fact.EntryFact.{EntryFact}
use Rattle.lin_sections.specs.Differences.{old_places}
use Rattle.lin_sections.specs.Numbering.{entry_id, ArePlaces}
use Rattle.lin_sections.proofs.diff.entry_pairs.old_places.Given as goal

abbrev pub invariant-loop-new : goal.invariant-loop-new
invariant-loop-new l =
    (entries : List EntryFact) → ArePlaces (map entry_id entries) l.olds.map → l.places.items ≡ old_places entries (take l.new-index l.news)
