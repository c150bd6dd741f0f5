use Rattle.std.proofs.Common.{◌≡◌, ℕ, List, take}
use Rattle.lin_sections.specs.Things.{is_event_member}
use Rattle.lin_sections.specs.NewNames.{has_in}
use Rattle.lin_sections.proofs.diff.frame_facts.members.Given as goal

abbrev pub invariant-loop-event : goal.invariant-loop-event
invariant-loop-event l =
    (q : List ℕ) → has_in l.members.map q ≡ is_event_member (take l.event-index l.events) q
