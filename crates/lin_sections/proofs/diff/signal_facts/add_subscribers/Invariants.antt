use Rattle.std.proofs.Common.{◌≡◌, take}
use Rattle.std.specs.Prelude.{fold}
use Rattle.lin_sections.specs.NewNames.{renames_data}
use Rattle.lin_sections.specs.Things.{with_subscriber}
use Rattle.lin_sections.proofs.diff.signal_facts.add_subscribers.Given as goal

abbrev pub invariant-loop-subscriber : goal.invariant-loop-subscriber
invariant-loop-subscriber l =
    l.facts.items ≡ fold (with_subscriber (renames_data l.renames)) l.initial.facts.items (take l.subscriber-index l.subscribers)
