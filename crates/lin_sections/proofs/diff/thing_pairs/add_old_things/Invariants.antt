use Rattle.std.proofs.Common.{◌≡◌, ◌++◌, take}
use Rattle.std.specs.Prelude.{flat_map}
use Rattle.lin_sections.specs.Differences.{differences_data, old_thing}
use Rattle.lin_sections.proofs.diff.thing_pairs.add_old_things.Given as goal

abbrev pub invariant-loop-old : goal.invariant-loop-old
invariant-loop-old l =
    differences_data l.found.items
    ≡ differences_data l.initial.found.items ++ flat_map (old_thing l.news) (take l.old-index l.olds)
