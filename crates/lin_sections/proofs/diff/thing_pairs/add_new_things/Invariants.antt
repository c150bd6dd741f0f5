use Rattle.std.proofs.Common.{◌≡◌, ◌++◌, take}
use Rattle.std.specs.Prelude.{flat_map}
use Rattle.lin_sections.specs.Differences.{differences_data, new_thing}
use Rattle.lin_sections.proofs.diff.thing_pairs.add_new_things.Given as goal

abbrev pub invariant-loop-new : goal.invariant-loop-new
invariant-loop-new l =
    differences_data l.found.items
    ≡ differences_data l.initial.found.items ++ flat_map (new_thing l.olds) (take l.new-index l.news)
