use Rattle.std.proofs.Common.{◌≡◌, map, take}
use Rattle.lin_sections.specs.NewNames.{alone, has_in, keyed_name, renames_data}
use Rattle.lin_sections.specs.Renames.{sporadic_key}
use Rattle.lin_sections.proofs.diff.frame_facts.sporadic_keys.Given as goal

abbrev pub invariant-loop-sporadic : goal.invariant-loop-sporadic
invariant-loop-sporadic l =
    map keyed_name l.keys.items ≡ alone (has_in l.others.map) (map (sporadic_key (renames_data l.renames)) (take l.sporadic-index l.facts.ldf.description.now.sporadic))
