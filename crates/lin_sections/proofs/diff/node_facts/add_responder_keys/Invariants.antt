use Rattle.std.proofs.Common.{◌≡◌, ◌++◌, flat_map, map, take}
use Rattle.std.specs.Prelude.{find}
use Rattle.lin_cluster.specs.FindingsNames.{same_name}
use Rattle.lin_sections.specs.NewNames.{alone, has_in, keyed_name}
use Rattle.lin_sections.specs.Renames.{responder_keys}
use Rattle.lin_sections.proofs.diff.node_facts.add_responder_keys.Given as goal

abbrev pub invariant-loop-slave : goal.invariant-loop-slave
invariant-loop-slave l =
    map keyed_name l.keys.items
    ≡ map keyed_name l.initial.keys.items
    ++ alone (has_in l.others.map) (flat_map (λ n. responder_keys n (find (λ a. same_name a.node n) l.attributes)) (take l.slave-index l.slaves))
