use Rattle.std.proofs.Common.{◌++◌, List, map, flat_map, ap, ◌∙◌}
use Rattle.std.specs.Prelude.{find, not}
use Rattle.lin_cluster.specs.FindingsNames.{same_name}
use Rattle.lin_parts.specs.declared.description.Name.{Name}
use Rattle.lin_sections.specs.NewNames.{alone, has_in, keyed_name, KeyedName}
use Rattle.lin_sections.specs.Renames.{responder_keys}
use Rattle.lin_sections.proofs.FactSteps.{added-more, flat-kept}
use Rattle.lin_sections.proofs.diff.node_facts.add_responder_keys.Goals as goal

pub loop-slave-preserved : goal.loop-slave-preserved
loop-slave-preserved c =
    let keys_of : Name → List KeyedName = λ n. responder_keys n (find (λ a. same_name a.node n) c.args.attributes.now) in
    let others = has_in c.args.others.now.map in
    added-more (λ (ns : List Name). alone others (flat_map keys_of ns)) (λ (n : Name). alone others (keys_of n)) c.args.slaves.now c.loop-slave.slave-index c.slave-item.result
    (map keyed_name c.args.keys.now.items) (map keyed_name c.loop-slave.keys.items) (map keyed_name c.add_key.new.keys.items)
    (flat-kept (λ k. not (others k.name)) keys_of c.args.slaves.now c.loop-slave.slave-index c.slave-item.result c.loop-slave-test.true) c.slave-item.is c.loop-slave.invariant
    (c.in_ok-add_key.ensures ∙ ap (λ b. map keyed_name c.loop-slave.keys.items ++ alone others (responder_keys c.slave-item.result b)) c.find_by.ensures)
