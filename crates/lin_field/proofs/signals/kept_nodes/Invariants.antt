use Rattle.std.proofs.Common.{◌≡◌, ◌++◌, filter}
use Rattle.std.specs.List.{flat_map}
use Rattle.lin_field.specs.Names.{is_loose_node}
use Rattle.lin_field.specs.Signals.{unknown_loose_node}
use Rattle.lin_field.proofs.signals.kept_nodes.Given as goal

abbrev pub invariant-loop-name : goal.invariant-loop-name
invariant-loop-name l = record {
  settled : l.kept.items ++ filter (is_loose_node l.nodes) l.name-iterator.rest.items ≡ filter (is_loose_node l.nodes) l.fn.names;
  warned : l.warned.items ++ flat_map (unknown_loose_node l.nodes) l.name-iterator.rest.items ≡ l.fn.warned.items ++ flat_map (unknown_loose_node l.nodes) l.fn.names;
}
