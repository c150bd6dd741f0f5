use Rattle.std.proofs.Common.{◌≡◌, ◌++◌, flat_map, take}
use Rattle.std.specs.Option.{option_map}
use Rattle.lin_sections.specs.AttributeLints.{no_response_error}
use Rattle.lin_sections.proofs.attribute_lints.add_slaves.Given as goal

abbrev pub invariant-loop-slave : goal.invariant-loop-slave
invariant-loop-slave l = l.found.items ≡ l.fn.found.items ++ flat_map (no_response_error l.nodes (option_map (λ v. v.now) l.version) l.blocks) (take l.slave-index l.nodes.slaves)
