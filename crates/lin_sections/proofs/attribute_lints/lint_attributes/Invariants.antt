use Rattle.std.proofs.Common.{◌≡◌, ◌++◌, flat_map, take}
use Rattle.std.specs.Option.{option_map}
use Rattle.lin_sections.specs.AttributeLints.{no_response_error, of_block}
use Rattle.lin_sections.proofs.attribute_lints.lint_attributes.Given as goal

abbrev pub invariant-loop-block : goal.invariant-loop-block
invariant-loop-block l = l.found.items ≡ flat_map (no_response_error l.nodes (option_map (λ v. v.now) l.version) l.blocks) l.nodes.slaves ++ flat_map (of_block l.nodes) (take l.block-index l.blocks)
