use Rattle.std.proofs.Common.{◌≡◌, ◌++◌, map}
use Rattle.std.specs.List.{flat_map}
use Rattle.lin_field.specs.Attributes.{draft, draft_warnings, node_blocks}
use Rattle.lin_field.proofs.attributes.drafts.Given as goal

abbrev pub invariant-loop-block : goal.invariant-loop-block
invariant-loop-block l = record {
  settled : l.drafts.items ++ map (draft l.told) (node_blocks l.told l.block-iterator.rest.items) ≡ map (draft l.told) (node_blocks l.told l.fn.attributes);
  warned : l.warned.items ++ flat_map (draft_warnings l.told) l.block-iterator.rest.items ≡ l.fn.warned.items ++ flat_map (draft_warnings l.told) l.fn.attributes;
}
