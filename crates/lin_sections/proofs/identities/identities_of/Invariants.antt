use Rattle.std.proofs.Common.{◌≡◌, ◌++◌, flat_map, take}
use Rattle.lin_sections.specs.Identities.{identity_unless, warnings_unless}
use Rattle.lin_sections.proofs.identities.identities_of.Given as goal

abbrev pub invariant-loop-block : goal.invariant-loop-block
invariant-loop-block l = record {
  all : l.all.items ≡ flat_map (identity_unless l.commander) (take l.block-index l.blocks);
  warned : l.warned.items ≡ l.fn.warned.items ++ flat_map (warnings_unless l.commander) (take l.block-index l.blocks);
}
