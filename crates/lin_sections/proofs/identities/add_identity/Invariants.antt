use Rattle.std.proofs.Common.{◌≡◌, ◌++◌, flat_map, take}
use Rattle.lin_sections.specs.Identities.{frame_list_warnings, attribute_frames}
use Rattle.lin_sections.proofs.identities.add_identity.Given as goal

abbrev pub invariant-loop-attribute : goal.invariant-loop-attribute
invariant-loop-attribute l = record {
  frames : l.frames.items ≡ flat_map attribute_frames (take l.attribute-index l.attributes);
  warned : l.warned.items ≡ l.initial.warned.items ++ flat_map frame_list_warnings (take l.attribute-index l.attributes);
}
