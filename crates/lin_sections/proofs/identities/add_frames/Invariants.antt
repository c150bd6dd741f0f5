use Rattle.std.proofs.Common.{◌≡◌, ◌++◌, flat_map, length, map}
use Rattle.lin_sections.specs.Identities.{configurable_frame, frame_line_warnings}
use Rattle.lin_sections.specs.Lines.{token_lines}
use Rattle.lin_sections.proofs.identities.add_frames.Given as goal

abbrev pub invariant-loop-parser : goal.invariant-loop-parser
invariant-loop-parser l = record {
  frames : l.frames.items ++ map configurable_frame (token_lines l.parser) ≡ l.fn.frames.items ++ map configurable_frame (token_lines l.fn.parser);
  warned : l.warned.items ++ flat_map frame_line_warnings (token_lines l.parser) ≡ l.fn.warned.items ++ flat_map frame_line_warnings (token_lines l.fn.parser);
}

abbrev pub decreases-loop-parser : goal.decreases-loop-parser
decreases-loop-parser l = length l.parser
