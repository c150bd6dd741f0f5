use Rattle.std.proofs.Common.{flat_map, take}
use Rattle.lin_text.specs.Written.{Grows}
use Rattle.lin_field.specs.Plain.{placed_text}
use Rattle.lin_field.proofs.plain.declaration_lines.put_all_placed.Given as goal

abbrev pub invariant-loop-it : goal.invariant-loop-it
invariant-loop-it g l = Grows g.W.Write.contents l.fn.out l.out (flat_map placed_text (take l.it-index l.placed))
