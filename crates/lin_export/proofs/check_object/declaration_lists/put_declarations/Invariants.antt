use Rattle.std.proofs.Common.{map}
use Rattle.lin_frame.specs.Words.{numbers}
use Rattle.lin_text.specs.Written.{Grows}
use Rattle.lin_export.specs.CheckObject.{declaration_object}
use Rattle.lin_export.specs.Found.{found_data}
use Rattle.lin_export.specs.Json.{with_commas}
use Rattle.lin_export.proofs.check_object.declaration_lists.put_declarations.Given as goal

abbrev pub invariant-loop-number : goal.invariant-loop-number
invariant-loop-number g l = Grows g.W.Write.contents l.initial.out l.out (with_commas (map (declaration_object (found_data l.fn.found) l.fn.kind) (numbers l.number)))
