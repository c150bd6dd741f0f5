use Rattle.std.proofs.Common.{map}
use Rattle.lin_frame.specs.Words.{numbers}
use Rattle.lin_text.specs.Written.{Grows}
use Rattle.lin_export.specs.ClusterObject.{entry_object}
use Rattle.lin_export.specs.Json.{with_commas}
use Rattle.lin_export.proofs.check_object.table_objects.put_entries.Given as goal

abbrev pub invariant-loop-entry : goal.invariant-loop-entry
invariant-loop-entry g l = Grows g.W.Write.contents l.initial.out l.out (with_commas (map (entry_object l.fn.cluster l.fn.description l.fn.table) (numbers l.entry)))
