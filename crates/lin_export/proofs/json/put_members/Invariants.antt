use Rattle.std.proofs.Common.{take, flat_map, map}
use Rattle.lin_text.specs.Written.{Grows}
use Rattle.lin_export.specs.Csv.{after_comma}
use Rattle.lin_export.specs.Members.{member_shown}
use Rattle.lin_export.proofs.json.put_members.Given as goal

abbrev pub invariant-loop-one : goal.invariant-loop-one
invariant-loop-one g l = Grows g.W.Write.contents l.initial.out l.out (flat_map after_comma (map member_shown (take l.one-index l.members)))
