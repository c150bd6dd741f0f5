use Rattle.std.proofs.Common.{List, flat_map, take}
use Rattle.std.specs.Borrow.{Bor}
use Rattle.lin_ldf.specs.declared.token.Token.{Token}
use Rattle.lin_text.specs.Written.{Grows}
use Rattle.lin_field.specs.Plain.{kept_line}
use Rattle.lin_field.proofs.plain.put_lines.Given as goal

abbrev pub invariant-loop-part : goal.invariant-loop-part
invariant-loop-part g l = Grows g.W.Write.contents l.initial.out l.out (flat_map (λ (x : Bor (List Token)). kept_line l.source x.now) (take l.part-index l.parts))
