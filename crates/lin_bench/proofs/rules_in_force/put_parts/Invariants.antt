use Rattle.std.proofs.Common.{◌≡◌, None, take}
use Rattle.lin_text.specs.Written.{Grows}
use Rattle.lin_bench.specs.RulesInForce.{parts_text}
use Rattle.lin_bench.proofs.RulesInForce.{last_part}
use Rattle.lin_bench.proofs.rules_in_force.put_parts.Given as goal

abbrev pub invariant-loop-part : goal.invariant-loop-part
invariant-loop-part g l = record {
  put : Grows g.W.Write.contents l.initial.out l.out (parts_text None (take l.part-index l.parts));
  last : l.before ≡ last_part None (take l.part-index l.parts);
}
