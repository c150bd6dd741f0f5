use Rattle.std.proofs.Common.{◌≡◌, ◌≤◌, ◌++◌, take, drop}
use Rattle.lin_field.specs.Plain.{before_end}
use Rattle.lin_field.proofs.plain.text_parts.end_of.Given as goal

abbrev pub invariant-loop-number : goal.invariant-loop-number
invariant-loop-number l = record {
  depth : l.depth ≤ l.number;
  front :
      (before_end l.end 0 l.tokens).0
      ≡ take l.number l.tokens ++ (before_end l.end l.depth (drop l.number l.tokens)).0;
  rest : (before_end l.end 0 l.tokens).1 ≡ (before_end l.end l.depth (drop l.number l.tokens)).1;
}
