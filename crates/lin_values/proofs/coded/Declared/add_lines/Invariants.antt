use Rattle.std.proofs.Common.{◌≡◌, ◌++◌, [], take}
use Rattle.lin_values.specs.Coded.{named_in}
use Rattle.lin_values.specs.Gathered.{lines_told, AreNamed}
use Rattle.lin_values.proofs.coded.Declared.add_lines.Given as goal

abbrev pub invariant-loop-line : goal.invariant-loop-line
invariant-loop-line l = record {
  named : AreNamed l.self.types (named_in (take l.line-index l.lines)) l.named.map;
  warned : l.warned.items ≡ l.fn.warned.items ++ lines_told l.self.parts l.self.wide l.self.types [] (take l.line-index l.lines);
}
