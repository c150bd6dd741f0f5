use Rattle.std.proofs.Common.{◌≡◌, List, [], ◌++◌, take}
use Rattle.lin_parts.specs.declared.description.Name.{Name}
use Rattle.lin_values.specs.Gathered.{lines_of, names_of, AreNamed}
use Rattle.lin_values.specs.Warnings.{representation_warnings, name_warnings, told_by}
use Rattle.lin_values.proofs.coded.Declared.add_line.Given as goal

abbrev pub invariant-loop-name : goal.invariant-loop-name
invariant-loop-name l = record {
  named : (before : List (Name × Name)) → AreNamed l.self.types before l.fn.named.map → AreNamed l.self.types (before ++ take l.name-index (names_of l.line)) l.named.map;
  warned : (before : List (Name × Name)) → AreNamed l.self.types before l.fn.named.map → l.warned.items ≡ l.fn.warned.items ++ (representation_warnings (lines_of l.self.wide l.self.types []) l.line ++ told_by (name_warnings l.self.parts (lines_of l.self.wide l.self.types [])) before (take l.name-index (names_of l.line)));
}
