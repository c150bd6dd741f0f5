use Rattle.std.proofs.Common.{◌≡◌, List, ◌++◌, take}
use Rattle.lin_parts.specs.declared.description.Name.{Name}
use Rattle.lin_values.specs.Gathered.{names_of, type_number, AreNamed}
use Rattle.lin_values.specs.declared.codings.CodingType.{CodingType}
use Rattle.lin_values.proofs.unused.add_line.Given as goal

abbrev pub invariant-loop-name : goal.invariant-loop-name
invariant-loop-name l = (types : List CodingType) (before : List (Name × Name)) → l.encoding ≡ type_number types l.line.encoding → AreNamed types before l.fn.named.map → AreNamed types (before ++ take l.name-index (names_of l.line)) l.named.map
