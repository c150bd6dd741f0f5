use Rattle.std.proofs.Common.{◌≡◌, ℕ, List, map, take, option_map}
use Rattle.std.specs.Prelude.{find}
use Rattle.std.specs.Str.{bytes_eq}
use Rattle.std.specs.Option.{option_or}
use Rattle.lin_sections.specs.NewNames.{keyed_name, known_by, new_name_of, KeyedName}
use Rattle.lin_sections.proofs.diff.new_names.NewNames.add_renamed.Given as goal

abbrev pub invariant-loop-old : goal.invariant-loop-old
invariant-loop-old l =
    (q : List ℕ) → known_by l.self q ≡ option_or (known_by l.fn.self q) (option_map (new_name_of (map keyed_name l.olds) (map keyed_name l.news)) (find (λ (k : KeyedName). bytes_eq k.name q) (map keyed_name (take l.old-index l.olds))))
