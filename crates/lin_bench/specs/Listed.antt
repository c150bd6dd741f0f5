-- The lines that are listed while the bad lines of a script are.
use Rattle.std.specs.Prelude.{Bool, false, [], get_or, slice_get}
use Rattle.std.specs.Option.{option_map_or}
use Rattle.lin_bench.specs.declared.place.LinePlace.{LinePlace}
use Rattle.lin_bench.specs.declared.listed.ListedLines.{ListedLines}

-- whether a line is: a file that isn't kept has none, and lines behind the last one that is aren't kept
abbrev pub listed_in : ListedLines → LinePlace → Bool
listed_in l p = get_or (option_map_or (λ v. v.items) (slice_get l.files.items p.file) []) p.line false
