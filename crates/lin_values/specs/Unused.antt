-- 60 UnusedEncoding: an encoding that no signal has (LIN 2.2A, section 9.2.6).
use Rattle.std.specs.Prelude.{ℕ, ◌==◌, not, Bool, false, List, [], find, length, Option}
use Rattle.std.specs.Prelude.{option_and_then, IsPermutation, IsSorted}
use Rattle.std.specs.List.{list_any}
use Rattle.std.specs.Option.{option_map_or}
use Rattle.lin_cluster.specs.Findings.{finding_cmp}
use Rattle.lin_cluster.specs.FindingsNames.{at_name, when}
use Rattle.lin_cluster.specs.declared.finding.Finding.{Finding}
use Rattle.lin_cluster.specs.declared.finding.FindingKind.TheVariants.{UnusedEncoding}
use Rattle.lin_parts.specs.declared.description.Description.{Description}
use Rattle.lin_parts.specs.declared.description.Signal.{Signal}
use Rattle.lin_values.specs.Coded.{is_named, named_in}
use Rattle.lin_values.specs.Gathered.{type_number}
use Rattle.lin_values.specs.Warnings.{told_by}
use Rattle.lin_values.specs.declared.codings.CodingType.{CodingType}
use Rattle.lin_values.specs.declared.codings.Codings.{Codings}

-- the number of the type that the first name of a signal among the lines gives it: that of the first
-- type with the line's name
abbrev pub encoding_number : Codings → Signal → Option ℕ
encoding_number k s =
    option_and_then (λ p. type_number k.types p.1)
    (find (is_named s.name.text) (named_in k.lines))

abbrev pub is_raw_number : ℕ → Option ℕ → Bool
is_raw_number n number = option_map_or (λ m. m == n) number false

-- no signal has the type, whose number is that of the types before it
abbrev pub unused_encoding : Description → Codings → List CodingType → CodingType → List Finding
unused_encoding d k before t =
    when (not (list_any (λ s. is_raw_number (length before) (encoding_number k s)) d.signals))
    (at_name UnusedEncoding t.name)

abbrev pub unused_encodings : Description → Codings → List Finding
unused_encodings d k = told_by (unused_encoding d k) [] k.types

-- all of them, by line, then by column
pub record AreUnused (d : Description) (k : Codings) (found : List Finding) : Type 0 where
  pub all : IsPermutation (unused_encodings d k) found
  pub ordered : IsSorted finding_cmp found
