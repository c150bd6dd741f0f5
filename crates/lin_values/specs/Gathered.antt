-- What the lines of signals come to, as it is gathered.
use Rattle.std.specs.Prelude.{◌≡◌, ℕ, ◌%◌, ◌==◌, ◌&&◌, ◌||◌, ◌++◌, not, Bool, List, [], ◌∷◌, map, find}
use Rattle.std.specs.Prelude.{nat_lt, Option, Some, None, if◌then◌else◌, option_and_then, position}
use Rattle.std.specs.Prelude.{slice_index_or}
use Rattle.std.specs.Option.{option_map}
use Rattle.std.specs.Str.{bytes_eq}
use Rattle.indexmap.specs.IndexMap.{get_by, IndexMap}
use Rattle.lin_cluster.specs.FindingsNames.{at_name, same_name, when}
use Rattle.lin_cluster.specs.Names.{NumbersFirst}
use Rattle.lin_cluster.specs.declared.finding.Finding.{Finding}
use Rattle.lin_cluster.specs.declared.finding.FindingKind.TheVariants as finding
use Rattle.lin_parts.specs.Rules.{is_array}
use Rattle.lin_parts.specs.declared.parts.Parts.{Parts}
use Rattle.lin_parts.specs.declared.parts.Signal.{Signal}
use Rattle.lin_parts.specs.declared.description.Name.{Name}
use Rattle.lin_values.specs.Coded.{is_named, is_wide_in, signal_coding, SignalCoding}
use Rattle.lin_values.specs.Traits.{has_coding}
use Rattle.lin_values.specs.Warnings.{kind_warnings, representation_warnings, greatest_number, has_numbers, name_warnings, signal_by_name, told_by}
use Rattle.lin_values.specs.Warnings.{type_warning}
use Rattle.lin_values.specs.declared.coded.CodedSignal.{CodedSignal}
use Rattle.lin_values.specs.declared.encoding.Coding.TheVariants.{Bcd, Ascii}
use Rattle.lin_values.specs.declared.encoding.Traits.{Traits}
use Rattle.lin_values.specs.declared.codings.CodedLine.{CodedLine}
use Rattle.lin_values.specs.declared.codings.CodingType.{CodingType}
use Rattle.lin_values.specs.declared.codings.Codings.{Codings}
use denote.Ref.{Bor}

-- ---- signals

abbrev pub signal_without_coding : List Name → Signal → CodedSignal
signal_without_coding wide s = record {
  bits = s.size;
  is_array = is_array s.initial;
  is_wide = is_wide_in wide s;
  encoding = None;
}

-- the first signal with each name
abbrev pub AreSignalsByName : {S : Type 0} → List Name → Parts → IndexMap (Bor (List ℕ)) CodedSignal S
    → Type 0
AreSignalsByName wide c m =
    (q : List ℕ)
    → get_by (λ k. bytes_eq q k.now) m
    ≡ option_map (signal_without_coding wide) (find (λ s. bytes_eq s.name q) c.signals)

-- the number of the encoding that a name has
abbrev pub encoding_in : {S : Type 0} → IndexMap (Bor (List ℕ)) (Option ℕ) S → List ℕ → Option ℕ
encoding_in m name = option_and_then (λ e. e) (get_by (λ k. bytes_eq name k.now) m)

abbrev pub signal_in : {S : Type 0} → List Name → IndexMap (Bor (List ℕ)) (Option ℕ) S → Signal
    → CodedSignal
signal_in wide m s = record (signal_without_coding wide s) { encoding = encoding_in m s.name }

-- these are the signals of a cluster, each with the encoding that its name has
abbrev pub AreSignalsIn : {R S : Type 0} → IndexMap (Bor (List ℕ)) ℕ R → IndexMap (Bor (List ℕ)) (Option ℕ) S
    → Parts → List CodedSignal → Type 0
AreSignalsIn wide m c signals =
    (names : List Name) → NumbersFirst (λ n. n) names wide → signals ≡ map (signal_in names m) c.signals

abbrev pub is_other_kind : Traits → CodedSignal → Bool
is_other_kind t s =
    if s.is_array && not s.is_wide then t.is_numeric
    else has_coding t Bcd && not (s.bits % 4 == 0) || (has_coding t Ascii && not (s.bits % 8 == 0))

abbrev pub told_of_kind : Traits → CodedSignal → Name → List Finding
told_of_kind t s n =
    when (has_numbers s.is_array s.is_wide && (t.is_numeric && nat_lt (greatest_number s.bits s.is_wide) t.greatest))
    (at_name finding.ValueOutside n)
    ++ when (is_other_kind t s) (at_name finding.KindOfSignal n)

-- ---- types

-- the number of the first type with a name
abbrev pub type_number : List CodingType → Name → Option ℕ
type_number ts n = position (λ t. same_name t.name n) ts

abbrev pub type_at : List CodingType → Option ℕ → Option CodingType
type_at ts number = option_and_then (λ n. slice_index_or (map (λ t. Some t) ts) n None) number

-- the types and the parts of a cluster, found by their names
pub record DeclaredData : Type 0 where
  pub types : List CodingType
  pub parts : Parts
  pub wide : List Name

pub record IsDeclared {S R : Type 0} (c : Parts) (wide : List Name) (ts : List CodingType)
    (by_name : IndexMap (Bor (List ℕ)) ℕ S) (named : IndexMap (Bor (List ℕ)) CodedSignal R)
    : Type 0 where
  pub types : NumbersFirst (λ t. t.name) ts by_name
  pub signals : AreSignalsByName wide c named

-- ---- lines

abbrev pub names_of : CodedLine → List (Name × Name)
names_of l = map (λ n. (n, l.encoding)) l.signals

-- the number of the encoding of each of these names
abbrev pub AreNamed : {S : Type 0} → List CodingType → List (Name × Name)
    → IndexMap (Bor (List ℕ)) (Option ℕ) S → Type 0
AreNamed ts named m =
    (q : List ℕ)
    → get_by (λ k. bytes_eq q k.now) m
    ≡ option_map (λ p. type_number ts p.1) (find (is_named q) named)

-- names were added, each with the encoding that it has behind earlier ones
abbrev pub AddsNamed : {S : Type 0} → List CodingType → List (Name × Name) → IndexMap (Bor (List ℕ)) (Option ℕ) S
    → IndexMap (Bor (List ℕ)) (Option ℕ) S → Type 0
AddsNamed ts names old new =
    (before : List (Name × Name)) → AreNamed ts before old → AreNamed ts (before ++ names) new

-- those of a line whose encoding has this number
abbrev pub AddsNamedLine : {S : Type 0} → Option ℕ → CodedLine → IndexMap (Bor (List ℕ)) (Option ℕ) S
    → IndexMap (Bor (List ℕ)) (Option ℕ) S → Type 0
AddsNamedLine number l old new =
    (ts : List CodingType) (before : List (Name × Name)) → number ≡ type_number ts l.encoding
    → AreNamed ts before old → AreNamed ts (before ++ names_of l) new

abbrev pub lines_of : List Name → List CodingType → List CodedLine → Codings
lines_of wide ts ls = record { types = ts; lines = ls; bad = []; wide = wide }

-- the signals of a cluster, with their encodings
abbrev pub signal_codings : Parts → List Name → List CodingType → List CodedLine → List SignalCoding
signal_codings c wide ts ls = map (signal_coding (lines_of wide ts ls)) c.signals

abbrev pub kind_told : Option CodingType → CodedSignal → Name → List Finding
kind_told None s n = []
kind_told (Some t) s n =
    kind_warnings n (record { bits = s.bits; is_array = s.is_array; is_wide = s.is_wide; encoding = None }) t

-- what is told of a name of this encoding, which is the first of its kind or not
abbrev pub name_told : List Name → Bool → Option CodingType → Name → Option Signal → List Finding
name_told wide is_first t n None = at_name finding.UnknownSignal n ∷ []
name_told wide is_first t n (Some s) =
    if is_first then kind_told t (signal_without_coding wide s) n else at_name finding.RepresentedTwice n ∷ []

abbrev pub told_of_name : DeclaredData → Bool → Option ℕ → Name → List Finding
told_of_name d is_first number n =
    name_told d.wide is_first (type_at d.types number) n (signal_by_name d.parts n)

abbrev pub line_told : Parts → List Name → List CodingType → List (Name × Name) → CodedLine
    → List Finding
line_told c wide ts before l =
    representation_warnings (lines_of wide ts []) l
    ++ told_by (name_warnings c (lines_of wide ts [])) before (names_of l)

-- what is wrong with a line was told, by the names that stand before it
abbrev pub TellsLine : {S : Type 0} → DeclaredData → CodedLine → IndexMap (Bor (List ℕ)) (Option ℕ) S
    → List Finding → List Finding → Type 0
TellsLine d l named old new =
    (before : List (Name × Name)) → AreNamed d.types before named
    → new ≡ old ++ line_told d.parts d.wide d.types before l

abbrev pub lines_told : Parts → List Name → List CodingType → List (Name × Name) → List CodedLine
    → List Finding
lines_told c wide ts before [] = []
lines_told c wide ts before (l ∷ ls) =
    line_told c wide ts before l ++ lines_told c wide ts (before ++ names_of l) ls

-- what is wrong with names: of types, of encodings of lines, and of signals
abbrev pub gathered_warnings : Parts → List Name → List CodingType → List CodedLine → List Finding
gathered_warnings c wide ts ls = told_by type_warning [] ts ++ lines_told c wide ts [] ls
