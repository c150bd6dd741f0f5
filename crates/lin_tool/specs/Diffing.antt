-- What comparing two LDFs answers.
use Rattle.std.specs.Prelude.{◌≡◌, ℕ, Bool, true, false, List, [], Option, Result, Ok, Err}
use Rattle.std.specs.Io.KnownBytes.{Appends, Keeps}
use Rattle.std.specs.List.{list_any}
use Rattle.lin_cluster.specs.Described.{parts_of}
use Rattle.lin_export.specs.TableLoads.{table_loads}
use Rattle.lin_sections.specs.ListedDifferences.{difference_lines, lists_class}
use Rattle.lin_sections.specs.declared.diff.difference_lines.Classes.{Classes}
use Rattle.lin_field.specs.Checks.{IsFieldFree, IsRefusalOf}
use Rattle.lin_field.specs.declared.field_check.FieldFault.TheVariants as check
use Rattle.lin_field.specs.declared.normalizing.Normalized.{Normalized}
use Rattle.lin_ldf.specs.Describes.{Describes}
use Rattle.lin_ldf.specs.Stream.{start_of}
use Rattle.lin_ldf.specs.Symbols.{Symbol, symbols_in}
use Rattle.lin_parts.specs.declared.description.Description.{Description}
use Rattle.lin_parts.specs.declared.parts.Parts.{Parts}
use Rattle.lin_sections.specs.Differences.{all_differences, DifferenceData}
use Rattle.lin_sections.specs.NewNames.{no_renames}
use Rattle.lin_sections.specs.Reading.{codings, field_codings}
use Rattle.lin_sections.specs.Renames.{all_renames}
use Rattle.lin_sections.specs.Things.{all_things, ComparedData}
use Rattle.lin_tool.specs.Clusters.{IsSaidBy, TextFaults}
use Rattle.lin_tool.specs.Field.{IsFieldFault, IsNormalized, IsReadOver}
use Rattle.lin_tool.specs.Formats.{Begins}
use Rattle.lin_values.specs.declared.codings.Codings.{Codings}
use Rattle.lin_tool.specs.declared.describing.Reading.{Reading}
use Rattle.lin_tool.specs.declared.describing.Reading.TheVariants.{Plain, Field}
use Rattle.lin_tool.specs.declared.diffing.ReadLdf.{ReadLdf}
use Rattle.lin_tool.specs.declared.fault.Fault.{Fault}
use Rattle.lin_tool.specs.declared.fault.Fault.TheVariants.{Differs, Ldf, Remarks, OutOfMemory, WriteFailed}

-- ---- an LDF that is compared

-- the description and the cluster of an LDF of LIN 2.1 or 2.2, or why there are none
abbrev pub ReadsStandard : Result (Description × Parts) Fault → List ℕ → Type 0
ReadsStandard (Ok read) text = Describes text read.0 × IsSaidBy read.0 read.1
ReadsStandard (Err fault) text = TextFaults fault text

-- These are the normalized description and the cluster of an LDF that `--field` accepts, and these bytes are left
-- of its text.
pub record IsFieldLdf (text left : List ℕ) (description : Description) (cluster : Parts) : Type 0 where
  pub s : Normalized
  pub normalized : IsNormalized text s
  pub over : IsReadOver text left
  pub free : IsFieldFree s
  pub description_is : description ≡ s.description
  pub cluster_is : cluster ≡ parts_of s.description

-- why `--field` doesn't accept an LDF
abbrev pub FieldFaults : Fault → List ℕ → Type 0
FieldFaults (Ldf f) text = IsFieldFault text f
FieldFaults (Remarks found) text = (s : Normalized) × IsNormalized text s × IsRefusalOf s (check.Remarks found.0)
FieldFaults OutOfMemory text = Unit {0}
FieldFaults _ text = ⊥

abbrev pub ReadsField : Result (Description × Parts) Fault → List ℕ → List ℕ → Type 0
ReadsField (Ok read) text left = IsFieldLdf text left read.0 read.1
ReadsField (Err fault) text left = FieldFaults fault text

-- the same of an LDF that is read so; these bytes are left of its text
abbrev pub ReadsCluster : Reading → Result (Description × Parts) Fault → List ℕ → List ℕ → Type 0
ReadsCluster Plain result text left = (left ≡ text) × ReadsStandard result text
ReadsCluster Field result text left = ReadsField result text left

-- what the sections of encodings among tokens contain; which signals are wide isn't compared
abbrev pub codings_by : Reading → List Symbol → Codings
codings_by Plain ts = codings ts
codings_by Field ts = field_codings [] ts

-- what is compared of an LDF
abbrev pub read_data : ReadLdf → ComparedData
read_data ldf =
    let tokens = symbols_in ldf.text.items (start_of ldf.text.items).tokens
    in record {
      tokens = tokens;
      description = ldf.description;
      cluster = ldf.cluster;
      codings = codings_by ldf.reading tokens;
      loads = ldf.loads.items;
    }

-- An LDF is read so, and the loads are those of the cluster's schedule tables.
abbrev pub HasFacts : Reading → ReadLdf → Type 0
HasFacts reading ldf = (ldf.reading ≡ reading) × (ldf.loads.items ≡ table_loads ldf.cluster)

-- what is compared of an LDF that is read so, or why there is nothing to compare
abbrev pub ReadsLdf : Reading → Result ReadLdf Fault → List ℕ → Type 0
ReadsLdf reading (Ok ldf) text =
    ReadsCluster reading (Ok (ldf.description, ldf.cluster)) text ldf.text.items × HasFacts reading ldf
ReadsLdf Plain (Err fault) text = TextFaults fault text
ReadsLdf Field (Err fault) text = FieldFaults fault text

-- ---- the differences

-- the differences between two LDFs: the things of the old one have the names that the new one has for them
abbrev pub differences_of : ComparedData → ComparedData → List DifferenceData
differences_of old new = all_differences (all_things old (all_renames old new)) (all_things new no_renames)

abbrev pub ldf_differences : ReadLdf → ReadLdf → List DifferenceData
ldf_differences old new = differences_of (read_data old) (read_data new)

-- one of these differences is of these classes
abbrev pub is_any_listed : Classes → List DifferenceData → Bool
is_any_listed classes ds = list_any (λ d. lists_class classes d.class) ds

-- What is answered where these are the differences between the LDFs in two files, and what the writer took. (The
-- lines are those of the differences of these classes, so there are none after Ok.)
abbrev pub WritesCompared : List ℕ → List ℕ → Classes → List DifferenceData → Result Unit Fault
    → Option (List ℕ) → Option (List ℕ) → Type 0
WritesCompared old_file new_file classes ds (Ok done) old new =
    Appends old new (difference_lines old_file new_file classes ds) × (is_any_listed classes ds ≡ false)
WritesCompared old_file new_file classes ds (Err Differs) old new =
    Appends old new (difference_lines old_file new_file classes ds) × (is_any_listed classes ds ≡ true)
WritesCompared old_file new_file classes ds (Err WriteFailed) old new =
    Begins old new (difference_lines old_file new_file classes ds)
WritesCompared old_file new_file classes ds (Err OutOfMemory) old new = Keeps old new
WritesCompared old_file new_file classes ds (Err _) old new = ⊥
