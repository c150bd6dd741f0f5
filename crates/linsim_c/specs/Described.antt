-- The cluster of an LDF with what the values of its signals mean, or why there is none.
use Rattle.std.specs.Prelude.{◌≡◌, ◌≢◌, ◌<◌, ◌≤◌, ℕ, List, [], ◌∷◌, flat_map, length, not, option_map, Some, Bool, true, false}
use Rattle.std.specs.Prelude.{Result, Ok, Err, if◌then◌else◌}
use Rattle.std.specs.List.{find}
use Rattle.std.specs.Option.{option_map_or}
use Rattle.std.specs.Str.{bytes_eq}
use Rattle.lin_frame.specs.Words.{numbers}
use Rattle.lin_ldf.specs.Stream.{start_of}
use Rattle.lin_ldf.specs.Symbols.{symbols_in}
use Rattle.lin_ldf.specs.Tokens.{IsLexFault}
use Rattle.lin_ldf.specs.declared.fault.LdfFault.{LdfFault}
use Rattle.lin_ldf.specs.declared.fault.LdfFault.TheVariants as ldf
use Rattle.lin_cluster.specs.Described.{parts_of}
use Rattle.lin_cluster.specs.declared.finding.Finding.{Finding}
use Rattle.lin_parts.specs.declared.description.Name.{Name}
use Rattle.lin_parts.specs.Cluster.{node_of, nodes}
use Rattle.lin_parts.specs.declared.parts.Parts.{Parts}
use Rattle.lin_bench.specs.declared.rules.NodeLimits.{NodeLimits}
use Rattle.lin_field.specs.Bytes.{field_bytes}
use Rattle.lin_field.specs.Checks.{IsFieldFree, IsRefusalOf}
use Rattle.lin_field.specs.Describes.{ReadsFieldText}
use Rattle.lin_field.specs.Marks.{text_with_blanks}
use Rattle.lin_field.specs.Order.{byte_order}
use Rattle.lin_field.specs.Settled.{placed_elsewhere, normalized_description, warnings}
use Rattle.lin_field.specs.Signals.{wide_names}
use Rattle.lin_field.specs.declared.field_check.FieldFault.TheVariants.{Remarks}
use Rattle.lin_field.specs.declared.field_check.Remark.{Remark}
use Rattle.lin_field.specs.declared.field_text.FieldText.{FieldText}
use Rattle.lin_field.specs.declared.normalizing.Normalized.{Normalized}
use Rattle.lin_values.specs.Coded.{CodedData, coded_signals}
use Rattle.lin_sections.specs.Configuring.{configured_by}
use Rattle.lin_sections.specs.Reading.{codings, field_codings}
use Rattle.lin_sections.specs.TransferLimits.{transfer_limits}
use Rattle.lin_sections.specs.declared.transfer_limits.TransferLimits.{TransferLimits}
use Rattle.linsim_c.specs.Setups.{IsClusterOf, TextFaults, most_ldf_bytes}
use Rattle.linsim_c.specs.declared.ldf_cluster.Described.{Described}
use Rattle.linsim_c.specs.declared.fault.Fault.{Fault}
use Rattle.linsim_c.specs.declared.fault.Fault.TheVariants.{Ldf, LdfTooLong, OutOfMemory}
use Rattle.linsim_c.specs.declared.fault.Fault.TheVariants as fault

-- the limits of transfers in an LDF, by the nodes of its cluster (LIN 2.2A, section 9.2.2.2)
abbrev pub limits_at : Parts → List TransferLimits → ℕ → List NodeLimits
limits_at c named n =
    option_map_or (λ l. record { node = n; down_us = l.down_us; up_us = l.up_us } ∷ [])
    (find (λ l. bytes_eq l.node.text (node_of c n).name) named) []

abbrev pub node_limits : Parts → List TransferLimits → List NodeLimits
node_limits c named = flat_map (limits_at c named) (numbers (nodes c))

abbrev pub limits_in : List ℕ → Parts → List NodeLimits
limits_in text c = node_limits c (transfer_limits (symbols_in text (start_of text).tokens))

-- what the sections of encodings of a text say of the signals of a cluster
abbrev pub coded_in : List ℕ → Parts → CodedData
coded_in text c = coded_signals c (codings (symbols_in text (start_of text).tokens))

-- the same, as with `--field`; these are the names of the wide signals
abbrev pub field_coded_in : List Name → List ℕ → Parts → CodedData
field_coded_in wide text c = coded_signals c (field_codings wide (symbols_in text (start_of text).tokens))

-- a cluster with the requests of the node configuration commands of a text, where these are sent
abbrev pub configured_in : Bool → List ℕ → Parts → Parts
configured_in is_configured text c =
    if is_configured then configured_by c (symbols_in text (start_of text).tokens) else c

-- ---- standard LDFs
abbrev pub IsStandard : Bool → List ℕ → Described → Type 0
IsStandard is_configured text d =
    (c : Parts) × IsClusterOf text c × (d.cluster ≡ configured_in is_configured text c)
    × (d.coded ≡ coded_in text d.cluster)
    × (d.limits ≡ limits_in text d.cluster)

abbrev pub AnswersStandard : Bool → Result Described Fault → List ℕ → Type 0
AnswersStandard is_configured (Ok d) text = IsStandard is_configured text d
AnswersStandard is_configured (Err why) text = TextFaults why text

-- ---- LDFs that are read as with `--field`

-- the text is read as this, and settled to this
pub record IsNormalized (text : List ℕ) (read : FieldText) (s : Normalized) : Type 0 where
  pub reads : ReadsFieldText text read
  pub description : s.description ≡ normalized_description read.loose
  pub wide : s.wide ≡ wide_names read.loose.signals
  pub elsewhere : s.placed_elsewhere ≡ placed_elsewhere read.loose
  pub warnings : s.warnings.items ≡ warnings read
  pub order : s.byte_order.items ≡ byte_order read.loose

-- the bytes of a text where what is read over is spaces
abbrev pub blanked_text : List ℕ → FieldText → List ℕ
blanked_text text read = text_with_blanks (field_bytes text) read.marks

-- the text describes nothing; where its tokens have a fault, it is this one
pub record IsFieldFault (text : List ℕ) (f : LdfFault) : Type 0 where
  pub some : f ≢ ldf.OutOfMemory
  pub nothing : (read : FieldText) → ReadsFieldText text read → ⊥
  pub first : (lexed : LdfFault) → IsLexFault (field_bytes text) lexed → lexed ≢ ldf.OutOfMemory
      → f ≡ lexed

-- what a text is settled to, and the bytes that are left of it; or why it isn't
abbrev pub AnswersNormalized : Result Normalized Fault → List ℕ → List ℕ → Type 0
AnswersNormalized (Ok s) text left = (read : FieldText) × IsNormalized text read s × (left ≡ blanked_text text read)
AnswersNormalized (Err (Ldf f)) text left = IsFieldFault text f
AnswersNormalized (Err OutOfMemory) text left = Unit {0}
AnswersNormalized (Err _) text left = ⊥

-- the first, by place and number, of what is wrong with what a text is settled to
abbrev pub is_wrong : Remark → Bool
is_wrong r = not r.is_warning

abbrev pub IsFirstWrong : Normalized → Finding → Type 0
IsFirstWrong s f =
    (remarks : List Remark) × IsRefusalOf s (Remarks remarks)
    × (option_map (λ r. r.finding) (find is_wrong remarks) ≡ Some f)

-- nothing is, and this is its cluster; or what is wrong
abbrev pub ChecksField : Result Parts Fault → Normalized → Type 0
ChecksField (Ok c) s = IsFieldFree s × (c ≡ parts_of s.description)
ChecksField (Err (fault.Finding f)) s = IsFirstWrong s f
ChecksField (Err OutOfMemory) s = Unit {0}
ChecksField (Err _) s = ⊥

-- what its encodings say, too, by the bytes that are left of the text
abbrev pub AnswersChecked : Bool → Result Described Fault → Normalized → List ℕ → Type 0
AnswersChecked is_configured (Ok d) s left =
    (c : Parts) × ChecksField (Ok c) s × (d.cluster ≡ configured_in is_configured left c)
    × (d.coded ≡ field_coded_in s.wide left d.cluster)
    × (d.limits ≡ limits_in left d.cluster)
AnswersChecked is_configured (Err why) s left = ChecksField (Err why) s

-- the cluster of what the text is settled to, in which nothing is wrong
pub record IsField (is_configured : Bool) (text : List ℕ) (d : Described) : Type 0 where
  pub read : FieldText
  pub s : Normalized
  pub settled : IsNormalized text read s
  pub free : IsFieldFree s
  pub said : d.cluster ≡ configured_in is_configured (blanked_text text read) (parts_of s.description)
  pub coded : d.coded ≡ field_coded_in s.wide (blanked_text text read) d.cluster
  pub limits : d.limits ≡ limits_in (blanked_text text read) d.cluster

abbrev pub FieldFaults : Fault → List ℕ → Type 0
FieldFaults (Ldf f) text = IsFieldFault text f
FieldFaults (fault.Finding f) text =
    (read : FieldText) × (s : Normalized) × IsNormalized text read s × IsFirstWrong s f
FieldFaults OutOfMemory text = Unit {0}
FieldFaults _ text = ⊥

abbrev pub AnswersField : Bool → Result Described Fault → List ℕ → Type 0
AnswersField is_configured (Ok d) text = IsField is_configured text d
AnswersField is_configured (Err why) text = FieldFaults why text

-- ---- either

abbrev pub AnswersAs : Bool → Bool → Result Described Fault → List ℕ → Type 0
AnswersAs true is_configured answer text = AnswersField is_configured answer text
AnswersAs false is_configured answer text = AnswersStandard is_configured answer text

abbrev pub AnswersLdfText : Bool → Bool → Result Described Fault → List ℕ → Type 0
AnswersLdfText is_field is_configured (Err LdfTooLong) text = most_ldf_bytes < length text
AnswersLdfText is_field is_configured answer text =
    (length text ≤ most_ldf_bytes) × AnswersAs is_field is_configured answer text
