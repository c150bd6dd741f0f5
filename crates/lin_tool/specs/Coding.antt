-- A cluster with what the values of its signals mean, by the sections of encodings of its LDF text,
-- and with what is odd in a text in which nothing is wrong.
use Rattle.std.specs.Prelude.{◌≡◌, ℕ, List, [], ◌++◌, map, is_some, Option, Some, None, option_map}
use Rattle.std.specs.Prelude.{Bool, true, ◌||◌, if◌then◌else◌, IsPermutation, IsSorted, Result, Ok, Err}
use Rattle.std.specs.Borrow.{Bor}
use Rattle.std.specs.Option.{option_map_or}
use Rattle.lin_ldf.specs.Describes.{Describes}
use Rattle.lin_ldf.specs.Symbols.{Symbol, symbols_in}
use Rattle.lin_ldf.specs.Tokens.{AreTokens}
use Rattle.lin_ldf.specs.declared.token.Token.{Token}
use Rattle.lin_parts.specs.declared.description.Description.{Description}
use Rattle.lin_parts.specs.declared.description.Name.{Name}
use Rattle.lin_cluster.specs.Lint.{lints}
use Rattle.lin_cluster.specs.declared.finding.Finding.{Finding}
use Rattle.lin_cluster.specs.declared.lints.configurable.Configurable.{Configurable}
use Rattle.lin_parts.specs.declared.parts.Parts.{Parts}
use Rattle.lin_field.specs.Checks.{remark, remark_cmp}
use Rattle.lin_field.specs.declared.field_check.Checked.{Checked}
use Rattle.lin_field.specs.declared.field_check.Remark.{Remark}
use Rattle.lin_tool.specs.Clusters.{IsClusterOf, TextFaults}
use Rattle.lin_tool.specs.Limits.{node_limits}
use Rattle.lin_tool.specs.declared.coding.Described.{Described}
use Rattle.lin_tool.specs.declared.coding.Encodings.{Encodings}
use Rattle.lin_tool.specs.declared.coding.Encodings.TheVariants.{Unread, Read, Told}
use Rattle.lin_tool.specs.declared.coding.Extras.{Extras}
use Rattle.lin_tool.specs.declared.coding.ExtraSections.{ExtraSections}
use Rattle.lin_tool.specs.declared.fault.Fault.{Fault}
use Rattle.lin_sections.specs.AttributeLints.{attribute_lints}
use Rattle.lin_sections.specs.AttributeValues.{header_version}
use Rattle.lin_sections.specs.Attributes.{node_attributes}
use Rattle.lin_values.specs.Coded.{coded_signals, CodedData}
use Rattle.lin_sections.specs.Configured.{configurables}
use Rattle.lin_sections.specs.Configuring.{configured_by, warnings_by}
use Rattle.lin_sections.specs.Reading.{codings, field_codings}
use Rattle.lin_sections.specs.TransferLimits.{transfer_limits}
use Rattle.lin_sections.specs.declared.transfer_limits.TransferLimits.{TransferLimits}
use Rattle.lin_sections.specs.Unknown.{unknown_words}
use Rattle.lin_values.specs.Unused.{unused_encodings}
use Rattle.lin_values.specs.Warnings.{encoding_warnings}
use Rattle.lin_values.specs.declared.codings.Codings.{Codings}

-- whether the sections of encodings are read, as they are where a text is linted
abbrev pub are_read : Encodings → Bool → Bool
are_read Unread is_linted = is_linted
are_read Read is_linted = true
are_read Told is_linted = true

-- what the sections of encodings among tokens say; with --field these are the names of the wide signals
abbrev pub codings_with : Option (List Name) → List Symbol → Codings
codings_with None ts = codings ts
codings_with (Some wide) ts = field_codings wide ts

-- the same, where they are read
abbrev pub codings_read : Option (List Name) → Bool → List Symbol → Option Codings
codings_read wide is_read ts = if is_read then Some (codings_with wide ts) else None

-- the lists of configurable frames among them, where a text is linted
abbrev pub configurables_read : Bool → List Symbol → Option (List Configurable)
configurables_read is_linted ts = if is_linted then Some (configurables ts) else None

-- the words of sections and attributes that LIN doesn't have, if they are reported
abbrev pub unknown_read : Bool → List Symbol → List Finding
unknown_read is_reported ts = if is_reported then unknown_words ts else []

-- what is odd in the attributes of a description's nodes, where a text is linted
abbrev pub attributes_read : Bool → Description → List Symbol → List Finding
attributes_read is_linted d ts =
    if is_linted then attribute_lints d (header_version ts) (node_attributes ts) else []

-- all that, of the words and then of the attributes
abbrev pub found_read : Bool → Bool → Description → List Symbol → List Finding
found_read is_reported is_linted d ts = unknown_read is_reported ts ++ attributes_read is_linted d ts

-- the limits of transfers, if the sections are read for more than a lint
abbrev pub limits_read : Encodings → List Symbol → List TransferLimits
limits_read Unread ts = []
limits_read Read ts = transfer_limits ts
limits_read Told ts = transfer_limits ts

-- what the extras want of all that; with --field the unknown words in any case
abbrev pub sections_read : Option (List Name) → Extras → Description → List Symbol → ExtraSections
sections_read wide x d ts =
    record {
      codings = codings_read wide (are_read x.encodings x.is_linted) ts;
      configurables = configurables_read x.is_linted ts;
      found = found_read (is_some wide || x.is_linted) x.is_linted d ts;
      limits = limits_read x.encodings ts;
    }

-- the same, where the names of the wide signals are lent
abbrev pub codings_in : Option (Bor (List Name)) → Bool → List Symbol → Option Codings
codings_in wide is_read ts = codings_read (option_map (λ names. names.now) wide) is_read ts

abbrev pub sections_in : Option (Bor (List Name)) → Extras → Description → List Symbol → ExtraSections
sections_in wide x d ts = sections_read (option_map (λ names. names.now) wide) x d ts

-- what of that is kept, and not read for a lint alone
abbrev pub codings_kept : Encodings → Option Codings → Option Codings
codings_kept Unread k = None
codings_kept Read k = k
codings_kept Told k = k

-- what the values of a cluster's signals mean by that
abbrev pub coded_read : Encodings → Parts → Option Codings → Option CodedData
coded_read e c k = option_map (coded_signals c) (codings_kept e k)

-- what is told of what is found in the sections of encodings
abbrev pub reported_findings : Encodings → List Finding → List Finding
reported_findings Unread found = []
reported_findings Read found = []
reported_findings Told found = found

-- what is wrong with them
abbrev pub codings_told : Encodings → Parts → Option Codings → List Finding
codings_told e c k = reported_findings e (option_map_or (encoding_warnings c) (codings_kept e k) [])

-- the encodings that no signal has
abbrev pub unused_told : Description → Option Codings → List Finding
unused_told d k = option_map_or (unused_encodings d) k []

-- what is odd in a description, with the signals that frames outside of it have, and in its encodings,
-- where its text is linted
abbrev pub lints_told : Description → List Name → Option (List Configurable) → Option Codings
    → List Finding
lints_told d e cs k = option_map_or (λ c. lints d e c ++ unused_told d k) cs []

-- warnings with that
abbrev pub with_lints : Description → List Name → Option (List Configurable) → Option Codings
    → List Remark → List Remark
with_lints d e cs k rs = rs ++ map (remark true) (lints_told d e cs k)

-- these are the warnings with that, in some order
abbrev pub AddsLints : Description → List Name → Option (List Configurable) → Option (Bor Codings)
    → List Remark → List Remark → Type 0
AddsLints d e cs k rs all = IsPermutation (with_lints d e cs (option_map (λ codings. codings.now) k) rs) all

-- the cluster with the requests of its node configuration commands, where these are sent
abbrev pub configured_read : Bool → Parts → List Symbol → Parts
configured_read is_configured c ts = if is_configured then configured_by c ts else c

-- what is wrong with the commands, where these are sent
abbrev pub configuring_told : Bool → Parts → List Symbol → List Finding
configuring_told is_configured c ts = if is_configured then warnings_by c ts else []

-- these are the warnings of a checked cluster with that, in some order
abbrev pub AddsCommands : Bool → Checked → List Symbol → List Remark → Type 0
AddsCommands is_configured checked ts all =
    IsPermutation
    (checked.warnings ++ map (remark true) (configuring_told is_configured checked.cluster ts)) all

-- these are warnings with what is wrong with encodings: by place, then by number
pub record AreWarnings (e : Encodings) (c : Parts) (k : Option Codings) (rs warned : List Remark)
    : Type 0 where
  pub all : IsPermutation (rs ++ map (remark true) (codings_told e c k)) warned
  pub ordered : IsSorted remark_cmp warned

-- ---- plain texts

-- the sections of a text say this, as far as the extras want them
abbrev pub SaysSections : Extras → List ℕ → Description → ExtraSections → Type 0
SaysSections x text d s =
    (ts : List Token) × AreTokens text ts × (s ≡ sections_read None x d (symbols_in text ts))

-- what a text describes and what its sections say, or why it describes nothing
abbrev pub AnswersSections : Extras → Result (Description × ExtraSections) Fault → List ℕ → Type 0
AnswersSections x (Ok parsed) text =
    Describes text parsed.0 × SaysSections x text parsed.0 parsed.1
AnswersSections x (Err fault) text = TextFaults fault text

-- this is the cluster of what a text describes, with the requests of its commands where these are sent,
-- and these are the warnings
pub record IsCodedCluster (x : Extras) (text : List ℕ) (d : Described) (warned : List Remark)
    : Type 0 where
  pub checked : Parts
  pub cluster : IsClusterOf text checked
  pub tokens : List Token
  pub are : AreTokens text tokens
  pub sends : d.cluster ≡ configured_read x.is_configured checked (symbols_in text tokens)
  pub sections : ExtraSections
  pub says : SaysSections x text cluster.description sections
  pub coded : d.coded ≡ coded_read x.encodings d.cluster sections.codings
  pub limits : d.limits ≡ node_limits d.cluster sections.limits
  pub warnings
      : AreWarnings x.encodings d.cluster sections.codings
      (with_lints cluster.description [] sections.configurables sections.codings
      (map (remark true) sections.found)
      ++ map (remark true)
      (configuring_told x.is_configured checked (symbols_in text tokens)))
      warned

-- what is answered to an LDF text, with these warnings
abbrev pub AnswersCoded : Extras → Result Described Fault → List Remark → List ℕ → Type 0
AnswersCoded x (Ok d) warned text = IsCodedCluster x text d warned
AnswersCoded x (Err fault) warned text = TextFaults fault text

-- what is answered to what was parsed of an LDF text, whose commands are read in this text
abbrev pub AnswersParsed : Extras → Result (Description × ExtraSections) Fault → List ℕ → Result Described Fault
    → List Remark → Type 0
AnswersParsed x parsed text result warned =
    (source : List ℕ) → (x.is_configured ≡ true → text ≡ source) → AnswersSections x parsed source
    → AnswersCoded x result warned source
