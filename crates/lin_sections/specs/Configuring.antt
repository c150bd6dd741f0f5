-- A cluster with the requests of the node configuration commands in its text (LIN 2.2A, sections 4.2 and
-- 9.2.5), and what is wrong with the commands and with the attributes that they need: 71 to 78.
use Rattle.std.specs.Prelude.{ℕ, List, [], ◌∷◌, ◌++◌, ◌&&◌, codes, drop, find, flat_map, map}
use Rattle.std.specs.Prelude.{Option, Some, None, Result, Ok, Err, if◌then◌else◌, option_and_then}
use Rattle.std.specs.Option.{option_map_or}
use Rattle.std.specs.Str.{bytes_eq}
use Rattle.lin_cluster.specs.FindingsNames.{at_place}
use Rattle.lin_cluster.specs.declared.finding.Finding.{Finding}
use Rattle.lin_cluster.specs.declared.finding.FindingKind.TheVariants.{BadCommand, UnknownCommand}
use Rattle.lin_frame.specs.Words.{numbers}
use Rattle.lin_ldf.specs.Forms.{front}
use Rattle.lin_ldf.specs.Stream.{start_of}
use Rattle.lin_ldf.specs.Symbols.{symbols_in, Symbol}
use Rattle.lin_ldf.specs.Words.{is_word_next, name_of, place_of}
use Rattle.lin_parts.specs.Cluster.{nad, node_of, nodes}
use Rattle.lin_parts.specs.Configured.{with_configuration}
use Rattle.lin_parts.specs.declared.parts.Identity.{Identity}
use Rattle.lin_parts.specs.declared.parts.Parts.{Parts}
use Rattle.lin_sections.specs.Attributes.{node_attributes}
use Rattle.lin_sections.specs.Commands.{arguments, command_of}
use Rattle.lin_sections.specs.Identities.{identities_of, warnings_unless}
use Rattle.lin_sections.specs.Lines.{token_lines}
use Rattle.lin_sections.specs.Requests.{frames_in, identity_named, initial_nad_of, odd_arguments, request}
use Rattle.lin_sections.specs.Statements.{inside, is_group, statements}
use Rattle.lin_sections.specs.Stops.{stopped_at, value_read, Reading}
use Rattle.lin_sections.specs.declared.commands.Arguments.{Arguments}
use Rattle.lin_sections.specs.declared.commands.Command.{Command}
use Rattle.lin_sections.specs.declared.configuring.TableRequests.{TableRequests}
use Rattle.lin_sections.specs.declared.identities.NodeIdentity.{NodeIdentity}

-- the identities of responders by the blocks of a text
abbrev pub identities_by : Parts → List Symbol → List NodeIdentity
identities_by c ts = identities_of (node_of c 0).name (node_attributes ts)

-- ---- a command, by the tokens after its opening brace
abbrev pub if_found : Result (List ℕ) Finding → Option (List ℕ)
if_found (Ok bytes) = Some bytes
if_found (Err f) = None

abbrev pub command_request : Parts → List NodeIdentity → Command → List Symbol → Option (List ℕ)
command_request c ids command ts =
    option_and_then (λ a. if_found (request c ids command a)) (value_read (arguments command ts))

abbrev pub warnings_of_request : List Finding → Result (List ℕ) Finding → List Finding
warnings_of_request odd (Ok bytes) = odd
warnings_of_request odd (Err f) = f ∷ []

abbrev pub warnings_read : Parts → List NodeIdentity → Command → Reading Arguments → List Finding
warnings_read c ids command (Ok read) =
    warnings_of_request (odd_arguments c ids command read.0) (request c ids command read.0)
warnings_read c ids command (Err left) = stopped_at BadCommand left

abbrev pub command_warnings : Parts → List NodeIdentity → Command → List Symbol → List Finding
command_warnings c ids command ts = warnings_read c ids command (arguments command ts)

-- ---- an entry, by its word; one without a group is no command
abbrev pub entry_request : Parts → List NodeIdentity → List Symbol → Option (List ℕ)
entry_request c ids ts =
    if is_group ts
    then option_and_then
    (λ command. command_request c ids command (inside ts)) (command_of (front ts).text)
    else None

abbrev pub entry_warnings : Parts → List NodeIdentity → List Symbol → List Finding
entry_warnings c ids ts =
    if is_group ts
    then option_map_or
    (λ command. command_warnings c ids command (inside ts)) (command_of (front ts).text)
    (at_place UnknownCommand (place_of (front ts)) ∷ [])
    else []

-- ---- the tables of the section Schedule_tables
abbrev pub table_requests : Parts → List NodeIdentity → List Symbol → List TableRequests
table_requests c ids ts =
    if is_group ts
    then record {
      name = name_of (front ts);
      requests = map (entry_request c ids) (token_lines (inside ts));
    } ∷ []
    else []

abbrev pub table_command_warnings : Parts → List NodeIdentity → List Symbol → List Finding
table_command_warnings c ids ts =
    if is_group ts then flat_map (entry_warnings c ids) (token_lines (inside ts)) else []

abbrev pub section_requests : Parts → List NodeIdentity → List Symbol → List TableRequests
section_requests c ids ts =
    if is_group ts && is_word_next (codes "Schedule_tables") ts
    then flat_map (table_requests c ids) (statements (inside ts)) else []

abbrev pub section_warnings : Parts → List NodeIdentity → List Symbol → List Finding
section_warnings c ids ts =
    if is_group ts && is_word_next (codes "Schedule_tables") ts
    then flat_map (table_command_warnings c ids) (statements (inside ts)) else []

-- of all sections of a text
abbrev pub source_symbols : List ℕ → List Symbol
source_symbols source = symbols_in source (start_of source).tokens

abbrev pub all_requests : Parts → List NodeIdentity → List Symbol → List TableRequests
all_requests c ids ts = flat_map (section_requests c ids) (statements ts)

abbrev pub all_command_warnings : Parts → List NodeIdentity → List Symbol → List Finding
all_command_warnings c ids ts = flat_map (section_warnings c ids) (statements ts)

-- ---- the requests of the tables of a cluster, by their names
abbrev pub table_requests_named : List TableRequests → List ℕ → Option TableRequests
table_requests_named tables name = find (λ t. bytes_eq t.name.text name) tables

abbrev pub requests_named : List TableRequests → List ℕ → List (Option (List ℕ))
requests_named tables name = option_map_or (λ t. t.requests) (table_requests_named tables name) []

abbrev pub requests_in : Parts → List TableRequests → List (List (Option (List ℕ)))
requests_in c tables = map (λ t. requests_named tables t.name) c.tables

-- ---- the identities of the responders of a cluster that have an address
abbrev pub identity_in : Parts → List NodeIdentity → ℕ → ℕ → Identity
identity_in c ids n own = record {
  node = n;
  initial = initial_nad_of ids (node_of c n).name own;
  product = option_and_then (λ i. i.product) (identity_named ids (node_of c n).name);
  messages = map (λ f. f.message) (frames_in ids (node_of c n).name);
}

abbrev pub identity_at : Parts → List NodeIdentity → ℕ → List Identity
identity_at c ids n = option_map_or (λ own. identity_in c ids n own ∷ []) (nad c n) []

-- (node 0 is the commander)
abbrev pub identities_in : Parts → List NodeIdentity → List Identity
identities_in c ids = flat_map (identity_at c ids) (drop 1 (numbers (nodes c)))

-- ---- all of a text
abbrev pub configured_by : Parts → List Symbol → Parts
configured_by c ts =
    let ids = identities_by c ts
    in with_configuration c (identities_in c ids)
    (requests_in c (all_requests c ids ts))

abbrev pub warnings_by : Parts → List Symbol → List Finding
warnings_by c ts =
    flat_map (warnings_unless (node_of c 0).name) (node_attributes ts)
    ++ all_command_warnings c (identities_by c ts) ts
