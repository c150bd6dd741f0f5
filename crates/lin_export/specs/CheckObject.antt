-- What `check` finds in an LDF, as one object of JSON: the cluster that it describes, and the
-- problems that are reported.
use Rattle.std.specs.Prelude.{ℕ, List, [], ◌∷◌, ◌++◌, length, map, flat_map, codes, Option}
use Rattle.std.specs.Fmt.{decimal}
use Rattle.std.specs.Option.{option_map_or, option_to_list}
use Rattle.lin_frame.specs.Words.{numbers}
use Rattle.lin_parts.specs.Cluster.{nodes}
use Rattle.lin_parts.specs.declared.description.Description.{Description}
use Rattle.lin_parts.specs.declared.parts.Parts.{Parts}
use Rattle.lin_log.specs.Words.{spaced_word}
use Rattle.lin_values.specs.Coded.{CodedData}
use Rattle.lin_values.specs.declared.codings.CodingType.{CodingType}
use Rattle.lin_export.specs.ClusterObject.{count_member, encoding_object, event_object, frame_object}
use Rattle.lin_export.specs.ClusterObject.{node_object, signal_object, sporadic_object, table_object}
use Rattle.lin_export.specs.declared.check_object.declaration_lists.Declarations.{Declarations}
use Rattle.lin_export.specs.declared.check_object.declaration_lists.Declarations.TheVariants.{Nodes, Signals, Frames}
use Rattle.lin_export.specs.declared.check_object.declaration_lists.Declarations.TheVariants.{Sporadics, Events, Tables}
use Rattle.lin_export.specs.Json.{json_array, escaped_text, member, null, object, quoted_text, text_value}

-- ---- reported problems

-- what a line of `check --where` has, in its order: what the problem is, its number and its name, the
-- time that a short slot needs, the place, and the token there. Without a place it concerns the file
pub record ProblemData : Type 0 where
  pub kind : List ℕ
  pub number : Option ℕ
  pub name : List ℕ
  pub needed : Option ℕ
  pub place : Option (ℕ × ℕ)
  pub token : Option (List ℕ)

abbrev pub count_or_null : Option ℕ → List ℕ
count_or_null n = option_map_or decimal n null

abbrev pub place_members : Option (ℕ × ℕ) → List (List ℕ)
place_members place =
    member (codes "line") (option_map_or (λ p. decimal p.0) place null)
    ∷ member (codes "column") (option_map_or (λ p. decimal p.1) place null)
    ∷ []

abbrev pub problem_object : ProblemData → List ℕ
problem_object t =
    object
    (member (codes "kind") (quoted_text t.kind)
    ∷ member (codes "number") (count_or_null t.number)
    ∷ member (codes "name") (quoted_text t.name)
    ∷ member (codes "needed_us") (count_or_null t.needed)
    ∷ (place_members t.place ++ member (codes "token") (option_map_or escaped_text t.token null) ∷ []))

-- the line of `check --where`
abbrev pub problem_words : ProblemData → List (List ℕ)
problem_words t =
    option_map_or
    (λ n. t.kind ∷ decimal n ∷ t.name ∷ map decimal (option_to_list t.needed)) t.number
    (t.name ∷ [])

abbrev pub problem_line : List ℕ → ProblemData → List ℕ
problem_line file t =
    file
    ++ (option_map_or (λ p. 58 ∷ (decimal p.0 ++ 58 ∷ decimal p.1)) t.place []
    ++ (58 ∷ (flat_map spaced_word (problem_words t)
    ++ (option_map_or (λ token. 58 ∷ spaced_word token) t.token [] ++ 10 ∷ []))))

-- ---- what the LDF describes

-- the cluster, the declarations, what values mean if encodings are read, and the versions of protocol
-- and language in the header, empty for none
pub record FoundData : Type 0 where
  pub cluster : Parts
  pub description : Description
  pub coded : Option CodedData
  pub protocol : List ℕ
  pub language : List ℕ

abbrev pub header_value : FoundData → List ℕ
header_value found =
    object
    (member (codes "protocol") (text_value found.protocol)
    ∷ member (codes "language") (text_value found.language)
    ∷ count_member (codes "speed") found.cluster.speed
    ∷ count_member (codes "time_base_us") found.cluster.base_us
    ∷ count_member (codes "jitter_us") found.cluster.jitter_us
    ∷ [])

-- a member that is a list
abbrev pub list_member : List ℕ → List (List ℕ) → List ℕ
list_member key values = member key (json_array values)

-- the kinds of declarations: the keys of their lists, how many a cluster has, and their values
abbrev pub kinds : List Declarations
kinds = Nodes ∷ Signals ∷ Frames ∷ Sporadics ∷ Events ∷ Tables ∷ []

abbrev pub declarations_key : Declarations → List ℕ
declarations_key Nodes = codes "nodes"
declarations_key Signals = codes "signals"
declarations_key Frames = codes "frames"
declarations_key Sporadics = codes "sporadic"
declarations_key Events = codes "event"
declarations_key Tables = codes "tables"

abbrev pub declaration_count : Parts → Declarations → ℕ
declaration_count c Nodes = nodes c
declaration_count c Signals = length c.signals
declaration_count c Frames = length c.frames
declaration_count c Sporadics = length c.sporadic
declaration_count c Events = length c.events
declaration_count c Tables = length c.tables

abbrev pub declaration_object : FoundData → Declarations → ℕ → List ℕ
declaration_object found Nodes = node_object found.cluster found.description
declaration_object found Signals = signal_object found.cluster found.description found.coded
declaration_object found Frames = frame_object found.cluster found.description
declaration_object found Sporadics = sporadic_object found.cluster found.description
declaration_object found Events = event_object found.cluster found.description
declaration_object found Tables = table_object found.cluster found.description

abbrev pub declarations_member : FoundData → Declarations → List ℕ
declarations_member found kind =
    list_member (declarations_key kind)
    (map (declaration_object found kind) (numbers (declaration_count found.cluster kind)))

abbrev pub cluster_members : FoundData → List (List ℕ)
cluster_members found =
    member (codes "header") (header_value found) ∷ map (declarations_member found) kinds

-- those of an LDF that describes no cluster
abbrev pub empty_members : List (List ℕ)
empty_members =
    member (codes "header") null ∷ map (λ kind. list_member (declarations_key kind) []) kinds

abbrev pub found_members : Option FoundData → List (List ℕ)
found_members found = option_map_or cluster_members found empty_members

-- the encodings, if they are read
abbrev pub encodings_member : Option (List CodingType) → List ℕ
encodings_member types =
    member (codes "encodings") (option_map_or (λ ts. json_array (map encoding_object ts)) types null)

-- ---- the whole

-- the name of the file as it was given, the exit status, what the LDF describes, and what is reported,
-- in the order of its lines; and LF
abbrev pub check_object : List ℕ → ℕ → Option FoundData → Option (List CodingType) → List ProblemData
    → List ℕ
check_object file status found types problems =
    object
    (count_member (codes "version") 1
    ∷ member (codes "file") (escaped_text file)
    ∷ count_member (codes "status") status
    ∷ (found_members found
    ++ encodings_member types ∷ list_member (codes "told") (map problem_object problems) ∷ []))
    ++ 10 ∷ []
