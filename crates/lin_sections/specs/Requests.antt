-- The requests of node configuration commands (LIN 2.2A, sections 4.2.5 and 9.2.5; AssignFrameId: LIN 2.0),
-- and what is wrong with the commands: 73 to 77. A request has eight bytes: NAD, PCI, service identifier, data.
use Rattle.std.specs.Prelude.{ℕ, ◌+◌, ◌/◌, ◌%◌, ◌==◌, ◌&&◌, nat_lt, not, Bool, false, List, []}
use Rattle.std.specs.Prelude.{◌∷◌, ◌++◌, find, length, is_some, Option, Some, None, Result, Ok, Err}
use Rattle.std.specs.Prelude.{if◌then◌else◌, option_and_then, slice_get}
use Rattle.std.specs.Option.{option_map, option_map_or, option_or, unwrap_or}
use Rattle.std.specs.Str.{bytes_eq}
use Rattle.lin_cluster.specs.FindingsNames.{at_name, at_number, when}
use Rattle.lin_cluster.specs.declared.finding.Finding.{Finding}
use Rattle.lin_cluster.specs.declared.finding.FindingKind.TheVariants.{BadIndex, NoProduct, NoResponder}
use Rattle.lin_cluster.specs.declared.finding.FindingKind.TheVariants.{NotConfigurable, OtherPid}
use Rattle.lin_frame.specs.Words.{numbers}
use Rattle.lin_parts.specs.Cluster.{nad, node_of, nodes}
use Rattle.lin_parts.specs.declared.description.Name.{Name}
use Rattle.lin_parts.specs.declared.description.Number.{Number}
use Rattle.lin_parts.specs.declared.parts.Parts.{Parts}
use Rattle.lin_parts.specs.declared.parts.Product.{Product}
use Rattle.lin_sections.specs.declared.commands.Arguments.{Arguments}
use Rattle.lin_sections.specs.declared.commands.Arguments.TheVariants.{Node, Frame, Bytes}
use Rattle.lin_sections.specs.declared.commands.Command.{Command}
use Rattle.lin_sections.specs.declared.commands.Command.TheVariants as command
use Rattle.lin_sections.specs.declared.identities.ConfigurableFrame.{ConfigurableFrame}
use Rattle.lin_sections.specs.declared.identities.NodeIdentity.{NodeIdentity}

-- what follows if there is no finding
infixl 10 ◌>>=◌
abbrev pub ◌>>=◌ : {A B : Type 0} → Result A Finding → (A → Result B Finding) → Result B Finding
(Ok x) >>= f = f x
(Err e) >>= f = Err e

abbrev pub or_finding : {A : Type 0} → Option A → Finding → Result A Finding
or_finding None f = Err f
or_finding (Some x) f = Ok x

-- the bytes of a 16-bit number
abbrev pub low : ℕ → ℕ
low n = n % 256

abbrev pub high : ℕ → ℕ
high n = n / 256

-- ---- what names stand for
-- the protected identifier of an unconditional, failing that of an event-triggered frame
abbrev pub frame_pid : Parts → List ℕ → Option ℕ
frame_pid c name = option_map (λ f. f.pid) (find (λ f. bytes_eq f.name name) c.frames)

abbrev pub event_pid : Parts → List ℕ → Option ℕ
event_pid c name = option_map (λ e. e.pid) (find (λ e. bytes_eq e.name name) c.events)

abbrev pub pid_named : Parts → List ℕ → Option ℕ
pid_named c name = option_or (frame_pid c name) (event_pid c name)

-- the configured NAD of the responder with a name; node 0 is the commander
abbrev pub is_responder_named : Parts → List ℕ → ℕ → Bool
is_responder_named c name n = nat_lt 0 n && bytes_eq (node_of c n).name name

abbrev pub address_of : Parts → List ℕ → Option ℕ
address_of c name = option_and_then (nad c) (find (is_responder_named c name) (numbers (nodes c)))

abbrev pub responder_address : Parts → Name → Result ℕ Finding
responder_address c node = or_finding (address_of c node.text) (at_name NoResponder node)

-- the identity of a node
abbrev pub identity_named : List NodeIdentity → List ℕ → Option NodeIdentity
identity_named ids name = find (λ i. bytes_eq i.node name) ids

abbrev pub frames_in : List NodeIdentity → List ℕ → List ConfigurableFrame
frames_in ids name = option_map_or (λ i. i.frames) (identity_named ids name) []

abbrev pub product_of : List NodeIdentity → Name → Result Product Finding
product_of ids node =
    or_finding (option_and_then (λ i. i.product) (identity_named ids node.text)) (at_name NoProduct node)

-- its initial NAD; if its attributes have none, its configured NAD
abbrev pub initial_nad_of : List NodeIdentity → List ℕ → ℕ → ℕ
initial_nad_of ids name own = unwrap_or (option_and_then (λ i. i.initial) (identity_named ids name)) own

-- ---- AssignNAD { node }
abbrev pub assign_nad : Parts → List NodeIdentity → Name → Result (List ℕ) Finding
assign_nad c ids node = do
  own ← responder_address c node
  p ← product_of ids node
  Ok (initial_nad_of ids node.text own ∷ 6 ∷ 0xB0 ∷ low p.supplier ∷ high p.supplier ∷ low p.function
      ∷ high p.function ∷ own ∷ [])

-- ---- AssignFrameId { node , frame }
-- the first message identifier that the list of a node has for a frame
abbrev pub has_message : List ℕ → ConfigurableFrame → Bool
has_message name f = bytes_eq f.name name && is_some f.message

abbrev pub first_message : List ConfigurableFrame → List ℕ → Option ℕ
first_message fs name =
    option_and_then (λ f. f.message) (find (has_message name) fs)

abbrev pub frame_request : ℕ → ℕ → Option ℕ → Option ℕ → Option (List ℕ)
frame_request own supplier (Some message) (Some pid) =
    Some (own ∷ 6 ∷ 0xB1 ∷ low supplier ∷ high supplier ∷ low message ∷ high message ∷ pid ∷ [])
frame_request own supplier None pid = None
frame_request own supplier (Some message) None = None

abbrev pub assign_frame : Parts → List NodeIdentity → Name → Name → Result (List ℕ) Finding
assign_frame c ids node frame = do
  own ← responder_address c node
  p ← product_of ids node
  or_finding
      (frame_request own p.supplier (first_message (frames_in ids node.text) frame.text)
      (pid_named c frame.text))
      (at_name NotConfigurable frame)

-- ---- AssignFrameIdRange { node , index [ , pid ].. }
-- without protected identifiers: those of the four frames of the list from the index on, FF after its end
abbrev pub listed_pid : Parts → List ConfigurableFrame → ℕ → Option ℕ
listed_pid c fs k = option_map_or (λ f. pid_named c f.name) (slice_get fs k) (Some 0xFF)

abbrev pub four : Option ℕ → Option ℕ → Option ℕ → Option ℕ → Option (List ℕ)
four w x y z =
    option_and_then
    (λ a. option_and_then
    (λ b. option_and_then (λ c. option_map (λ d. a ∷ b ∷ c ∷ d ∷ []) z) y) x) w

abbrev pub listed_pids : Parts → List ConfigurableFrame → ℕ → Option (List ℕ)
listed_pids c fs k =
    four (listed_pid c fs k) (listed_pid c fs (k + 1)) (listed_pid c fs (k + 2)) (listed_pid c fs (k + 3))

abbrev pub listed_range : Parts → List ConfigurableFrame → ℕ → Number → Result (List ℕ) Finding
listed_range c fs own index =
    if nat_lt index.value (length fs)
    then or_finding
    (option_map (λ pids. own ∷ 6 ∷ 0xB7 ∷ index.value ∷ pids) (listed_pids c fs index.value))
    (at_number NotConfigurable index)
    else Err (at_number BadIndex index)

-- with some: these, and FF in place of those that are missing
abbrev pub byte_or_ff : List Number → ℕ → ℕ
byte_or_ff bytes k = option_map_or (λ b. b.value) (slice_get bytes k) 0xFF

abbrev pub given_range : ℕ → List Number → List ℕ
given_range own bytes =
    own ∷ 6 ∷ 0xB7 ∷ byte_or_ff bytes 0 ∷ byte_or_ff bytes 1 ∷ byte_or_ff bytes 2 ∷ byte_or_ff bytes 3
    ∷ byte_or_ff bytes 4 ∷ []

abbrev pub assigned_range : Parts → List ConfigurableFrame → ℕ → List Number → Result (List ℕ) Finding
assigned_range c fs own (index ∷ []) = listed_range c fs own index
assigned_range c fs own [] = Ok (given_range own [])
assigned_range c fs own (index ∷ pid ∷ pids) = Ok (given_range own (index ∷ pid ∷ pids))

abbrev pub assign_range : Parts → List NodeIdentity → Name → List Number → Result (List ℕ) Finding
assign_range c ids node bytes = do
  own ← responder_address c node
  assigned_range c (frames_in ids node.text) own bytes

-- ---- DataDump { node , byte.. }
abbrev pub data_dump : Parts → Name → List Number → Result (List ℕ) Finding
data_dump c node bytes = do
  own ← responder_address c node
  Ok (own ∷ 6 ∷ 0xB4 ∷ byte_or_ff bytes 0 ∷ byte_or_ff bytes 1 ∷ byte_or_ff bytes 2 ∷ byte_or_ff bytes 3
      ∷ byte_or_ff bytes 4 ∷ [])

-- ---- SaveConfiguration { node }
abbrev pub save_configuration : Parts → Name → Result (List ℕ) Finding
save_configuration c node = do
  own ← responder_address c node
  Ok (own ∷ 1 ∷ 0xB6 ∷ 0xFF ∷ 0xFF ∷ 0xFF ∷ 0xFF ∷ 0xFF ∷ [])

abbrev pub node_request : Parts → List NodeIdentity → Command → Name → List Number
    → Result (List ℕ) Finding
node_request c ids command.AssignNad node bytes = assign_nad c ids node
node_request c ids command.DataDump node bytes = data_dump c node bytes
node_request c ids command.SaveConfiguration node bytes = save_configuration c node
node_request c ids other node bytes = assign_range c ids node bytes

-- ---- ConditionalChangeNAD { NAD , id , byte , mask , invert , new NAD } and FreeFormat { byte.. }
abbrev pub bytes_request : Command → List Number → List ℕ
bytes_request command.ConditionalChangeNad bytes =
    byte_or_ff bytes 0 ∷ 6 ∷ 0xB3 ∷ byte_or_ff bytes 1 ∷ byte_or_ff bytes 2 ∷ byte_or_ff bytes 3 ∷ byte_or_ff bytes 4
    ∷ byte_or_ff bytes 5 ∷ []
bytes_request other bytes =
    byte_or_ff bytes 0 ∷ byte_or_ff bytes 1 ∷ byte_or_ff bytes 2 ∷ byte_or_ff bytes 3 ∷ byte_or_ff bytes 4
    ∷ byte_or_ff bytes 5 ∷ byte_or_ff bytes 6 ∷ byte_or_ff bytes 7 ∷ []

-- ---- the request of a command, or why it has none
abbrev pub request : Parts → List NodeIdentity → Command → Arguments → Result (List ℕ) Finding
request c ids command (Frame node frame) = assign_frame c ids node frame
request c ids command (Node node bytes) = node_request c ids command node bytes
request c ids command (Bytes bytes) = Ok (bytes_request command bytes)

-- ---- what is odd in a range with protected identifiers
-- 77: a protected identifier that is neither 00 nor FF, nor that of the frame at its place
abbrev pub has_pid : Option ℕ → ℕ → Bool
has_pid own pid = option_map_or (λ k. k == pid) own false

abbrev pub other_pid : Parts → Number → ConfigurableFrame → List Finding
other_pid c pid f =
    when (not (pid.value == 0) && not (has_pid (pid_named c f.name) pid.value)) (at_number OtherPid pid)

-- 76: one after the end of the list, if that is wanted
abbrev pub odd_pid : Parts → List ConfigurableFrame → Bool → ℕ → Number → List Finding
odd_pid c fs is_wanted place pid =
    if pid.value == 0xFF then []
    else option_map_or (other_pid c pid) (slice_get fs place) (when is_wanted (at_number BadIndex pid))

abbrev pub odd_pids : Parts → List ConfigurableFrame → Bool → ℕ → List Number → List Finding
odd_pids c fs is_wanted place [] = []
odd_pids c fs is_wanted place (pid ∷ pids) =
    odd_pid c fs is_wanted place pid ++ odd_pids c fs is_wanted (place + 1) pids

-- an index that isn't below the length of the list gives one warning
abbrev pub odd_range : Parts → List ConfigurableFrame → List Number → List Finding
odd_range c fs [] = []
odd_range c fs (index ∷ []) = []
odd_range c fs (index ∷ pid ∷ pids) =
    let is_inside = nat_lt index.value (length fs)
    in when (not is_inside) (at_number BadIndex index)
    ++ odd_pids c fs is_inside index.value (pid ∷ pids)

abbrev pub odd_node : Parts → List NodeIdentity → Command → Name → List Number → List Finding
odd_node c ids command.AssignFrameIdRange node bytes = odd_range c (frames_in ids node.text) bytes
odd_node c ids other node bytes = []

abbrev pub odd_arguments : Parts → List NodeIdentity → Command → Arguments → List Finding
odd_arguments c ids command (Node node bytes) = odd_node c ids command node bytes
odd_arguments c ids command (Frame node frame) = []
odd_arguments c ids command (Bytes bytes) = []
