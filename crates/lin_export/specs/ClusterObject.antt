-- What an LDF describes, as values of JSON: nodes, signals, frames, schedule tables and encodings of
-- its cluster, each with the place of its name in the LDF, `[LINE,COLUMN]`.
use Rattle.std.specs.Prelude.{ℕ, ◌+◌, ◌-◌, ◌%◌, ◌==◌, Bool, true, false, if◌then◌else◌, List, [], ◌∷◌}
use Rattle.std.specs.Prelude.{length, map, codes, slice_get, Option, Some, None, option_map}
use Rattle.std.specs.Fmt.{decimal}
use Rattle.std.specs.Option.{option_map_or}
use Rattle.lin_frame.specs.Words.{numbers}
use Rattle.lin_frame.specs.declared.layout.Place.{Place}
use Rattle.lin_parts.specs.Cluster.{entry_kind, entry_name, event_name, event_of, frame_name, frame_of}
use Rattle.lin_parts.specs.Cluster.{line_of, named_table, node_of, signal_of, sporadic_name}
use Rattle.lin_parts.specs.Cluster.{sporadic_of, table_of}
use Rattle.lin_parts.specs.Rules.{is_array}
use Rattle.lin_parts.specs.declared.description.Description.{Description}
use Rattle.lin_parts.specs.declared.description.Name.{Name}
use Rattle.lin_parts.specs.declared.parts.Parts.{Parts}
use Rattle.lin_cluster.specs.SlotTimes.{slot_bytes, slot_need}
use Rattle.lin_values.specs.Coded.{CodedData, encoding_of}
use Rattle.lin_values.specs.Shown.{decimal_shown}
use Rattle.lin_values.specs.declared.codings.CodingType.{CodingType}
use Rattle.lin_values.specs.declared.codings.Item.{Item}
use Rattle.lin_values.specs.declared.codings.Item.TheVariants.{Logical, Physical, Bcd, Ascii}
use Rattle.lin_export.specs.Json.{json_array, member, null, object, quoted_text, text_value}
use Rattle.lin_export.specs.Jsonl.{nad_value, node_text, number_member, signal_value}
use Rattle.lin_export.specs.ListedFrames.{model_word, places}
use Rattle.lin_export.specs.ListedSlots.{bits_of, delay_of, permille, slack}

-- ---- places

abbrev pub place_value : Name → List ℕ
place_value name = json_array (decimal name.line ∷ decimal name.column ∷ [])

-- the place of a declaration's name; null if the LDF has no such declaration
abbrev pub place_member : Option Name → List ℕ
place_member name = member (codes "place") (option_map_or place_value name null)

-- ---- words that several objects have

abbrev pub name_member : List ℕ → List ℕ
name_member name = member (codes "name") (quoted_text name)

abbrev pub count_member : List ℕ → ℕ → List ℕ
count_member key n = member key (decimal n)

-- `true` or `false`
abbrev pub truth : Bool → List ℕ
truth true = codes "true"
truth false = codes "false"

-- ---- nodes

-- the name of a node in the LDF: the commander's, and after it the responders'
abbrev pub node_declared : Description → ℕ → Option Name
node_declared d n = if n == 0 then Some d.master else slice_get d.slaves (n - 1)

abbrev pub node_object : Parts → Description → ℕ → List ℕ
node_object c d n =
    object
    (number_member n ∷ name_member (node_of c n).name ∷ member (codes "nad") (nad_value c n)
    ∷ place_member (node_declared d n) ∷ [])

-- ---- signals

abbrev pub subscribers : Description → ℕ → List Name
subscribers d s = option_map_or (λ x. x.subscribers) (slice_get d.signals s) []

-- the encoding that a signal has, if encodings are read
abbrev pub encoding_value : Option CodedData → ℕ → List ℕ
encoding_value None s = null
encoding_value (Some k) s = option_map_or (λ t. quoted_text t.name.text) (encoding_of k s) null

abbrev pub signal_object : Parts → Description → Option CodedData → ℕ → List ℕ
signal_object c d k s =
    object
    (number_member s
    ∷ name_member (signal_of c s).name
    ∷ count_member (codes "bits") (signal_of c s).size
    ∷ member (codes "array") (truth (is_array (signal_of c s).initial))
    ∷ member (codes "initial") (signal_value (signal_of c s).initial)
    ∷ member (codes "publisher") (node_text c (signal_of c s).publisher)
    ∷ member (codes "subscribers") (json_array (map (λ n. quoted_text n.text) (subscribers d s)))
    ∷ member (codes "encoding") (encoding_value k s)
    ∷ place_member (option_map (λ x. x.name) (slice_get d.signals s))
    ∷ [])

-- ---- frames

-- the signal at a position among those of a frame in the LDF
abbrev pub placed_declared : Description → ℕ → ℕ → Option Name
placed_declared d f i =
    option_map_or (λ x. option_map (λ p. p.signal) (slice_get x.placed i)) (slice_get d.frames f)
    None

-- a signal at its place in a frame, and the name that it has there in the LDF
abbrev pub place_object : Parts → ℕ × Place → Option Name → List ℕ
place_object c p declared =
    object
    (member (codes "signal") (quoted_text (signal_of c p.0).name)
    ∷ count_member (codes "offset") p.1.offset
    ∷ count_member (codes "bits") p.1.size
    ∷ place_member declared
    ∷ [])

-- a signal of a frame by its number among the places
abbrev pub placed_object : Parts → Description → ℕ → ℕ → ℕ × Place → List ℕ
placed_object c d f i p = place_object c p (placed_declared d f i)

-- values of things that are numbered from n on
abbrev pub numbered_values : {X : Type 0} → (ℕ → X → List ℕ) → ℕ → List X → List (List ℕ)
numbered_values f n [] = []
numbered_values f n (x ∷ xs) = f n x ∷ numbered_values f (n + 1) xs

abbrev pub places_member : Parts → Description → ℕ → List ℕ
places_member c d f =
    member (codes "places") (json_array (numbered_values (placed_object c d f) 0 (places (frame_of c f))))

abbrev pub frame_object : Parts → Description → ℕ → List ℕ
frame_object c d f =
    object
    (number_member f
    ∷ name_member (frame_name c f)
    ∷ count_member (codes "id") ((frame_of c f).pid % 64)
    ∷ count_member (codes "pid") (frame_of c f).pid
    ∷ count_member (codes "bytes") (frame_of c f).layout.len
    ∷ member (codes "publisher") (node_text c (frame_of c f).publisher)
    ∷ member (codes "model") (quoted_text (model_word (frame_of c f).model))
    ∷ places_member c d f
    ∷ place_member (option_map (λ x. x.name) (slice_get d.frames f))
    ∷ [])

-- the names of frames
abbrev pub frames_member : Parts → List ℕ → List ℕ
frames_member c fs = member (codes "frames") (json_array (map (λ f. quoted_text (frame_name c f)) fs))

abbrev pub sporadic_object : Parts → Description → ℕ → List ℕ
sporadic_object c d k =
    object
    (number_member k ∷ name_member (sporadic_name c k) ∷ frames_member c (sporadic_of c k)
    ∷ place_member (option_map (λ x. x.name) (slice_get d.sporadic k)) ∷ [])

abbrev pub event_object : Parts → Description → ℕ → List ℕ
event_object c d e =
    object
    (number_member e
    ∷ name_member (event_name c e)
    ∷ count_member (codes "id") ((event_of c e).pid % 64)
    ∷ count_member (codes "pid") (event_of c e).pid
    ∷ member (codes "table") (quoted_text (named_table c (event_of c e).table).name)
    ∷ frames_member c (event_of c e).frames
    ∷ place_member (option_map (λ x. x.name) (slice_get d.events e))
    ∷ [])

-- ---- schedule tables

-- the name of an entry of a table in the LDF
abbrev pub entry_declared : Description → ℕ → ℕ → Option Name
entry_declared d t i =
    option_map_or (λ x. option_map (λ e. e.name) (slice_get x.entries i)) (slice_get d.tables t) None

abbrev pub entry_object : Parts → Description → ℕ → ℕ → List ℕ
entry_object c d t i =
    let entry = (line_of c t i).entry
    in let delay = (line_of c t i).delay_us
    in object
    (name_member (entry_name c entry)
    ∷ member (codes "kind") (quoted_text (entry_kind entry))
    ∷ count_member (codes "bytes") (slot_bytes c entry)
    ∷ count_member (codes "delay_us") delay
    ∷ count_member (codes "needed_us") (slot_need c entry)
    ∷ member (codes "slack_us") (slack delay (slot_need c entry))
    ∷ place_member (entry_declared d t i)
    ∷ [])

abbrev pub entries_member : Parts → Description → ℕ → List ℕ
entries_member c d t =
    member (codes "entries") (json_array (map (entry_object c d t) (numbers (length (table_of c t)))))

-- the time of a round, and the bus load in thousandths
abbrev pub table_object : Parts → Description → ℕ → List ℕ
table_object c d t =
    object
    (number_member t
    ∷ name_member (named_table c t).name
    ∷ count_member (codes "cycle_us") (delay_of c t)
    ∷ count_member (codes "load") (permille (bits_of c t) c.speed (delay_of c t))
    ∷ place_member (option_map (λ x. x.name) (slice_get d.tables t))
    ∷ entries_member c d t
    ∷ [])

-- ---- encodings

abbrev pub kind_member : List ℕ → List ℕ
kind_member word = member (codes "kind") (quoted_text word)

abbrev pub item_object : Item → List ℕ
item_object (Logical v text) =
    object
    (kind_member (codes "logical") ∷ count_member (codes "value") v
    ∷ member (codes "text") (text_value text) ∷ [])
item_object (Physical from to scale offset unit) =
    object
    (kind_member (codes "physical")
    ∷ count_member (codes "low") from
    ∷ count_member (codes "high") to
    ∷ member (codes "scale") (quoted_text (decimal_shown scale))
    ∷ member (codes "offset") (quoted_text (decimal_shown offset))
    ∷ member (codes "unit") (text_value unit)
    ∷ [])
item_object Bcd = object (kind_member (codes "bcd") ∷ [])
item_object Ascii = object (kind_member (codes "ascii") ∷ [])

abbrev pub encoding_object : CodingType → List ℕ
encoding_object t =
    object
    (name_member t.name.text ∷ member (codes "items") (json_array (map (λ p. item_object p.item) t.items))
    ∷ place_member (Some t.name) ∷ [])
