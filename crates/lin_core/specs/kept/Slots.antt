-- No promise rests on this: the open slot, and what is due in it, by what is kept.
use Rattle.std.specs.Prelude.{◌≡◌, ⊤, ℕ, ◌+◌, ◌≤◌, ◌<◌, ◌==◌, ◌&&◌, Bool, true, false}
use Rattle.std.specs.Prelude.{if◌then◌else◌, not, List, [], ◌∷◌, map, length, filter, find}
use Rattle.std.specs.Prelude.{slice_index, slice_index_or, ◌⊎◌, Option, Some, None, is_some}
use Rattle.std.specs.Prelude.{option_map, IfSome, nat_lt}
use Rattle.std.specs.List.{list_any}
use Rattle.std.specs.Option.{option_map_or}
use Rattle.lin_frame.specs.declared.sums.SumKind.{SumKind}
use Rattle.lin_frame.specs.Words.{numbers}
use Rattle.lin_parts.specs.Cluster.{frame_of, sporadic_of, event_of, line_of, nodes}
use Rattle.lin_parts.specs.Rules.{IsEntry}
use Rattle.lin_parts.specs.declared.parts.Entry.{Entry}
use Rattle.lin_parts.specs.declared.parts.Entry.TheVariants.{Frame, Sporadic, Event}
use Rattle.lin_parts.specs.declared.parts.Entry.TheVariants.{MasterReq}
use Rattle.lin_parts.specs.declared.parts.Entry.TheVariants.{SlaveResp}
use Rattle.lin_schedule.specs.Walker.{HasEntry}
use Rattle.lin_schedule.specs.declared.due.Due.{Due}
use Rattle.lin_schedule.specs.declared.due.Due.TheVariants.{
  Frame as FrameDue,
  Sporadic as SporadicDue,
  Event as EventDue,
  MasterReq as MasterReqDue,
  SlaveResp as SlaveRespDue,
  Fixed as FixedDue,
  Quiet as QuietDue,
}
use Rattle.lin_core.specs.History.{Slot, has_decided, header_is, is_in, is_sleep_slot, no_slot}
use Rattle.lin_core.specs.History.{open_slot}
use Rattle.lin_core.specs.History.{LogEntry, Parts}
use Rattle.lin_core.specs.declared.pdu.Pdu.{Pdu}
use Rattle.lin_core.specs.declared.pdu.Pdu.TheVariants.{Nothing, Sleep, OfMessage}
use Rattle.lin_core.specs.declared.slot.OpenSlot.{OpenSlot}
use Rattle.lin_core.specs.declared.slot.Put.{Put}

-- the slot that is kept
abbrev pub put_in : Put → ℕ × List ℕ
put_in p = (p.node, p.answer)

abbrev pub slot_in : OpenSlot → Slot
slot_in s = record {
  table = s.table;
  entry = s.entry;
  header = s.header;
  service = s.service;
  due = s.due.items;
  puts = map put_in s.puts.items;
  left = s.left.items;
  hurt = s.hurt;
}

-- this is the open slot
abbrev pub IsOpenSlot : Option OpenSlot → List LogEntry → Type 0
IsOpenSlot slot past = option_map slot_in slot ≡ open_slot past

-- a slot that opens, and as it is kept
abbrev pub opening_slot : ℕ → ℕ → Option ℕ → Bool → List ℕ → Slot
opening_slot table entry header service due = record no_slot {
  table = table;
  entry = entry;
  header = header;
  service = service;
  due = due;
}

abbrev pub opening_slot_kept : Parts → ℕ × ℕ → Option ℕ → Bool → List ℕ → OpenSlot
opening_slot_kept c place header service due = record {
  table = place.0;
  entry = place.1;
  kind = (line_of c place.0 place.1).entry;
  header = header;
  service = service;
  due = record { items = due };
  puts = record { items = [] };
  left = record { items = [] };
  hurt = false;
}

-- what is due is there
abbrev pub HasDue : Parts → Due → Type 0
HasDue c (FrameDue f) = f < length c.frames
HasDue c (SporadicDue o) = IfSome o (λ f. f < length c.frames)
HasDue c (EventDue e) = e < length c.events
HasDue c due = Unit {0}

-- its header, where the commander has something to request or not
abbrev pub header_of : Parts → Bool → Due → Option ℕ
header_of c waits (FrameDue f) = Some (frame_of c f).pid
header_of c waits (SporadicDue o) = option_map (λ f. (frame_of c f).pid) o
header_of c waits (EventDue e) = Some (event_of c e).pid
header_of c waits MasterReqDue = if waits then Some 0x3C else None
header_of c waits SlaveRespDue = Some 0x7D
header_of c waits FixedDue = Some 0x3C
header_of c waits QuietDue = None

-- whether a node is due in it, by the frames that are pending and the responder
abbrev pub is_due_of : Parts → List Bool → Bool → Option ℕ → Due → ℕ → Bool
is_due_of c flags waits responder (FrameDue f) n = n == (frame_of c f).publisher
is_due_of c flags waits responder (SporadicDue o) n = n == 0 && is_some o
is_due_of c flags waits responder (EventDue e) n =
    list_any (λ f. n == (frame_of c f).publisher && slice_index_or flags f false)
    (event_of c e).frames
is_due_of c flags waits responder MasterReqDue n = n == 0 && waits
is_due_of c flags waits responder SlaveRespDue n = option_map_or (λ k. n == k) responder false
is_due_of c flags waits responder FixedDue n = false
is_due_of c flags waits responder QuietDue n = false

-- the nodes that are due in a slot for a service, where these have a response ready
abbrev pub served_by : Due → List ℕ → List ℕ
served_by FixedDue ready = 0 ∷ []
served_by SlaveRespDue ready = ready
served_by due ready = []

-- whether it is for a service, and the nodes that are due in any slot
abbrev pub is_served : Due → List ℕ → Bool
is_served due ready = nat_lt 0 (length (served_by due ready))

abbrev pub due_where : Parts → List Bool → Bool → Option ℕ → Due → List ℕ → List ℕ
due_where c flags waits responder due ready =
    if is_served due ready then served_by due ready
    else filter (is_due_of c flags waits responder due) (numbers (nodes c))

-- the frame of a node's response in a slot for an entry, under its header, and in the open slot
abbrev pub frame_by : Parts → Entry → ℕ → ℕ → Option ℕ
frame_by c (Frame f) h n = Some f
frame_by c (Sporadic k) h n = find (λ f. h == (frame_of c f).pid) (sporadic_of c k)
frame_by c (Event e) h n = find (λ f. n == (frame_of c f).publisher) (event_of c e).frames
frame_by c entry h n = None

abbrev pub frame_answered : Parts → List LogEntry → ℕ → Option ℕ
frame_answered c past n =
    option_map_or
    (λ o. option_map_or (λ h. frame_by c (line_of c o.table o.entry).entry h n) o.header None)
    (open_slot past) None

-- the checksum model of that response
abbrev pub response_model : Parts → Entry → ℕ → SumKind
response_model c (Event e) f = (event_of c e).model
response_model c entry f = (frame_of c f).model

-- a node's response is a frame of signals, or one of a message
abbrev pub CanAnswer : Parts → Entry → Option ℕ → ℕ → Type 0
CanAnswer c entry header n =
    (h : ℕ) × (header ≡ Some h)
    × (((f : ℕ) × (frame_by c entry h n ≡ Some f))
    ⊎ (((entry ≡ MasterReq) × (h ≡ 0x3C)) ⊎ ((entry ≡ SlaveResp) × (h ≡ 0x7D))))

-- a slot for a service has a header, and no frame of signals
pub record IsServed (c : Parts) (entry : Entry) (header : Option ℕ) : Type 0 where
  pub pid : ℕ
  pub is : header ≡ Some pid
  pub none : (h n : ℕ) → frame_by c entry h n ≡ None

-- an open slot is one of the schedule, whose entry is kept, those that are due can answer, and
-- there is room for the responses that are left
pub record IsOpen (c : Parts) (s : OpenSlot) : Type 0 where
  pub there : HasEntry c (s.table, s.entry)
  pub kind_is : s.kind ≡ (line_of c s.table s.entry).entry
  pub known : IsEntry c s.kind
  pub request : s.service ≡ false → header_is 0x3C s.header ≡ true
      → (line_of c s.table s.entry).entry ≡ MasterReq
  pub answers : s.service ≡ false → (n : ℕ) → is_in s.due.items n ≡ true
      → CanAnswer c (line_of c s.table s.entry).entry s.header n
  pub served : s.service ≡ true → IsServed c (line_of c s.table s.entry).entry s.header
  pub room : length s.puts.items + length s.left.items + length
      (filter (λ n. not (has_decided (slot_in s) n)) s.due.items) ≤ 16

abbrev pub IsThere : Parts → Option OpenSlot → Type 0
IsThere c None = ⊤
IsThere c (Some s) = IsOpen c s

-- what a slot carries of the transport, by its header and its first response
abbrev pub pdu_down : List (ℕ × List ℕ) → Pdu
pdu_down [] = Nothing
pdu_down (p ∷ ps) = if slice_index p.1 0 == 0 then Sleep else OfMessage 0

abbrev pub pdu_up : List (ℕ × List ℕ) → Pdu
pdu_up [] = Nothing
pdu_up (p ∷ ps) = OfMessage p.0

-- a slot for a service puts the cluster to sleep, or carries nothing
abbrev pub pdu_of : Slot → Pdu
pdu_of s =
    if s.service then (if is_sleep_slot s then Sleep else Nothing)
    else if header_is 0x3C s.header then pdu_down s.puts else if header_is 0x7D s.header
    then pdu_up s.puts else Nothing

-- no message moves on at the slot's finish, and the cluster stays awake
abbrev pub is_still : Pdu → Bool → Bool
is_still Nothing hurt = true
is_still Sleep hurt = hurt
is_still (OfMessage host) hurt = false

-- the open slot carries a frame of a host's message, disturbed or not
abbrev pub IsCarried : List LogEntry → ℕ → Bool → Type 0
IsCarried past h hurt =
    (s : Slot) × (open_slot past ≡ Some s) × (pdu_of s ≡ OfMessage h) × (s.hurt ≡ hurt)
