-- The data of the page of a campaign, in which no `<` stands.
use Rattle.std.proofs.Common.{◌≡◌, ◌==◌, ℕ, List, [], ◌∷◌, ◌++◌, Bool, true, false, if◌then◌else◌, not, ap, codes, flat_map, refl}
use Rattle.std.specs.Fmt.{decimal}
use Rattle.std.specs.List.{slice_split}
use Rattle.std.specs.Str.Lines.{strip_carriage_return}
use Rattle.lin_parts.specs.Cluster.{named_table}
use Rattle.lin_parts.specs.declared.parts.Parts.{Parts}
use Rattle.lin_core.specs.History.{Slot, seen_of}
use Rattle.lin_core.specs.Tables.{look_of, look_word}
use Rattle.lin_core.specs.declared.event.Look.{Look}
use Rattle.lin_core.specs.declared.event.Look.TheVariants as look
use Rattle.lin_core.specs.declared.log.LogEntry.{LogEntry}
use Rattle.lin_bench.specs.Written.{without_mark}
use Rattle.lin_tool.specs.PageFields.{field, guarded_text, is_inert, no_less}
use Rattle.lin_tool.specs.campaign.Jsonl.{head_object, row_object}
use Rattle.lin_tool.specs.campaign.Page.{CampaignDataAreInert, data_head, object_byte, object_text, page_line, page_lines, page_slot, without_empty_last}
use Rattle.lin_tool.specs.campaign.Slots.{finished_slots, frame_shown, frame_or_entry_name}
use Rattle.lin_tool.proofs.Inert.{each, field-inert, guarded-inert, more, number-inert}

object-by : (b : ℕ) (t : Bool) → (b == 60) ≡ t → is_inert (if t then codes "\\u003c" else b ∷ []) ≡ true
object-by b true h = refl
object-by b false h = let g : no_less b ≡ true = ap not h in rw g refl

object-inert : (t : List ℕ) → is_inert (object_text t) ≡ true
object-inert t = each object_byte (λ b. object-by b (b == 60) refl) t

look-inert : (l : Look) → is_inert (look_word l) ≡ true
look-inert look.Silent = refl
look-inert look.NoAnswer = refl
look-inert look.Good = refl
look-inert look.Damaged = refl
look-inert look.Collided = refl

script-inert : (line : List ℕ) → is_inert (page_line line) ≡ true
script-inert line =
    let text = field (strip_carriage_return line) in
    more (codes "line ") (text ++ 10 ∷ []) refl (more text (10 ∷ []) (field-inert (strip_carriage_return line)) refl)

slot-inert : (c : Parts) (s : Slot) → is_inert (page_slot c s) ≡ true
slot-inert c s =
    let table = (named_table c s.table).name in
    let frame = frame_or_entry_name c s.table s.entry (frame_shown c s) in
    let seen = look_word (look_of (seen_of s)) in
    let from_seen = codes " " ++ (seen ++ 10 ∷ []) in
    let from_frame = codes " " ++ (guarded_text frame ++ from_seen) in
    let from_entry = codes " " ++ (decimal s.entry ++ from_frame) in
    more (codes "slot ") (guarded_text table ++ from_entry) refl
    (more (guarded_text table) from_entry (guarded-inert table)
    (more (codes " ") (decimal s.entry ++ from_frame) refl
    (more (decimal s.entry) from_frame (number-inert s.entry)
    (more (codes " ") (guarded_text frame ++ from_seen) refl
    (more (guarded_text frame) from_seen (guarded-inert frame)
    (more (codes " ") (seen ++ 10 ∷ []) refl (more seen (10 ∷ []) (look-inert (look_of (seen_of s))) refl)))))))

head-inert : (file bytes : List ℕ) (c : Parts) (log : List LogEntry) → is_inert (data_head file bytes c log) ≡ true
head-inert file bytes c log =
    let slots = flat_map (page_slot c) (finished_slots log) in
    let lines = page_lines bytes ++ slots in
    more (codes "campaign 1\nfile ") (field file ++ (10 ∷ lines)) refl
    (more (field file) (10 ∷ lines) (field-inert file)
    (more (10 ∷ []) lines refl
    (more (page_lines bytes) slots (each page_line script-inert (without_empty_last (slice_split (λ b. b == 10) (without_mark bytes)))) (each (page_slot c) (slot-inert c) (finished_slots log)))))

pub campaign-inert : CampaignDataAreInert
campaign-inert file script bytes c singles rows calm ps =
    let shown = flat_map (λ p. object_text (row_object c p)) ps in
    let head = object_text (head_object c script singles rows calm) in
    more (data_head file bytes c calm.log) (head ++ shown) (head-inert file bytes c calm.log)
    (more head shown (object-inert (head_object c script singles rows calm)) (each (λ p. object_text (row_object c p)) (λ p. object-inert (row_object c p)) ps))
