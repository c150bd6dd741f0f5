-- The data of the page of a campaign: lines of words, and then the objects of `jsonl_rows`.
use Rattle.std.specs.Prelude.{◌≡◌, ℕ, ◌==◌, Bool, true, if◌then◌else◌, List, [], ◌∷◌, ◌++◌, codes, flat_map}
use Rattle.std.specs.Fmt.{decimal}
use Rattle.std.specs.List.{slice_split}
use Rattle.std.specs.Option.{option_to_list}
use Rattle.std.specs.Str.Lines.{strip_carriage_return}
use Rattle.lin_core.specs.History.{Slot, finished_slot, seen_of}
use Rattle.lin_core.specs.Tables.{look_of, look_word}
use Rattle.lin_core.specs.declared.log.LogEntry.{LogEntry}
use Rattle.lin_bench.specs.Written.{without_mark}
use Rattle.lin_parts.specs.Cluster.{named_table}
use Rattle.lin_parts.specs.declared.parts.Parts.{Parts}
use Rattle.lin_tool.specs.PageFields.{field, guarded_text, is_inert}
use Rattle.lin_tool.specs.campaign.Jsonl.{head_object, row_object}
use Rattle.lin_tool.specs.campaign.Shown.{RowData}
use Rattle.lin_tool.specs.campaign.Slots.{finished_slots, frame_shown, frame_or_entry_name}

-- the lines of a script, without an empty last one
abbrev pub without_empty_last : List (List ℕ) → List (List ℕ)
without_empty_last [] = []
without_empty_last ([] ∷ []) = []
without_empty_last (line ∷ lines) = line ∷ without_empty_last lines

abbrev pub page_line : List ℕ → List ℕ
page_line line = codes "line " ++ (field (strip_carriage_return line) ++ 10 ∷ [])

abbrev pub page_lines : List ℕ → List ℕ
page_lines bytes =
    flat_map page_line (without_empty_last (slice_split (λ b. b == 10) (without_mark bytes)))

-- names are words, in which no `<` stands; one that did would be `%3C`
abbrev pub page_slot : Parts → Slot → List ℕ
page_slot c s =
    codes "slot "
    ++ (guarded_text (named_table c s.table).name
    ++ (codes " "
    ++ (decimal s.entry
    ++ (codes " "
    ++ (guarded_text (frame_or_entry_name c s.table s.entry (frame_shown c s))
    ++ (codes " " ++ (look_word (look_of (seen_of s)) ++ 10 ∷ [])))))))

-- the line of the slot that an entry after a history finishes, if it does
abbrev pub next_page_slot : Parts → LogEntry → List LogEntry → List ℕ
next_page_slot c e past = flat_map (page_slot c) (option_to_list (finished_slot e past))

-- what the data have before the objects: the name of the LDF's file, the script, and the slots of the
-- undisturbed play
abbrev pub data_head : List ℕ → List ℕ → Parts → List LogEntry → List ℕ
data_head file bytes c log =
    codes "campaign 1\nfile "
    ++ (field file
    ++ (10 ∷ (page_lines bytes ++ flat_map (page_slot c) (finished_slots log))))

-- an object, whose texts have an escape for `<`
abbrev pub object_byte : ℕ → List ℕ
object_byte b = if b == 60 then codes "\\u003c" else b ∷ []

abbrev pub object_text : List ℕ → List ℕ
object_text text = flat_map object_byte text

abbrev pub in_page : Bool → List ℕ → List ℕ
in_page page text = if page then object_text text else text

-- the data of a campaign with so many single faults and so many rows, of which the first one is the
-- undisturbed play, and these are shown
abbrev pub campaign_data : List ℕ → List ℕ → List ℕ → Parts → ℕ → ℕ → RowData → List RowData
    → List ℕ
campaign_data file script bytes c singles rows calm ps =
    data_head file bytes c calm.log
    ++ (object_text (head_object c script singles rows calm)
    ++ flat_map (λ p. object_text (row_object c p)) ps)

-- Whatever the names, the texts and the lines are, nothing in the data ends them: what stands in them
-- is never a script's.
abbrev pub CampaignDataAreInert : Type 0
CampaignDataAreInert =
    (file script bytes : List ℕ) (c : Parts) (singles rows : ℕ) (calm : RowData) (ps : List RowData)
    → is_inert (campaign_data file script bytes c singles rows calm ps) ≡ true
