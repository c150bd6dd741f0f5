-- Faults as text: `17:damage`, `17..19:damage`, `17..:absent:Panel`, with `+` between two of them.
use Rattle.std.specs.Prelude.{◌≡◌, ℕ, ◌+◌, ◌==◌, nat_lt, if◌then◌else◌, List, [], ◌∷◌, ◌++◌}
use Rattle.std.specs.Prelude.{Bool, true, codes, drop, is_some, length, option_map, take, Option, Some, None}
use Rattle.std.specs.Prelude.{Result, Ok, Err}
use Rattle.std.specs.Borrow.{Bor}
use Rattle.std.specs.Str.{bytes_eq}
use Rattle.std.specs.List.{slice_split}
use Rattle.lin_parts.specs.declared.parts.Parts.{Parts}
use Rattle.lin_bench.specs.Fields.{◌>>=◌, number_up_to, present_node}
use Rattle.lin_bench.specs.Texts.{reason_text}
use Rattle.lin_bench.specs.declared.fault.LineFault.{LineFault}
use Rattle.lin_bench.specs.declared.fault.LineFault.TheVariants as line
use Rattle.lin_bench.specs.declared.faults.FaultKind.{FaultKind}
use Rattle.lin_bench.specs.declared.faults.FaultKind.TheVariants.{Damage, Absent}
use Rattle.lin_bench.specs.declared.faults.SlotFault.{SlotFault}
use Rattle.lin_bench.specs.declared.reason.Reason.{Reason}
use Rattle.lin_bench.specs.declared.reason.Reason.TheVariants.{NoRange}
use Rattle.lin_tool.specs.declared.fault_text.BadFault.{BadFault}
use Rattle.lin_tool.specs.declared.fault_text.FaultReason.{FaultReason}
use Rattle.lin_tool.specs.declared.fault_text.FaultReason.TheVariants.{Form, Field}
use Rattle.lin_tool.specs.declared.fault_text.FaultsFault.{FaultsFault}
use Rattle.lin_tool.specs.declared.fault_text.FaultsFault.TheVariants.{Bad, OutOfMemory}
use Rattle.lin_tool.specs.declared.fault_text.OneFault.{OneFault}
use Rattle.lin_tool.specs.declared.fault_text.OneFault.TheVariants as one

-- the highest number of a slot that a fault names
abbrev pub highest_slot : ℕ
highest_slot = 999999

-- a text before and after the first byte that is this one, if there is one
abbrev pub split_around : ℕ → List ℕ → Option (List ℕ × List ℕ)
split_around mark [] = None
split_around mark (x ∷ xs) =
    if x == mark then Some ([], xs)
    else option_map (λ (parts : List ℕ × List ℕ). (x ∷ parts.0, parts.1)) (split_around mark xs)

-- what stands after these first bytes, if a text begins with them
abbrev pub after : List ℕ → List ℕ → Option (List ℕ)
after mark text =
    if bytes_eq (take (length mark) text) mark then Some (drop (length mark) text) else None

-- the texts before and after two dots, if these are the first ones
abbrev pub behind_dot : Option (List ℕ × List ℕ) → Option (List ℕ × List ℕ)
behind_dot None = None
behind_dot (Some (first, rest)) = option_map (λ last. (first, last)) (after (codes ".") rest)

abbrev pub around_dots : List ℕ → Option (List ℕ × List ℕ)
around_dots text = behind_dot (split_around 46 text)

abbrev pub slot_number : List ℕ → Result ℕ Reason
slot_number f = number_up_to highest_slot f

-- `SLOT`, `SLOT..`, or `FIRST..LAST`
abbrev pub slots_up_to : List ℕ → ℕ → List ℕ → Result (ℕ × Option ℕ) Reason
slots_up_to text first f =
    if length f == 0 then Ok (first, None)
    else slot_number f
    >>= (λ last. if nat_lt last first then Err (NoRange text) else Ok (first, Some last))

abbrev pub slots_between : List ℕ → List ℕ → List ℕ → Result (ℕ × Option ℕ) Reason
slots_between text first last = slot_number first >>= (λ n. slots_up_to text n last)

abbrev pub slots_of : List ℕ → Option (List ℕ × List ℕ) → Result (ℕ × Option ℕ) Reason
slots_of text None = slot_number text >>= (λ n. Ok (n, Some n))
slots_of text (Some (first, last)) = slots_between text first last

abbrev pub read_slots : List ℕ → Result (ℕ × Option ℕ) Reason
read_slots text = slots_of text (around_dots text)

-- why a fault isn't valid that has this kind: its slots, its node
abbrev pub as_field : {X : Type 0} → Result X Reason → Result X FaultReason
as_field (Ok x) = Ok x
as_field (Err why) = Err (Field why)

abbrev pub in_slots : ℕ × Option ℕ → FaultKind → SlotFault
in_slots slots kind = record { first = slots.0; last = slots.1; kind = kind }

abbrev pub damage_fault : List ℕ → Result SlotFault Reason
damage_fault slots = read_slots slots >>= (λ s. Ok (in_slots s Damage))

abbrev pub absence : Parts → List ℕ → List ℕ → Result SlotFault Reason
absence c slots name =
    read_slots slots >>= (λ s. present_node c name >>= (λ n. Ok (in_slots s (Absent n))))

abbrev pub absence_of : Parts → List ℕ → Option (List ℕ) → Result SlotFault FaultReason
absence_of c slots None = Err Form
absence_of c slots (Some name) = if length name == 0 then Err Form else as_field (absence c slots name)

abbrev pub of_kind : Parts → List ℕ → List ℕ → Result SlotFault FaultReason
of_kind c slots kind =
    if bytes_eq kind (codes "damage") then as_field (damage_fault slots)
    else absence_of c slots (after (codes "absent:") kind)

-- slots without a first one
abbrev pub lacks_slot : List ℕ → Bool
lacks_slot slots = if length slots == 0 then true else is_some (after (codes ".") slots)

abbrev pub of_parts : Parts → Option (List ℕ × List ℕ) → Result SlotFault FaultReason
of_parts c None = Err Form
of_parts c (Some (slots, kind)) = if lacks_slot slots then Err Form else of_kind c slots kind

abbrev pub read_fault : Parts → List ℕ → Result SlotFault FaultReason
read_fault c text = of_parts c (split_around 58 text)

-- faults with `+` between two of them; the first that isn't valid, and why it isn't
abbrev pub with_fault : List ℕ → Result SlotFault FaultReason
    → Result (List SlotFault) (List ℕ × FaultReason)
    → Result (List SlotFault) (List ℕ × FaultReason)
with_fault text (Err why) more = Err (text, why)
with_fault text (Ok f) (Ok fs) = Ok (f ∷ fs)
with_fault text (Ok f) (Err bad) = Err bad

abbrev pub read_all : Parts → List (List ℕ) → Result (List SlotFault) (List ℕ × FaultReason)
read_all c [] = Ok []
read_all c (text ∷ texts) = with_fault text (read_fault c text) (read_all c texts)

abbrev pub read_faults : Parts → List ℕ → Result (List SlotFault) (List ℕ × FaultReason)
read_faults c text = read_all c (slice_split (λ b. b == 43) text)

-- the faults of an option: none where it isn't given
abbrev pub given_faults : Parts → Option (Bor (List ℕ))
    → Result (List SlotFault) (List ℕ × FaultReason)
given_faults c None = Ok []
given_faults c (Some text) = read_faults c text.now

-- the texts of the faults that are left, and how long what is left is
abbrev pub faults_left : Option (Bor (List ℕ)) → List (List ℕ)
faults_left None = []
faults_left (Some text) = slice_split (λ b. b == 43) text.now

abbrev pub length_left : Option (Bor (List ℕ)) → ℕ
length_left None = 0
length_left (Some text) = length text.now + 1

-- why a line isn't valid or isn't read
abbrev pub of_line_fault : LineFault → OneFault
of_line_fault (line.Bad why) = one.Bad (Field why)
of_line_fault line.OutOfMemory = one.OutOfMemory

-- what reading a fault answers
abbrev pub ReadsFault : Parts → List ℕ → Result SlotFault OneFault → Type 0
ReadsFault c text (Ok f) = read_fault c text ≡ Ok f
ReadsFault c text (Err (one.Bad why)) = read_fault c text ≡ Err why
ReadsFault c text (Err one.OutOfMemory) = Unit {0}

-- the same of one of several, which is named if it isn't valid
abbrev pub ReadsNamed : Parts → List ℕ → Result SlotFault FaultsFault → Type 0
ReadsNamed c text (Ok f) = read_fault c text ≡ Ok f
ReadsNamed c text (Err (Bad bad)) = (bad.fault.now ≡ text) × (read_fault c text ≡ Err bad.reason)
ReadsNamed c text (Err OutOfMemory) = Unit {0}

-- what reading all answers
abbrev pub ReadsFaults : {X : Type 0} → (X → List SlotFault) → Parts → List ℕ
    → Result X FaultsFault → Type 0
ReadsFaults view c text (Ok x) = read_faults c text ≡ Ok (view x)
ReadsFaults view c text (Err (Bad bad)) = read_faults c text ≡ Err (bad.fault.now, bad.reason)
ReadsFaults view c text (Err OutOfMemory) = Unit {0}

abbrev pub reason_line : FaultReason → List ℕ
reason_line Form = codes "a fault is SLOT:damage or SLOT:absent:NODE"
reason_line (Field reason) = reason_text reason

abbrev pub fault_line : List ℕ → FaultReason → List ℕ
fault_line text why = codes "fault " ++ (text ++ (codes ": " ++ (reason_line why ++ 10 ∷ [])))

abbrev pub bad_fault_text : BadFault → List ℕ
bad_fault_text bad = fault_line bad.fault.now bad.reason
