-- Node configuration and identification: the services that requests are for, and the responses of a
-- responder (LIN 2.2A, section 4.2; ISO 17987-3, node configuration; AssignFrameId: LIN 2.0). A request
-- and a response have eight bytes: NAD, PCI, service identifier, data.
use Rattle.std.specs.Prelude.{ℕ, ◌+◌, ◌-◌, ◌*◌, ◌/◌, ◌%◌, ◌==◌, nat_le, nat_lt, Bool, false}
use Rattle.std.specs.Prelude.{◌&&◌, ◌||◌, if◌then◌else◌, List, [], ◌∷◌, length, slice_index}
use Rattle.std.specs.Prelude.{bit_and, bit_xor, Option, Some, None, codes}
use Rattle.std.specs.List.{list_any}
use Rattle.std.specs.Option.{option_map_or}
use Rattle.lin_parts.specs.declared.parts.Identity.{Identity}
use Rattle.lin_parts.specs.declared.parts.Product.{Product}

-- whether a request has this PCI and this service identifier: a single frame with PCI - 1 data bytes
abbrev pub asks : ℕ → ℕ → List ℕ → Bool
asks pci sid b = slice_index b 1 == pci && slice_index b 2 == sid

-- the name of the service that a request is for. What is for none of them is a FreeFormat frame
-- (LIN 2.2A, section 9.2.5)
abbrev pub service_name : List ℕ → List ℕ
service_name b =
    if asks 6 0xB0 b then codes "AssignNAD" else if asks 6 0xB1 b then codes "AssignFrameId"
    else if asks 6 0xB2 b then codes "ReadByIdentifier" else if asks 6 0xB3 b
    then codes "ConditionalChangeNAD" else if asks 6 0xB4 b then codes "DataDump"
    else if asks 1 0xB6 b then codes "SaveConfiguration" else if asks 6 0xB7 b
    then codes "AssignFrameIdRange" else codes "FreeFormat"

-- the 16-bit number from byte k on, the low byte first
abbrev pub u16_at : List ℕ → ℕ → ℕ
u16_at b k = slice_index b k + 256 * slice_index b (k + 1)

-- whether a request names the supplier, or all of them
abbrev pub is_supplier : Product → ℕ → Bool
is_supplier p x = x == p.supplier || x == 0x7FFF

-- whether a request names the function, or all of them
abbrev pub is_function : Product → ℕ → Bool
is_function p x = x == p.function || x == 0xFFFF

-- whether a request names the product from byte k on
abbrev pub is_product_at : List ℕ → ℕ → Product → Bool
is_product_at b k p = is_supplier p (u16_at b k) && is_function p (u16_at b (k + 2))

-- whether a configured NAD may be this: that of a responder
abbrev pub is_nad : ℕ → Bool
is_nad x = nat_le 1 x && nat_le x 125

-- the product identification, byte by byte (identifier 0)
abbrev pub product_bytes : Product → List ℕ
product_bytes p =
    p.supplier % 256 ∷ p.supplier / 256 ∷ p.function % 256 ∷ p.function / 256 ∷ p.variant ∷ []

-- a positive response without data to a service: its identifier is 0x40 greater
abbrev pub positive : ℕ → ℕ → List ℕ
positive nad sid = nad ∷ 1 ∷ (sid + 0x40) ∷ 0xFF ∷ 0xFF ∷ 0xFF ∷ 0xFF ∷ 0xFF ∷ []

-- a response to a request that is fulfilled, and none to another one
abbrev pub response_if : Bool → List ℕ → Option (List ℕ)
response_if is response = if is then Some response else None

-- whether the product of a responder passes a test; a responder without a product passes none
abbrev pub has_product : Identity → (Product → Bool) → Bool
has_product i test = option_map_or test i.product false

-- AssignNAD: the product, and a new NAD
abbrev pub is_nad_assigned : Identity → List ℕ → Bool
is_nad_assigned i b = has_product i (is_product_at b 3) && is_nad (slice_index b 7)

-- whether one of the configurable frames has this message identifier
abbrev pub has_message : Identity → ℕ → Bool
has_message i id = list_any (λ m. option_map_or (λ own. own == id) m false) i.messages

-- AssignFrameId: the supplier, and the message identifier of a configurable frame
abbrev pub is_frame_assigned : Identity → List ℕ → Bool
is_frame_assigned i b =
    has_product i (λ p. is_supplier p (u16_at b 3)) && has_message i (u16_at b 5)

-- ConditionalChangeNAD: of identifier 0, the byte with this number, from 1 on, inverted by byte 6, is
-- 0 in the bits of the mask in byte 5; and a new NAD
abbrev pub is_chosen : List ℕ → Product → Bool
is_chosen b p =
    bit_and
    (bit_xor (slice_index (product_bytes p) (slice_index b 4 - 1)) (slice_index b 6))
    (slice_index b 5)
    == 0

abbrev pub is_nad_changed : Identity → List ℕ → Bool
is_nad_changed i b =
    slice_index b 3 == 0 && nat_le 1 (slice_index b 4) && nat_le (slice_index b 4) 5
    && has_product i (is_chosen b) && is_nad (slice_index b 7)

-- AssignFrameIdRange: each protected identifier but FF, which changes nothing, is that of a
-- configurable frame
abbrev pub has_place : Identity → List ℕ → ℕ → Bool
has_place i b k =
    slice_index b (4 + k) == 0xFF || nat_lt (slice_index b 3 + k) (length i.messages)

abbrev pub is_range_assigned : Identity → List ℕ → Bool
is_range_assigned i b = has_place i b 0 && has_place i b 1 && has_place i b 2 && has_place i b 3

-- ReadByIdentifier: the response to identifier 0 has the product. To others it is negative, as they
-- aren't supported (12)
abbrev pub read_response : ℕ → List ℕ → Product → List ℕ
read_response nad b p =
    if slice_index b 3 == 0 then nad ∷ 6 ∷ 0xF2 ∷ product_bytes p
    else nad ∷ 3 ∷ 0x7F ∷ 0xB2 ∷ 0x12 ∷ 0xFF ∷ 0xFF ∷ 0xFF ∷ []

abbrev pub read_by_identifier : Identity → ℕ → List ℕ → Option (List ℕ)
read_by_identifier i nad b =
    option_map_or
    (λ p. response_if (is_product_at b 4 p) (read_response nad b p)) i.product None

-- whether a responder takes a request: it is for its NAD, or for all (7F). AssignNAD is for the
-- initial NAD, all others for the configured one
abbrev pub takes : Identity → ℕ → List ℕ → Bool
takes i nad b =
    slice_index b 0 == 0x7F
    || slice_index b 0 == (if slice_index b 2 == 0xB0 then i.initial else nad)

-- the response of a responder with this configured NAD to a request that it takes, by the service. To
-- AssignNAD it responds by its initial NAD, to ConditionalChangeNAD by the new one
abbrev pub service_response : Identity → ℕ → List ℕ → Option (List ℕ)
service_response i nad b =
    if asks 6 0xB0 b then response_if (is_nad_assigned i b) (positive i.initial 0xB0)
    else if asks 6 0xB1 b then response_if (is_frame_assigned i b) (positive nad 0xB1)
    else if asks 6 0xB2 b then read_by_identifier i nad b
    else if asks 6 0xB3 b then response_if (is_nad_changed i b) (positive (slice_index b 7) 0xB3)
    else if asks 1 0xB6 b then Some (positive nad 0xB6)
    else if asks 6 0xB7 b then response_if (is_range_assigned i b) (positive nad 0xB7)
    else None

abbrev pub response_by : Identity → ℕ → List ℕ → Option (List ℕ)
response_by i nad b = if takes i nad b then service_response i nad b else None
