-- Protected identifiers and checksums (ISO 17987-3, frame header and checksum; LIN 2.2A, 2.3.1).
use Rattle.std.specs.Prelude.{ℕ, ◌+◌, ◌-◌, ◌*◌, ◌/◌, ◌%◌, ◌^◌, Bool, ◌&&◌, if◌then◌else◌, ◌==◌}
use Rattle.std.specs.Prelude.{List, [], ◌∷◌, ◌++◌, sum, length, take, slice_index}
use Rattle.lin_frame.specs.declared.sums.SumKind.{SumKind}
use Rattle.lin_frame.specs.declared.sums.SumKind.TheVariants.{Classic, Enhanced}

-- bit k of a number
abbrev pub bit : ℕ → ℕ → ℕ
bit n k = n / 2 ^ k % 2

-- an identifier with its two parity bits: P0 = ID0 xor ID1 xor ID2 xor ID4, P1 = not (ID1 xor ID3
-- xor ID4 xor ID5)
abbrev pub pid : ℕ → ℕ
pid id =
    id
    + 64 * ((bit id 0 + bit id 1 + bit id 2 + bit id 4) % 2)
    + 128 * ((1 + bit id 1 + bit id 3 + bit id 4 + bit id 5) % 2)

-- the 8-bit sum with carry, of the plain sum of bytes
abbrev pub sum_with_carry : ℕ → ℕ
sum_with_carry s = if s == 0 then 0 else 1 + (s - 1) % 255

-- the checksum over the data bytes
abbrev pub classic : List ℕ → ℕ
classic bytes = 255 - sum_with_carry (sum bytes)

-- the checksum over the protected identifier and the data bytes
abbrev pub enhanced_checksum : ℕ → List ℕ → ℕ
enhanced_checksum pid bytes = 255 - sum_with_carry (pid + sum bytes)

-- the checksum of this kind
abbrev pub checksum_of : SumKind → ℕ → List ℕ → ℕ
checksum_of Classic pid bytes = classic bytes
checksum_of Enhanced pid bytes = enhanced_checksum pid bytes

-- the data bytes and their checksum
abbrev pub answer_of : SumKind → ℕ → List ℕ → List ℕ
answer_of kind pid bytes = bytes ++ checksum_of kind pid bytes ∷ []

-- whether these are len data bytes and their checksum
abbrev pub is_answer : SumKind → ℕ → ℕ → List ℕ → Bool
is_answer kind pid len bytes =
    length bytes == len + 1 && slice_index bytes len == checksum_of kind pid (take len bytes)
