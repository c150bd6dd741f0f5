-- How few bytes lie in a place of a fixed size. No promise rests on this file.
use Rattle.std.specs.Prelude.{◌≡◌, ◌≤◌, ◌-◌, ℕ, List, ◌++◌, length, replicate, take}

-- with zeros after them up to the size
abbrev pub with_zeros : ℕ → List ℕ → List ℕ
with_zeros size bytes = bytes ++ replicate (size - length bytes) 0

-- the first `len` bytes are meant, and zeros stand after them
pub record IsFilledWithZeros (size len : ℕ) (bytes : List ℕ) : Type 0 where
  pub few : len ≤ size
  pub len_is : length (take len bytes) ≡ len
  pub zeros_after : with_zeros size (take len bytes) ≡ bytes
