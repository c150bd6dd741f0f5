-- What a raw value can mean.
use Rattle.std.specs.Prelude.{ℕ, ℤ, List}

-- a text of a value; a value without a text; a decimal in units of 10 ^ -24, and its unit; digits;
-- and characters
pub data Meant : Type 0 where
  Named : (text : List ℕ) → Meant
  Number : (n : ℕ) → Meant
  Physical : (units : ℤ) → (unit : List ℕ) → Meant
  Digits : (text : List ℕ) → Meant
  Letters : (text : List ℕ) → Meant
