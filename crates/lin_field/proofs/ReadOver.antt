-- Bytes of old editors, found one after the other and read as spaces.
use Rattle.std.proofs.Common.{◌≡◌, ℕ, ◌+◌, ◌-◌, ◌<◌, ◌≤◌, true, false, cond, List, length, take, drop, get_or, Some, None, refl, sym, ap, ◌∙◌, inl, inr, arith, get_or-set_other, get_or-set_same, below_more, length-drop}
use Rattle.std.specs.Prelude.{Bool, ◌==◌, ◌||◌, slice_set}
use Rattle.std.proofs.Math.Seq.{take-length}
use Rattle.std.proofs.lemmas.Bool.{cases_lt}
use Rattle.std.proofs.lemmas.List.{get_or-drop, get_or-map, ext_get_or, length-map, length-set}
use Rattle.memchr.specs.Find.{IsFirstByte, is_byte3}
use Rattle.lin_field.specs.Bytes.{field_byte, field_bytes}

-- what a range to the end of a list takes
pub from_on : (xs : List ℕ) (n : ℕ) → take (length xs - n) (drop n xs) ≡ drop n xs
from_on xs n = ap (λ (k : ℕ). take k (drop n xs)) (sym (length-drop n xs)) ∙ take-length (drop n xs)

-- so many bytes of a text are read over, and the others are as they were
pub record ReadOver (text bytes : List ℕ) (passed : ℕ) : Type 0 where
  pub size : length bytes ≡ length text
  pub within : passed ≤ length bytes
  pub before : (k : ℕ) → k < passed → get_or bytes k 0 ≡ field_byte (get_or text k 0)
  pub behind : (k : ℕ) → passed ≤ k → get_or bytes k 0 ≡ get_or text k 0

same_test : (p q r : Bool) → (p || (q || r)) ≡ ((p || q) || r)
same_test true q r = refl
same_test false q r = refl

value : (b : ℕ) → field_byte b ≡ cond (is_byte3 0x0B 0x0C 0x1A b) 0x20 b
value b = ap (λ (t : Bool). cond t 0x20 b) (same_test (b == 0x0B) (b == 0x0C) (b == 0x1A))

kept : (b : ℕ) → (is_byte3 0x0B 0x0C 0x1A b ≡ true → ⊥) → b ≡ field_byte b
kept b h = elim (is_byte3 0x0B 0x0C 0x1A b) as (λ t. (t ≡ true → ⊥) → b ≡ cond t 0x20 b) [
  | true ↦ λ h. absurd (h refl)
  | false ↦ λ h. refl
] h ∙ sym (value b)

space : (b : ℕ) → is_byte3 0x0B 0x0C 0x1A b ≡ true → 0x20 ≡ field_byte b
space b h = ap (λ (t : Bool). cond t 0x20 b) (sym h) ∙ sym (value b)

-- a byte of the text behind is one of what is left
left : (text bytes : List ℕ) (passed k : ℕ) → ReadOver text bytes passed → passed ≤ k → get_or (drop passed bytes) (k - passed) 0 ≡ get_or text k 0
left text bytes passed k r le =
    let same : passed + (k - passed) ≡ k = omega arith in
    get_or-drop passed bytes (k - passed) 0 ∙ ap (λ (i : ℕ). get_or bytes i 0) same ∙ r.behind k le

-- nothing of it is read over where none of these bytes stands there
kept_at : (text bytes : List ℕ) (passed k : ℕ) → ReadOver text bytes passed → passed ≤ k → (is_byte3 0x0B 0x0C 0x1A (get_or (drop passed bytes) (k - passed) 0) ≡ true → ⊥)
    → get_or bytes k 0 ≡ field_byte (get_or text k 0)
kept_at text bytes passed k r le h =
    r.behind k le ∙ kept (get_or text k 0) (λ is. h (ap (is_byte3 0x0B 0x0C 0x1A) (left text bytes passed k r le) ∙ is))

pub one_more : (text bytes : List ℕ) (passed n : ℕ) → ReadOver text bytes passed → IsFirstByte (is_byte3 0x0B 0x0C 0x1A) (drop passed bytes) (Some n)
    → ReadOver text (slice_set bytes (passed + n) 0x20) (passed + (n + 1))
one_more text bytes passed n r found =
    let at : ℕ = passed + n in
    let rest = length-drop passed bytes in
    let lt : at < length bytes = omega (arith, found.0.high) in
    let there : get_or (drop passed bytes) n 0 ≡ get_or text at 0 = get_or-drop passed bytes n 0 ∙ r.behind at (omega arith) in
    let one : get_or (slice_set bytes at 0x20) at 0 ≡ field_byte (get_or text at 0) =
    get_or-set_same bytes at 0x20 0 lt ∙ space (get_or text at 0) (ap (is_byte3 0x0B 0x0C 0x1A) (sym there) ∙ found.1) in
    let up_to : (k : ℕ) → k < at → get_or (slice_set bytes at 0x20) k 0 ≡ field_byte (get_or text k 0) =
    λ k below. get_or-set_other bytes at k 0x20 0 (λ e. absurd (omega arith)) ∙ elim (cases_lt k passed) [
      | inl lt' ↦ r.before k lt'
      | inr ge ↦ kept_at text bytes passed k r ge (found.0.before (k - passed) (omega arith) (omega arith))
    ] in
    record {
      size = length-set bytes at 0x20 ∙ r.size;
      within = let size = length-set bytes at 0x20 in omega arith;
      before = λ k below. below_more (λ k. get_or (slice_set bytes at 0x20) k 0 ≡ field_byte (get_or text k 0)) at up_to one k (omega arith);
      behind = λ k le. get_or-set_other bytes at k 0x20 0 (λ e. absurd (omega arith)) ∙ r.behind k (omega arith);
    }

pub all_over : (text bytes : List ℕ) (passed : ℕ) → ReadOver text bytes passed → IsFirstByte (is_byte3 0x0B 0x0C 0x1A) (drop passed bytes) None → bytes ≡ field_bytes text
all_over text bytes passed r none =
    ext_get_or 0 bytes (field_bytes text) (r.size ∙ sym (length-map text field_byte)) (λ k below.
    let size = length-drop passed bytes in
    let all = r.size in
    elim (cases_lt k passed) as (λ w. get_or bytes k 0 ≡ field_byte (get_or text k 0)) [
      | inl lt ↦ r.before k lt
      | inr ge ↦ kept_at text bytes passed k r ge (none (k - passed) (omega arith) (omega arith))
    ] ∙ sym (get_or-map field_byte text k 0 0 (omega arith)))

pub none_over : (text : List ℕ) → ReadOver text text 0
none_over text = record { size = refl; within = omega arith; before = λ k lt. absurd (omega arith); behind = λ k le. refl }
