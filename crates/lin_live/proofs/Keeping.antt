-- What is kept of a line says what the line is.
use Rattle.std.proofs.Common.{◌≡◌, ℕ, ◌+◌, ◌-◌, ◌<◌, ◌≤◌, ◌==◌, Bool, true, false, cond, List, [], ◌++◌, length, take, Option, Some, None, sym, ap, ◌∙◌, inl, inr, arith}
use Rattle.std.specs.Str.Lines.{strip_carriage_return}
use Rattle.std.proofs.lemmas.Bool.{lt-leb}
use Rattle.std.proofs.lemmas.Bool.Decides.{leb_tells, nat_tests}
use Rattle.std.proofs.lemmas.List.{length-take-le, length-append, nil_from_length}
use Rattle.lin_live.specs.Transcript.{short}
use Rattle.lin_live.specs.Begun.{with_bytes, ended_line, bytes_within_line, is_nothing}

-- more than a line and a CR
too-long : (bytes : List ℕ) → 16777217 < length bytes → bytes_within_line bytes ≡ None
too-long bytes h = ap (λ b. cond b (Some bytes) None) (lt-leb (length bytes) 16777217 h)

-- a line that is longer than it may be
no-short : (line : List ℕ) → 16777216 < length line → short line ≡ None
no-short line h = ap (λ b. cond b (Some line) None) (lt-leb (length line) 16777216 h)

cut-length : (b : Bool) (l : List ℕ) → length l ≤ length (cond b (take (length l - 1) l) l) + 1
cut-length true l = omega (arith, length-take-le (length l - 1) l (omega arith))
cut-length false l = omega arith

strip-length : (l : List ℕ) → length l ≤ length (strip_carriage_return l) + 1
strip-length l = cut-length _ l

pub held-added : (bytes more : List ℕ) → with_bytes (bytes_within_line bytes) more ≡ bytes_within_line (bytes ++ more)
held-added bytes more =
    elim (leb_tells (length bytes) 16777217) [
      | inl h ↦ ap (λ b. with_bytes (cond b (Some bytes) None) more) h.0
      | inr h ↦ ap (λ k. with_bytes k more) (too-long bytes h.1) ∙ sym (too-long (bytes ++ more) (omega (arith, length-append bytes more, h.1)))
    ]

pub held-ended : (bytes : List ℕ) → ended_line (bytes_within_line bytes) ≡ short (strip_carriage_return bytes)
held-ended bytes =
    elim (leb_tells (length bytes) 16777217) [
      | inl h ↦ ap (λ b. ended_line (cond b (Some bytes) None)) h.0
      | inr h ↦ ap ended_line (too-long bytes h.1) ∙ sym (no-short (strip_carriage_return bytes) (omega (arith, strip-length bytes, h.1)))
    ]

pub held-nothing : (bytes : List ℕ) → is_nothing (bytes_within_line bytes) ≡ (length bytes == 0)
held-nothing bytes =
    elim (leb_tells (length bytes) 16777217) [
      | inl h ↦ ap (λ b. is_nothing (cond b (Some bytes) None)) h.0
      | inr h ↦ let long = h.1 in ap is_nothing (too-long bytes h.1) ∙ grind (arith, nat_tests)
    ]

-- a line of which no byte has come
pub nothing-begun : (begun : Option (List ℕ)) → is_nothing begun ≡ true → begun ≡ Some []
nothing-begun None h = absurd (cc)
nothing-begun (Some bytes) h = let none : length bytes ≡ 0 = grind (arith, nat_tests, h) in ap Some (nil_from_length bytes none)

pub nothing-before : (begun : Option (List ℕ)) (bytes : List ℕ) → begun ≡ bytes_within_line bytes → is_nothing begun ≡ true → bytes ≡ []
nothing-before begun bytes e h =
    let empty = sym (held-nothing bytes) ∙ ap is_nothing (sym e) ∙ h in
    let none : length bytes ≡ 0 = grind (arith, nat_tests, empty) in
    nil_from_length bytes none
