-- Texts that are put into a short one.
use Rattle.std.specs.Prelude.{◌≡◌, ℕ, List, ◌++◌, true}
use Rattle.lin_export.specs.declared.short_text.ShortText.{ShortText}

-- Where a short text is whole, it is this one.
abbrev pub HoldsText : ShortText → List ℕ → Type 0
HoldsText short text = short.is_whole ≡ true → short.bytes.items ≡ text

-- Where it is whole with a text behind it, it was before.
pub record AddsText (old : ShortText) (new : ShortText) (text : List ℕ) : Type 0 where
  pub whole : new.is_whole ≡ true → old.is_whole ≡ true
  pub bytes : new.is_whole ≡ true → new.bytes.items ≡ old.bytes.items ++ text
