use Rattle.std.proofs.Common.{◌≡◌, ◌∙◌, sym, refl, Bool, true, false, List, ℕ, Result, Ok, Err}
use Rattle.std.specs.Result.{is_ok, MatchResult}
use Rattle.std.specs.Str.{is_utf8, IsUtf8, IsValidUpTo, valid_up_to}
use Rattle.std.proofs.lemmas.Str.{IsUtf8-from_is_utf8, is_utf8-from_IsUtf8}
use Rattle.lin_sections.proofs.shown_texts.is_utf8.Goals as goal

not-true : (b : Bool) → (b ≡ true → ⊥) → b ≡ false
not-true true h = absurd (h refl)
not-true false h = refl

told : {T E : Type 0} (r : Result T E) (bs : List ℕ) (A : T → Type 0) (B : E → Type 0)
    → MatchResult r (λ s. A s × IsUtf8 bs) (λ e. (IsUtf8 bs → ⊥) × B e) → is_ok r ≡ is_utf8 bs
told (Ok s) bs A B h = sym (is_utf8-from_IsUtf8 bs h.1)
told (Err e) bs A B h = sym (not-true (is_utf8 bs) (λ t. h.0 (IsUtf8-from_is_utf8 bs t)))

pub returns : goal.returns
returns c =
    c.is_ok.ensures.value
    ∙ told c.from_utf8.result c.args.bytes.now (λ s. s.now ≡ c.args.bytes.now) (λ e. IsValidUpTo c.args.bytes.now (valid_up_to e)) c.from_utf8.ensures.cases
