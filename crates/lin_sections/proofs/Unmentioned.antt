-- Tokens of which none is a word: what is left of them behind others is no such word either, so that lines and groups are passed over with
-- nothing read.
use Rattle.std.proofs.Common.{◌≡◌, ℕ, ◌==◌, ◌&&◌, Bool, true, false, cond, List, [], ◌∷◌, length, refl}
use Rattle.std.specs.Str.{bytes_eq}
use Rattle.std.proofs.lemmas.Bool.{and_right, or_parts}
use Rattle.lin_ldf.specs.Forms.{tail}
use Rattle.lin_ldf.specs.Loops.{is_next}
use Rattle.lin_ldf.specs.Symbols.{Symbol, is_kind}
use Rattle.lin_ldf.specs.Words.{is_word_next}
use Rattle.lin_ldf.specs.declared.token.TokenKind.TheVariants.{Word, CloseBrace, Semicolon}
use Rattle.lin_sections.specs.Mentioned.{has_word}
use Rattle.lin_sections.specs.Passed.{has_line, behind_line, behind_lines, behind_closing, behind_group, brace_depth, steps_while}
use Rattle.lin_sections.specs.Reading.{through_lines}
use Rattle.lin_sections.proofs.Repeating.{steps-hold}

-- ---- a word that no token is

module _ (w : List ℕ) where
  pub not-front : (t : Symbol) (ts : List Symbol) → has_word w (t ∷ ts) ≡ false → bytes_eq t.text w ≡ false
  not-front t ts none = (or_parts (bytes_eq t.text w) (has_word w ts) none).0

  pub not-behind : (ts : List Symbol) → has_word w ts ≡ false → has_word w (tail ts) ≡ false
  not-behind [] none = none
  not-behind (t ∷ ts) none = (or_parts (bytes_eq t.text w) (has_word w ts) none).1

  pub not-next : (ts : List Symbol) → has_word w ts ≡ false → is_word_next w ts ≡ false
  not-next [] none = refl
  not-next (t ∷ ts) none = and_right (is_kind Word t.kind) (bytes_eq t.text w) (not-front t ts none)

-- ---- what holds of tokens, and of those behind the first

-- it holds of the tokens that are left, and what was read is this
abbrev pub Leaves : {S : Type 0} → (List Symbol → Type 0) → S → List Symbol × S → Type 0
Leaves P s x = P x.0 × (x.1 ≡ s)

pub either-leaves : {S : Type 0} (P : List Symbol → Type 0) (s : S) (b : Bool) (x y : List Symbol × S) → Leaves P s x → Leaves P s y → Leaves P s (cond b x y)
either-leaves P s true x y p q = p
either-leaves P s false x y p q = q

module _ (P : List Symbol → Type 0) (behind : (ts : List Symbol) → P ts → P (tail ts)) where
  pub line-holds : (n : ℕ) (ts : List Symbol) → P ts → P (behind_line n ts)
  line-holds n [] holds = holds
  line-holds n (t ∷ ts) holds =
      elim (n == 0 && is_kind CloseBrace t.kind) as (λ b. P (cond b (t ∷ ts) (cond (n == 0 && is_kind Semicolon t.kind) ts (behind_line (brace_depth n t.kind) ts)))) [
        | true ↦ holds
        | false ↦ elim (n == 0 && is_kind Semicolon t.kind) as (λ b. P (cond b ts (behind_line (brace_depth n t.kind) ts))) [
          | true ↦ behind (t ∷ ts) holds
          | false ↦ line-holds (brace_depth n t.kind) ts (behind (t ∷ ts) holds)
        ]
      ]

  closing-holds : (ts : List Symbol) → P ts → P (behind_closing ts)
  closing-holds ts holds = elim (is_next CloseBrace ts) as (λ b. P (cond b (tail ts) ts)) [
    | true ↦ behind ts holds
    | false ↦ holds
  ]

  pub group-holds : (ts : List Symbol) → P ts → P (behind_group ts)
  group-holds ts holds =
      closing-holds (behind_lines (tail ts)) (steps-hold P has_line (behind_line 0) (line-holds 0) (length (tail ts)) (tail ts) (behind ts holds))

  pub repeated-leaves : {S : Type 0} (s : S) (line : List Symbol × S → List Symbol × S) → ((x : List Symbol × S) → Leaves P s x → Leaves P s (line x)) → (x : List Symbol × S) → Leaves P s x → Leaves P s (through_lines line x)
  repeated-leaves {S} s line leaves x holds =
      let y = steps_while (length x.0) (λ (z : List Symbol × S). has_line z.0) line x in
      let left : Leaves P s y = steps-hold (Leaves P s) (λ z. has_line z.0) line leaves (length x.0) x holds in
      (closing-holds y.0 left.0, left.1)
