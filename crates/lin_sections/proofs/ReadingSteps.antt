-- One item, type, line or statement more of what is read.
use Rattle.std.proofs.Common.{◌≡◌, ℕ, ◌≤◌, ◌<◌, Bool, true, false, cond, List, [], ◌∷◌, length, Option, Some, None, refl, arith, inl, inr}
use Rattle.std.specs.Prelude.{codes, is_some}
use Rattle.std.specs.Str.{bytes_eq}
use Rattle.lin_ldf.specs.Forms.{has_front, tail}
use Rattle.lin_ldf.specs.Loops.{is_next}
use Rattle.lin_ldf.specs.Symbols.{Symbol}
use Rattle.lin_ldf.specs.UpTo.{front_kind}
use Rattle.lin_ldf.specs.Stream.{start_of}
use Rattle.lin_ldf.specs.Tokens.{AreTokens, mark_len, behind_mark}
use Rattle.lin_ldf.specs.declared.token.Token.{Token}
use Rattle.lin_ldf.specs.declared.token.TokenKind.{TokenKind}
use Rattle.lin_ldf.proofs.Outcomes.{outcome}
use Rattle.lin_ldf.proofs.Parsed.{faulty_tokens}
use Rattle.lin_ldf.proofs.Unique.{same_tokens}
use Rattle.lin_ldf.specs.declared.token.TokenKind.TheVariants.{Word, OpenBrace}
use Rattle.lin_sections.specs.Coding.{item, type_head, coded_line}
use Rattle.lin_sections.specs.Passed.{has_line, behind_block, behind_line, behind_closing, behind_group, steps_while}
use Rattle.lin_sections.specs.Reading.{or_bad_item, or_bad_type, or_bad_line, through_lines, with_item, with_items, with_type, with_types, with_coded_line, with_lines, with_section, with_statement}
use Rattle.lin_values.specs.declared.codings.Codings.{Codings}
use Rattle.lin_sections.proofs.FormsTaking.{Leaves, item-leaves, head-leaves, line-leaves}
use Rattle.lin_sections.proofs.PassedSteps.{shorter, no-more, block-shorter, closing-keeps, tail-keeps, group-keeps}
use Rattle.lin_sections.proofs.Repeating.{one-step, no-step, steps-keep}

-- ---- lines that take a token each, up to the brace that closes their group

abbrev pub TakesOne : {S : Type 0} → (List Symbol × S → List Symbol × S) → Type 0
TakesOne {S} line = (x : List Symbol × S) → has_line x.0 ≡ true → length (line x).0 < length x.0

abbrev pub lines_from : {S : Type 0} → (List Symbol × S → List Symbol × S) → List Symbol × S → List Symbol × S
lines_from line x = steps_while (length x.0) (λ y. has_line y.0) line x

module _ {S : Type 0} (line : List Symbol × S → List Symbol × S) (takes : TakesOne line) where
  pub line-more : (x y total : List Symbol × S) → has_line x.0 ≡ true → y ≡ line x → lines_from line x ≡ total → lines_from line y ≡ total
  line-more x y total e made so_far = one-step (λ (z : List Symbol × S). length z.0) (λ z. has_line z.0) line takes x y total e made so_far

  pub line-shrinks : (x y : List Symbol × S) → has_line x.0 ≡ true → y ≡ line x → length y.0 < length x.0
  line-shrinks x y e made = rw made (takes x e)

  pub lines-done : (x total : List Symbol × S) → has_line x.0 ≡ false → lines_from line x ≡ total → total ≡ x
  lines-done x total e so_far = no-step (λ (z : List Symbol × S). length z.0) (λ z. has_line z.0) line takes x total e so_far

  pub repeated-keeps : (x : List Symbol × S) → length (through_lines line x).0 ≤ length x.0
  repeated-keeps x =
      let y = lines_from line x in
      let p : length y.0 ≤ length x.0 = steps-keep (λ (z : List Symbol × S). length z.0) (λ z. has_line z.0) line takes (length x.0) x in
      let q : length (behind_closing y.0) ≤ length y.0 = closing-keeps y.0 in
      omega arith

-- ---- each takes one

abbrev pub one_line : List Symbol × Codings → List Symbol × Codings
one_line x = with_coded_line x.0 x.1

pub line-takes : TakesOne one_line
line-takes x h =
    let less : length (behind_line 0 x.0) < length x.0 = shorter x.0 h in
    let leaves : Leaves (length x.0) (coded_line x.0) = line-leaves x.0 in
    elim (coded_line x.0) as (λ o. Leaves (length x.0) o → length (or_bad_line o x).0 < length x.0) [
      | None ↦ λ l. less
      | Some read ↦ λ l. l
    ] leaves

-- (values up to a limit)
module _ (most : ℕ) where
  pub item-takes : TakesOne (with_item most)
  item-takes x h =
      let less : length (behind_line 0 x.0) < length x.0 = shorter x.0 h in
      let leaves : Leaves (length x.0) (item most x.0) = item-leaves most x.0 in
      elim (item most x.0) as (λ o. Leaves (length x.0) o → length (or_bad_item o x).0 < length x.0) [
        | None ↦ λ l. less
        | Some read ↦ λ l. l
      ] leaves

  abbrev pub one_type : List Symbol × Codings → List Symbol × Codings
  one_type x = with_type most x.0 x.1

  pub type-takes : TakesOne one_type
  type-takes x h =
      let less : length (behind_block x.0) < length x.0 = block-shorter x.0 h in
      let leaves : Leaves (length x.0) (type_head x.0) = head-leaves x.0 in
      elim (type_head x.0) as (λ o. Leaves (length x.0) o → length (or_bad_type most o x).0 < length x.0) [
        | None ↦ λ l. less
        | Some head ↦ λ l.
            let p : length (with_items most head.1 x.1.bad).0 ≤ length head.1 = repeated-keeps (with_item most) item-takes (head.1, ([], x.1.bad)) in
            let q : length head.1 < length x.0 = l in omega arith
      ] leaves

  -- ---- statements

  abbrev pub one_statement : List Symbol × Codings → List Symbol × Codings
  one_statement x = with_statement most x.0 x.1

  section-keeps : (w : List ℕ) (ts : List Symbol) (f : Codings) → length (with_section most w ts f).0 ≤ length ts
  section-keeps w ts f =
      let r : length (tail ts) ≤ length ts = tail-keeps ts in
      let p : length (with_types most ts f).0 ≤ length (tail ts) = repeated-keeps one_type type-takes (tail ts, f) in
      let q : length (with_lines ts f).0 ≤ length (tail ts) = repeated-keeps one_line line-takes (tail ts, f) in
      let g : length (behind_group ts) ≤ length ts = group-keeps ts in
      elim (bytes_eq w (codes "Signal_encoding_types")) as (λ b. length (cond {A = List Symbol × Codings} b (with_types most ts f) (cond (bytes_eq w (codes "Signal_representation")) (with_lines ts f) (behind_group ts, f))).0 ≤ length ts) [
        | true ↦ omega arith
        | false ↦ elim (bytes_eq w (codes "Signal_representation")) as (λ b. length (cond {A = List Symbol × Codings} b (with_lines ts f) (behind_group ts, f)).0 ≤ length ts) [
          | true ↦ omega arith
          | false ↦ g
        ]
      ]

  statement-shrinks : (ts : List Symbol) (f : Codings) → has_front ts ≡ true → length (with_statement most ts f).0 < length ts
  statement-shrinks [] f h = absurd cc
  statement-shrinks (t ∷ ts) f h =
      let p : length (with_section most t.text ts f).0 ≤ length ts = section-keeps t.text ts f in
      let q : length (behind_line 0 ts) ≤ length ts = no-more 0 ts in
      elim (is_next Word (t ∷ ts)) as (λ b. length (cond {A = List Symbol × Codings} b (cond (is_next OpenBrace ts) (with_section most t.text ts f) (behind_line 0 ts, f)) (ts, f)).0 < length (t ∷ ts)) [
        | true ↦ elim (is_next OpenBrace ts) as (λ b. length (cond {A = List Symbol × Codings} b (with_section most t.text ts f) (behind_line 0 ts, f)).0 < length (t ∷ ts)) [
          | true ↦ omega arith
          | false ↦ omega arith
        ]
        | false ↦ omega arith
      ]

  statement-takes : (x : List Symbol × Codings) → has_front x.0 ≡ true → length (one_statement x).0 < length x.0
  statement-takes x h = statement-shrinks x.0 x.1 h

  abbrev pub statements_from : List Symbol × Codings → List Symbol × Codings
  statements_from x = steps_while (length x.0) (λ y. has_front y.0) one_statement x

  pub statement-more : (x y total : List Symbol × Codings) → has_front x.0 ≡ true → y ≡ one_statement x → statements_from x ≡ total → statements_from y ≡ total
  statement-more x y total e made so_far = one-step (λ (z : List Symbol × Codings). length z.0) (λ z. has_front z.0) one_statement statement-takes x y total e made so_far

  pub statement-less : (x y : List Symbol × Codings) → has_front x.0 ≡ true → y ≡ one_statement x → length y.0 < length x.0
  statement-less x y e made = rw made (statement-takes x e)

  pub statements-done : (x total : List Symbol × Codings) → has_front x.0 ≡ false → statements_from x ≡ total → total ≡ x
  statements-done x total e so_far = no-step (λ (z : List Symbol × Codings). length z.0) (λ z. has_front z.0) one_statement statement-takes x total e so_far

pub is-left : (ts : List Symbol) (o : Option TokenKind) (b : Bool) → o ≡ front_kind ts → b ≡ is_some o → has_front ts ≡ b
is-left [] o b p q = rw (q, p) refl
is-left (t ∷ ts) o b p q = rw (q, p) refl

-- ---- the tokens of a text

pub tokens-are : (source : List ℕ) (ts : List Token) → AreTokens source ts → (start_of source).tokens ≡ ts
tokens-are source ts h =
    elim (outcome source) [
      | inl (are, none) ↦ same_tokens (mark_len source) (behind_mark source) (start_of source).tokens ts are h
      | inr (f, is, other, some, us, p, same) ↦ absurd (faulty_tokens source f some ts h)
    ]
