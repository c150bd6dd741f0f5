-- Each item and each line in form takes a token.
use Rattle.std.proofs.Common.{◌≡◌, ℕ, ◌+◌, ◌≤◌, ◌<◌, Bool, true, false, cond, List, [], ◌∷◌, ◌++◌, length, Option, Some, None, refl, arith}
use Rattle.std.specs.Prelude.{nat_le, codes, option_map}
use Rattle.lin_ldf.specs.Symbols.{Symbol}
use Rattle.lin_ldf.specs.Forms.{Form, ◌>>=◌, front, tail, mark, keyword, ◌<&◌}
use Rattle.lin_ldf.specs.Loops.{Shrinks, is_next}
use Rattle.lin_ldf.specs.Words.{word, words, is_word_next}
use Rattle.lin_ldf.specs.Laws.{Lawful, mark_takes, keyword_takes, left_take}
use Rattle.lin_ldf.specs.GrammarLaws.{word_takes, words_lawful, words_end, keyword_before}
use Rattle.lin_ldf.specs.declared.token.TokenKind.TheVariants as kinds
use Rattle.lin_field.specs.Grammar.{wide_int}
use Rattle.lin_field.specs.GrammarLaws.{wide_int_takes}
use Rattle.lin_sections.specs.Real.{real_units}
use Rattle.lin_sections.specs.Texts.{shown_text}
use Rattle.lin_values.specs.Value.{shortest}
use Rattle.lin_sections.specs.Coding.{between_quotes, raw_value, next_raw_value, is_mark_next, optional_sign, is_part, run_from, run, real, text_of_item, logical, physical, bcd, ascii, item, type_head, coded_line}
use Rattle.lin_sections.proofs.PassedSteps.{tail-keeps}

-- fewer than n tokens are left behind what is read, if it is read
abbrev pub Leaves : {A : Type 0} → ℕ → Option (A × List Symbol) → Type 0
Leaves n None = Unit {0}
Leaves n (Some x) = length x.1 < n

pub taking : {A : Type 0} (read : List Symbol → Option (A × List Symbol)) → Shrinks read → (ts : List Symbol) → Leaves (length ts) (read ts)
taking read shrinks ts =
    elim (read ts) as (λ o. (read ts ≡ o) → Leaves (length ts) o) [
      | None ↦ λ e. tt
      | Some x ↦ λ e. shrinks ts x.0 x.1 e
    ] refl

pub keeping : {A : Type 0} {ends : List Symbol → Bool} {f : Form A} (n : ℕ) → Lawful ends f → (ts : List Symbol) → length ts < n → Leaves n (f.read ts)
keeping {f = f} n p ts h =
    elim (f.read ts) as (λ o. (f.read ts ≡ o) → Leaves n o) [
      | None ↦ λ e. tt
      | Some x ↦ λ e. let le : length x.1 ≤ length ts = p.keeps ts x.0 x.1 e in omega arith
    ] refl

pub after : {A B : Type 0} (n : ℕ) (o : Option (A × List Symbol)) (f : A × List Symbol → Option (B × List Symbol)) → Leaves n o → ((x : A × List Symbol) → length x.1 < n → Leaves n (f x)) → Leaves n (o >>= f)
after n None f h more = tt
after n (Some x) f h more = more x h

-- ---- what takes no more than there is

value-leaves : (most n : ℕ) (ts : List Symbol) → length ts < n → Leaves n (raw_value most ts)
value-leaves most n ts h =
    after n (wide_int.read ts) _ (keeping n wide_int_takes.lawful ts h) (λ x less. elim (nat_le x.0.value most) as (λ b. Leaves n (cond b (Some (x.0.value, x.1)) None)) [
      | true ↦ less
      | false ↦ tt
    ])

next_value-leaves : (most n : ℕ) (ts : List Symbol) → length ts < n → Leaves n (next_raw_value most ts)
next_value-leaves most n ts h = after n ((mark kinds.Comma).read ts) _ (keeping n (mark_takes kinds.Comma).lawful ts h) (λ u less. value-leaves most n u.1 less)

sign-keeps : (ts : List Symbol) → length (optional_sign ts).1 ≤ length ts
sign-keeps ts =
    let less = tail-keeps ts in
    elim (is_mark_next (codes "-") ts) as (λ b. length (cond {A = Bool × List Symbol} b (true, tail ts) (cond (is_mark_next (codes "+") ts) (false, tail ts) (false, ts))).1 ≤ length ts) [
      | true ↦ less
      | false ↦ elim (is_mark_next (codes "+") ts) as (λ b. length (cond {A = Bool × List Symbol} b (false, tail ts) (false, ts)).1 ≤ length ts) [
        | true ↦ less
        | false ↦ omega arith
      ]
    ]

run-keeps : (line column : ℕ) (ts : List Symbol) → length (run_from line column ts).1 ≤ length ts
run-keeps line column [] = omega arith
run-keeps line column (t ∷ ts) =
    elim (is_part line column t) as (λ b. length (cond {A = List ℕ × List Symbol} b (let more = run_from line (column + length t.text) ts in (t.text ++ more.0, more.1)) ([], t ∷ ts)).1 ≤ length (t ∷ ts)) [
      | true ↦ let less = run-keeps line (column + length t.text) ts in omega arith
      | false ↦ omega arith
    ]

real-leaves : (n : ℕ) (ts : List Symbol) → length ts < n → Leaves n (real ts)
real-leaves n ts h =
    let s = optional_sign ts in
    let r = run s.1 in
    let p : length s.1 ≤ length ts = sign-keeps ts in
    let q : length r.1 ≤ length s.1 = run-keeps _ _ s.1 in
    elim (real_units r.0) as (λ o. Leaves n (option_map (λ m. (shortest s.0 m, r.1)) o)) [
      | None ↦ tt
      | Some m ↦ omega arith
    ]

text-leaves : (n : ℕ) (ts : List Symbol) → length ts < n → Leaves n (text_of_item ts)
text-leaves n ts h =
    let with_text : Option (List ℕ × List Symbol) = (mark kinds.Comma <& mark kinds.Text <& mark kinds.Semicolon).read ts >>= λ u. Some (shown_text (between_quotes (front (tail ts)).text), u.1) in
    let with_none : Option (List ℕ × List Symbol) = (mark kinds.Semicolon).read ts >>= λ u. Some (shown_text [], u.1) in
    let p : Leaves n with_text = after n ((mark kinds.Comma <& mark kinds.Text <& mark kinds.Semicolon).read ts) (λ u. Some (shown_text (between_quotes (front (tail ts)).text), u.1)) (keeping n (left_take (left_take (mark_takes kinds.Comma) (mark_takes kinds.Text).lawful) (mark_takes kinds.Semicolon).lawful).lawful ts h) (λ u less. less) in
    let q : Leaves n with_none = after n ((mark kinds.Semicolon).read ts) (λ u. Some (shown_text [], u.1)) (keeping n (mark_takes kinds.Semicolon).lawful ts h) (λ u less. less) in
    elim (is_next kinds.Comma ts) as (λ b. Leaves n (cond b with_text with_none)) [
      | true ↦ p
      | false ↦ q
    ]

-- ---- items

logical-leaves : (most : ℕ) (ts : List Symbol) → Leaves (length ts) (logical most ts)
logical-leaves most ts =
    let n = length ts in
    after n ((keyword (codes "logical_value")).read ts) _ (taking (keyword (codes "logical_value")).read (keyword_takes (codes "logical_value")).shrinks ts)
    (λ u h. after n (next_raw_value most u.1) _ (next_value-leaves most n u.1 h)
    (λ v i. after n (text_of_item v.1) _ (text-leaves n v.1 i) (λ t j. j)))

physical-leaves : (most : ℕ) (ts : List Symbol) → Leaves (length ts) (physical most ts)
physical-leaves most ts =
    let n = length ts in
    after n ((keyword (codes "physical_value")).read ts) _ (taking (keyword (codes "physical_value")).read (keyword_takes (codes "physical_value")).shrinks ts)
    (λ u h1. after n (next_raw_value most u.1) _ (next_value-leaves most n u.1 h1)
    (λ min h2. after n (next_raw_value most min.1) _ (next_value-leaves most n min.1 h2)
    (λ max h3. after n ((mark kinds.Comma).read max.1) _ (keeping n (mark_takes kinds.Comma).lawful max.1 h3)
    (λ c h4. after n (real c.1) _ (real-leaves n c.1 h4)
    (λ scale h5. after n ((mark kinds.Comma).read scale.1) _ (keeping n (mark_takes kinds.Comma).lawful scale.1 h5)
    (λ d h6. after n (real d.1) _ (real-leaves n d.1 h6)
    (λ offset h7. after n (text_of_item offset.1) _ (text-leaves n offset.1 h7) (λ unit h8. h8))))))))

bcd-leaves : (ts : List Symbol) → Leaves (length ts) (bcd ts)
bcd-leaves ts =
    after (length ts) ((keyword (codes "bcd_value") <& mark kinds.Semicolon).read ts) _ (taking (keyword (codes "bcd_value") <& mark kinds.Semicolon).read (keyword_before (codes "bcd_value") kinds.Semicolon).shrinks ts) (λ u h. h)

ascii-leaves : (ts : List Symbol) → Leaves (length ts) (ascii ts)
ascii-leaves ts =
    after (length ts) ((keyword (codes "ascii_value") <& mark kinds.Semicolon).read ts) _ (taking (keyword (codes "ascii_value") <& mark kinds.Semicolon).read (keyword_before (codes "ascii_value") kinds.Semicolon).shrinks ts) (λ u h. h)

pub item-leaves : (most : ℕ) (ts : List Symbol) → Leaves (length ts) (item most ts)
item-leaves most ts =
    let p = logical-leaves most ts in
    let q = physical-leaves most ts in
    let r = bcd-leaves ts in
    let s = ascii-leaves ts in
    elim (is_word_next (codes "logical_value") ts) as (λ b. Leaves (length ts) (cond b (logical most ts) (cond (is_word_next (codes "physical_value") ts) (physical most ts) (cond (is_word_next (codes "bcd_value") ts) (bcd ts) (ascii ts))))) [
      | true ↦ p
      | false ↦ elim (is_word_next (codes "physical_value") ts) as (λ b. Leaves (length ts) (cond b (physical most ts) (cond (is_word_next (codes "bcd_value") ts) (bcd ts) (ascii ts)))) [
        | true ↦ q
        | false ↦ elim (is_word_next (codes "bcd_value") ts) as (λ b. Leaves (length ts) (cond b (bcd ts) (ascii ts))) [
          | true ↦ r
          | false ↦ s
        ]
      ]
    ]

-- ---- heads of types, and lines of signals

pub head-leaves : (ts : List Symbol) → Leaves (length ts) (type_head ts)
head-leaves ts = taking (word <& mark kinds.OpenBrace).read (left_take word_takes (mark_takes kinds.OpenBrace).lawful).shrinks ts

pub line-leaves : (ts : List Symbol) → Leaves (length ts) (coded_line ts)
line-leaves ts =
    let n = length ts in
    after n ((word <& mark kinds.Colon).read ts) _ (taking (word <& mark kinds.Colon).read (left_take word_takes (mark_takes kinds.Colon).lawful).shrinks ts)
    (λ u h. after n ((words <& mark kinds.Semicolon).read u.1) _ (keeping n (words_end words_lawful) u.1 h) (λ s i. i))
