-- One token of a line that is passed over; and each line takes a token.
use Rattle.std.proofs.Common.{◌≡◌, ◌∙◌, ℕ, suc, ◌≤◌, ◌<◌, ◌==◌, ◌&&◌, Bool, true, false, cond, not, List, [], ◌∷◌, length, Some, None, refl, sym, ap, arith}
use Rattle.lin_ldf.specs.declared.token.TokenKind.{TokenKind}
use Rattle.lin_ldf.specs.declared.token.TokenKind.TheVariants.{OpenBrace, CloseBrace, Semicolon}
use Rattle.lin_ldf.specs.Symbols.{Symbol, is_kind}
use Rattle.lin_ldf.specs.Forms.{tail}
use Rattle.lin_ldf.specs.Loops.{is_next}
use Rattle.lin_ldf.specs.UpTo.{front_kind}
use Rattle.lin_sections.specs.Passed.{behind_block, behind_closing, behind_group, behind_line, behind_lines, brace_depth, has_line}
use Rattle.lin_sections.proofs.Repeating.{one-step, no-step, steps-keep}

pub kind-is : (t : Symbol) (ts : List Symbol) (k : TokenKind) → front_kind (t ∷ ts) ≡ Some k → k ≡ t.kind
kind-is t ts k e = cc

pub closed : (n : ℕ) (ts : List Symbol) (k : TokenKind) → front_kind ts ≡ Some k → (n == 0 && is_kind CloseBrace k) ≡ true → behind_line n ts ≡ ts
closed n [] k e h = refl
closed n (t ∷ ts) k e h =
    let is : (n == 0 && is_kind CloseBrace t.kind) ≡ true = ap (λ x. n == 0 && is_kind CloseBrace x) (sym (kind-is t ts k e)) ∙ h in
    rw is refl

pub ended : (n : ℕ) (ts : List Symbol) (k : TokenKind) → front_kind ts ≡ Some k → (n == 0 && is_kind CloseBrace k) ≡ false → (n == 0 && is_kind Semicolon k) ≡ true → behind_line n ts ≡ tail ts
ended n [] k e h i = refl
ended n (t ∷ ts) k e h i =
    let open_still : (n == 0 && is_kind CloseBrace t.kind) ≡ false = ap (λ x. n == 0 && is_kind CloseBrace x) (sym (kind-is t ts k e)) ∙ h in
    let is : (n == 0 && is_kind Semicolon t.kind) ≡ true = ap (λ x. n == 0 && is_kind Semicolon x) (sym (kind-is t ts k e)) ∙ i in
    rw (open_still, is) refl

pub goes-on : (n : ℕ) (ts : List Symbol) (k : TokenKind) → front_kind ts ≡ Some k → (n == 0 && is_kind CloseBrace k) ≡ false → (n == 0 && is_kind Semicolon k) ≡ false → behind_line n ts ≡ behind_line (brace_depth n k) (tail ts)
goes-on n [] k e h i = absurd cc
goes-on n (t ∷ ts) k e h i =
    let open_still : (n == 0 && is_kind CloseBrace t.kind) ≡ false = ap (λ x. n == 0 && is_kind CloseBrace x) (sym (kind-is t ts k e)) ∙ h in
    let is : (n == 0 && is_kind Semicolon t.kind) ≡ false = ap (λ x. n == 0 && is_kind Semicolon x) (sym (kind-is t ts k e)) ∙ i in
    rw (open_still, is) (ap (λ x. behind_line (brace_depth n x) ts) (sym (kind-is t ts k e)))

pub none-left : (n : ℕ) (ts : List Symbol) → front_kind ts ≡ None → behind_line n ts ≡ ts
none-left n [] e = refl
none-left n (t ∷ ts) e = absurd cc

pub taken : (ts : List Symbol) (k : TokenKind) → front_kind ts ≡ Some k → suc (length (tail ts)) ≡ length ts
taken [] k e = absurd cc
taken (t ∷ ts) k e = refl

pub no-more : (n : ℕ) (ts : List Symbol) → length (behind_line n ts) ≤ length ts
no-more n [] = omega arith
no-more n (t ∷ ts) =
    let less : length (behind_line (brace_depth n t.kind) ts) ≤ length ts = no-more (brace_depth n t.kind) ts in
    elim (n == 0 && is_kind CloseBrace t.kind) as (λ b. length (cond b (t ∷ ts) (cond (n == 0 && is_kind Semicolon t.kind) ts (behind_line (brace_depth n t.kind) ts))) ≤ length (t ∷ ts)) [
      | true ↦ omega arith
      | false ↦ elim (n == 0 && is_kind Semicolon t.kind) as (λ b. length (cond b ts (behind_line (brace_depth n t.kind) ts)) ≤ length (t ∷ ts)) [
        | true ↦ omega arith
        | false ↦ omega arith
      ]
    ]

shorter-at : (c s : Bool) (t : Symbol) (ts rest : List Symbol) → c ≡ false → length rest ≤ length ts → length (cond c (t ∷ ts) (cond s ts rest)) < length (t ∷ ts)
shorter-at true s t ts rest e less = absurd cc
shorter-at false true t ts rest e less = omega arith
shorter-at false false t ts rest e less = omega arith

stays-open : (c : Bool) → not c ≡ true → c ≡ false
stays-open true e = absurd cc
stays-open false e = refl

-- a line takes a token
pub shorter : (ts : List Symbol) → has_line ts ≡ true → length (behind_line 0 ts) < length ts
shorter [] h = absurd cc
shorter (t ∷ ts) h =
    shorter-at (0 == 0 && is_kind CloseBrace t.kind) (0 == 0 && is_kind Semicolon t.kind) t ts (behind_line (brace_depth 0 t.kind) ts) (stays-open (is_kind CloseBrace t.kind) h) (no-more (brace_depth 0 t.kind) ts)

-- one line more of a group, or none
pub one-line : (ts us total : List Symbol) → has_line ts ≡ true → us ≡ behind_line 0 ts → behind_lines ts ≡ total → behind_lines us ≡ total
one-line ts us total h e so_far = one-step (length {A = Symbol}) has_line (behind_line 0) shorter ts us total h e so_far

pub no-line : (ts total : List Symbol) → has_line ts ≡ false → behind_lines ts ≡ total → total ≡ ts
no-line ts total h so_far = no-step (length {A = Symbol}) has_line (behind_line 0) shorter ts total h so_far

pub ruleset passing = (closed, ended, goes-on, none-left, taken)

-- ---- what stands behind a group

pub closing-keeps : (ts : List Symbol) → length (behind_closing ts) ≤ length ts
closing-keeps [] = omega arith
closing-keeps (t ∷ ts) =
    elim (is_next CloseBrace (t ∷ ts)) as (λ b. length (cond b ts (t ∷ ts)) ≤ length (t ∷ ts)) [
      | true ↦ omega arith
      | false ↦ omega arith
    ]

pub tail-keeps : (ts : List Symbol) → length (tail ts) ≤ length ts
tail-keeps [] = omega arith
tail-keeps (t ∷ ts) = omega arith

pub rest-keeps : (ts : List Symbol) → length (behind_closing (behind_lines ts)) ≤ length ts
rest-keeps ts =
    let p : length (behind_lines ts) ≤ length ts = steps-keep (length {A = Symbol}) has_line (behind_line 0) shorter (length ts) ts in
    let q : length (behind_closing (behind_lines ts)) ≤ length (behind_lines ts) = closing-keeps (behind_lines ts) in
    omega arith

pub group-keeps : (ts : List Symbol) → length (behind_group ts) ≤ length ts
group-keeps ts =
    let p : length (behind_group ts) ≤ length (tail ts) = rest-keeps (tail ts) in
    let q : length (tail ts) ≤ length ts = tail-keeps ts in
    omega arith

-- ---- a token of what is passed over up to the end of a group

pub block-closed : (ts : List Symbol) (k : TokenKind) → front_kind ts ≡ Some k → is_kind CloseBrace k ≡ true → behind_block ts ≡ ts
block-closed [] k e h = refl
block-closed (t ∷ ts) k e h =
    let is : is_kind CloseBrace t.kind ≡ true = ap (is_kind CloseBrace) (sym (kind-is t ts k e)) ∙ h in
    rw is refl

pub block-opens : (ts : List Symbol) (k : TokenKind) → front_kind ts ≡ Some k → is_kind CloseBrace k ≡ false → is_kind OpenBrace k ≡ true → behind_block ts ≡ behind_group ts
block-opens [] k e h i = absurd cc
block-opens (t ∷ ts) k e h i =
    let open_still : is_kind CloseBrace t.kind ≡ false = ap (is_kind CloseBrace) (sym (kind-is t ts k e)) ∙ h in
    let is : is_kind OpenBrace t.kind ≡ true = ap (is_kind OpenBrace) (sym (kind-is t ts k e)) ∙ i in
    rw (open_still, is) refl

pub block-ends : (ts : List Symbol) (k : TokenKind) → front_kind ts ≡ Some k → is_kind CloseBrace k ≡ false → is_kind OpenBrace k ≡ false → is_kind Semicolon k ≡ true → behind_block ts ≡ tail ts
block-ends [] k e h i j = absurd cc
block-ends (t ∷ ts) k e h i j =
    let open_still : is_kind CloseBrace t.kind ≡ false = ap (is_kind CloseBrace) (sym (kind-is t ts k e)) ∙ h in
    let no_group : is_kind OpenBrace t.kind ≡ false = ap (is_kind OpenBrace) (sym (kind-is t ts k e)) ∙ i in
    let is : is_kind Semicolon t.kind ≡ true = ap (is_kind Semicolon) (sym (kind-is t ts k e)) ∙ j in
    rw (open_still, no_group, is) refl

pub block-goes-on : (ts : List Symbol) (k : TokenKind) → front_kind ts ≡ Some k → is_kind CloseBrace k ≡ false → is_kind OpenBrace k ≡ false → is_kind Semicolon k ≡ false → behind_block ts ≡ behind_block (tail ts)
block-goes-on [] k e h i j = absurd cc
block-goes-on (t ∷ ts) k e h i j =
    let open_still : is_kind CloseBrace t.kind ≡ false = ap (is_kind CloseBrace) (sym (kind-is t ts k e)) ∙ h in
    let no_group : is_kind OpenBrace t.kind ≡ false = ap (is_kind OpenBrace) (sym (kind-is t ts k e)) ∙ i in
    let no_end : is_kind Semicolon t.kind ≡ false = ap (is_kind Semicolon) (sym (kind-is t ts k e)) ∙ j in
    rw (open_still, no_group, no_end) refl

pub no-block : (ts : List Symbol) → front_kind ts ≡ None → behind_block ts ≡ ts
no-block [] e = refl
no-block (t ∷ ts) e = absurd cc

pub block-keeps : (ts : List Symbol) → length (behind_block ts) ≤ length ts
block-keeps [] = omega arith
block-keeps (t ∷ ts) =
    let group : length (behind_group (t ∷ ts)) ≤ length (t ∷ ts) = group-keeps (t ∷ ts) in
    let less : length (behind_block ts) ≤ length ts = block-keeps ts in
    elim (is_kind CloseBrace t.kind) as (λ b. length (cond b (t ∷ ts) (cond (is_kind OpenBrace t.kind) (behind_group (t ∷ ts)) (cond (is_kind Semicolon t.kind) ts (behind_block ts)))) ≤ length (t ∷ ts)) [
      | true ↦ omega arith
      | false ↦ elim (is_kind OpenBrace t.kind) as (λ b. length (cond b (behind_group (t ∷ ts)) (cond (is_kind Semicolon t.kind) ts (behind_block ts))) ≤ length (t ∷ ts)) [
        | true ↦ group
        | false ↦ elim (is_kind Semicolon t.kind) as (λ b. length (cond b ts (behind_block ts)) ≤ length (t ∷ ts)) [
          | true ↦ omega arith
          | false ↦ omega arith
        ]
      ]
    ]

-- what begins within its group takes a token
pub block-shorter : (ts : List Symbol) → has_line ts ≡ true → length (behind_block ts) < length ts
block-shorter [] h = absurd cc
block-shorter (t ∷ ts) h =
    let group : length (behind_group (t ∷ ts)) ≤ length ts = rest-keeps ts in
    let less : length (behind_block ts) ≤ length ts = block-keeps ts in
    rw (stays-open (is_kind CloseBrace t.kind) h) (elim (is_kind OpenBrace t.kind) as (λ b. length (cond b (behind_group (t ∷ ts)) (cond (is_kind Semicolon t.kind) ts (behind_block ts))) < length (t ∷ ts)) [
      | true ↦ omega arith
      | false ↦ elim (is_kind Semicolon t.kind) as (λ b. length (cond b ts (behind_block ts)) < length (t ∷ ts)) [
        | true ↦ omega arith
        | false ↦ omega arith
      ]
    ])

pub ruleset passing_a_block = (block-closed, block-opens, block-ends, block-goes-on, no-block, taken)
