-- The parts of a text, token by token.
use Rattle.std.proofs.Common.{◌≡◌, ℕ, zero, suc, ◌<◌, ◌≤◌, ◌+◌, ◌-◌, Bool, true, false, cond, eqb, ◌&&◌, List, [], ◌∷◌, length, map, take, drop, get_or, refl, sym, ap, ◌∙◌, arith}
use Rattle.std.specs.Prelude.{◌||◌, slice_range}
use Rattle.std.specs.Borrow.{Bor}
use Rattle.std.specs.List.{list_any}
use Rattle.lin_ldf.specs.Symbols.{is_kind}
use Rattle.lin_ldf.specs.declared.token.Token.{Token}
use Rattle.lin_ldf.specs.declared.token.TokenKind.{TokenKind}
use Rattle.lin_field.specs.Plain.{brace_depth, before_end, part_end, parts_in, parts, end_of_tokens, source_bytes, without_last}

-- ---- parts

rest-shorter : (end : TokenKind) (d : ℕ) (ts : List Token) → length (before_end end d ts).1 ≤ length ts
rest-shorter end d [] = omega arith
rest-shorter end d (t ∷ ts) =
    elim (eqb (brace_depth d t.kind) 0 && is_kind end t.kind) as (λ b. length (cond {A = List Token × List Token} b (t ∷ [], ts) (t ∷ (before_end end (brace_depth d t.kind) ts).0, (before_end end (brace_depth d t.kind) ts).1)).1 ≤ suc (length ts)) [
      | true ↦ omega arith
      | false ↦ let h = rest-shorter end (brace_depth d t.kind) ts in omega arith
    ]

-- as many as there are tokens are enough
parts-enough : (n m : ℕ) (ts : List Token) → length ts ≤ n → length ts ≤ m → parts_in n ts ≡ parts_in m ts
parts-enough zero zero [] h k = refl
parts-enough zero (suc m) [] h k = refl
parts-enough (suc n) zero [] h k = refl
parts-enough (suc n) (suc m) [] h k = refl
parts-enough zero m (t ∷ ts) h k = absurd (omega arith)
parts-enough (suc n) zero (t ∷ ts) h k = absurd (omega arith)
parts-enough (suc n) (suc m) (t ∷ ts) h k =
    let behind = (before_end (part_end ts) 0 ts).1 in
    let short = rest-shorter (part_end ts) 0 ts in
    let hn : length behind ≤ n = omega arith in
    let hm : length behind ≤ m = omega arith in
    ap (λ ps. (t ∷ (before_end (part_end ts) 0 ts).0) ∷ ps) (parts-enough n m behind hn hm)

-- the first of the parts, where so many tokens come behind its word up to its end
pub first-part : (ts behind part rest : List Token) (n : ℕ) (end : TokenKind) → 0 < length ts
    → behind ≡ drop 1 ts → end ≡ part_end behind
    → take n behind ≡ (before_end end 0 behind).0 → drop n behind ≡ (before_end end 0 behind).1
    → part ≡ take (1 + n) ts → rest ≡ drop (1 + n) ts
    → (parts ts ≡ part ∷ parts rest) × (length rest < length ts)
first-part [] xs part rest n end h b is front back p r = absurd (omega arith)
first-part (t ∷ ts) xs part rest n end h b is front back p r =
    let behind = (before_end (part_end ts) 0 ts).1 in
    let next : 1 + n ≡ suc n = omega arith in
    let short = rest-shorter (part_end ts) 0 ts in
    let le : length behind ≤ length behind = omega arith in
    let end-is : end ≡ part_end ts = is ∙ ap part_end b in
    let front-is : take n ts ≡ (before_end (part_end ts) 0 ts).0 =
    ap (take n) (sym b) ∙ front ∙ ap (λ zs. (before_end end 0 zs).0) b ∙ ap (λ e. (before_end e 0 ts).0) end-is in
    let back-is : drop n ts ≡ behind =
    ap (drop n) (sym b) ∙ back ∙ ap (λ zs. (before_end end 0 zs).1) b ∙ ap (λ e. (before_end e 0 ts).1) end-is in
    let part-is : part ≡ t ∷ (before_end (part_end ts) 0 ts).0 =
    p ∙ ap (λ k. take k (t ∷ ts)) next ∙ ap (λ zs. t ∷ zs) front-is in
    let rest-is : rest ≡ behind = r ∙ ap (λ k. drop k (t ∷ ts)) next ∙ back-is in
    let shorter : length rest < suc (length ts) = omega (arith, ap length rest-is) in (
      ap (λ ps. (t ∷ (before_end (part_end ts) 0 ts).0) ∷ ps) (parts-enough (length ts) (length behind) behind short le)
          ∙ ap (λ zs. zs ∷ parts behind) (sym part-is) ∙ ap (λ zs. part ∷ parts zs) (sym rest-is),
      shorter,
    )

-- ---- the last token

pub without-last : (n : ℕ) (ts : List Token) → n + 1 ≡ length ts → take n ts ≡ without_last ts
without-last n [] h = absurd (omega arith)
without-last zero (t ∷ []) h = refl
without-last (suc n) (t ∷ []) h = absurd (omega arith)
without-last zero (t ∷ (u ∷ ts)) h = absurd (omega arith)
without-last (suc n) (t ∷ (u ∷ ts)) h = ap (λ xs. t ∷ xs) (without-last n (u ∷ ts) (omega arith))

pub last-end : (at n : ℕ) (t : Token) (ts : List Token) → n + 1 ≡ length ts → t ≡ get_or ts n t
    → end_of_tokens at ts ≡ t.end
last-end at n t [] h is = absurd (omega arith)
last-end at zero t (u ∷ []) h is = ap (λ x. x.end) (sym is)
last-end at (suc n) t (u ∷ []) h is = absurd (omega arith)
last-end at zero t (u ∷ (v ∷ ts)) h is = absurd (omega arith)
last-end at (suc n) t (u ∷ (v ∷ ts)) h is = last-end u.end n t (v ∷ ts) (omega arith) is

pub bytes-between : (source : List ℕ) (ts : List Token) (first last : Token) → 0 < length ts → first ≡ get_or ts 0 first
    → last ≡ get_or ts (length ts - 1) last → slice_range source first.start last.end ≡ source_bytes source ts
bytes-between source [] first last h f l = absurd (omega arith)
bytes-between source (t ∷ ts) first last h f l =
    let one : suc (length ts) - 1 ≡ length ts = omega arith in
    let same : last ≡ get_or (t ∷ ts) (length ts) last = l ∙ ap (λ n. get_or (t ∷ ts) n last) one in
    let whole : length ts + 1 ≡ length (t ∷ ts) = omega arith in
    ap (λ x. slice_range source x.start last.end) f
    ∙ ap (slice_range source t.start) (sym (last-end 0 (length ts) last (t ∷ ts) whole same))

-- ---- a list of borrowed things

pub any-borrowed : {A : Type 0} (test : A → Bool) (xs : List (Bor A))
    → list_any (λ x. test x.now) xs ≡ list_any test (map (λ x. x.now) xs)
any-borrowed test [] = refl
any-borrowed test (x ∷ xs) =
    elim (test x.now) as (λ b. (b || list_any (λ y. test y.now) xs) ≡ (b || list_any test (map (λ y. y.now) xs))) [
      | true ↦ refl
      | false ↦ any-borrowed test xs
    ]
