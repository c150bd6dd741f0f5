-- Tokens that are put, one by one.
use Rattle.std.proofs.Common.{◌≡◌, ◌∙◌, ℕ, ◌==◌, ◌&&◌, ◌||◌, Bool, true, false, cond, not, List, [], ◌∷◌, Some, None, map, refl, sym, ap}
use Rattle.std.specs.Prelude.{filter, fold}
use Rattle.lin_ldf.specs.declared.token.TokenKind.{TokenKind}
use Rattle.lin_ldf.specs.declared.token.TokenKind.TheVariants.{CloseBrace, Comma, Semicolon}
use Rattle.lin_ldf.specs.Symbols.{Symbol, is_kind}
use Rattle.lin_ldf.specs.Forms.{front, tail}
use Rattle.lin_ldf.specs.UpTo.{front_kind}
use Rattle.lin_sections.specs.FactTexts.{with_word}
use Rattle.lin_sections.specs.Passed.{brace_depth}
use Rattle.lin_sections.specs.TokenTexts.{token_text, tokens_until, tokens_words, Spelled}
use Rattle.lin_sections.proofs.PassedSteps.{kind-is, taken}

-- whether a token ends a group or a value
abbrev ends : Bool → ℕ → TokenKind → Bool
ends at_semicolon n k = n == 0 && (is_kind CloseBrace k || at_semicolon && is_kind Semicolon k)

one-word : (b : Bool) (s : Spelled) (t : Symbol) (rest : List (List ℕ)) (text : List ℕ)
    → fold with_word text (cond b (token_text s t ∷ rest) rest) ≡ fold with_word (fold with_word text (cond b (token_text s t ∷ []) [])) rest
one-word true s t rest text = refl
one-word false s t rest text = refl

mapped-if : {X Y : Type 0} (b : Bool) (f : X → Y) (x : X) (xs : List X) → map f (cond b (x ∷ xs) xs) ≡ cond b (f x ∷ map f xs) (map f xs)
mapped-if true f x xs = refl
mapped-if false f x xs = refl

words-more : (s : Spelled) (t : Symbol) (ts : List Symbol) (text : List ℕ)
    → fold with_word text (tokens_words s (t ∷ ts)) ≡ fold with_word (fold with_word text (tokens_words s (t ∷ []))) (tokens_words s ts)
words-more s t ts text =
    let kept : Symbol → Bool = λ u. not (s.has_decimals && is_kind Comma u.kind) in
    ap (fold with_word text) (mapped-if (kept t) (token_text s) t (filter kept ts))
    ∙ one-word (kept t) s t (tokens_words s ts) text
    ∙ ap (λ ws. fold with_word (fold with_word text ws) (tokens_words s ts)) (sym (mapped-if (kept t) (token_text s) t []))

pub put-more : (s : Spelled) (b : Bool) (n : ℕ) (ts : List Symbol) (k : TokenKind) (text : List ℕ) → front_kind ts ≡ Some k → ends b n k ≡ false
    → fold with_word text (tokens_words s (tokens_until b n ts))
    ≡ fold with_word (fold with_word text (tokens_words s (front ts ∷ []))) (tokens_words s (tokens_until b (brace_depth n k) (tail ts)))
put-more s b n [] k text e h = absurd cc
put-more s b n (t ∷ ts) k text e h =
    let goes_on : ends b n t.kind ≡ false = ap (ends b n) (sym (kind-is t ts k e)) ∙ h in
    rw goes_on (words-more s t (tokens_until b (brace_depth n t.kind) ts) text
    ∙ ap (λ x. fold with_word (fold with_word text (tokens_words s (t ∷ []))) (tokens_words s (tokens_until b (brace_depth n x) ts))) (sym (kind-is t ts k e)))

pub put-ends : (s : Spelled) (b : Bool) (n : ℕ) (ts : List Symbol) (k : TokenKind) (text : List ℕ) → front_kind ts ≡ Some k → ends b n k ≡ true
    → fold with_word text (tokens_words s (tokens_until b n ts)) ≡ text
put-ends s b n [] k text e h = refl
put-ends s b n (t ∷ ts) k text e h =
    let is : ends b n t.kind ≡ true = ap (ends b n) (sym (kind-is t ts k e)) ∙ h in
    rw is refl

pub put-none : (s : Spelled) (b : Bool) (n : ℕ) (ts : List Symbol) (text : List ℕ) → front_kind ts ≡ None
    → fold with_word text (tokens_words s (tokens_until b n ts)) ≡ text
put-none s b n [] text e = refl
put-none s b n (t ∷ ts) text e = absurd cc

-- a token that isn't left out, and one that is
pub word-put : (s : Spelled) (ts : List Symbol) (k : TokenKind) (text : List ℕ) → front_kind ts ≡ Some k → (s.has_decimals && is_kind Comma k) ≡ false
    → fold with_word text (tokens_words s (front ts ∷ [])) ≡ with_word text (token_text s (front ts))
word-put s [] k text e h = absurd cc
word-put s (t ∷ ts) k text e h =
    let is : (s.has_decimals && is_kind Comma t.kind) ≡ false = ap (λ x. s.has_decimals && is_kind Comma x) (sym (kind-is t ts k e)) ∙ h in
    rw is refl

pub word-left : (s : Spelled) (ts : List Symbol) (k : TokenKind) (text : List ℕ) → front_kind ts ≡ Some k → (s.has_decimals && is_kind Comma k) ≡ true
    → fold with_word text (tokens_words s (front ts ∷ [])) ≡ text
word-left s [] k text e h = absurd cc
word-left s (t ∷ ts) k text e h =
    let is : (s.has_decimals && is_kind Comma t.kind) ≡ true = ap (λ x. s.has_decimals && is_kind Comma x) (sym (kind-is t ts k e)) ∙ h in
    rw is refl

pub ruleset putting = (put-more, put-ends, put-none, taken)

pub ruleset putting_one = (word-put, word-left)
