-- The signal that a response_error names stays the same where marks are left out.
use Rattle.std.proofs.Common.{◌≡◌, ◌∙◌, ◌||◌, Bool, true, false, List, [], ◌∷◌, Option, Some, None, refl, sym, ap, subst}
use Rattle.std.specs.Prelude.{codes}
use Rattle.std.specs.Option.{option_map}
use Rattle.std.proofs.Common.{inl, inr}
use Rattle.std.proofs.lemmas.Bool.{false_from_ne_true}
use Rattle.lin_parts.specs.declared.description.Name.{Name}
use Rattle.lin_ldf.specs.Forms.{◌<&◌, is_front, is_keyword}
use Rattle.lin_ldf.specs.Grammar.{attribute_words, general, named_error}
use Rattle.lin_ldf.specs.GrammarLaws.{has_kind, is_word, other_is_word}
use Rattle.lin_ldf.specs.KindLaws.{word_is}
use Rattle.lin_ldf.specs.Symbols.{Symbol, is_kind}
use Rattle.lin_ldf.specs.Words.{name_of, semicolon, word}
use Rattle.lin_ldf.specs.declared.token.TokenKind.{TokenKind}
use Rattle.lin_ldf.specs.declared.token.TokenKind.TheVariants as kinds
use Rattle.lin_field.specs.Marks.{without_extra_marks}
use Rattle.lin_tool.specs.laws.Texts.{HasNoErrorAndComma}
use Rattle.lin_tool.proofs.laws.Limits.{Anything, IsClean, goes, is_end, is_left_out, kept, kind_is, last_limit, left_out, stays}

abbrev is_semicolon : Symbol → Bool
is_semicolon t = has_kind kinds.Semicolon t

semicolon_ends : (ts : List Symbol) → is_front is_semicolon ts ≡ true → is_front is_end ts ≡ true
semicolon_ends [] e = absurd cc
semicolon_ends (t ∷ ts) e = ap (λ b. b || is_kind kinds.CloseBrace t.kind) e

-- before such a token alone a mark is left out
before_end : (kind : TokenKind) (ts : List Symbol) → is_left_out kind ts ≡ true → is_front is_end ts ≡ true
before_end kind ts e = elim (left_out kind ts e) [ inl m ↦ m.1 | inr m ↦ semicolon_ends ts m.1 ]

end_no_word : (kind : TokenKind) → (is_kind kinds.Semicolon kind || is_kind kinds.CloseBrace kind) ≡ true → is_kind kinds.Word kind ≡ false
end_no_word kinds.Word e = absurd cc
end_no_word _ e = refl

end_front_no_word : (ts : List Symbol) → is_front is_end ts ≡ true → is_front is_word ts ≡ false
end_front_no_word [] e = absurd cc
end_front_no_word (t ∷ ts) e = end_no_word t.kind e

-- what begins with no word doesn't begin with one then
no_word_stays : (ts : List Symbol) → is_front is_word ts ≡ false → is_front is_word (without_extra_marks ts) ≡ false
no_word_stays [] e = refl
no_word_stays (t ∷ ts) e =
    elim (is_left_out t.kind ts) as (λ b. (is_left_out t.kind ts ≡ b) → is_front is_word (without_extra_marks (t ∷ ts)) ≡ false) [
      | true ↦ λ is. rw (goes t ts is) (no_word_stays ts (end_front_no_word ts (before_end t.kind ts is)))
      | false ↦ λ is. rw (stays t ts is) e
    ] refl

semicolon_before : (t : Symbol) (ts : List Symbol) → is_semicolon t ≡ true → is_left_out t.kind ts ≡ true → is_front is_semicolon ts ≡ true
semicolon_before t ts e is = elim (left_out t.kind ts is) [
  | inl m ↦ let bad : false ≡ true = ap (is_kind kinds.Semicolon) (sym m.0) ∙ e in absurd cc
  | inr m ↦ m.1
]

-- what begins with a semicolon still does
semicolon_stays : (ts : List Symbol) → is_front is_semicolon ts ≡ true → is_front is_semicolon (without_extra_marks ts) ≡ true
semicolon_stays [] e = absurd cc
semicolon_stays (t ∷ ts) e =
    elim (is_left_out t.kind ts) as (λ b. (is_left_out t.kind ts ≡ b) → is_front is_semicolon (without_extra_marks (t ∷ ts)) ≡ true) [
      | true ↦ λ is. rw (goes t ts is) (semicolon_stays ts (semicolon_before t ts e is))
      | false ↦ λ is. rw (stays t ts is) e
    ] refl

-- a comma and a semicolon
abbrev IsSpoiled : List Symbol → Type 0
IsSpoiled ts = (y : Symbol) × (z : Symbol) × (rest : List Symbol) × (ts ≡ y ∷ z ∷ rest) × (is_kind kinds.Comma y.kind ≡ true) ×
    (is_semicolon z ≡ true)

left_out_comma : (kind : TokenKind) (ts : List Symbol) → is_kind kinds.Semicolon kind ≡ false → is_left_out kind ts ≡ true
    → is_kind kinds.Comma kind ≡ true
left_out_comma kind ts other e = elim (left_out kind ts e) [
  | inl m ↦ rw (m.0) refl
  | inr m ↦ let bad : true ≡ false = ap (is_kind kinds.Semicolon) (sym m.0) ∙ other in absurd cc
]

brace_no_semicolon : (kind : TokenKind) → is_kind kinds.Semicolon kind ≡ false
    → (is_kind kinds.Semicolon kind || is_kind kinds.CloseBrace kind) ≡ true → kind ≡ kinds.CloseBrace
brace_no_semicolon kinds.CloseBrace other e = refl
brace_no_semicolon _ other e = absurd cc

-- what comes after a brace, or nothing, begins with no semicolon
brace_stays : (ts : List Symbol) → is_front is_end ts ≡ true → is_front is_semicolon ts ≡ false → is_front is_semicolon (without_extra_marks ts) ≡ false
brace_stays [] e other = refl
brace_stays (t ∷ ts) e other =
    let is : t.kind ≡ kinds.CloseBrace = brace_no_semicolon t.kind other e in
    rw (kept t ts (rw is refl)) other

-- what begins with no semicolon begins with none then, but for a comma before one
no_semicolon_stays : (ts : List Symbol) → (IsSpoiled ts → ⊥) → is_front is_semicolon ts ≡ false → is_front is_semicolon (without_extra_marks ts) ≡ false
no_semicolon_stays [] sound e = refl
no_semicolon_stays (t ∷ ts) sound e =
    elim (is_left_out t.kind ts) as (λ b. (is_left_out t.kind ts ≡ b) → is_front is_semicolon (without_extra_marks (t ∷ ts)) ≡ false) [
      | true ↦ λ is. rw (goes t ts is)
          (brace_stays ts (before_end t.kind ts is) (no_second t ts (left_out_comma t.kind ts e is) sound))
      | false ↦ λ is. rw (stays t ts is) e
    ] refl
  where
    no_second : (t : Symbol) (ts : List Symbol) → is_kind kinds.Comma t.kind ≡ true → (IsSpoiled (t ∷ ts) → ⊥) → is_front is_semicolon ts ≡ false
    no_second t [] comma sound = refl
    no_second t (z ∷ rest) comma sound = false_from_ne_true (is_semicolon z) (λ is. sound (t, z, rest, refl, comma, is))

-- ---- the name

abbrev named_next : List Symbol → Option Name
named_next ts = option_map (λ r. r.0) ((word <& semicolon).read ts)

no_word_named : (ts : List Symbol) → is_front is_word ts ≡ false → named_next ts ≡ None
no_word_named ts e = rw e refl

word_named : (t : Symbol) (ts : List Symbol) → is_word t ≡ true → is_front is_semicolon ts ≡ true → named_next (t ∷ ts) ≡ Some (name_of t)
word_named t ts e f = rw (e, f) refl

word_alone : (t : Symbol) (ts : List Symbol) → is_word t ≡ true → is_front is_semicolon ts ≡ false → named_next (t ∷ ts) ≡ None
word_alone t ts e f = rw (e, f) refl

word_keeps : (t : Symbol) (ts : List Symbol) → is_word t ≡ true → without_extra_marks (t ∷ ts) ≡ t ∷ without_extra_marks ts
word_keeps t ts e = kept t ts (rw (word_is t.kind e) refl)

same_named : (ts : List Symbol) → ((t : Symbol) (us : List Symbol) → ts ≡ t ∷ us → is_word t ≡ true → IsSpoiled us → ⊥)
    → named_next ts ≡ named_next (without_extra_marks ts)
same_named [] sound = refl
same_named (t ∷ ts) sound =
    elim (is_word t) as (λ b. (is_word t ≡ b) → named_next (t ∷ ts) ≡ named_next (without_extra_marks (t ∷ ts))) [
      | true ↦ λ is. named_word t ts is (sound t ts refl is)
      | false ↦ λ is. no_word_named (t ∷ ts) is ∙ sym (no_word_named (without_extra_marks (t ∷ ts)) (no_word_stays (t ∷ ts) is))
    ] refl
  where
    named_word : (t : Symbol) (ts : List Symbol) → is_word t ≡ true → (IsSpoiled ts → ⊥) → named_next (t ∷ ts) ≡ named_next (without_extra_marks (t ∷ ts))
    named_word t ts is sound =
        elim (is_front is_semicolon ts) as (λ b. (is_front is_semicolon ts ≡ b) → named_next (t ∷ ts) ≡ named_next (without_extra_marks (t ∷ ts))) [
          | true ↦ λ semi. word_named t ts is semi ∙ sym (ap named_next (word_keeps t ts is) ∙ word_named t (without_extra_marks ts) is (semicolon_stays ts semi))
          | false ↦ λ semi. word_alone t ts is semi
              ∙ sym (ap named_next (word_keeps t ts is) ∙ word_alone t (without_extra_marks ts) is (no_semicolon_stays ts sound semi))
        ] refl

abbrev is_error : Symbol → Bool
is_error t = is_keyword (codes "response_error") t

abbrev is_equals : Symbol → Bool
is_equals t = has_kind kinds.Equals t

error_next : (t q : Symbol) (us : List Symbol) → is_error t ≡ true → is_equals q ≡ true → named_error (t ∷ q ∷ us) ≡ named_next us
error_next t q us e f = rw (e, f) refl

no_error : (t : Symbol) (us : List Symbol) → is_error t ≡ false → named_error (t ∷ us) ≡ None
no_error t us e = rw e refl

no_equals : (t q : Symbol) (us : List Symbol) → is_equals q ≡ false → named_error (t ∷ q ∷ us) ≡ None
no_equals t q us f =
    elim (is_error t) as (λ b. (is_error t ≡ b) → named_error (t ∷ q ∷ us) ≡ None) [
      | true ↦ λ e. rw (e, f) refl
      | false ↦ λ e. no_error t (q ∷ us) e
    ] refl

sound_after : (t q : Symbol) (us : List Symbol) → HasNoErrorAndComma (t ∷ q ∷ us) → is_error t ≡ true → is_equals q ≡ true
    → (x : Symbol) (vs : List Symbol) → us ≡ x ∷ vs → is_word x ≡ true → IsSpoiled vs → ⊥
sound_after t q us none e f x vs is word (y, z, rest, comes, comma, semi) =
    let whole : us ≡ x ∷ y ∷ z ∷ rest = is ∙ ap (λ (ws : List Symbol). x ∷ ws) comes in
    none [] (t ∷ q ∷ us) (name_of x) rest refl (
      tt,
      us,
      (q ∷ us, tt, (t, refl, e, refl), (q, refl, f, refl)),
      (z ∷ rest, tt, (y ∷ z ∷ rest, tt, (x, whole, word, refl), (y, refl, comma, refl)), (z, refl, semi, refl)),
    )

same_errors : (t q : Symbol) (us : List Symbol) → HasNoErrorAndComma (t ∷ q ∷ us) → named_error (t ∷ q ∷ us) ≡ named_error (t ∷ q ∷ without_extra_marks us)
same_errors t q us none =
    elim (is_error t) as (λ b. (is_error t ≡ b) → named_error (t ∷ q ∷ us) ≡ named_error (t ∷ q ∷ without_extra_marks us)) [
      | true ↦ λ e.
          elim (is_equals q) as (λ b. (is_equals q ≡ b) → named_error (t ∷ q ∷ us) ≡ named_error (t ∷ q ∷ without_extra_marks us)) [
            | true ↦ λ f. error_next t q us e f ∙ same_named us (sound_after t q us none e f) ∙ sym (error_next t q (without_extra_marks us) e f)
            | false ↦ λ f. no_equals t q us f ∙ sym (no_equals t q (without_extra_marks us) f)
          ] refl
      | false ↦ λ e. no_error t (q ∷ us) e ∙ sym (no_error t (q ∷ without_extra_marks us) e)
    ] refl

two_stay : (t q : Symbol) (us : List Symbol) → is_word t ≡ true → last_limit q.kind ≡ Anything → without_extra_marks (t ∷ q ∷ us) ≡ t ∷ q ∷ without_extra_marks us
two_stay t q us e f = word_keeps t (q ∷ us) e ∙ ap (λ (vs : List Symbol). t ∷ vs) (kept q us (rw f refl))

same_of_two : (ts : List Symbol) (t q : Symbol) (us : List Symbol) → ts ≡ t ∷ q ∷ us → is_word t ≡ true → last_limit q.kind ≡ Anything → IsClean ts
    → named_error ts ≡ named_error (without_extra_marks ts)
same_of_two ts t q us is word last c =
    ap named_error is ∙ same_errors t q us (subst HasNoErrorAndComma is c.errors)
    ∙ sym (ap named_error (ap without_extra_marks is ∙ two_stay t q us word last))

pub same_error : (ts : List Symbol) (rest : List Symbol) → general.spells ts tt rest → IsClean ts → named_error ts ≡ named_error (without_extra_marks ts)
same_error ts rest (u, mid, (t, is, word, v), others) c = elim others [
  | inl (a, us, (q, next, equals, b), x) ↦ same_of_two ts t q us (is ∙ ap (λ (vs : List Symbol). t ∷ vs) next) (other_is_word attribute_words t word)
      (ap last_limit (kind_is kinds.Equals q.kind equals)) c
  | inr (a, us, (q, next, brace, b), x) ↦ same_of_two ts t q us (is ∙ ap (λ (vs : List Symbol). t ∷ vs) next) (other_is_word attribute_words t word)
      (ap last_limit (kind_is kinds.OpenBrace q.kind brace)) c
]
