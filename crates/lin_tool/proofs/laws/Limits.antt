-- Which tokens stay where the marks that a text has too many are left out.
use Rattle.std.proofs.Common.{◌≡◌, ◌++◌, ◌&&◌, ◌||◌, ◌⊎◌, Bool, true, false, not, List, [], ◌∷◌, refl, sym, ap, subst, inl, inr}
use Rattle.lin_ldf.specs.Forms.{is_front}
use Rattle.lin_ldf.specs.GrammarLaws.{not_true}
use Rattle.lin_ldf.specs.Loops.{is_next}
use Rattle.lin_ldf.specs.Symbols.{Symbol, is_kind}
use Rattle.lin_ldf.specs.declared.token.TokenKind.{TokenKind}
use Rattle.lin_ldf.specs.declared.token.TokenKind.TheVariants as kinds
use Rattle.lin_field.specs.Marks.{is_extra, without_extra_marks}
use Rattle.lin_tool.proofs.laws.LdfTokens.{AreOfKind}
use Rattle.lin_tool.specs.laws.Texts.{HasNoErrorAndComma, is_field_word, uses_field_words}

-- ---- tokens of plain texts

pub record IsClean (ts : List Symbol) : Type 0 where
  pub words : uses_field_words ts ≡ false
  pub errors : HasNoErrorAndComma ts
  pub tokens : AreOfKind ts

pub neither : (a b : Bool) → (a || b) ≡ false → (a ≡ false) × (b ≡ false)
neither true b e = absurd cc
neither false b e = (refl, e)

pub clean_front : (t : Symbol) (ts : List Symbol) → IsClean (t ∷ ts) → is_field_word t ≡ false
clean_front t ts c = (neither (is_field_word t) (uses_field_words ts) c.words).0

pub clean_tail : (t : Symbol) (ts : List Symbol) → IsClean (t ∷ ts) → IsClean ts
clean_tail t ts c = record {
  words = (neither (is_field_word t) (uses_field_words ts) c.words).1;
  errors = λ before us name rest e h. c.errors (t ∷ before) us name rest (ap (λ (x : List Symbol). t ∷ x) e) h;
  tokens = c.tokens.1;
}

pub clean_behind : (w rest : List Symbol) → IsClean (w ++ rest) → IsClean rest
clean_behind [] rest c = c
clean_behind (t ∷ w) rest c = clean_behind w rest (clean_tail t (w ++ rest) c)

-- ---- what may come before and after a form, so that no mark of its own is left out

pub data Limit : Type 0 where
  Anything : Limit
  NoSemicolon : Limit
  NoEnd : Limit

abbrev pub is_end : Symbol → Bool
is_end t = is_kind kinds.Semicolon t.kind || is_kind kinds.CloseBrace t.kind

abbrev pub allows : Limit → List Symbol → Bool
allows Anything ts = true
allows NoSemicolon ts = not (is_next kinds.Semicolon ts)
allows NoEnd ts = not (is_front is_end ts)

-- what the one allows, the other does
abbrev pub covers : Limit → Limit → Bool
covers NoEnd b = true
covers NoSemicolon NoEnd = false
covers NoSemicolon b = true
covers Anything Anything = true
covers Anything b = false

no_end : (a b : Bool) → not (a || b) ≡ true → not a ≡ true
no_end true b e = absurd cc
no_end false b e = refl

no_front : (ts : List Symbol) → not (is_front is_end ts) ≡ true → not (is_next kinds.Semicolon ts) ≡ true
no_front [] e = refl
no_front (t ∷ ts) e = no_end (is_kind kinds.Semicolon t.kind) (is_kind kinds.CloseBrace t.kind) e

pub covered : (a b : Limit) (ts : List Symbol) → covers a b ≡ true → allows a ts ≡ true → allows b ts ≡ true
covered NoEnd NoEnd ts c e = e
covered NoEnd NoSemicolon ts c e = no_front ts e
covered NoSemicolon NoSemicolon ts c e = e
covered a Anything ts c e = refl
covered _ _ ts c e = absurd cc

pub covers_self : (a : Limit) → covers a a ≡ true
covers_self Anything = refl
covers_self NoSemicolon = refl
covers_self NoEnd = refl

-- what a token of this kind keeps to, and what it asks of the next one
abbrev pub first_limit : TokenKind → Limit
first_limit kinds.Semicolon = Anything
first_limit kinds.CloseBrace = NoSemicolon
first_limit _ = NoEnd

abbrev pub last_limit : TokenKind → Limit
last_limit kinds.Semicolon = NoSemicolon
last_limit kinds.Comma = NoEnd
last_limit _ = Anything

pub kind_first : (k : TokenKind) (t : Symbol) (ts : List Symbol) → t.kind ≡ k → allows (first_limit k) (t ∷ ts) ≡ true
kind_first kinds.Semicolon t ts e = refl
kind_first _ t ts e = rw e refl

comma_stays : (a b : Bool) → not a ≡ true → (a || (false && b)) ≡ false
comma_stays true b e = absurd cc
comma_stays false b e = refl

abbrev pub is_left_out : TokenKind → List Symbol → Bool
is_left_out kind ts = is_front (λ u. is_extra kind u.kind) ts

kind_stays : (k : TokenKind) (ts : List Symbol) → allows (last_limit k) ts ≡ true → is_left_out k ts ≡ false
kind_stays k [] e = refl
kind_stays kinds.Semicolon (u ∷ us) e = not_true _ e
kind_stays kinds.Comma (u ∷ us) e = comma_stays (is_end u) (is_kind kinds.Semicolon u.kind) e
kind_stays _ (u ∷ us) e = refl

pub stays : (t : Symbol) (ts : List Symbol) → is_left_out t.kind ts ≡ false → without_extra_marks (t ∷ ts) ≡ t ∷ without_extra_marks ts
stays t ts e = rw e refl

pub kept : (t : Symbol) (ts : List Symbol) → allows (last_limit t.kind) ts ≡ true → without_extra_marks (t ∷ ts) ≡ t ∷ without_extra_marks ts
kept t ts e = stays t ts (kind_stays t.kind ts e)

pub goes : (t : Symbol) (ts : List Symbol) → is_left_out t.kind ts ≡ true → without_extra_marks (t ∷ ts) ≡ without_extra_marks ts
goes t ts e = rw e refl

comma_goes : (a b : Bool) → (a || (false && b)) ≡ true → a ≡ true
comma_goes true b e = refl
comma_goes false b e = absurd cc

-- a mark that is left out is a comma before an end, or a semicolon before one
abbrev pub IsMarkBefore : TokenKind → List Symbol → Type 0
IsMarkBefore kind ts =
    ((kind ≡ kinds.Comma) × (is_front is_end ts ≡ true)) ⊎ ((kind ≡ kinds.Semicolon) × (is_next kinds.Semicolon ts ≡ true))

pub left_out : (kind : TokenKind) (ts : List Symbol) → is_left_out kind ts ≡ true → IsMarkBefore kind ts
left_out kind [] e = absurd cc
left_out kinds.Comma (t ∷ ts) e = inl (refl, comma_goes (is_end t) (is_kind kinds.Semicolon t.kind) e)
left_out kinds.Semicolon (t ∷ ts) e = inr (refl, e)
left_out _ (t ∷ ts) e = absurd cc

-- ---- kinds

pub kind_is : (a b : TokenKind) → is_kind a b ≡ true → b ≡ a
kind_is kinds.Word kinds.Word e = refl
kind_is kinds.Number kinds.Number e = refl
kind_is kinds.Text kinds.Text e = refl
kind_is kinds.OpenBrace kinds.OpenBrace e = refl
kind_is kinds.CloseBrace kinds.CloseBrace e = refl
kind_is kinds.Colon kinds.Colon e = refl
kind_is kinds.Semicolon kinds.Semicolon e = refl
kind_is kinds.Comma kinds.Comma e = refl
kind_is kinds.Equals kinds.Equals e = refl
kind_is kinds.Other kinds.Other e = refl
kind_is _ _ e = absurd cc

pub record IsWithin (first last : Limit) (kind : TokenKind) : Type 0 where
  pub begins : covers (first_limit kind) first ≡ true
  pub ends : covers last (last_limit kind) ≡ true

pub within_kind : (k kind : TokenKind) → kind ≡ k → IsWithin (first_limit k) (last_limit k) kind
within_kind k kind e = record {
  begins = subst (λ (x : TokenKind). covers (first_limit x) (first_limit k) ≡ true) (sym e) (covers_self (first_limit k));
  ends = subst (λ (x : TokenKind). covers (last_limit k) (last_limit x) ≡ true) (sym e) (covers_self (last_limit k));
}

pub covers_anything : (a : Limit) → covers a Anything ≡ true
covers_anything Anything = refl
covers_anything NoSemicolon = refl
covers_anything NoEnd = refl
