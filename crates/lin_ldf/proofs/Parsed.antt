-- What the parser makes of a text is what the text describes, or its first fault.
use Rattle.std.proofs.Common.{◌≡◌, ◌≢◌, ℕ, List, Option, Some, None, Result, Ok, MatchResult, sym, ap, subst, ◌∙◌, inl, inr}
use Rattle.std.proofs.lemmas.List.{append-nil}
use Rattle.lin_ldf.specs.Symbols.{Symbol, symbols_in}
use Rattle.lin_ldf.specs.Stream.{Ahead, empty_ahead, start_of}
use Rattle.lin_ldf.specs.Forms.{Gives}
use Rattle.lin_ldf.specs.Grammar.{file}
use Rattle.lin_ldf.specs.Tokens.{AreTokens, IsLexFault, mark_len, behind_mark}
use Rattle.lin_ldf.specs.Describes.{Spells, Describes}
use Rattle.lin_ldf.specs.declared.token.Token.{Token}
use Rattle.lin_ldf.specs.declared.fault.LdfFault.{LdfFault}
use Rattle.lin_ldf.specs.declared.fault.LdfFault.TheVariants.{OutOfMemory}
use Rattle.lin_parts.specs.declared.description.Description.{Description}
use Rattle.lin_ldf.proofs.Described.{all_found, only_found}
use Rattle.lin_ldf.proofs.Unique.{same_tokens, same_fault, no_tokens, fault_behind}
use Rattle.lin_ldf.proofs.Outcomes.{outcome}
use Rattle.lin_ldf.proofs.Stream.{added}
use Rattle.lin_ldf.proofs.Stops.{never_stops}

-- a fault of the lexer and tokens exclude each other
pub no_fault : (source : List ℕ) (ts : List Token) → AreTokens source ts → (e : LdfFault) → IsLexFault source e → e ≢ OutOfMemory → ⊥
no_fault source ts are e is other = no_tokens (mark_len source) (behind_mark source) e ts (fault_behind (behind_mark source) e is other) are

no_description : (source : List ℕ) (f : LdfFault) → IsLexFault source f → f ≢ OutOfMemory → (d : Description) → Describes source d → ⊥
no_description source f is other d (ts, are, spells) = no_fault source ts are f is other

first_is : (source : List ℕ) (f e : LdfFault) → IsLexFault source f → f ≢ OutOfMemory → IsLexFault source e → e ≢ OutOfMemory → f ≡ e
first_is source f e is some is' other = same_fault (behind_mark source) f e (fault_behind (behind_mark source) f is some) (fault_behind (behind_mark source) e is' other)

abbrev symbols : List ℕ → List Symbol
symbols source = symbols_in source (start_of source).tokens

-- what a text describes, the parser's symbols spell
spelled : (source : List ℕ) (d : Description) → Describes source d → Spells (symbols source) d
spelled source d (ts, are, spells) = elim (outcome source) [
  | inl (are', none) ↦
      let one : ts ≡ (start_of source).tokens = same_tokens (mark_len source) (behind_mark source) ts _ are are' in
      subst (λ (us : List Token). Spells (symbols_in source us) d) one spells
  | inr (f, is, other, some, us, p, same) ↦ absurd (no_fault source ts are f is other)
]

-- symbols that spell something are the tokens of the text
ends_well : (source : List ℕ) (d : Description) → Spells (symbols source) d → AreTokens source (start_of source).tokens
ends_well source d h = elim (outcome source) [
  | inl (are, none) ↦ are
  | inr (f, is, other, some, us, p, same) ↦ absurd (never_stops source us p d (subst (λ (ts : List Token). Spells (symbols_in source ts) d) same h))
]

pub parsed_found : (source : List ℕ) (d : Description) (left : List Symbol) → Gives (Ok d) left (file.read (symbols source)) → Describes source d
parsed_found source d left e =
    let h : Spells (symbols source) d = all_found (Ok d) left (symbols source) e in
    ((start_of source).tokens, ends_well source d h, h)

pub parsed_only : (source : List ℕ) (r : Result Description LdfFault) (left : List Symbol) → Gives r left (file.read (symbols source))
    → (d : Description) → Describes source d → MatchResult r (λ found. found ≡ d) (λ e. e ≡ OutOfMemory)
parsed_only source r left e d h = only_found r left (symbols source) e d (spelled source d h)

pub found_no_fault : (source : List ℕ) (d : Description) (left : List Symbol) → Gives (Ok d) left (file.read (symbols source)) → (e : LdfFault) → IsLexFault source e → e ≢ OutOfMemory → ⊥
found_no_fault source d left e f is other = no_description source f is other d (parsed_found source d left e)

not_some : {A : Type 0} (o : Option A) (x : A) → o ≡ None → o ≡ Some x → ⊥
not_some o x e f = let no : None ≡ Some x = sym e ∙ f in cc

made : {A : Type 0} (x y : A) → Some x ≡ Some y → x ≡ y
made x y e = cc

-- what is ahead has no fault: it is the tokens
pub all_tokens : (source : List ℕ) → (start_of source).fault ≡ None → AreTokens source (start_of source).tokens
all_tokens source e = elim (outcome source) [
  | inl (are, none) ↦ are
  | inr (g, is, other, some, us, p, same) ↦ absurd (not_some (start_of source).fault g e some)
]

-- what came of it before nothing was left is all
pub lexed : (source : List ℕ) (ts : List Token) → start_of source ≡ added ts empty_ahead → AreTokens source ts
lexed source ts e =
    subst (AreTokens source) (ap (λ (r : Ahead). r.tokens) e ∙ append-nil ts) (all_tokens source (ap (λ (r : Ahead). r.fault) e))

-- what is ahead has a fault: it is the first one, and nothing is described
pub lex_fault : (source : List ℕ) (f : LdfFault) → (start_of source).fault ≡ Some f → IsLexFault source f × (f ≢ OutOfMemory)
lex_fault source f e = elim (outcome source) [
  | inl (are, none) ↦ absurd (not_some (start_of source).fault f none e)
  | inr (g, is, other, some, us, p, same) ↦
      let one : g ≡ f = made g f (sym some ∙ e) in
      (subst (IsLexFault source) one is, subst (λ (x : LdfFault). x ≢ OutOfMemory) one other)
]

pub faulty_only : (source : List ℕ) (f : LdfFault) → (start_of source).fault ≡ Some f → (d : Description) → Describes source d → ⊥
faulty_only source f e d h = let is = lex_fault source f e in no_description source f is.0 is.1 d h

pub faulty_first : (source : List ℕ) (f : LdfFault) → (start_of source).fault ≡ Some f → (e : LdfFault) → IsLexFault source e → e ≢ OutOfMemory → f ≡ e
faulty_first source f some e is other = let h = lex_fault source f some in first_is source f e h.0 h.1 is other

pub faulty_tokens : (source : List ℕ) (f : LdfFault) → (start_of source).fault ≡ Some f → (ts : List Token) → AreTokens source ts → ⊥
faulty_tokens source f e ts are = let is = lex_fault source f e in no_fault source ts are f is.0 is.1
