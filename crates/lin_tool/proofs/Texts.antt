-- What `parse` and `check` say of a text, in the program's words.
use Rattle.std.proofs.Common.{◌≡◌, ◌≢◌, ◌⊎◌, inl, inr, ℕ, ◌≤◌, List, [], ◌++◌, length, map, Bool, true, false, Option, None, IfSome, IfOk, IfErr, IsPermutation, Result, Ok, Err, refl, sym, ap, subst, ◌∙◌}
use Rattle.std.proofs.lemmas.List.Sorted.{IsPermutation-trans, IsPermutation-append_left}
use Rattle.lin_ldf.specs.Stream.{start_of}
use Rattle.lin_ldf.specs.Symbols.{symbols_in}
use Rattle.lin_ldf.specs.Tokens.{AreTokens, IsLexFault}
use Rattle.lin_ldf.specs.declared.token.Token.{Token}
use Rattle.lin_sections.specs.Configuring.{configured_by, warnings_by}
use Rattle.lin_sections.proofs.ReadingSteps.{tokens-are}
use Rattle.lin_ldf.specs.Describes.{Describes}
use Rattle.lin_ldf.specs.declared.fault.LdfFault.{LdfFault}
use Rattle.lin_ldf.specs.declared.fault.LdfFault.TheVariants as ldf
use Rattle.lin_parts.specs.declared.description.Description.{Description}
use Rattle.lin_parts.specs.declared.parts.Parts.{Parts}
use Rattle.lin_field.specs.declared.field_check.Remark.{Remark}
use Rattle.lin_tool.specs.Clusters.{IsSaidBy, IsParseFault, TextFaults}
use Rattle.lin_tool.specs.Coding.{coded_read, configured_read, configuring_told, with_lints, AnswersCoded, AreWarnings, SaysSections}
use Rattle.lin_tool.specs.Field.{ReadFaults}
use Rattle.lin_tool.specs.Limits.{node_limits}
use Rattle.lin_tool.specs.Reading.{AnswersLdf}
use Rattle.lin_tool.specs.declared.coding.Described.{Described}
use Rattle.lin_tool.specs.declared.coding.Extras.{Extras}
use Rattle.lin_tool.specs.declared.coding.ExtraSections.{ExtraSections}
use Rattle.lin_tool.specs.declared.fault.Fault.{Fault}
use Rattle.lin_tool.specs.declared.fault.Fault.TheVariants.{Ldf, Findings, LdfTooLong, OutOfMemory, ReadFailed}
use Rattle.lin_field.specs.Checks.{remark}
use Rattle.lin_tool.proofs.Warned.{linted_behind, reordered}

-- what the program's fault says of the text
pub tells_fault : (text : List ℕ) (told : Fault) (fault : LdfFault) → IsParseFault told fault
    → ((d : Description) → Describes text d → fault ≡ ldf.OutOfMemory)
    → ((e : LdfFault) → IsLexFault text e → e ≢ ldf.OutOfMemory → (fault ≡ e) ⊎ (fault ≡ ldf.OutOfMemory)) → TextFaults told text
tells_fault text (Ldf f) fault (same, some) only first = record {
  some = λ memory. some (sym same ∙ memory);
  nothing = λ d h. some (only d h);
  first = λ e h other. elim (first e h other) [ inl is ↦ same ∙ is | inr memory ↦ absurd (some memory) ];
}
tells_fault text OutOfMemory fault h only first = tt
tells_fault text _ fault h only first = absurd h

-- the commands of a text are those among its tokens
requested : (b : Bool) (given text : List ℕ) (ts : List Token) (c : Parts) → (b ≡ true → given ≡ text) → AreTokens text ts
    → configured_read b c (symbols_in given (start_of given).tokens) ≡ configured_read b c (symbols_in text ts)
requested true given text ts c same are =
    ap (λ bytes. configured_by c (symbols_in bytes (start_of bytes).tokens)) (same refl) ∙ ap (λ k. configured_by c (symbols_in text k)) (tokens-are text ts are)
requested false given text ts c same are = refl

warned_of : (b : Bool) (given text : List ℕ) (ts : List Token) (c : Parts) → (b ≡ true → given ≡ text) → AreTokens text ts
    → configuring_told b c (symbols_in given (start_of given).tokens) ≡ configuring_told b c (symbols_in text ts)
warned_of true given text ts c same are =
    ap (λ bytes. warnings_by c (symbols_in bytes (start_of bytes).tokens)) (same refl) ∙ ap (λ k. warnings_by c (symbols_in text k)) (tokens-are text ts are)
warned_of false given text ts c same are = refl

-- what is answered to what was parsed, where its cluster is this one, and the commands are read from `given`
pub coded_answer : (x : Extras) (r : Result Described Fault) (text given : List ℕ) (d : Description) (checked c : Parts) (s : ExtraSections) (none odd rs warned : List Remark)
    → (x.is_configured ≡ true → given ≡ text)
    → Describes text d → IsSaidBy d checked → SaysSections x text d s → IsPermutation (map (remark true) s.found) none
    → IsPermutation (with_lints d [] s.configurables s.codings none) odd
    → c ≡ configured_read x.is_configured checked (symbols_in given (start_of given).tokens)
    → IsPermutation (odd ++ map (remark true) (configuring_told x.is_configured checked (symbols_in given (start_of given).tokens))) rs
    → IfOk r (λ a. a.cluster ≡ c) → IfOk r (λ a. a.coded ≡ coded_read x.encodings a.cluster s.codings)
    → IfOk r (λ a. a.limits ≡ node_limits a.cluster s.limits) → IfOk r (λ a. AreWarnings x.encodings a.cluster s.codings rs warned) → IfErr r (λ fault. fault ≡ OutOfMemory) → AnswersCoded x r warned text
coded_answer x (Ok a) text given d checked c s none odd rs warned same described of (ts, are, is) kept joined sends told cluster coded limits warnings memory =
    let found : List Remark = with_lints d [] s.configurables s.codings (map (remark true) s.found) in
    let commands : List Remark = map (remark true) (configuring_told x.is_configured checked (symbols_in text ts)) in
    let behind : IsPermutation (odd ++ commands) rs =
    subst (λ fs. IsPermutation (odd ++ map (remark true) fs) rs) (warned_of x.is_configured given text ts checked same are) told in
    let all : IsPermutation (found ++ commands) rs = IsPermutation-trans (found ++ commands) (odd ++ commands) rs
    (IsPermutation-append_left commands found odd (linted_behind d [] s.configurables s.codings (map (remark true) s.found) none odd kept joined)) behind in
    record {
      checked = checked;
      cluster = record { description = d; described = described; free = of.free; said = of.said; long = of.long };
      tokens = ts;
      are = are;
      sends = cluster ∙ sends ∙ requested x.is_configured given text ts checked same are;
      sections = s;
      says = (ts, are, is);
      coded = coded;
      limits = limits;
      warnings = reordered x.encodings a.cluster s.codings (found ++ commands) rs warned all warnings;
    }
coded_answer x (Err fault) text given d checked c s none odd rs warned same described of says kept joined sends told cluster coded limits warnings memory =
    subst (λ f. TextFaults f text) (sym memory) tt

pub answers_read : (x : Extras) (r : Result Described Fault) (warned : List Remark) (told : Option (List ℕ)) (text : List ℕ)
    → IfSome told (λ bytes. text ≡ bytes) → length text ≤ 4194304 → AnswersCoded x r warned text → AnswersLdf x r warned told
answers_read x (Ok d) warned told text is short h = (text, is, short, h)
answers_read x (Err (Ldf f)) warned told text is short h = (text, is, short, h)
answers_read x (Err (Findings found)) warned told text is short h = (text, is, short, h)
answers_read x (Err OutOfMemory) warned told text is short h = tt
answers_read x (Err LdfTooLong) warned told text is short h = absurd h
answers_read x (Err ReadFailed) warned told text is short h = absurd h
answers_read x (Err _) warned told text is short h = absurd h

pub answers_unread : (x : Extras) (fault : Fault) (warned : List Remark) (told : Option (List ℕ)) → ReadFaults fault told
    → AnswersLdf x (Err fault) warned told
answers_unread x LdfTooLong warned told h = h
answers_unread x OutOfMemory warned told h = tt
answers_unread x ReadFailed warned told h = tt
answers_unread x _ warned told h = absurd h

pub answers_untold : (x : Extras) (r : Result Described Fault) (warned : List Remark) (told : Option (List ℕ)) → AnswersLdf x r warned told
    → AnswersLdf x r warned None
answers_untold x (Ok d) warned told (text, is, short, h) = (text, tt, short, h)
answers_untold x (Err (Ldf f)) warned told (text, is, short, h) = (text, tt, short, h)
answers_untold x (Err (Findings found)) warned told (text, is, short, h) = (text, tt, short, h)
answers_untold x (Err LdfTooLong) warned told h = tt
answers_untold x (Err OutOfMemory) warned told h = tt
answers_untold x (Err ReadFailed) warned told h = tt
answers_untold x (Err _) warned told h = absurd h
