use Rattle.std.proofs.Common.{◌≡◌, ◌≢◌, ◌∙◌, ℕ, ◌+◌, ◌-◌, ◌≤◌, true, false, List, [], ◌∷◌, Option, Some, None, length, take, drop, refl, ap, sym, subst, arith, ⊎_elim, length-drop}
use Rattle.std.specs.Prelude.{is_some}
use Rattle.std.specs.List.{slice_range}
use Rattle.std.specs.Str.{bytes_eq}
use Rattle.std.proofs.lemmas.Bool.{cases_eq}
use Rattle.std.proofs.lemmas.List.{length-take, take_min}
use Rattle.memchr.specs.Find.{FindsNeedle, Nowhere, OccursAt}
use Rattle.memchr.proofs.lemmas.MatchLemmas.{OccursAt-from_part}
use Rattle.lin_cluster.proofs.NamesFound.{same-text}
use Rattle.lin_ldf.specs.Symbols.{symbols_in}
use Rattle.lin_ldf.specs.declared.token.Token.{Token}
use Rattle.lin_sections.specs.Mentioned.{has_word}
use Rattle.lin_sections.proofs.mentioned.mentions.Goals as goal

-- a piece of a text occurs in it
at-start : (text : List ℕ) (start end : ℕ) → length (slice_range text start end) ≢ 0 → (start ≤ length text) × OccursAt text (slice_range text start end) start
at-start text start end some =
    let rest = drop start text in
    let left : length rest ≡ length text - start = length-drop start text in
    let fits : length (take (end - start) rest) ≤ length rest = omega (arith, length-take (end - start) rest) in
    let whole : take (length (take (end - start) rest)) rest ≡ take (end - start) rest = ap (λ n. take n rest) (length-take (end - start) rest) ∙ take_min (end - start) rest in
    (omega arith, OccursAt-from_part text (take (end - start) rest) start (omega arith) whole)

anywhere : (text piece : List ℕ) → length piece ≡ 0 → OccursAt text piece 0
anywhere text piece none = record { fits = omega arith; reads = λ j below. absurd (omega arith) }

no-piece : (text word : List ℕ) → Nowhere (OccursAt text word) 0 (length text + 1) → (start end : ℕ) → slice_range text start end ≡ word → ⊥
no-piece text word nowhere start end is =
    ⊎_elim (λ none. nowhere 0 (omega arith) (omega arith) (subst (λ w. OccursAt text w 0) is (anywhere text (slice_range text start end) none)))
    (λ some. let stands = at-start text start end some in nowhere start (omega arith) (omega (arith, stands.0)) (subst (λ w. OccursAt text w start) is stands.1))
    (cases_eq (length (slice_range text start end)) 0)

not-word : (text word : List ℕ) → Nowhere (OccursAt text word) 0 (length text + 1) → (start end : ℕ) → bytes_eq (slice_range text start end) word ≡ false
not-word text word nowhere start end =
    elim (bytes_eq (slice_range text start end) word) as (λ b. bytes_eq (slice_range text start end) word ≡ b → b ≡ false) [
      | true ↦ λ same. absurd (no-piece text word nowhere start end (same-text (slice_range text start end) word same))
      | false ↦ λ other. refl
    ] refl

no-word : (text word : List ℕ) → Nowhere (OccursAt text word) 0 (length text + 1) → (ts : List Token) → has_word word (symbols_in text ts) ≡ false
no-word text word nowhere [] = refl
no-word text word nowhere (t ∷ ts) = rw (not-word text word nowhere t.start t.end) (no-word text word nowhere ts)

unfound : (text word : List ℕ) (found : Option ℕ) → FindsNeedle text word 0 found → is_some found ≡ false → (ts : List Token) → has_word word (symbols_in text ts) ≡ false
unfound text word (Some at) finds none ts = absurd cc
unfound text word None finds none ts = no-word text word finds ts

pub returns : goal.returns
returns c = λ ts none. unfound c.args.text.now c.args.word.now c.find.result c.find.ensures (sym c.is_some.ensures ∙ none) ts
