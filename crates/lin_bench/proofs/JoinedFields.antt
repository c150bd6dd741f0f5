-- Fields with one space between two.
use Rattle.std.proofs.Common.{◌≡◌, ◌∙◌, ℕ, List, [], ◌∷◌, ◌++◌, refl, sym, ap, append_assoc, append-nil, flat_map}
use Rattle.std.proofs.lemmas.Grind.{flat_map-append}
use Rattle.lin_log.specs.Words.{spaced_word}
use Rattle.lin_bench.specs.LineWords.{fields_text}

pub one-before : (f : List ℕ) (fs : List (List ℕ)) (s w : List ℕ) → fields_text ((f ∷ fs) ++ s ∷ w ∷ []) ≡ f ++ 32 ∷ fields_text (fs ++ s ∷ w ∷ [])
one-before f [] s w = refl
one-before f (g ∷ fs) s w = refl

pub next-joined : (f : List ℕ) (left rest : List (List ℕ)) (s w text new : List ℕ) (whole : List ℕ) → left ≡ f ∷ rest → new ≡ (text ++ f) ++ 32 ∷ []
    → text ++ fields_text (left ++ s ∷ w ∷ []) ≡ whole → new ++ fields_text (rest ++ s ∷ w ∷ []) ≡ whole
next-joined f left rest s w text new whole here adds e =
    let more = fields_text (rest ++ s ∷ w ∷ []) in
    ap (λ t. t ++ more) adds ∙ append_assoc (text ++ f) (32 ∷ []) more ∙ append_assoc text f (32 ∷ more)
    ∙ ap (λ t. text ++ t) (sym (one-before f rest s w)) ∙ ap (λ l. text ++ fields_text (l ++ s ∷ w ∷ [])) (sym here) ∙ e

two-joined : (s w : List ℕ) → s ++ 32 ∷ w ≡ fields_text (s ∷ w ∷ [])
two-joined s w = ap (λ t. s ++ 32 ∷ t) (sym (append-nil w))

pub last-joined : (left : List (List ℕ)) (s w text whole : List ℕ) → left ≡ [] → text ++ fields_text (left ++ s ∷ w ∷ []) ≡ whole → ((text ++ s) ++ 32 ∷ []) ++ w ≡ whole
last-joined left s w text whole none e =
    append_assoc (text ++ s) (32 ∷ []) w ∙ append_assoc text s (32 ∷ w) ∙ ap (λ t. text ++ t) (two-joined s w)
    ∙ ap (λ l. text ++ fields_text (l ++ s ∷ w ∷ [])) (sym none) ∙ e

-- fields after others
pub more-joined : (f : List ℕ) (fs gs : List (List ℕ)) → fields_text ((f ∷ fs) ++ gs) ≡ fields_text (f ∷ fs) ++ flat_map spaced_word gs
more-joined f fs gs = ap (λ t. f ++ t) (flat_map-append spaced_word fs gs) ∙ sym (append_assoc f (flat_map spaced_word fs) (flat_map spaced_word gs))

pub joined-after : (fs : List (List ℕ)) (s z : List ℕ) (gs : List (List ℕ)) → fields_text (fs ++ s ∷ z ∷ []) ++ flat_map spaced_word gs ≡ fields_text (fs ++ s ∷ z ∷ gs)
joined-after [] s z gs = sym (more-joined s (z ∷ []) gs)
joined-after (f ∷ fs) s z gs = sym (more-joined f (fs ++ s ∷ z ∷ []) gs) ∙ ap fields_text (append_assoc (f ∷ fs) (s ∷ z ∷ []) gs)
