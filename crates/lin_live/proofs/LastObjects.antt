-- Last objects of answers.
use Rattle.std.proofs.Common.{◌∙◌, ◌++◌, ◌∷◌, ℕ, List, [], ap, append_assoc, codes, flat_map, sym}
use Rattle.std.specs.Prelude.{Option}
use Rattle.lin_text.specs.Written.{Grows}
use Rattle.lin_text.specs.declared.buffered.TextWriter.{TextWriter}
use Rattle.lin_text.proofs.Growing.{grows-more, same-growth}
use Rattle.lin_export.specs.Csv.{after_comma}
use Rattle.lin_export.specs.Json.{member, quoted_text}
use Rattle.lin_export.proofs.Objects.{PutsMembers}
use Rattle.lin_live.specs.Told.{answer_beginning, answer_object}

-- how an answer ends, and then members
pub grows-answer : {W : Type 0} {contents : W → Option (List ℕ)} {x y z w : TextWriter W} {ms : List (List ℕ)} (end : List ℕ)
    → Grows contents x y (answer_beginning end)
    → PutsMembers contents y z ms → Grows contents z w (125 ∷ 10 ∷ []) → Grows contents x w (answer_object end ms)
grows-answer {ms = ms} end h k l =
    let kind = member (codes "type") (quoted_text (codes "answer")) in
    let first = after_comma (member (codes "end") (quoted_text end)) in
    let last = flat_map after_comma ms ++ 125 ∷ 10 ∷ [] in
    same-growth
    (ap (λ t. 123 ∷ t) (append_assoc kind first last ∙ ap (λ t. kind ++ t) (sym (append_assoc first (flat_map after_comma ms) (125 ∷ 10 ∷ [])))))
    (grows-more h (grows-more k.text l))
