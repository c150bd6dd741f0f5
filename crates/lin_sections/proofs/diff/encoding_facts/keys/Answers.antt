use Rattle.std.proofs.Common.{◌∙◌, ℕ, Bool, List, map, ap}
use Rattle.std.proofs.Math.Path.{fun_ext}
use Rattle.std.proofs.lemmas.List.{take_all}
use denote.Ref.{Bor}
use Rattle.lin_sections.specs.NewNames.{alone, has_in, is_among, KeyedName}
use Rattle.lin_sections.specs.Renames.{encoding_key, encoding_keys}
use Rattle.lin_sections.specs.Things.{compared_data}
use Rattle.lin_values.specs.declared.codings.CodingType.{CodingType}
use Rattle.lin_sections.proofs.FactSteps.{mapped-lent}
use Rattle.lin_sections.proofs.diff.encoding_facts.keys.Goals as goal

pub returns : goal.returns
returns c =
    let of : CodingType → KeyedName = encoding_key in
    c.loop-coding.invariant
    ∙ ap (alone (has_in c.in_ok-others.others.map)) (ap (λ (ts : List (Bor CodingType)). map (λ t. of t.now) ts) (take_all c.loop-coding.coding-index c.as_slice-coding-items.result.now c.loop-coding-test.false)
    ∙ mapped-lent of c.as_slice-coding-items.result.now
    ∙ ap (λ (ts : List (Bor CodingType)). map of (map (λ t. t.now) ts)) c.as_slice-coding-items.ensures.value ∙ ap (map of) c.requires.types)
    ∙ ap (λ (h : List ℕ → Bool). alone h (encoding_keys (compared_data c.args.facts.now.ldf)))
    (fun_ext (λ q. c.in_ok-others.ensures q ∙ ap (λ (ts : List CodingType). is_among (map (λ t. t.name.text) ts) q) c.as_slice.ensures))
