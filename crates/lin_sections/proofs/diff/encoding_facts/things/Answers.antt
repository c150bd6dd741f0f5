use Rattle.std.proofs.Common.{◌∙◌, List, map, ap}
use Rattle.std.proofs.lemmas.List.{take_all}
use denote.Ref.{Bor}
use Rattle.lin_sections.specs.NewNames.{renames_data}
use Rattle.lin_sections.specs.Things.{encoding_thing}
use Rattle.lin_values.specs.declared.codings.CodingType.{CodingType}
use Rattle.lin_sections.specs.declared.diff.fact.Thing.{Thing}
use Rattle.lin_sections.proofs.FactSteps.{mapped-lent}
use Rattle.lin_sections.proofs.diff.encoding_facts.things.Goals as goal

pub returns : goal.returns
returns c =
    let of : CodingType → Thing = encoding_thing (renames_data c.args.renames.now) in
    c.loop-coding.invariant
    ∙ ap (λ (ts : List (Bor CodingType)). map (λ t. of t.now) ts) (take_all c.loop-coding.coding-index c.as_slice-types.result.now c.loop-coding-test.false)
    ∙ mapped-lent of c.as_slice-types.result.now
    ∙ ap (λ (ts : List (Bor CodingType)). map of (map (λ t. t.now) ts)) c.as_slice-types.ensures.value ∙ ap (map of) c.requires.types
