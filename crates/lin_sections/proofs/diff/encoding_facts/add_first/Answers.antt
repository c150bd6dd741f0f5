use Rattle.std.proofs.Common.{◌++◌, ◌∷◌, [], List, map, append-nil, ap, sym, ◌∙◌, arith}
use Rattle.std.proofs.lemmas.List.{map-append}
use denote.Ref.{Bor}
use Rattle.lin_values.specs.declared.codings.CodingType.{CodingType}
use Rattle.lin_sections.proofs.FirstTypes.{is-first, not-first}
use Rattle.lin_sections.proofs.diff.encoding_facts.add_first.Goals as goal

pub returns-then-number_by-number : goal.returns-then-number_by-number
returns-then-number_by-number c =
    let firsts : List CodingType = map (λ t. t.now) c.args.firsts.now.items in
    sym (ap (λ ts. firsts ++ ts) (not-first c.args.types.now c.args.number c.number_by.result c.args.coding.now c.requires.within c.number_by.ensures (omega arith)) ∙ append-nil firsts)

pub returns : goal.returns
returns c =
    let firsts : List CodingType = map (λ t. t.now) c.args.firsts.now.items in
    ap (λ (ts : List (Bor CodingType)). map (λ t. t.now) ts) c.in_ok-push.ensures.items
    ∙ map-append (λ (t : Bor CodingType). t.now) c.args.firsts.now.items (c.args.coding ∷ [])
    ∙ ap (λ ts. firsts ++ ts) (sym (is-first c.args.types.now c.args.number c.number_by.result c.args.coding.now c.requires.within c.number_by.ensures (omega arith)))
