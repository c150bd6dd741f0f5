use Rattle.std.proofs.Common.{◌≡◌, ◌∙◌, ◌++◌, ◌∷◌, [], ◌<◌, ℕ, List, length, get_or, ap, sym, subst}
use Rattle.std.proofs.lemmas.List.{map_more}
use Rattle.lin_parts.specs.declared.description.Name.{Name}
use Rattle.lin_sections.specs.NewNames.{renames_data, RenamesData}
use Rattle.lin_sections.specs.Things.{commander_thing, compared_data, responder_thing, ComparedData}
use Rattle.lin_sections.specs.declared.diff.compared.LdfFacts.{LdfFacts}
use Rattle.lin_sections.specs.declared.diff.fact.Thing.{Thing}
use Rattle.lin_sections.proofs.diff.node_facts.things.Goals as goal

pub loop-slave-preserved : goal.loop-slave-preserved
loop-slave-preserved c =
    let r : RenamesData = renames_data c.args.renames.now in
    let d : ComparedData = compared_data c.args.facts.now.ldf in
    let of : Name → Thing = responder_thing d r in
    let xs : List Name = d.description.slaves in
    let i : ℕ = c.loop-slave.slave-index in
    let x : Name = c.slave-item.result in
    let lt : i < length xs = subst (λ (ys : List Name). i < length ys) c.slaves-slave-items.ensures.value c.loop-slave-test.true in
    let is : x ≡ get_or xs i x = c.slave-item.is ∙ ap (λ (ys : List Name). get_or ys i x) c.slaves-slave-items.ensures.value in
    let made : c.in_ok-responder.field-0 ≡ of (get_or xs i x) =
    c.in_ok-responder.ensures ∙ ap (λ (f : LdfFacts). responder_thing (compared_data f.ldf) r x) c.in_ok-blocks.ensures.facts ∙ ap of is in
    c.in_ok-push-2.ensures.items ∙ (λ j. c.loop-slave.invariant j ++ made j ∷ []) ∙ ap (λ (ts : List Thing). commander_thing d r ∷ ts) (sym (map_more of xs i x lt))
