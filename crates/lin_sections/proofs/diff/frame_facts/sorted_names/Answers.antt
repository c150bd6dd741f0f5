use Rattle.std.proofs.Common.{ℕ, List, [], ap, ◌∙◌}
use Rattle.lin_parts.specs.declared.description.Name.{Name}
use Rattle.lin_sections.specs.NewNames.{name_in, renames_data}
use Rattle.lin_sections.specs.SortedTexts.{insert_text, sorted_texts}
use Rattle.lin_sections.specs.Things.{member_names}
use Rattle.lin_sections.proofs.FactSteps.{fold-mapped-more, step-more}
use Rattle.lin_sections.proofs.diff.frame_facts.sorted_names.Goals as goal

pub loop-member-preserved : goal.loop-member-preserved
loop-member-preserved c =
    let r = renames_data c.args.renames.now in
    let new_name : Name → List ℕ = λ m. name_in r.frames m.text in
    step-more (λ (ms : List Name). sorted_texts (member_names r ms)) (λ texts m. insert_text texts (new_name m)) c.args.members.now c.loop-member.member-index c.member-item.result c.loop-member.names c.insert_sorted.new.texts
    (fold-mapped-more insert_text [] new_name c.args.members.now c.loop-member.member-index c.member-item.result c.loop-member-test.true) c.member-item.is c.loop-member.invariant
    (c.in_ok-insert_sorted.ensures ∙ ap (insert_text c.loop-member.names) (c.lent.ensures ∙ (c.of-name.ensures ∙ ap (name_in r.frames) c.as_slice.ensures)))
