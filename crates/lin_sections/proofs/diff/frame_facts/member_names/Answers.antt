use Rattle.std.proofs.Common.{ℕ, List, [], ap, ◌∙◌}
use Rattle.lin_parts.specs.declared.description.Name.{Name}
use Rattle.lin_sections.specs.FactTexts.{with_spaces, with_word}
use Rattle.lin_sections.specs.NewNames.{name_in, renames_data}
use Rattle.lin_sections.specs.Things.{member_names}
use Rattle.lin_sections.proofs.FactSteps.{fold-mapped-more, step-more}
use Rattle.lin_sections.proofs.diff.frame_facts.member_names.Goals as goal

pub loop-member-preserved : goal.loop-member-preserved
loop-member-preserved c =
    let r = renames_data c.args.renames.now in
    let new_name : Name → List ℕ = λ m. name_in r.frames m.text in
    step-more (λ (ms : List Name). with_spaces (member_names r ms)) (λ text m. with_word text (new_name m)) c.args.members.now c.loop-member.member-index c.member-item.result c.loop-member.text.items c.put_word.new.text.items
    (fold-mapped-more with_word [] new_name c.args.members.now c.loop-member.member-index c.member-item.result c.loop-member-test.true) c.member-item.is c.loop-member.invariant
    (c.in_ok-put_word.ensures ∙ ap (with_word c.loop-member.text.items) (c.of.ensures ∙ ap (name_in r.frames) c.as_slice.ensures))
