use Rattle.std.proofs.Common.{◌∙◌, map, rules, sym}
use Rattle.lin_text.proofs.Growing.{grows-more, text-written}
use Rattle.lin_export.specs.Members.{member_shown}
use Rattle.lin_export.proofs.Objects.{puts-all}
use Rattle.lin_live.proofs.LastObjects.{grows-answer}
use Rattle.lin_live.proofs.answer_objects.write_object.Goals as goal

pub returns : goal.returns
returns g c =
    let put = grows-more c.put.ensures (grows-answer c.args.end.now c.put_end.ensures (puts-all (map member_shown c.args.members.now) c.put_members.ensures) c.put-2.ensures) in
    let same = sym (put.same ∙ c.new-out.ensures.same) in
    let written = text-written c.new-out.ensures put c.finish.ensures in
    search rules
