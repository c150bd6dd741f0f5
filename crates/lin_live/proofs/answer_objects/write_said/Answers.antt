use Rattle.std.proofs.Common.{◌∙◌, codes, rules, sym}
use Rattle.lin_text.proofs.Growing.{text-written}
use Rattle.lin_export.specs.WhereTold.{given_coding}
use Rattle.lin_export.proofs.Objects.{puts-all}
use Rattle.lin_live.specs.Values.{as_said, said_members}
use Rattle.lin_live.proofs.LastObjects.{grows-answer}
use Rattle.lin_live.proofs.answer_objects.write_said.Goals as goal

pub returns : goal.returns
returns g c =
    let x = c.args.cluster.now in
    let members = said_members x (given_coding c.args.coded) (as_said x c.args.value.now) in
    let put = grows-answer (codes "is") c.put_end.ensures (puts-all members c.put_said.ensures) c.put.ensures in
    let same = sym (put.same ∙ c.new-out.ensures.same) in
    let written = text-written c.new-out.ensures put c.finish.ensures in
    search rules
