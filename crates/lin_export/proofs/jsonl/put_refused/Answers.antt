use Rattle.std.proofs.Common.{◌∷◌, ◌∙◌, [], codes}
use Rattle.lin_core.specs.Tables.{refusal_number, refusal_word}
use Rattle.lin_export.specs.Json.{member, quoted_text}
use Rattle.lin_export.specs.Jsonl.{number_member, step_text, time_member}
use Rattle.lin_export.proofs.Objects.{grows-member, grows-object, puts-all, puts-more, puts-one}
use Rattle.lin_export.proofs.jsonl.put_refused.Goals as goal

pub returns : goal.returns
returns g c =
    let step = step_text c.args.cluster.now c.args.port c.args.step.now in
    let why = c.args.refusal in
    grows-object (codes "refused") c.put_type.ensures
    (puts-more (puts-one (time_member c.args.at) c.put_member.ensures)
    (puts-more (puts-one (member (codes "step") step) (grows-member (codes "step") c.put_key.ensures c.put_step_text.ensures))
    (puts-all (number_member (refusal_number why) ∷ member (codes "name") (quoted_text (refusal_word why)) ∷ [])
    (rw (c.from.ensures, c.number.ensures, c.as_bytes.ensures.value ∙ c.word.ensures) at c.put_members.ensures))))
    c.put.ensures
