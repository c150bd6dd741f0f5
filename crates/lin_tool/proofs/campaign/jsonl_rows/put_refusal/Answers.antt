use Rattle.std.proofs.Common.{◌∙◌, ap}
use Rattle.std.specs.Prelude.{codes}
use Rattle.lin_core.specs.Tables.{refusal_word}
use Rattle.lin_export.specs.Csv.{after_comma}
use Rattle.lin_text.proofs.Growing.{same-growth}
use Rattle.lin_export.proofs.Objects.{grows-values, puts-one}
use Rattle.lin_tool.specs.campaign.Jsonl.{decimal_member, word_member}
use Rattle.lin_tool.proofs.campaign.jsonl_rows.put_refusal.Goals as goal

pub returns : goal.returns
returns g c =
    let r = c.args.step.now in
    grows-values (decimal_member (codes "line") r.line) c.put_line_number.ensures
    (puts-one (word_member (codes "name") (refusal_word r.refusal)) (same-growth (ap (λ t. after_comma (word_member (codes "name") t)) (c.as_bytes.ensures.value ∙ c.word.ensures)) c.put_member.ensures))
    c.put_byte.ensures
