use Rattle.std.proofs.Common.{◌∙◌, ap}
use Rattle.std.specs.Prelude.{codes}
use Rattle.lin_core.specs.Tables.{cause_word}
use Rattle.lin_parts.specs.Cluster.{node_of}
use Rattle.lin_export.specs.Csv.{after_comma}
use Rattle.lin_text.proofs.Growing.{grows-more, same-growth}
use Rattle.lin_export.proofs.Objects.{grows-values, puts-more, puts-one}
use Rattle.lin_tool.specs.campaign.Jsonl.{decimal_member, word_member}
use Rattle.lin_tool.proofs.campaign.jsonl_rows.put_loss.Goals as goal

pub returns : goal.returns
returns g c =
    let l = c.args.lost.now in
    grows-values (word_member (codes "host") (node_of c.args.cluster.now l.host).name) (grows-more c.put_text.ensures (grows-more c.put_node_name.ensures c.put_byte.ensures))
    (puts-more (puts-one (decimal_member (codes "number") l.number) (rw c.from.ensures at c.put_member.ensures))
    (puts-one (word_member (codes "cause") (cause_word l.cause)) (same-growth (ap (λ t. after_comma (word_member (codes "cause") t)) (c.as_bytes.ensures.value ∙ c.word.ensures)) c.put_member-2.ensures)))
    c.put_byte-2.ensures
