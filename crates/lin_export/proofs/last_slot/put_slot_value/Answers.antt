use Rattle.std.proofs.Common.{◌∷◌, ◌∙◌, [], ap, codes}
use Rattle.std.specs.Fmt.{decimal}
use Rattle.std.specs.Option.{option_map_or}
use Rattle.lin_parts.specs.Cluster.{named_table}
use Rattle.lin_core.specs.History.{good, seen_of}
use Rattle.lin_core.specs.Tables.{look_of, look_word}
use Rattle.lin_text.proofs.Growing.{grows-more}
use Rattle.lin_export.specs.Json.{hex_text, member, null, quoted_text}
use Rattle.lin_export.specs.Jsonl.{frame_member, time_member}
use Rattle.lin_export.specs.Open.{tracked_slot}
use Rattle.lin_export.specs.Shown.{data_of}
use Rattle.lin_export.proofs.Objects.{grows-values, puts-all}
use Rattle.lin_export.proofs.last_slot.put_slot_value.Goals as goal

pub returns : goal.returns
returns g c =
    let x = c.args.cluster.now in
    let t = c.args.track.now in
    let s = tracked_slot c.args.slot.now in
    let more =
    time_member t.time
    ∷ member (codes "table") (quoted_text (named_table x s.table).name)
    ∷ member (codes "entry") (decimal s.entry)
    ∷ frame_member x s
    ∷ member (codes "seen") (quoted_text (look_word (look_of (seen_of s))))
    ∷ member (codes "data") (option_map_or (λ answer. hex_text (data_of answer)) (good s) null) ∷ [] in
    grows-values (member (codes "slot") (decimal t.slots)) (grows-more c.put.ensures (rw c.slots.ensures at c.put_number.ensures))
    (puts-all more
    (rw (c.time.ensures, c.table_name.ensures, c.table.ensures, c.from.ensures, c.entry.ensures, c.frame_member.ensures, c.as_bytes.ensures.value, c.word.ensures ∙ ap look_word (c.kind.ensures ∙ ap look_of c.look.ensures), c.data_member.ensures) at c.put_members.ensures))
    c.put_byte.ensures
