use Rattle.std.proofs.Common.{◌-◌, length, take, drop, arith}
use Rattle.std.proofs.lemmas.List.{take_rest}
use Rattle.lin_field.proofs.PlainParts.{first-part}
use Rattle.lin_field.proofs.plain.text_parts.next_part.Goals as goal

pub returns-in-len1-up : goal.returns-in-len1-up
returns-in-len1-up c =
    let ts = c.args.tokens.now in
    first-part ts (take (length ts - 1) (drop 1 ts)) c.split_at.result.0.now c.split_at.result.1.now c.end_of.result c.part_end-end.result (omega arith) (take_rest ts 1)
    c.part_end-end.ensures c.end_of.ensures.front c.end_of.ensures.rest c.split_at.ensures.front c.split_at.ensures.back
