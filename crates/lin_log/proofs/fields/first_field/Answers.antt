use Rattle.std.proofs.Common.{◌<◌, sym, ◌∙◌, arith, length, Bool}
use Rattle.std.proofs.lemmas.Grind.{common_steps}
use Rattle.lin_log.specs.Said.{is_gap}
use Rattle.lin_log.proofs.Splits.{fields-cut, not-both}
use Rattle.lin_log.proofs.fields.first_field.Goals as goal

pub returns : goal.returns
returns g c =
    let free : Bool = (g.N.Naming.language c.args.names.now).free in
    let s = c.without_gaps-rest.result.now in
    let e = c.word_length-end.ensures in
    let n = c.word_length-end.result in
    let full : 0 < length s = grind (arith, common_steps) in
    let some : 0 < n = not-both (is_gap free) s n full c.without_gaps-rest.ensures.next e.ends in
    sym c.without_gaps-rest.ensures.same ∙ rw (c.split_at.ensures.front, c.split_at.ensures.back)
    (fields-cut free s n some e.within e.clean e.ends (sym c.is_comment.ensures ∙ c.if-is_comment.false))
