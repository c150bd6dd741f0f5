use Rattle.std.proofs.Common.{[], sym, append-nil}
use Rattle.std.proofs.KnownBytes.{Appends-kept}
use Rattle.lin_live.proofs.serving.answer_line.Goals as goal

pub returns-in-Err : goal.returns-in-Err
returns-in-Err g c =
    let a = g.W.Write.contents c.args.writer.now in
    let b = g.W.Write.contents c.answer.new.writer in
    (_, [], Appends-kept a b _ _ c.in_ok-answer.ensures.0 c.in-Err.ensures.bytes, sym (append-nil _))
