use Rattle.std.proofs.Common.{ap, subst, sym, ◌∙◌}
use Rattle.lin_live.specs.Begun.{ended_line, is_nothing}
use Rattle.lin_live.specs.Serving.{Replies}
use Rattle.lin_live.proofs.Adding.{finished-line}
use Rattle.lin_live.proofs.Keeping.{held-ended, held-nothing}
use Rattle.lin_live.proofs.serving.finish.Goals as goal

pub returns : goal.returns
returns g c bytes h =
    let line = c.line.ensures.line ∙ ap ended_line h ∙ held-ended bytes in
    finished-line g.S.Answering.reply g.S.Answering.is_full (g.S.Answering.state c.args.state.now) (g.S.Answering.state c.answer_line.new.state) (g.W.Write.contents c.args.writer.now) (g.W.Write.contents c.answer_line.new.writer) bytes c.answer_line.result
    (sym (held-nothing bytes) ∙ sym (c.is_nothing.ensures ∙ ap is_nothing h) ∙ c.if-is_nothing.false)
    (subst (λ o. Replies g.S.Answering.reply g.S.Answering.is_full (g.S.Answering.state c.args.state.now) (g.S.Answering.state c.answer_line.new.state) (g.W.Write.contents c.args.writer.now) (g.W.Write.contents c.answer_line.new.writer) o c.answer_line.result) line c.answer_line.ensures)
