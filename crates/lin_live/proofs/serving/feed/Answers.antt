use Rattle.std.proofs.Common.{[], ◌++◌, refl, arith}
use Rattle.std.proofs.lemmas.Result.{err_from_is_err_and}
use Rattle.lin_live.proofs.Adding.{answers-none, fed-all, fed-failed, fed-line, fed-unkept}
use Rattle.lin_live.proofs.Cuts.{none-found}
use Rattle.lin_live.proofs.serving.feed.Goals as goal

pub loop-end-init : goal.loop-end-init
loop-end-init g c = record {
  few = omega arith;
  fed = λ bytes h clean. ([], bytes, refl, clean, h, answers-none g.S.Answering.reply g.S.Answering.is_full _ _);
}

pub returns-in_err-end_line : goal.returns-in_err-end_line
returns-in_err-end_line g c bytes h clean =
    let p = err_from_is_err_and c.from_residual.result c.from_residual.ensures.1 in
    let fed = c.loop-end.invariant.fed bytes h clean in
    rw (p.1, p.2) (fed-failed g.S.Answering.reply g.S.Answering.is_full c.in_err-end_line.field-0.0 (g.S.Answering.state c.args.state.now) (g.S.Answering.state c.loop-end.state) (g.S.Answering.state c.end_line.new.state) (g.W.Write.contents c.args.writer.now) (g.W.Write.contents c.loop-end.writer) (g.W.Write.contents c.end_line.new.writer) c.loop-end.begun (bytes ++ c.args.piece.now) c.loop-end.rest.now c.in-Some.end fed c.in-Some.ensures (c.in_err-end_line.ensures.answered fed.1 fed.4))

pub loop-end-preserved : goal.loop-end-preserved
loop-end-preserved g c = record {
  few = omega (arith, c.loop-end.invariant.few, c.split_at.ensures.back_len);
  fed = λ bytes h clean.
      let fed = c.loop-end.invariant.fed bytes h clean in
      rw c.split_at.ensures.back (fed-line g.S.Answering.reply g.S.Answering.is_full (g.S.Answering.state c.args.state.now) (g.S.Answering.state c.loop-end.state) (g.S.Answering.state c.end_line.new.state) (g.W.Write.contents c.args.writer.now) (g.W.Write.contents c.loop-end.writer) (g.W.Write.contents c.end_line.new.writer) c.loop-end.begun c.end_line.new.begun (bytes ++ c.args.piece.now) c.loop-end.rest.now c.in-Some.end c.in_ok-end_line.field-0 fed c.in-Some.ensures (c.in_ok-end_line.ensures.answered fed.1 fed.4) c.in_ok-end_line.ensures.begun);
}

pub returns-in_err-add : goal.returns-in_err-add
returns-in_err-add g c bytes h clean =
    let p = err_from_is_err_and c.from_residual-in_err-add.result c.from_residual-in_err-add.ensures.1 in
    rw (p.1, p.2) (fed-unkept g.S.Answering.reply g.S.Answering.is_full (g.S.Answering.state c.args.state.now) (g.S.Answering.state c.loop-end.state) (g.W.Write.contents c.args.writer.now) (g.W.Write.contents c.loop-end.writer) c.loop-end.begun (bytes ++ c.args.piece.now) c.loop-end.rest.now (c.loop-end.invariant.fed bytes h clean))

pub returns : goal.returns
returns g c bytes h clean =
    fed-all g.S.Answering.reply g.S.Answering.is_full (g.S.Answering.state c.args.state.now) (g.S.Answering.state c.loop-end.state) (g.W.Write.contents c.args.writer.now) (g.W.Write.contents c.loop-end.writer) c.loop-end.begun c.add.new.self (bytes ++ c.args.piece.now) c.loop-end.rest.now (c.loop-end.invariant.fed bytes h clean) (none-found c.loop-end.rest.now c.in_default.ensures) c.in_ok-add.ensures
