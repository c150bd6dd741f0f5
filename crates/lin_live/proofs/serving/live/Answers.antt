use Rattle.std.proofs.Common.{◌≡◌, ◌<◌, ◌++◌, length, take, ap, ◌∙◌, append-nil, subst, arith}
use Rattle.std.specs.Io.KnownBytes.{Consumes}
use Rattle.std.proofs.KnownBytes.{Consumes-kept, Consumes-trans}
use Rattle.std.proofs.lemmas.Bool.Decides.{nat_tests}
use Rattle.std.proofs.lemmas.Result.{err_from_is_err_and}
use Rattle.lin_live.specs.Lines.{after_last_lf}
use Rattle.lin_live.proofs.Adding.{live-failed, live-finished, piece-answered, piece-failed}
use Rattle.lin_live.proofs.Cuts.{tail-clean}
use Rattle.lin_live.proofs.serving.live.Goals.{in-Ok+in_ok-feed-in-Ok, in-Err+else-ne}
use Rattle.lin_live.proofs.serving.live.Goals as goal

pub returns-in-Ok-eq0 : goal.returns-in-Ok-eq0
returns-in-Ok-eq0 g c =
    let inv = c.loop.invariant in
    let read = inv.0 in
    let known = g.R.Read.remaining c.args.reader.now in
    let left = g.R.Read.remaining c.read.new.self in
    let buf = c.read.new.buf in
    let room : 0 < length buf = omega arith in
    let none : c.in-Ok-eq0.field-0 ≡ 0 = grind (arith, nat_tests, c.in-Ok-eq0.field-0-test) in
    let all =
    subst (Consumes known left) (ap (λ n. read ++ take n buf) none ∙ append-nil read)
    (Consumes-trans known (g.R.Read.remaining c.loop.reader) left read (take c.in-Ok-eq0.field-0 buf) inv.1 c.in-Ok-eq0.ensures.bytes.0) in
    live-finished g.S.Answering.reply g.S.Answering.is_full (g.S.Answering.state c.args.state.now) (g.S.Answering.state c.loop.state) (g.S.Answering.state c.finish.new.state) known left
    (g.W.Write.contents c.args.writer.now) (g.W.Write.contents c.loop.writer) (g.W.Write.contents c.finish.new.writer) read c.finish.result all
    (c.in-Ok-eq0.ensures.bytes.1 none room) inv.2 (c.finish.ensures (after_last_lf read) inv.3)

pub returns-in_err-feed-in-Ok : goal.returns-in_err-feed-in-Ok
returns-in_err-feed-in-Ok g c =
    let p = err_from_is_err_and c.from_residual.result c.from_residual.ensures.1 in
    let inv = c.loop.invariant in
    let read = inv.0 in
    let piece = take c.in-Ok.count c.read.new.buf in
    let known = g.R.Read.remaining c.args.reader.now in
    let left = g.R.Read.remaining c.read.new.self in
    let fault = c.in_err-feed-in-Ok.field-0.0 in
    rw (p.1, p.2)
    (live-failed g.S.Answering.reply g.S.Answering.is_full fault (g.S.Answering.state c.args.state.now) (g.S.Answering.state c.feed.new.state) known left
    (g.W.Write.contents c.args.writer.now) (g.W.Write.contents c.feed.new.writer) (read ++ piece)
    (Consumes-trans known (g.R.Read.remaining c.loop.reader) left read piece inv.1 c.in-Ok.ensures.bytes.0)
    (piece-failed g.S.Answering.reply g.S.Answering.is_full fault (g.S.Answering.state c.args.state.now) (g.S.Answering.state c.loop.state) (g.W.Write.contents c.args.writer.now)
    (g.W.Write.contents c.loop.writer) (g.W.Write.contents c.feed.new.writer) read piece inv.2 (c.in_err-feed-in-Ok.ensures (after_last_lf read) inv.3 (tail-clean read))))

pub loop-preserved : goal.loop-preserved
loop-preserved g c =
    let inv = c.loop.invariant in
    let read = inv.0 in
    let known = g.R.Read.remaining c.args.reader.now in
    let left = g.R.Read.remaining c.read.new.self in
    elim c.match-read.branch [
      | in-Ok+in_ok-feed-in-Ok w ↦
          let piece = take w.in-Ok.count c.read.new.buf in
          let fed =
          piece-answered g.S.Answering.reply g.S.Answering.is_full (g.S.Answering.state c.args.state.now) (g.S.Answering.state c.loop.state) (g.S.Answering.state w.feed.new.state) (g.W.Write.contents c.args.writer.now)
          (g.W.Write.contents c.loop.writer) (g.W.Write.contents w.feed.new.writer) w.feed.new.begun read piece inv.2 (w.in_ok-feed-in-Ok.ensures (after_last_lf read) inv.3 (tail-clean read)) in
          rw (w.state-is, w.writer-is, w.begun-is)
          (read ++ piece, Consumes-trans known (g.R.Read.remaining c.loop.reader) left read piece inv.1 w.in-Ok.ensures.bytes.0, fed.0, fed.1)
      | in-Err+else-ne w ↦
          rw (w.state-is, w.writer-is, w.begun-is)
          (read, Consumes-kept known (g.R.Read.remaining c.loop.reader) left read inv.1 w.in-Err.ensures.bytes, inv.2, inv.3)
    ]
