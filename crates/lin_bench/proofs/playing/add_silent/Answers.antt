use Rattle.lin_bench.proofs.QuietTests.{silent-more}
use Rattle.lin_bench.proofs.playing.add_silent.Goals as goal

pub loop-place-preserved : goal.loop-place-preserved
loop-place-preserved c =
    silent-more c.args.judgements.now.items c.loop-place.judgements.items c.push.new.self.items _ c.args.silent.now c.loop-place.place-index _ c.loop-place-test.true c.loop-place.invariant
    (rw c.len.ensures.len at c.in_ok-push.ensures.items)
