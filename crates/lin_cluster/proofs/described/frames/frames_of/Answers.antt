use Rattle.std.proofs.Common.{[], arith, map, ap, ◌∙◌}
use Rattle.std.proofs.lemmas.List.{take_all}
use Rattle.std.specs.List.{enumerate_from}
use Rattle.lin_cluster.specs.Described.{described_frame}
use Rattle.lin_cluster.proofs.Enumerated.{pushed}
use Rattle.lin_cluster.proofs.described.frames.frames_of.Goals as goal

pub loop-number-preserved : goal.loop-number-preserved
loop-number-preserved c =
    pushed (described_frame c.args.d.now) 0 c.args.frames.now c.loop-number.number c.index-frames-number.result c.loop-number.number c.in_ok-frame_of.field-0 [] c.loop-number.made.items c.push.new.self.items
    (omega arith) c.index-frames-number.is (omega arith) c.in_ok-frame_of.ensures c.loop-number.invariant c.in_ok-push.ensures.items

pub returns : goal.returns
returns c = c.new.ensures ∙ c.loop-number.invariant ∙ ap (λ xs. map (described_frame c.args.d.now) (enumerate_from 0 xs)) (take_all c.loop-number.number c.args.frames.now c.loop-number-test.false)
