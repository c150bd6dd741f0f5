use Rattle.std.proofs.Common.{◌++◌, take}
use Rattle.lin_text.proofs.Adding.{appends-more, written-so_far}
use Rattle.lin_text.proofs.direct.write_out.Goals as goal

pub loop-rest-preserved : goal.loop-rest-preserved
loop-rest-preserved g c =
    let h = c.loop-rest.invariant in
    let w = c.in-Ok.ensures.bytes in (
      h.0 ++ take c.in-Ok.count c.loop-rest.rest.now,
      appends-more _ _ _ _ _ h.1 w,
      written-so_far h.0 c.loop-rest.rest.now c.args.bytes.now c.in-Ok.count h.2,
    )
