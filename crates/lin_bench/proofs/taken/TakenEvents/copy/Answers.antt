use Rattle.std.proofs.Common.{refl, rules}
use Rattle.lin_bench.specs.declared.taken.TakenEvents.{TakenEvents}
use Rattle.lin_bench.proofs.Back.{same-taken}
use Rattle.lin_bench.proofs.taken.TakenEvents.copy.Goals as goal

pub returns : goal.returns
returns c es =
    let t = c.args.self.now in
    let u : TakenEvents = record { forgotten = t.forgotten; searches = c.extend_from_slice.new.self; cleared = t.cleared } in
    same-taken es t u refl (search rules) refl
