use Rattle.std.proofs.Common.{refl}
use Rattle.lin_bench.specs.declared.taken.TakenEvents.{TakenEvents}
use Rattle.lin_bench.proofs.Searches.{first-cleared, known-first}
use Rattle.lin_bench.proofs.taken.TakenEvents.none.Goals as goal

pub returns : goal.returns
returns c es =
    let t : TakenEvents = record { forgotten = 0; searches = c.new.result; cleared = c.of.result } in
    known-first es t c.new.ensures.items (first-cleared t c.of.ensures.losses c.of.ensures.hosts c.of.ensures.messages) refl
