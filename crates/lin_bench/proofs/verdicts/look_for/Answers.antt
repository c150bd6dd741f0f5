use Rattle.std.proofs.Common.{false, refl, subst}
use Rattle.std.specs.Prelude.{option_map}
use Rattle.lin_bench.specs.Searches.{Finds, IsBehind, last_end, place_before}
use Rattle.lin_bench.specs.declared.taken.Search.{Search}
use Rattle.lin_bench.specs.declared.taken.TakenEvents.{TakenEvents}
use Rattle.lin_bench.proofs.Searches.{IsOneMore, before-found, known-search, next-found, taken-none}
use Rattle.lin_bench.proofs.verdicts.look_for.Goals as goal

pub returns : goal.returns
returns c =
    let core = c.args.core.now in
    let t = c.args.taken.now in
    let u : TakenEvents = record t { searches = c.push.new.self } in
    let kind = c.args.kind in
    let event = option_map (λ e. e.now) c.event_from.result.0 in
    let end = c.event_from.result.1 in
    let s : Search = record { kind = kind; found = false; end = c.place_before.result } in
    let finds : Finds core.log kind (last_end kind t) event end =
    subst (λ from. Finds core.log kind from event end) c.last_end-from.ensures
    (subst (λ log. Finds log kind c.last_end-from.result event end) c.log.ensures.entries c.event_from.ensures) in
    let behind : IsBehind core.log kind (last_end kind t) 0 c.place_before.result =
    rw c.place_before.ensures (before-found core.log kind (last_end kind t) event end finds) in
    let more : IsOneMore t s u = record { forgotten = refl; searches = c.in_ok-push.ensures.items; cleared = refl } in
    record {
      event = next-found core t kind event end c.requires finds;
      taken = taken-none core.log t s u more refl;
      known = known-search core.log t s u more c.requires behind;
    }
