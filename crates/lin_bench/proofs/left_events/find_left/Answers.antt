use Rattle.std.proofs.Common.{◌≡◌, ◌∙◌, None, Some, ap, arith, sym, take}
use Rattle.std.specs.Prelude.{flat_map, option_map}
use Rattle.lin_core.specs.History.{events}
use Rattle.lin_bench.specs.Searches.{is_sought, taken_by}
use Rattle.lin_bench.specs.Verdicts.{first_so}
use Rattle.lin_bench.proofs.FirstEvents.{events-with, found-first, none-in-all, none-with-entry}
use Rattle.lin_bench.proofs.left_events.find_left.Goals as goal

pub loop-index-init : goal.loop-index-init
loop-index-init c = rw c.before-index.ensures (c.requires.clear c.args.sought)

pub returns-in-Some : goal.returns-in-Some
returns-in-Some c =
    let es = c.args.log.now.entries in
    let i = c.loop-index.index in
    let p = is_sought c.args.sought (taken_by es c.args.taken.now) in
    let told = c.events_of-told.result.now in
    let are = events-with es i c.entry.result.now told (omega arith) c.entry.ensures c.events_of-told.ensures in
    let found : first_so p (flat_map events (take i es)) told ≡ Some c.in-Some.event.now =
    sym (c.first_in.ensures es c.requires are) ∙ ap (option_map (λ e. e.now)) c.in-Some.is in
    record {
      event = sym (found-first p es i c.entry.result.now told c.in-Some.event.now (omega arith) c.entry.ensures c.events_of-told.ensures c.loop-index.invariant found);
      clear = c.loop-index.invariant;
    }

pub loop-index-preserved : goal.loop-index-preserved
loop-index-preserved c =
    let es = c.args.log.now.entries in
    let i = c.loop-index.index in
    let p = is_sought c.args.sought (taken_by es c.args.taken.now) in
    let told = c.events_of-told.result.now in
    let are = events-with es i c.entry.result.now told (omega arith) c.entry.ensures c.events_of-told.ensures in
    let none : first_so p (flat_map events (take i es)) told ≡ None =
    sym (c.first_in.ensures es c.requires are) ∙ ap (option_map (λ e. e.now)) c.in_default.is in
    none-with-entry p es i c.entry.result.now told (omega arith) c.entry.ensures c.events_of-told.ensures c.loop-index.invariant none

pub returns-clause-event : goal.returns-clause-event
returns-clause-event c =
    let p = is_sought c.args.sought (taken_by c.args.log.now.entries c.args.taken.now) in
    sym (none-in-all p c.args.log.now.entries c.loop-index.index (omega arith) c.loop-index.invariant)
