use Rattle.std.proofs.Common.{◌≡◌, ◌∙◌, ◌-◌, sym, ap, arith, reverse, take}
use Rattle.std.specs.Prelude.{find, flat_map}
use Rattle.std.specs.Option.{option_or}
use Rattle.lin_core.specs.History.{events}
use Rattle.lin_bench.specs.Verdicts.{is_of_kind}
use Rattle.lin_bench.proofs.Events.{events-of-log, up-to-entry}
use Rattle.lin_bench.proofs.taken.last_event.Goals as goal

pub returns-in-Some : goal.returns-in-Some
returns-in-Some c =
    let kind = c.args.kind in
    let es = c.args.log.now.entries in
    let i = c.loop-left.left - 1 in
    sym (ap (λ l. find (is_of_kind kind) (reverse l)) (events-of-log es) ∙ c.loop-left.invariant.same
    ∙ up-to-entry kind es c.loop-left.left i c.entry.result.now c.events_of.result.now (omega arith) (omega arith) c.entry.ensures c.events_of.ensures
    ∙ ap (λ o. option_or o (find (is_of_kind kind) (reverse (flat_map events (take i es))))) (sym c.in-Some.ensures))

pub loop-left-preserved : goal.loop-left-preserved
loop-left-preserved c =
    let kind = c.args.kind in
    let es = c.args.log.now.entries in
    let i = c.loop-left.left - 1 in
    record {
      within = omega arith;
      same =
          c.loop-left.invariant.same
          ∙ up-to-entry kind es c.loop-left.left i c.entry.result.now c.events_of.result.now (omega arith) (omega arith) c.entry.ensures c.events_of.ensures
          ∙ ap (λ o. option_or o (find (is_of_kind kind) (reverse (flat_map events (take i es))))) (sym c.in-None.ensures);
    }

pub returns : goal.returns
returns c =
    let kind = c.args.kind in
    let es = c.args.log.now.entries in
    let none : c.loop-left.left ≡ 0 = omega arith in
    sym (ap (λ l. find (is_of_kind kind) (reverse l)) (events-of-log es) ∙ c.loop-left.invariant.same
    ∙ ap (λ n. find (is_of_kind kind) (reverse (flat_map events (take n es)))) none)
