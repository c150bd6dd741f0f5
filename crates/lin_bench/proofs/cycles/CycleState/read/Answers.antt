use Rattle.std.proofs.Common.{◌≡◌, ◌∙◌, ◌<◌, ◌-◌, ap, arith, false, length, reverse, subst, sym, take, true}
use Rattle.std.specs.Prelude.{count_by, flat_map, nat_eq}
use Rattle.std.proofs.lemmas.Bool.Decides.{nat_tests}
use Rattle.lin_core.specs.History.{events, time}
use Rattle.lin_bench.specs.Carried.{KeepsOpenSlot}
use Rattle.lin_bench.specs.Verdicts.{carries, is_after_forget, is_of_kind}
use Rattle.lin_bench.specs.declared.taken.EventKind.TheVariants.{Ends}
use Rattle.lin_bench.proofs.Events.{with-entry}
use Rattle.lin_bench.proofs.FrameCycles.{after-forget, no-more-begin, not-after, not-carried, one-more-begin, slot-more}
use Rattle.lin_bench.proofs.Walks.{one-back}
use Rattle.lin_bench.proofs.cycles.CycleState.read.Goals as goal
use Rattle.lin_bench.proofs.cycles.CycleState.read.Goals.{then-skip-eq0+then-carries, else-skip-eq0, else-skip-eq0-via-then-skip-eq0+else-carries, else-skip-eq0-via-else-skip-eq0}

pub loop-index-preserved : goal.loop-index-preserved
loop-index-preserved c =
    let cl = c.args.cluster.now in
    let cycle = c.args.self.cycle in
    let es = c.args.log.now.entries in
    let i = c.loop-index.index in
    let e = c.entry-entry.result.now in
    let past = reverse (take i es) in
    let at = c.loop-index.invariant in
    let skip = c.loop-index.skip in
    let olds = c.loop-index.begins in
    let inside : i < length es = omega arith in
    let back = one-back es i e inside c.entry-entry.ensures in
    record {
      from_in = at.from_in;
      within = omega arith;
      skip =
          let more = with-entry Ends es i e c.events_of.result.now inside c.entry-entry.ensures c.events_of.ensures in
          omega (arith, at.skip, more, c.count_of.ensures, c.saturating_sub-skip.ensures);
      clock =
          let now = ap (time cl) back in
          let more = slot-more cl e past in
          let delay = c.ended_delay-time.ensures.delay past at.slot in
          omega (arith, now, more, delay, at.clock);
      few = omega (arith, at.few, c.ended_delay-time.ensures.few);
      slot = subst (λ l. KeepsOpenSlot c.in_ok-slot.slot l) (sym back) (c.in_ok-slot.ensures.kept past at.slot);
      begins = λ ts consumed.
          let after : is_after_forget ts past ≡ nat_eq skip 0 = after-forget ts es i skip (at.skip ∙ ap (λ n. n - count_by (is_of_kind Ends) (flat_map events (take i es))) (sym consumed)) in
          elim c.if-skip-eq0.branch [
            | then-skip-eq0+then-carries w ↦
                let zero : nat_eq skip 0 ≡ true = grind (arith, nat_tests, w.if-skip-eq0.true) in
                let is : carries cl cycle.frame e past ≡ true = sym (w.carries.ensures past at.slot) ∙ w.if-carries.true in
                rw w.begins-is (one-more-begin cl cycle ts es i e olds w.one_more-begins.result c.loop-index.time inside c.entry-entry.ensures (at.begins ts consumed) at.clock w.one_more-begins.ensures (after ∙ zero) is)
            | else-skip-eq0 w ↦
                rw w.begins-is
                (elim w.else-skip-eq0.branch [
                  | else-skip-eq0-via-then-skip-eq0+else-carries v ↦
                      let is : carries cl cycle.frame e past ≡ false = sym (v.carries.ensures past at.slot) ∙ v.if-carries.false in
                      no-more-begin cl cycle ts es i e olds inside c.entry-entry.ensures (at.begins ts consumed) (not-carried (is_after_forget ts past) (carries cl cycle.frame e past) is)
                  | else-skip-eq0-via-else-skip-eq0 v ↦
                      let some : nat_eq skip 0 ≡ false = grind (arith, nat_tests, v.if-skip-eq0.false) in
                      no-more-begin cl cycle ts es i e olds inside c.entry-entry.ensures (at.begins ts consumed) (not-after (is_after_forget ts past) (carries cl cycle.frame e past) (after ∙ some))
                ])
          ];
    }
