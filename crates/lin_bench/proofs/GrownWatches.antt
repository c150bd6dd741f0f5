-- What a line of slots keeps from one check of its log to the next, where the log grows.
use Rattle.std.proofs.Common.{◌∙◌, ◌+◌, ◌++◌, List, Option, Some, None, ap, arith, length-append, reverse, subst, sym}
use Rattle.std.specs.Prelude.{IfSome, count_by, flat_map}
use Rattle.std.proofs.lemmas.List.{take-append-le}
use Rattle.lin_parts.specs.declared.parts.Parts.{Parts}
use Rattle.lin_core.specs.History.{events, time}
use Rattle.lin_core.specs.declared.log.LogEntry.{LogEntry}
use Rattle.lin_core.specs.declared.port.PortId.{PortId}
use Rattle.lin_core.specs.declared.step.Step.{Step}
use Rattle.lin_bench.specs.Carried.{KeepsOpenSlot}
use Rattle.lin_bench.specs.Making.{AreExecuted, RuledData}
use Rattle.lin_bench.specs.Verdicts.{begins_with, is_of_kind}
use Rattle.lin_bench.specs.Watches.{AreBegins, IsCycleState, IsEventCount, IsWatch}
use Rattle.lin_bench.specs.declared.cycles.CycleState.{CycleState}
use Rattle.lin_bench.specs.declared.left_events.EventCount.{EventCount}
use Rattle.lin_bench.specs.declared.taken.EventKind.TheVariants.{Ends}
use Rattle.lin_bench.specs.declared.watches.Watch.{Watch}
use Rattle.lin_bench.proofs.Makes.{grown-made}
use Rattle.lin_bench.proofs.Searches.{before-more}

count-append : (es more : List LogEntry) (c : EventCount) → IsEventCount es c → IsEventCount (es ++ more) c
count-append es more c k =
    let order = k.order in
    let within = k.within in
    let count = count_by (is_of_kind c.kind) in
    record {
      order = order;
      within = omega (arith, within, length-append es more);
      count =
          ap (λ l. count (flat_map events l) + c.count) (take-append-le c.first es more (omega arith))
          ∙ k.count ∙ ap (λ l. count (flat_map events l)) (sym (take-append-le c.end es more within));
      few = k.few;
    }

cycle-append : (c : Parts) (es more : List LogEntry) (s : CycleState) → IsCycleState c es s → IsCycleState c (es ++ more) s
cycle-append c es more s k =
    let from = k.from_in in
    let within = k.within in
    let first = sym (take-append-le s.entries es more within) in
    let before = before-more es more Ends s.from from in
    let count = ap (λ l. count_by (is_of_kind Ends) (flat_map events l)) first in
    record {
      from_in = omega (arith, from, length-append es more);
      within = omega (arith, within, length-append es more);
      skip = omega (arith, k.skip, before, count);
      clock = k.clock ∙ ap (λ l. time c (reverse l)) first;
      few = k.few;
      slot = subst (λ l. KeepsOpenSlot s.slot (reverse l)) first k.slot;
      begins = λ taken same.
          subst (λ l. AreBegins s.cycle (begins_with c s.cycle.frame taken (reverse l)) s.begins) first (k.begins taken (same ∙ before));
    }

if-some : {A : Type 0} (P Q : A → Type 0) (o : Option A) → ((x : A) → P x → Q x) → IfSome o P → IfSome o Q
if-some P Q None all h = h
if-some P Q (Some x) all h = all x h

watch-append : (c : Parts) (es more : List LogEntry) (w : Watch) → IsWatch c es w → IsWatch c (es ++ more) w
watch-append c es more w k = record {
  count = if-some (IsEventCount es) (IsEventCount (es ++ more)) w.count (count-append es more) k.count;
  cycle = if-some (IsCycleState c es) (IsCycleState c (es ++ more)) w.cycle (cycle-append c es more) k.cycle;
}

-- what is kept stays so when steps are made
pub watch-made : (a b : RuledData) (steps : List (PortId × Step)) (w : Watch) → AreExecuted a steps b → IsWatch a.core.cluster a.core.log w
    → IsWatch b.core.cluster b.core.log w
watch-made a b steps w made k =
    let grown = grown-made a b steps made in
    subst (λ c. IsWatch c b.core.log w) (sym made.alike.0)
    (subst (λ l. IsWatch a.core.cluster l w) (sym grown.log) (watch-append a.core.cluster a.core.log grown.more w k))
