use Rattle.std.proofs.Common.{◌∙◌, ap, length, refl, sym}
use Rattle.lin_core.specs.Core.{CoreData}
use Rattle.lin_bench.specs.Bench.{BenchData}
use Rattle.lin_bench.specs.declared.taken.TakenEvents.{TakenEvents}
use Rattle.lin_bench.proofs.Searches.{first-cleared, known-forgotten}
use Rattle.lin_bench.proofs.bench.Bench.forget.Goals as goal

pub invariant_of-self : goal.invariant_of-self
invariant_of-self c =
    let t : TakenEvents = record { forgotten = c.len-entries.result; searches = c.new.result; cleared = c.of.result } in
    (known-forgotten c.self.inside.ruled.core t c.new.ensures.items (first-cleared t c.of.ensures.losses c.of.ensures.hosts c.of.ensures.messages)
    (c.len-entries.ensures.len ∙ ap length c.log.ensures.entries ∙ ap (λ (k : CoreData). length k.log) c.core.ensures
    ∙ ap (λ (b : BenchData). length b.core.log) (sym c.self.view_is))).0

pub returns : goal.returns
returns c =
    let t : TakenEvents = record { forgotten = c.len-entries.result; searches = c.new.result; cleared = c.of.result } in
    let all = known-forgotten c.self.inside.ruled.core t c.new.ensures.items (first-cleared t c.of.ensures.losses c.of.ensures.hosts c.of.ensures.messages)
    (c.len-entries.ensures.len ∙ ap length c.log.ensures.entries ∙ ap (λ (k : CoreData). length k.log) c.core.ensures
    ∙ ap (λ (b : BenchData). length b.core.log) (sym c.self.view_is)) in
    rw (all.1, ← c.self.view_is) refl
