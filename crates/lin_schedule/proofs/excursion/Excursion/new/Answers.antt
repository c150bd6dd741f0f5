use Rattle.std.proofs.Common.{◌≡◌, ℕ, suc, ◌-◌, ◌<◌, List, length, drop, ◌∷◌, ap, sym, ◌∙◌, subst, arith}
use Rattle.std.proofs.Math.Seq.{drop-cons}
use Rattle.lin_parts.specs.Cluster.{table_of, line_of}
use Rattle.lin_parts.specs.declared.parts.Line.{Line}
use Rattle.lin_schedule.specs.Carriers.{carries}
use Rattle.lin_schedule.specs.Excursions.{IsSummary}
use Rattle.lin_schedule.proofs.Times.{no_line}
use Rattle.lin_schedule.proofs.excursion.Excursion.new.Goals as goal

pub loop-entry-preserved : goal.loop-entry-preserved
loop-entry-preserved c =
    let lines : List Line = table_of c.args.cluster.now c.args.table in
    let place : ℕ = c.loop-entry.entry - 1 in
    let before : suc place ≡ c.loop-entry.entry = omega arith in
    let lt : place < length lines = omega (arith, c.entries-entry.ensures.number) in
    let opened = drop-cons lines place no_line lt
    ∙ ap (λ (i : ℕ). line_of c.args.cluster.now c.args.table place ∷ drop i lines) before in
    subst (λ (xs : List Line). IsSummary c.args.awaited.now xs c.args.count c.add.new.self) (sym opened)
    (c.in_ok-add.ensures c.args.awaited.now (line_of c.args.cluster.now c.args.table place) (drop c.loop-entry.entry lines) c.loop-entry.invariant
    (ap (λ (l : Line). l.delay_us) (sym c.line_at-line.ensures.line))
    (ap (λ (l : Line). carries c.args.awaited.now l.entry) (sym c.line_at-line.ensures.line) ∙ sym c.carries.ensures))
