use Rattle.std.proofs.Common.{◌≡◌, ◌+◌, ◌-◌, ◌≤◌, take, get_or, arith, ap, ℕ}
use Rattle.std.specs.Prelude.{sum_by}
use Rattle.std.specs.Option.{option_map_or}
use Rattle.std.proofs.lemmas.List.Sums.{sum_by_more_le}
use Rattle.lin_frame.specs.declared.value.Value.{Value}
use Rattle.std.specs.Prelude.{Option, Some, None}
use Rattle.lin_values.specs.declared.layers.Span.{Span}
use Rattle.lin_values.proofs.OnlyRaw.{few-numbers}
use Rattle.lin_values.proofs.raws.Raws.count.Goals as goal

at-most-one : (o : Option Value) → option_map_or (λ v. 1) o 0 ≤ 1
at-most-one None = omega arith
at-most-one (Some v) = omega arith

pub overflow_add-count-in-loop-span : goal.overflow_add-count-in-loop-span
overflow_add-count-in-loop-span c =
    let size : Span → ℕ = λ s. s.to + 1 - s.from in
    let xs = c.as_slice-span-items.result.now in
    let all : sum_by size c.self.inside.spans ≤ 65536 = few-numbers c.self.inside.spans c.self.invariant.some c.self.invariant.ordered in
    let same : sum_by size xs ≡ sum_by size c.self.inside.spans = ap (sum_by size) c.as_slice-span-items.ensures in
    let none : Span = record { from = 0; to = 0 } in
    let more : sum_by size (take c.loop-span.span-index xs) + size (get_or xs c.loop-span.span-index none) ≤ sum_by size xs = sum_by_more_le size xs c.loop-span.span-index none c.loop-span-test.true in
    let coded : option_map_or (λ v. 1) c.args.self.now.coded 0 ≤ 1 = at-most-one c.args.self.now.coded in
    let so-far : c.loop-span.count ≡ sum_by size (take c.loop-span.span-index xs) + option_map_or (λ v. 1) c.args.self.now.coded 0 = c.loop-span.invariant in
    omega arith
