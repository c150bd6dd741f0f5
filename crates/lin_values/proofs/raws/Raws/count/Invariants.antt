use Rattle.std.proofs.Common.{◌≡◌, ◌+◌, ◌-◌, take}
use Rattle.std.specs.Prelude.{sum_by}
use Rattle.std.specs.Option.{option_map_or}
use Rattle.lin_values.proofs.raws.Raws.count.Given as goal

abbrev pub invariant-loop-span : goal.invariant-loop-span
invariant-loop-span l = l.count ≡ sum_by (λ s. s.to + 1 - s.from) (take l.span-index l.span-items) + option_map_or (λ v. 1) l.self.coded 0
