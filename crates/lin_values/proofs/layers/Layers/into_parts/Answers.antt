use Rattle.std.proofs.Common.{ap, ◌∙◌}
use Rattle.lin_values.specs.Layers.{item_in}
use Rattle.lin_values.proofs.PartsInOrder.{item-moved, sorted-in-order}
use Rattle.lin_values.proofs.layers.Layers.into_parts.Goals as goal

pub returns-clause-same : goal.returns-clause-same
returns-clause-same c = λ n.
    item-moved c.self.inside.parts.items c.sort.new.self.items n c.in_ok-sort.ensures.permutation (c.self.invariant.once n)
    ∙ ap (λ ps. item_in ps n) c.self.view_is

pub returns-clause-ordered : goal.returns-clause-ordered
returns-clause-ordered c = sorted-in-order c.self.inside.parts.items c.sort.new.self.items c.in_ok-sort.ensures.permutation c.self.invariant.full c.self.invariant.once c.in_ok-sort.ensures.sorted
