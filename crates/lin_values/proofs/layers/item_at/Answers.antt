use Rattle.std.proofs.Common.{◌≤◌, ◌∙◌, ap, sym, cond, length, rules}
use Rattle.std.specs.Prelude.{nat_lt, Some, None}
use Rattle.std.proofs.lemmas.List.Sorted.{IsPartitionPoint-from_clause}
use Rattle.std.proofs.lemmas.Option.{MatchOption-at_none}
use Rattle.lin_values.specs.declared.layers.RangePart.{RangePart}
use Rattle.lin_values.proofs.PartsInOrder.{item-at, item-past, parts-parted}
use Rattle.lin_values.proofs.layers.item_at.Goals as goal

pub returns-in_default : goal.returns-in_default
returns-in_default c =
    let point = IsPartitionPoint-from_clause (λ (p : RangePart). nat_lt p.span.to c.args.number) _ _ c.partition_point-at.ensures.partitioned (parts-parted c.args.parts.now c.args.number c.requires) (λ a r q k. search rules) in
    sym (item-past c.args.parts.now c.args.number c.partition_point-at.result point (MatchOption-at_none (length c.args.parts.now ≤ c.partition_point-at.result) _ c.in_default.is c.get.ensures.lookup.3))

pub returns-then-has : goal.returns-then-has
returns-then-has c =
    let look = c.in-Some.ensures.lookup in
    let point = IsPartitionPoint-from_clause (λ (p : RangePart). nat_lt p.span.to c.args.number) _ _ c.partition_point-at.ensures.partitioned (parts-parted c.args.parts.now c.args.number c.requires) (λ a r q k. search rules) in
    sym (item-at c.args.parts.now c.args.number c.partition_point-at.result c.in-Some.part.now c.requires point look.3.0 look.1
    ∙ ap (λ b. cond b (Some c.in-Some.part.now.item) None) (sym c.has.ensures ∙ c.if-has.true))

pub returns-else-has : goal.returns-else-has
returns-else-has c =
    let look = c.in-Some.ensures.lookup in
    let point = IsPartitionPoint-from_clause (λ (p : RangePart). nat_lt p.span.to c.args.number) _ _ c.partition_point-at.ensures.partitioned (parts-parted c.args.parts.now c.args.number c.requires) (λ a r q k. search rules) in
    sym (item-at c.args.parts.now c.args.number c.partition_point-at.result c.in-Some.part.now c.requires point look.3.0 look.1
    ∙ ap (λ b. cond b (Some c.in-Some.part.now.item) None) (sym c.has.ensures ∙ c.if-has.false))
