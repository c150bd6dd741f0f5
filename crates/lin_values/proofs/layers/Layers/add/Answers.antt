use Rattle.std.proofs.Common.{ap, ◌∙◌, cond, rules}
use Rattle.std.specs.Prelude.{nat_lt, Some, None, is_some}
use Rattle.std.specs.List.{list_any}
use Rattle.std.specs.Option.{option_or}
use Rattle.lin_values.specs.Layers.{in_span, item_in, numbers_of}
use Rattle.std.proofs.lemmas.List.Sorted.{IsPartitionPoint-from_clause}
use Rattle.lin_values.specs.declared.layers.Span.{Span}
use Rattle.lin_values.proofs.AddedRanges.{IsAdded, added, added-layered, added-first, added-met}
use Rattle.lin_values.proofs.layers.Layers.add.Goals as goal

done : (c : goal.After-drop-self-inside-2) → IsAdded c.self.inside.covered.items c.self.inside.parts.items c.args.span c.args.item c.partition_point-at.result c.in_ok-end.end c.in_ok-end.whole c.join.new.covered.items c.fill.new.parts.items
done c =
    added c.self.inside.covered.items c.replace-covered.result.items c.as_slice.result.now c.as_slice-2.result.now c.join.new.covered.items c.self.inside.parts.items c.replace-parts.result.items c.fill.new.parts.items c.args.span c.in_ok-end.whole c.args.item c.partition_point-at.result c.in_ok-end.end
    c.self.invariant c.requires (search rules) (search rules) c.as_slice.ensures.value c.as_slice-2.ensures.value
    (λ parted. IsPartitionPoint-from_clause (λ (z : Span). nat_lt z.to c.args.span.from) _ _ c.partition_point-at.ensures.partitioned parted (λ a r q k. search rules))
    c.in_ok-end.ensures.filled c.in_ok-end.ensures.within c.in_ok-end.ensures.whole c.in_ok-end.ensures.behind c.in_ok-join.ensures

pub invariant_of-self-2 : goal.invariant_of-self-2
invariant_of-self-2 c = added-layered _ _ _ _ _ _ _ _ _ (done c)

pub returns-clause-first : goal.returns-clause-first
returns-clause-first c = λ n. added-first _ _ _ _ _ _ _ _ _ (done c) n ∙ ap (λ ps. option_or (item_in ps n) (cond (in_span c.args.span n) (Some c.args.item) None)) c.self.view_is

pub returns-clause-met : goal.returns-clause-met
returns-clause-met c = added-met _ _ _ _ _ _ _ _ _ (done c) ∙ ap (λ ps. list_any (λ n. is_some (item_in ps n)) (numbers_of c.args.span)) c.self.view_is
