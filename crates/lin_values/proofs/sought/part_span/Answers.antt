use Rattle.std.proofs.Common.{ℕ, ap, sym, ◌∙◌, option_map}
use Rattle.lin_values.specs.Layers.{common_span, in_span}
use Rattle.lin_values.specs.Raws.{in_option_span}
use Rattle.lin_values.specs.Warnings.{greatest_raw}
use Rattle.lin_values.specs.declared.layers.Span.{Span}
use Rattle.lin_values.proofs.Parts.{part-empty, part-found, part-sought}
use Rattle.lin_values.proofs.sought.part_span.Goals as goal

pub returns-in_err-span-clause-found : goal.returns-in_err-span-clause-found
returns-in_err-span-clause-found c = λ n h.
    let s = c.in_ok-span_of.field-0 in
    part-sought c.args.encoding.now.items c.args.signal.bits (option_map (λ t. t.now) c.args.sought.now.text) c.args.sought.now.decimals c.args.sought.now.unit.now c.args.part.now n c.in_ok-item.field-0.now (in_span s n)
    (sym c.in_ok-item.ensures) (c.in_ok-span_of.ensures.found n h)
    ∙ part-empty s c.args.part.now.span n (greatest_raw c.args.signal.bits) (sym c.in_err-span.ensures)
    ∙ ap (λ o. in_option_span o n) (sym c.from_residual-in_err-span.ensures)

pub returns-clause-found : goal.returns-clause-found
returns-clause-found c = λ n h.
    let s = c.in_ok-span_of.field-0 in
    let all : ℕ → Span = λ k. record { from = 0; to = k } in
    part-sought c.args.encoding.now.items c.args.signal.bits (option_map (λ t. t.now) c.args.sought.now.text) c.args.sought.now.decimals c.args.sought.now.unit.now c.args.part.now n c.in_ok-item.field-0.now (in_span s n)
    (sym c.in_ok-item.ensures) (c.in_ok-span_of.ensures.found n h)
    ∙ part-found s c.args.part.now.span c.in_ok-span.span n (greatest_raw c.args.signal.bits) (sym c.in_ok-span.ensures)
    ∙ ap (λ k. in_option_span (common_span c.in_ok-span.span (all k)) n) (sym (c.from.ensures ∙ c.most_of.ensures))
    ∙ ap (λ o. in_option_span o n) (sym c.common-2.ensures)
