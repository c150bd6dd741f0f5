use Rattle.std.proofs.Common.{◌<◌, length, refl, sym, ap, ◌∙◌, arith}
use Rattle.lin_cluster.specs.FindingsNames.{at_name}
use Rattle.lin_cluster.specs.declared.finding.FindingKind.TheVariants.{UnusedEncoding}
use Rattle.lin_values.specs.declared.codings.CodingType.{CodingType}
use Rattle.lin_values.proofs.UnusedEncodings.{unused-step}
use Rattle.lin_values.proofs.unused.unordered.Goals as goal

pub loop-number-preserved : goal.loop-number-preserved
loop-number-preserved c =
    let number = c.loop-number.number-counter in
    let lt : number < length c.as_slice-types.result.now = omega arith in
    unused-step c.args.description.now c.args.codings.now c.in_ok-named.named.map c.as_slice-types.result.now c.as_slice.result.now c.signals.result.now number c.index-types-number.result c.contains-is_unused.result _ c.at_name.result c.loop-number.found.items c.push_when.new.found.items
    c.as_slice-types.ensures c.as_slice.ensures c.signals.ensures lt c.index-types-number.is c.in_ok-named.ensures
    (c.contains-is_unused.ensures ∙ c.in_ok-used.ensures number) refl (c.at_name.ensures ∙ ap (λ (t : CodingType). at_name UnusedEncoding t.name) (sym c.index-types-number.is)) c.loop-number.invariant c.in_ok-push_when.ensures
