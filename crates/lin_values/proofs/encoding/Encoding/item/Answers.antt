use Rattle.std.proofs.Common.{ap, ◌∙◌}
use Rattle.lin_values.specs.declared.codings.CodingType.{CodingType}
use Rattle.lin_values.proofs.EncodedItems.{item-read}
use Rattle.lin_values.proofs.encoding.Encoding.item.Goals as goal

pub returns-in-Some : goal.returns-in-Some
returns-in-Some c =
    let look = c.in-Some.ensures.lookup in
    item-read c.as_slice.result.now c.args.self.now.items c.args.number c.in-Some.one.now (c.as_slice.ensures ∙ ap (λ (t : CodingType). t.items) c.self.view_is) look.3.0 look.1
