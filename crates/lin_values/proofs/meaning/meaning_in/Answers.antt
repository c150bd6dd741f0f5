use Rattle.std.proofs.Common.{◌∙◌, ap, sym}
use Rattle.lin_values.specs.Meaning.{by_item, plain_signal}
use Rattle.lin_values.proofs.NumberedMeanings.{numbered}
use Rattle.lin_values.proofs.WaysBack.{may-count}
use Rattle.lin_values.proofs.meaning.meaning_in.Goals as goal

pub numeric_meaning-requires : goal.numeric_meaning-requires
numeric_meaning-requires c = may-count c.args.encoding.now.items c.in-Some.number c.in-Some-item_for.item.now (sym c.in-Some-item_for.ensures)

pub returns : goal.returns
returns c =
    let s = plain_signal c.args.signal in
    let items = c.args.encoding.now.items in
    let value = c.args.value.now in
    c.numeric_meaning.ensures
    ∙ ap (λ o. by_item s items value c.in-Some.number o) c.in-Some-item_for.ensures
    ∙ sym (numbered s items value c.in-Some.number (sym c.in-Some.ensures))
