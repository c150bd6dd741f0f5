use Rattle.std.proofs.Common.{◌≡◌, ◌∙◌}
use Rattle.std.specs.Prelude.{◌==◌}
use Rattle.std.specs.List.{list_any}
use Rattle.lin_core.specs.declared.slot.Put.{Put}
use Rattle.lin_core.proofs.slots.OpenSlots.{decided-map}
use Rattle.lin_core.proofs.slot.OpenSlot.has_put.Goals as goal

pub returns : goal.returns
returns c =
    let own : c.has_put.result ≡ list_any (λ (p : Put). p.node == c.args.node) c.args.self.now.puts.items = rw (← c.as_slice.ensures.value) c.has_put.ensures in
    own ∙ decided-map c.args.node c.args.self.now.puts.items
