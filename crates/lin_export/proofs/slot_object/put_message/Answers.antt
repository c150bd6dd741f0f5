use Rattle.std.proofs.Common.{◌≡◌, ◌∙◌, ℕ, List, ap, codes, sym}
use Rattle.std.specs.Prelude.{Option, Some, None}
use Rattle.std.specs.Option.{option_copied, option_map_or}
use Rattle.lin_export.specs.Json.{null}
use Rattle.lin_export.specs.Jsonl.{message_put, message_value}
use Rattle.lin_export.specs.Open.{tracked_slot}
use Rattle.lin_text.proofs.Growing.{same-growth}
use Rattle.lin_export.proofs.Objects.{grows-member}
use Rattle.lin_export.proofs.slot_object.put_message.Goals as goal

pub returns-in-Some : goal.returns-in-Some
returns-in-Some g c = λ count are.
    let x = c.args.cluster.now in
    let s = tracked_slot c.args.slot.now in
    let at : Some c.in-Some.put.now ≡ message_put s = sym (ap option_copied c.in-Some.is) ∙ c.message_put.ensures in
    grows-member (codes "message") c.put_key.ensures
    (same-growth (ap (λ (o : Option (ℕ × List ℕ)). option_map_or (message_value x count s.header) o null) at) (rw c.header.ensures at (c.put_message_value.ensures count are)))

pub returns-in-None : goal.returns-in-None
returns-in-None g c = λ count are.
    let x = c.args.cluster.now in
    let s = tracked_slot c.args.slot.now in
    let at : None ≡ message_put s = sym (ap option_copied c.in-None.is) ∙ c.message_put.ensures in
    grows-member (codes "message") c.put_key.ensures
    (same-growth (ap (λ (o : Option (ℕ × List ℕ)). option_map_or (message_value x count s.header) o null) at) c.put.ensures)
