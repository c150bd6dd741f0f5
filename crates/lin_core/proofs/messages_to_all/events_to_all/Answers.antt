use Rattle.std.proofs.Common.{◌≡◌, ◌++◌, ◌∷◌, [], List, length, ap, ◌∙◌}
use Rattle.lin_core.specs.kept.Hosts.{told_to_all}
use Rattle.lin_core.specs.declared.event.Event.{Event}
use Rattle.lin_core.specs.declared.event.Event.TheVariants.{Seen, Sent}
use Rattle.lin_core.proofs.messages_to_all.events_to_all.Goals as goal

pub returns-clause-told : goal.returns-clause-told
returns-clause-told c = λ heard m all.
    let one : c.push.new.self.items ≡ c.args.room.items ++ Seen c.args.seen ∷ [] = rw c.unwrap.ensures at c.push.ensures.items in
    let two : c.push-2.new.self.items ≡ c.tell_each.new.events.items ++ Sent 0 c.args.number ∷ [] = rw c.unwrap-2.ensures at c.push-2.ensures.items in
    let first : c.push.new.self.items ≡ Seen c.args.seen ∷ [] = one ∙ ap (λ (es : List Event). es ++ Seen c.args.seen ∷ []) c.requires.empty in
    let whole : c.tell_each.new.events.items ≡ Seen c.args.seen ∷ told_to_all c.args.setup.now.cluster m (length c.args.receivers.now.items)
    = c.tell_each.ensures.told heard m all ∙ ap (λ (es : List Event). es ++ told_to_all c.args.setup.now.cluster m (length c.args.receivers.now.items)) first in
    c.new.ensures ∙ two ∙ ap (λ (es : List Event). es ++ Sent 0 c.args.number ∷ []) whole
