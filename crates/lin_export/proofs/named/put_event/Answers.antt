use Rattle.std.proofs.Common.{ap, ◌∷◌, map}
use Rattle.lin_log.specs.Language.{named_language}
use Rattle.lin_log.specs.Words.{event_words, word_text}
use Rattle.lin_log.proofs.Ends.{grows-ended}
use Rattle.lin_text.proofs.Growing.{grows-more, same-growth}
use Rattle.lin_export.specs.Named.{slot_names}
use Rattle.lin_export.proofs.Lines.{named-ended}
use Rattle.lin_export.proofs.named.put_event.Goals as goal

pub returns : goal.returns
returns g c =
    let x = c.args.cluster.now in
    let e = c.args.event.now in
    let names = map (word_text (named_language x)) (slot_names x e) in
    same-growth (ap (λ l. 62 ∷ l) (named-ended x (event_words e) (slot_names x e)))
    (grows-more c.put_byte.ensures (grows-more c.put_event.ensures (grows-ended names c.put_slot_names.ensures c.put_byte-2.ensures)))
