use Rattle.std.proofs.Common.{◌∷◌, [], List, flat_map, map, ap, codes}
use Rattle.std.specs.Prelude.{zip}
use Rattle.lin_parts.specs.Cluster.{frame_name, frame_of}
use Rattle.lin_log.specs.Language.{named_language}
use Rattle.lin_log.specs.Words.{Word, word_text}
use Rattle.lin_log.specs.Words.Word.{Fixed, Said}
use Rattle.lin_log.proofs.Ends.{grows-ended}
use Rattle.lin_text.proofs.Growing.{grows-more, same-growth}
use Rattle.lin_export.specs.Named.{signal_words}
use Rattle.lin_export.proofs.Lines.{named-ended}
use Rattle.lin_export.proofs.named.put_frame.Goals as goal

pub returns : goal.returns
returns g c =
    let x = c.args.cluster.now in
    let head : List Word = Fixed (codes "frame") ∷ Said (frame_name x c.args.frame) ∷ [] in
    let signals = flat_map (signal_words x c.args.answer.now) (zip (frame_of x c.args.frame).signals (frame_of x c.args.frame).layout.places) in
    same-growth
    (ap (λ l. 62 ∷ l) (named-ended x head signals))
    (grows-more c.put_byte.ensures (grows-more (rw c.frame_name.ensures at c.put_words.ensures) (grows-ended (map (word_text (named_language x)) signals) c.put_signals.ensures c.put_byte-2.ensures)))
