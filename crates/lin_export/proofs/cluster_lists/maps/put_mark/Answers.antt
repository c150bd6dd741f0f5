use Rattle.std.proofs.Common.{◌∷◌, [], List, ℕ}
use Rattle.std.specs.Fmt.{decimal}
use Rattle.lin_parts.specs.Cluster.{signal_of}
use Rattle.lin_log.specs.CallerTexts.{seen_text}
use Rattle.lin_log.proofs.Ends.{grows-ended}
use Rattle.lin_text.proofs.Growing.{grows-more}
use Rattle.lin_export.proofs.cluster_lists.maps.put_mark.Goals as goal

pub returns : goal.returns
returns g c =
    let place = c.args.place.now in
    let rest : List (List ℕ) = seen_text (signal_of c.args.cluster.now c.args.signal).name ∷ decimal place.offset ∷ decimal place.size ∷ [] in
    let words = rw (c.signal_name.ensures, c.from-2.ensures, c.from-3.ensures) at c.put_words.ensures in
    grows-more c.put.ensures
    (grows-more (rw c.from.ensures at c.put_spaced.ensures)
    (grows-more (rw c.mark.ensures at c.put_sign.ensures) (grows-ended rest words c.put_byte.ensures)))
