use Rattle.std.proofs.Common.{◌∷◌, [], ◌++◌, List, ℕ, codes, flat_map, rules}
use Rattle.std.specs.Fmt.{decimal}
use Rattle.lin_parts.specs.Cluster.{signal_of}
use Rattle.lin_log.specs.Words.{spaced_word}
use Rattle.lin_log.proofs.Ends.{grows-ended}
use Rattle.lin_text.proofs.Growing.{grows-more, same-growth}
use Rattle.lin_text.specs.Written.{Grows}
use Rattle.lin_values.specs.Meaning.{meaning}
use Rattle.lin_export.specs.ListedSignals.{meaning_words, raw_word}
use Rattle.lin_export.proofs.ListedLines.{head-and-members}
use Rattle.lin_export.proofs.cluster_lists.signal_lines.put_initial.Goals as goal

pub returns : goal.returns
returns g c =
    let initial = (signal_of c.args.cluster.now c.args.signal).initial in
    let head : List (List ℕ) = decimal c.args.signal ∷ raw_word c.args.coded.now c.args.signal initial ∷ [] in
    let words : List (List ℕ) = meaning_words (meaning c.args.coded.now c.args.signal initial) in
    let start : Grows g.W.Write.contents c.args.out.now c.put_head.new.out (codes "initial" ++ flat_map spaced_word head) = search rules in
    let text : Grows g.W.Write.contents c.put_head.new.out c.put_text.new.out (flat_map spaced_word words) =
    rw (c.meaning.ensures, c.initial-initial.ensures) at c.put_text.ensures in
    same-growth (head-and-members (codes "initial") head words) (grows-more start (grows-ended words text c.put_byte.ensures))
