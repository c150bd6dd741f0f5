use Rattle.std.proofs.Common.{◌∷◌, [], ◌++◌, List, ℕ, codes, flat_map, rules}
use Rattle.std.specs.Fmt.{decimal}
use Rattle.lin_log.specs.Words.{spaced_word}
use Rattle.lin_log.proofs.Ends.{grows-ended}
use Rattle.lin_text.proofs.Growing.{grows-more, same-growth}
use Rattle.lin_text.specs.Written.{Grows}
use Rattle.lin_values.proofs.Fitting.{fits-below}
use Rattle.lin_export.specs.ListedSignals.{decimal_word, unit_words}
use Rattle.lin_export.proofs.ListedLines.{head-and-members}
use Rattle.lin_export.proofs.cluster_lists.signal_lines.put_range.Goals as goal

pub new-requires : goal.new-requires
new-requires g c = fits-below c.args.range.now.min c.args.range.now.max c.args.range.now.scale c.args.range.now.offset c.requires.order c.requires.fits

pub returns : goal.returns
returns g c =
    let r = c.args.range.now in
    let head : List (List ℕ) = decimal c.args.signal ∷ decimal r.min ∷ decimal r.max ∷ [] in
    let first : List ℕ = decimal_word r.min r.scale r.offset in
    let last : List ℕ = decimal_word r.max r.scale r.offset in
    let units : List (List ℕ) = unit_words r.unit.now in
    let start : Grows g.W.Write.contents c.args.out.now c.put_head.new.out (codes "range" ++ flat_map spaced_word head) = search rules in
    let from : Grows g.W.Write.contents c.put_head.new.out c.put_physical.new.out (spaced_word first) = rw c.new.ensures at c.put_physical.ensures in
    let to : Grows g.W.Write.contents c.put_physical.new.out c.put_physical-2.new.out (spaced_word last) = rw c.new-2.ensures at c.put_physical-2.ensures in
    same-growth (head-and-members (codes "range") head (first ∷ last ∷ units))
    (grows-more start (grows-more from (grows-more to (grows-ended units c.put_unit.ensures c.put_byte.ensures))))
