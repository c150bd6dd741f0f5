use Rattle.std.proofs.Common.{ap, arith}
use Rattle.std.proofs.lemmas.List.{take_all}
use Rattle.lin_text.proofs.Growing.{grows-nothing, same-growth}
use Rattle.lin_export.specs.ListedMaps.{mark_line}
use Rattle.lin_export.specs.Listing.{numbered_lines}
use Rattle.lin_export.proofs.ListedLines.{no_place}
use Rattle.lin_export.proofs.NumberedLines.{lines-next}
use Rattle.lin_export.proofs.Places.{places_of}
use Rattle.lin_export.proofs.cluster_lists.maps.put_marks.Goals as goal

pub loop-index-init : goal.loop-index-init
loop-index-init g c = grows-nothing c.args.out.now

pub loop-index-preserved : goal.loop-index-preserved
loop-index-preserved g c =
    let says = mark_line c.args.cluster.now c.args.frame in
    let i = c.loop-index.index in
    lines-next says (places_of c.args.cluster.now c.args.frame) i (0, no_place) (omega arith) c.loop-index.invariant
    (same-growth (ap (says i) (c.place_at-signal.ensures.placed no_place)) c.put_mark.ensures)

pub returns : goal.returns
returns g c =
    let ps = places_of c.args.cluster.now c.args.frame in
    same-growth (ap (numbered_lines (mark_line c.args.cluster.now c.args.frame) 0) (take_all c.loop-index.index ps (omega arith))) c.loop-index.invariant
