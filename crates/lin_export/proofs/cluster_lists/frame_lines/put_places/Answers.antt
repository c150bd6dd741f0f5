use Rattle.std.proofs.Common.{ℕ, take, ◌++◌, flat_map, sym, ap, ◌∙◌, arith}
use Rattle.std.proofs.lemmas.List.{take_all}
use Rattle.lin_frame.specs.declared.layout.Place.{Place}
use Rattle.lin_text.proofs.Growing.{grows-more, grows-nothing, same-growth}
use Rattle.lin_export.specs.ListedFrames.{place_line}
use Rattle.lin_export.proofs.ListedLines.{no_place}
use Rattle.lin_export.proofs.Places.{places_of}
use Rattle.lin_export.proofs.Rows.{texts-more}
use Rattle.lin_export.proofs.cluster_lists.frame_lines.put_places.Goals as goal

pub loop-index-init : goal.loop-index-init
loop-index-init g c = grows-nothing c.args.out.now

pub loop-index-preserved : goal.loop-index-preserved
loop-index-preserved g c =
    let ps = places_of c.args.cluster.now c.args.frame in
    let i = c.loop-index.index in
    let says = place_line c.args.cluster.now c.args.frame in
    same-growth
    (ap (λ (p : ℕ × Place). flat_map says (take i ps) ++ says p) (c.place_at-signal.ensures.placed no_place) ∙ sym (texts-more says ps i (0, no_place) (omega arith)))
    (grows-more c.loop-index.invariant c.put_place.ensures)

pub returns : goal.returns
returns g c =
    let ps = places_of c.args.cluster.now c.args.frame in
    same-growth (ap (flat_map (place_line c.args.cluster.now c.args.frame)) (take_all c.loop-index.index ps (omega arith))) c.loop-index.invariant
