use Rattle.std.proofs.Common.{flat_map, sym, ap, arith}
use Rattle.std.proofs.lemmas.List.{take_all}
use Rattle.lin_text.proofs.Growing.{grows-more, same-growth}
use Rattle.lin_export.specs.Vcd.{physical_change, place_decimal}
use Rattle.lin_export.proofs.ListedLines.{no_place}
use Rattle.lin_export.proofs.Places.{places_of, said-more}
use Rattle.lin_export.proofs.vcd.put_frame_decimals.Goals as goal

pub loop-place-preserved : goal.loop-place-preserved
loop-place-preserved g c =
    let x = c.args.cluster.now in
    let more = said-more (physical_change x c.args.coded.now) c.args.answer.now (places_of x c.args.frame) c.loop-place.place c.value_at-signal.result (omega arith) (c.value_at-signal.ensures.value no_place) in
    same-growth (sym more) (grows-more c.loop-place.invariant c.put_physical.ensures)

pub returns : goal.returns
returns g c =
    let x = c.args.cluster.now in
    same-growth (ap (flat_map (place_decimal x c.args.coded.now c.args.answer.now)) (take_all c.loop-place.place (places_of x c.args.frame) (omega arith))) c.loop-place.invariant
