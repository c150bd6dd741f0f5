use Rattle.std.proofs.Common.{ℕ, List, take, flat_map, sym, ap, ◌∙◌, arith}
use Rattle.std.proofs.lemmas.List.{take_all}
use Rattle.lin_frame.specs.declared.layout.Place.{Place}
use Rattle.lin_text.proofs.Growing.{grows-more, same-growth}
use Rattle.lin_export.specs.Named.{named_line, place_values, value_lines}
use Rattle.lin_export.proofs.ListedLines.{no_place}
use Rattle.lin_export.proofs.Places.{places_of, said-more}
use Rattle.lin_export.proofs.Rows.{flat-append}
use Rattle.lin_export.proofs.named_values.put_frame_values.Goals as goal

pub loop-place-preserved : goal.loop-place-preserved
loop-place-preserved g c =
    let x = c.args.cluster.now in
    let k = c.args.coded.now in
    let answer = c.args.answer.now in
    let ps = places_of x c.args.frame in
    let i = c.loop-place.place in
    let more = said-more (value_lines x k) answer ps i c.value_at-signal.result (omega arith) (c.value_at-signal.ensures.value no_place) in
    same-growth (sym (ap (flat_map (named_line x)) more ∙ flat-append (named_line x) (flat_map (place_values x k answer) (take i ps)) _))
    (grows-more c.loop-place.invariant c.put_value.ensures)

pub returns : goal.returns
returns g c =
    let x = c.args.cluster.now in
    same-growth
    (ap (λ (ps : List (ℕ × Place)). flat_map (named_line x) (flat_map (place_values x c.args.coded.now c.args.answer.now) ps))
    (take_all c.loop-place.place (places_of x c.args.frame) (omega arith)))
    c.loop-place.invariant
