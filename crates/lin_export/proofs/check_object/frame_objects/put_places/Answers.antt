use Rattle.std.proofs.Common.{◌==◌, ℕ, List, [], take, ◌++◌, sym, ap, ◌∙◌, arith, codes, if◌then◌else◌}
use Rattle.std.proofs.lemmas.List.{take_all}
use Rattle.lin_frame.specs.declared.layout.Place.{Place}
use Rattle.lin_text.proofs.Growing.{grows-more, same-growth}
use Rattle.lin_export.specs.ClusterObject.{numbered_values, placed_object}
use Rattle.lin_export.specs.Csv.{after_comma}
use Rattle.lin_export.specs.Json.{with_commas}
use Rattle.lin_export.proofs.ListedLines.{no_place}
use Rattle.lin_export.proofs.Objects.{grows-list, joined-numbered}
use Rattle.lin_export.proofs.Places.{places_of}
use Rattle.lin_export.proofs.check_object.frame_objects.put_places.Goals as goal

pub loop-index-preserved : goal.loop-index-preserved
loop-index-preserved g c =
    let i = c.loop-index.index in
    let all = places_of c.args.cluster.now c.args.frame in
    let says : ℕ → ℕ × Place → List ℕ = placed_object c.args.cluster.now c.args.description.now c.args.frame in
    same-growth
    (ap (λ (p : ℕ × Place). with_commas (numbered_values says 0 (take i all)) ++ ((if i == 0 then [] else after_comma []) ++ says i p)) (c.place_at-signal.ensures.placed no_place)
    ∙ sym (joined-numbered says all i (0, no_place) (omega arith)))
    (grows-more c.loop-index.invariant (grows-more c.put_separator.ensures (rw c.placed_declared-declared.ensures at c.put_placed.ensures)))

pub returns : goal.returns
returns g c =
    let says = placed_object c.args.cluster.now c.args.description.now c.args.frame in
    let all = take_all c.loop-index.index (places_of c.args.cluster.now c.args.frame) (omega arith) in
    grows-list (codes "places") _ c.put_list.ensures
    (same-growth (ap (λ ps. with_commas (numbered_values says 0 ps)) all) c.loop-index.invariant) c.put_byte.ensures
