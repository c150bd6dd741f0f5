use Rattle.std.proofs.Common.{List, ℕ, codes, map, sym, ap, arith}
use Rattle.std.proofs.lemmas.List.{take_all}
use Rattle.lin_text.proofs.Growing.{grows-more, same-growth}
use Rattle.lin_parts.specs.Cluster.{frame_name}
use Rattle.lin_export.specs.Json.{quoted_text, with_commas}
use Rattle.lin_export.proofs.Objects.{grows-list, joined-more}
use Rattle.lin_export.proofs.check_object.frame_objects.put_members_of.Goals as goal

pub loop-place-preserved : goal.loop-place-preserved
loop-place-preserved g c =
    let says : ℕ → List ℕ = λ f. quoted_text (frame_name c.args.cluster.now f) in
    same-growth (sym (joined-more says c.args.frames.now c.loop-place.place 0 (omega arith)))
    (grows-more c.loop-place.invariant (grows-more c.put_separator.ensures (rw c.frame_name.ensures at c.put_quoted.ensures)))

pub returns : goal.returns
returns g c =
    let all = take_all c.loop-place.place c.args.frames.now (omega arith) in
    grows-list (codes "frames") _ c.put_list.ensures (same-growth (ap (λ l. with_commas (map (λ f. quoted_text (frame_name c.args.cluster.now f)) l)) all) c.loop-place.invariant) c.put_byte.ensures
