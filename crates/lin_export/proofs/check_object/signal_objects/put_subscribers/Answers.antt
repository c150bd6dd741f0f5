use Rattle.std.proofs.Common.{List, ℕ, codes, map, sym, ap, arith}
use Rattle.std.proofs.lemmas.List.{take_all}
use Rattle.lin_text.proofs.Growing.{grows-more, same-growth}
use Rattle.lin_parts.specs.declared.description.Name.{Name}
use Rattle.lin_export.specs.Json.{quoted_text, with_commas}
use Rattle.lin_export.proofs.Objects.{grows-list, joined-more}
use Rattle.lin_export.proofs.check_object.signal_objects.put_subscribers.Goals as goal

pub loop-place-preserved : goal.loop-place-preserved
loop-place-preserved g c =
    let says : Name → List ℕ = λ n. quoted_text n.text in
    same-growth (sym (joined-more says c.args.names.now c.loop-place.place c.index-names-place.result (omega arith)))
    (grows-more c.loop-place.invariant (grows-more c.put_separator.ensures (rw c.as_slice.ensures at c.put_quoted.ensures)))

pub returns : goal.returns
returns g c =
    let all = take_all c.loop-place.place c.args.names.now (omega arith) in
    grows-list (codes "subscribers") _ c.put_list.ensures (same-growth (ap (λ l. with_commas (map (λ n. quoted_text n.text) l)) all) c.loop-place.invariant) c.put_byte.ensures
