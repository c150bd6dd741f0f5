use Rattle.std.proofs.Common.{List, ℕ, sym, ap, arith}
use Rattle.lin_text.proofs.Growing.{grows-more, same-growth}
use Rattle.lin_values.specs.declared.codings.CodingType.{CodingType}
use Rattle.lin_export.specs.ClusterObject.{encoding_object}
use Rattle.lin_export.proofs.Objects.{joined-more}
use Rattle.lin_export.proofs.check_object.encodings.put_all_encodings.Goals as goal

pub loop-place-preserved : goal.loop-place-preserved
loop-place-preserved g c =
    let says : CodingType → List ℕ = encoding_object in
    same-growth (sym (joined-more says c.args.encodings.now c.loop-place.place c.index-encodings-place.result (omega arith)))
    (grows-more c.loop-place.invariant (grows-more c.put_separator.ensures (same-growth (ap says c.index-encodings-place.is) c.put_encoding.ensures)))
