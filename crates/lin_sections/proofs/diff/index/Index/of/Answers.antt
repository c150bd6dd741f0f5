use Rattle.std.proofs.Common.{◌≤◌, ◌<◌, length, map, ap, arith, ◌∙◌}
use Rattle.std.specs.List.{position_from}
use Rattle.std.specs.Str.{bytes_eq}
use Rattle.std.proofs.lemmas.List.{take_all}
use Rattle.lin_cluster.proofs.NamesFound.{numbered_more}
use Rattle.lin_sections.proofs.FactSteps.{mapped-at}
use Rattle.lin_sections.proofs.Found.{mapped-length}
use Rattle.lin_sections.proofs.diff.index.Index.of.Goals as goal

pub loop-place-preserved : goal.loop-place-preserved
loop-place-preserved g c = λ q.
    let lt : c.loop-place.place < length c.args.all.now = omega arith in
    let within : c.loop-place.place < length (map g.T.Identified.id_of c.args.all.now) =
    omega (arith, mapped-length g.T.Identified.id_of c.args.all.now) in
    numbered_more (λ t. bytes_eq t q) (map g.T.Identified.id_of c.args.all.now) c.loop-place.place _ _ _ _ within
    (mapped-at g.T.Identified.id_of c.args.all.now c.loop-place.place c.index-all-place.result lt)
    (ap (λ t. bytes_eq t q) (c.id.ensures ∙ ap g.T.Identified.id_of c.index-all-place.is)) (c.loop-place.invariant q) (c.in_ok-put_first.ensures.put q)

pub returns : goal.returns
returns g c = λ q.
    let size : length (map g.T.Identified.id_of c.args.all.now) ≤ c.loop-place.place =
    omega (arith, mapped-length g.T.Identified.id_of c.args.all.now) in
    c.loop-place.invariant q
    ∙ ap (position_from (λ t. bytes_eq t q) 0) (take_all c.loop-place.place (map g.T.Identified.id_of c.args.all.now) size)
