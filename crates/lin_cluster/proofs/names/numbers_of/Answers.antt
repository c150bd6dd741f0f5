use Rattle.std.proofs.Common.{ap, ◌∙◌}
use Rattle.std.specs.List.{position_from}
use Rattle.std.specs.Str.{bytes_eq}
use Rattle.std.proofs.lemmas.List.{take_all}
use Rattle.indexmap.specs.IndexMap.{get_by}
use Rattle.lin_cluster.proofs.NamesFound.{numbered_more}
use Rattle.lin_cluster.proofs.names.numbers_of.Goals as goal
use Rattle.lin_parts.specs.declared.description.Name.{Name}

pub loop-number-preserved : goal.loop-number-preserved
loop-number-preserved g c = λ q.
    numbered_more (λ x. bytes_eq (g.T.Named.name_of x).text q) c.args.all.now c.loop-number.number c.index-all-number.result _
    (get_by (λ k. bytes_eq q k.now) c.loop-number.numbers.map) (get_by (λ k. bytes_eq q k.now) c.add.new.map)
    c.loop-number-test.true c.index-all-number.is (ap (λ t. bytes_eq t q) (c.as_slice.ensures ∙ ap (λ (n : Name). n.text) c.name.ensures)) (c.loop-number.invariant q) (c.in_ok-add.ensures q)

pub returns : goal.returns
returns g c = λ q. c.loop-number.invariant q ∙ ap (position_from (λ x. bytes_eq (g.T.Named.name_of x).text q) 0) (take_all c.loop-number.number c.args.all.now c.loop-number-test.false)
