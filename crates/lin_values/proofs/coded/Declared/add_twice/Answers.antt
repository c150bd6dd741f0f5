use Rattle.std.proofs.Common.{◌<◌, ◌++◌, length, ap, sym, ◌∙◌, arith}
use Rattle.std.specs.Prelude.{nat_lt}
use Rattle.lin_cluster.specs.FindingsNames.{when}
use Rattle.lin_values.proofs.NamedLines.{twice-step}
use Rattle.lin_values.specs.Gathered.{DeclaredData}
use Rattle.lin_values.specs.declared.codings.CodingType.{CodingType}
use Rattle.lin_values.proofs.coded.Declared.add_twice.Goals as goal

pub loop-number-preserved : goal.loop-number-preserved
loop-number-preserved c =
    let lt : c.loop-number.number < length c.self.inside.encodings.now = omega arith in
    twice-step c.args.self.now.types c.self.inside.encodings.now c.loop-number.number c.index-self-number.result c.number_by-first.result c.name-name.result.now c.args.warned.now.items c.loop-number.warned.items c.push_when.new.found.items
    (ap (λ (d : DeclaredData). d.types) c.self.view_is) lt c.index-self-number.is (c.name-name.ensures ∙ ap (λ (t : CodingType). t.name) (sym c.index-self-number.is)) c.number_by-first.ensures c.loop-number.invariant
    (c.in_ok-push_when.ensures ∙ ap (λ f. c.loop-number.warned.items ++ when (nat_lt c.number_by-first.result c.loop-number.number) f) c.at_name.ensures)
