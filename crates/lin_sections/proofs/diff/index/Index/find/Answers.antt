use Rattle.std.proofs.Common.{map, ◌∙◌}
use Rattle.lin_cluster.proofs.NamesFound.{lent-at}
use Rattle.lin_sections.proofs.Found.{found, not-found}
use Rattle.lin_sections.proofs.diff.index.Index.find.Goals as goal

pub returns-in-Some : goal.returns-in-Some
returns-in-Some g c =
    lent-at c.args.all.now c.in-Some.place c.get.result c.get.ensures.lookup
    ∙ found g.T.Identified.id_of c.args.id.now c.args.all.now c.in-Some.place
    (c.in-Some.ensures (map g.T.Identified.id_of c.args.all.now) c.requires)

pub returns-in-None : goal.returns-in-None
returns-in-None g c =
    not-found g.T.Identified.id_of c.args.id.now c.args.all.now
    (c.in-None.ensures (map g.T.Identified.id_of c.args.all.now) c.requires)
