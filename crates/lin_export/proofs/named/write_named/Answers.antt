use Rattle.std.proofs.Common.{[], append-nil, ◌∙◌}
use Rattle.lin_export.specs.NamedWords.{named_entry}
use Rattle.lin_export.specs.Telling.{each_entry}
use Rattle.lin_export.specs.WhereTold.{given_coding}
use Rattle.lin_export.proofs.Lines.{log-entries}
use Rattle.lin_export.proofs.Puttings.{written-same}
use Rattle.lin_export.proofs.named.write_named.Goals as goal

pub returns : goal.returns
returns g c =
    let x = c.args.cluster.now in
    let k = given_coding c.args.coded in
    let log = c.args.log.now.entries in
    written-same (append-nil (each_entry (named_entry x k) [] log) ∙ log-entries x k [] log) c.write_as.ensures
