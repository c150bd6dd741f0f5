use Rattle.std.proofs.Common.{◌++◌, [], ap, append-nil}
use Rattle.lin_export.specs.Csv.{head_line, csv_row}
use Rattle.lin_export.specs.Telling.{each_entry}
use Rattle.lin_export.specs.WhereTold.{given_coding}
use Rattle.lin_export.proofs.Puttings.{written-same}
use Rattle.lin_export.proofs.csv.write_csv.Goals as goal

pub returns : goal.returns
returns g c =
    let x = c.args.cluster.now in
    let k = given_coding c.args.coded in
    written-same (ap (λ l. head_line x k ++ l) (append-nil (each_entry (csv_row x k) [] c.args.log.now.entries))) c.write_as.ensures
