use Rattle.std.proofs.Common.{◌++◌, [], ap, append-nil}
use Rattle.lin_export.specs.Pcap.{file_header, packets}
use Rattle.lin_export.specs.Telling.{each_entry}
use Rattle.lin_export.proofs.Puttings.{written-same}
use Rattle.lin_export.proofs.pcap.write_pcap.Goals as goal

pub returns : goal.returns
returns g c = written-same (ap (λ l. file_header ++ l) (append-nil (each_entry (packets c.args.cluster.now) [] c.args.log.now.entries))) c.write_as.ensures
