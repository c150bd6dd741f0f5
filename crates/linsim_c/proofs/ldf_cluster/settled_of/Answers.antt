use Rattle.linsim_c.proofs.Texts.{tells_field}
use Rattle.linsim_c.proofs.ldf_cluster.settled_of.Goals as goal

pub returns-in-Err : goal.returns-in-Err
returns-in-Err c =
    tells_field c.args.bytes.now c.read_field.new.bytes c.fault_of.result c.in-Err.fault c.fault_of.ensures c.in-Err.ensures.only c.in-Err.ensures.first
