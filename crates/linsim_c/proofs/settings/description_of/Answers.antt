use Rattle.linsim_c.proofs.Texts.{tells_fault}
use Rattle.linsim_c.proofs.settings.description_of.Goals as goal

pub returns-in-Err : goal.returns-in-Err
returns-in-Err c = tells_fault c.args.ldf.now c.fault_of.result c.in-Err.fault c.fault_of.ensures c.in-Err.ensures.only c.in-Err.ensures.first
