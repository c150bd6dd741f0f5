use Rattle.std.proofs.Common.{codes}
use Rattle.lin_export.specs.Jsonl.{bytes_member, sending_members}
use Rattle.lin_export.proofs.Objects.{grows-object, puts-all, puts-more, puts-one}
use Rattle.lin_export.proofs.jsonl.put_accepted.Goals as goal

pub returns : goal.returns
returns g c =
    let x = c.args.cluster.now in
    rw c.in-Send.is
    (grows-object (codes "accepted") c.put_type.ensures
    (puts-more (puts-all (sending_members x c.args.at c.args.host c.args.number c.in-Send.to) c.put_sending.ensures)
    (puts-one (bytes_member c.in-Send.message) (rw c.as_slice.ensures at c.put_member.ensures)))
    c.put.ensures)
