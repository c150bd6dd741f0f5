use Rattle.std.proofs.Common.{sym, ap}
use Rattle.lin_export.specs.Vcd.{event_group, number_change}
use Rattle.lin_export.proofs.Groups.{groups-one, same-groups}
use Rattle.lin_export.proofs.vcd.put_event.Goals as goal

pub returns-in-Accepted : goal.returns-in-Accepted
returns-in-Accepted g c = λ count are. same-groups (ap (event_group c.args.cluster.now c.args.at count) (sym c.in-Accepted.is)) (c.put_count.ensures count are)

pub returns-in-Sent : goal.returns-in-Sent
returns-in-Sent g c = λ count are. same-groups (ap (event_group c.args.cluster.now c.args.at count) (sym c.in-Sent.is)) (c.put_count-in-Sent.ensures count are)

pub returns-in-Lost : goal.returns-in-Lost
returns-in-Lost g c = λ count are. same-groups (ap (event_group c.args.cluster.now c.args.at count) (sym c.in-Lost.is)) (c.put_count-in-Lost.ensures count are)

pub returns-in-Asleep : goal.returns-in-Asleep
returns-in-Asleep g c = λ count are.
    same-groups (ap (event_group c.args.cluster.now c.args.at count) (sym c.in-Asleep.is))
    (groups-one c.args.last.now c.put_stamp.new.last c.args.at (number_change 1 5 1) c.put_stamp.ensures.text c.put_stamp.ensures.shown c.put_number.ensures)
