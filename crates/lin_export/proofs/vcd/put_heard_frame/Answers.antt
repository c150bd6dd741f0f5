use Rattle.std.proofs.Common.{◌≡◌, sym, ap, ◌∙◌}
use Rattle.std.specs.Prelude.{Some}
use Rattle.lin_core.specs.History.{good, good_bytes}
use Rattle.lin_core.specs.Signals.{carried_frame}
use Rattle.lin_export.specs.Look.{seen_as}
use Rattle.lin_export.specs.Open.{tracked_slot}
use Rattle.lin_export.specs.Vcd.{heard_changes}
use Rattle.lin_export.specs.WhereTold.{given_coding}
use Rattle.lin_export.proofs.Groups.{groups-one, heard-one, same-groups}
use Rattle.lin_export.proofs.vcd.put_heard_frame.Goals as goal

pub returns : goal.returns
returns g c =
    let x = c.args.cluster.now in
    let k = given_coding c.args.coded in
    let slot = tracked_slot c.args.slot.now in
    let bytes = c.in-Good.answer.now in
    let is_good : good slot ≡ Some bytes = ap good_bytes (sym c.look.ensures ∙ ap seen_as c.in-Good.is) in
    let frame : carried_frame x slot ≡ Some c.in-Some.frame = sym c.carried.ensures.frame ∙ c.in-Some.is in
    same-groups (sym (heard-one x k c.args.end slot bytes c.in-Some.frame is_good frame))
    (groups-one c.args.last.now c.put_stamp.new.last c.args.end (heard_changes x k bytes c.in-Some.frame) c.put_stamp.ensures.text c.put_stamp.ensures.shown
    c.put_heard_changes.ensures)
