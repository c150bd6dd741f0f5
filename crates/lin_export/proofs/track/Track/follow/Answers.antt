use Rattle.std.proofs.Common.{sym, ap, ◌∙◌}
use Rattle.std.specs.Prelude.{option_map}
use Rattle.lin_export.specs.Open.{tracked_slot}
use Rattle.lin_export.proofs.Slots.{track-answer}
use Rattle.lin_export.proofs.track.Track.follow.Goals as goal

pub returns-in_ok-tell_all-in-Answer-clause-kept : goal.returns-in_ok-tell_all-in-Answer-clause-kept
returns-in_ok-tell_all-in-Answer-clause-kept c = λ past e.
    track-answer c.args.cluster.now past c.args.entry.now c.in-Done.events c.in-Answer.node (tracked_slot c.in-Some.slot) (tracked_slot c.tell_all-in-Some.new.self)
    (record { slot = option_map tracked_slot c.self.inside.slot; time = c.self.inside.time; slots = c.self.inside.slots; hurt = c.self.inside.hurt.items })
    c.in-Done.is c.in-Answer.is (c.self.view_is ∙ e) (ap (option_map tracked_slot) (sym c.in-Some.is))
    (rw (c.in_ok-tell_all-in-Answer.was, c.as_slice-in-Some.ensures) at c.tell_all-in-Some.ensures)
