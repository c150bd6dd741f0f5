use Rattle.std.proofs.Common.{◌∙◌, sym, ap, refl}
use Rattle.lin_core.specs.Core.{entry_with_reply, past_of}
use Rattle.lin_core.specs.History.{events}
use Rattle.lin_core.specs.declared.link.Direction.TheVariants.{Down, Up}
use Rattle.lin_core.specs.declared.step.Step.TheVariants.{Finish}
use Rattle.lin_bench.specs.Adding.{good_in}
use Rattle.lin_bench.proofs.HeardLinks.{none-heard, past-one, some-heard}
use Rattle.lin_bench.proofs.Makes.{newest-past}
use Rattle.lin_bench.proofs.ends.Ends.hear.Goals as goal

pub returns-in-Some : goal.returns-in-Some
returns-in-Some c old by s after plain told downs ups =
    let is = newest-past c.args.core.now (entry_with_reply old by Finish) c.newest.result.now (past_of old) (past-one old c.args.core.now by Finish after.log) c.newest.ensures in
    let some = ap (λ e. good_in (events e)) (sym is) ∙ sym c.good_bytes.ensures ∙ rw c.in-Some.is refl in
    let now = c.time.ensures in
    let cluster = c.cluster.ensures in (
      some-heard old c.args.core.now by s c.in-Some.bytes.now Down _ _ after some downs (λ g. rw (cluster, now) at c.hear_good.ensures.down s plain g told),
      some-heard old c.args.core.now by s c.in-Some.bytes.now Up _ _ after some ups (λ g. rw (cluster, now) at c.hear_good.ensures.up s plain g told),
    )

pub returns-in_default : goal.returns-in_default
returns-in_default c old by s after plain told downs ups =
    let is = newest-past c.args.core.now (entry_with_reply old by Finish) c.newest.result.now (past_of old) (past-one old c.args.core.now by Finish after.log) c.newest.ensures in
    let none = ap (λ e. good_in (events e)) (sym is) ∙ sym c.good_bytes.ensures ∙ rw c.in_default.is refl in
    (none-heard old c.args.core.now by s Down _ after none downs, none-heard old c.args.core.now by s Up _ after none ups)
