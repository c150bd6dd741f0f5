use Rattle.std.proofs.Common.{◌≡◌, sym, ap, ◌∙◌}
use Rattle.std.specs.Prelude.{Option, Some}
use Rattle.std.specs.Option.{unwrap_or}
use Rattle.lin_frame.specs.declared.value.Value.{Value}
use Rattle.lin_core.specs.History.{good, good_bytes}
use Rattle.lin_export.specs.Look.{seen_as}
use Rattle.lin_export.specs.Open.{tracked_slot}
use Rattle.lin_export.proofs.Rows.{hears-value}
use Rattle.lin_export.proofs.hearing.hear_slot.Goals as goal

pub returns-clause-heard : goal.returns-clause-heard
returns-clause-heard c = λ g p s v at.
    let x = c.args.cluster.now in
    let slot = tracked_slot c.args.slot.now in
    let bytes = c.in-Good.answer.now in
    let is_good : good slot ≡ Some bytes = ap good_bytes (sym c.look.ensures ∙ ap seen_as c.in-Good.is) in
    let is = hears-value x slot s bytes c.in-Some.frame is_good (sym c.carried.ensures.frame ∙ c.in-Some.is) in
    c.hear_frame.ensures.heard g p s v at
    ∙ ap (λ (o : Option Value). unwrap_or o (g s)) (sym is)
