use Rattle.std.proofs.Common.{◌≡◌, ℕ, ◌+◌, ◌-◌, ◌*◌, Bool, ap, sym, ◌∙◌, arith}
use Rattle.std.specs.Prelude.{if◌then◌else◌, slice_index}
use Rattle.lin_schedule.specs.Ahead.{left}
use Rattle.lin_schedule.specs.Carriers.{Carriers}
use Rattle.lin_schedule.specs.Rounds.{after_of}
use Rattle.lin_schedule.proofs.Resolving.{ahead_of-summary, ahead_of-straight}
use Rattle.lin_schedule.proofs.waits.ahead_of.Goals as goal
use Rattle.lin_schedule.proofs.waits.ahead_of.Goals.{then-carries, else-carries, in-Some, in-None}

pub returns-clause-value : goal.returns-clause-value
returns-clause-value c = λ c' n known.
    let k : Carriers = c.args.awaited.now in
    let wanted : ℕ = c.args.wanted in
    let slots : ℕ = c.args.after.now.slots in
    let place : ℕ = c.args.after.now.place in
    let after : ℕ → ℕ = after_of c.args.after.now.times.now slots place in
    let first : 0 * slots + place ≡ place = omega arith in
    let done : after 0 ≡ 0 = ap (slice_index c.args.after.now.times.now) first ∙ c.requires.done in
    let left_is : c.if-carries.left ≡ left k c.args.line.entry wanted =
    elim c.if-carries.branch [
      | then-carries w ↦ w.left-is ∙ sym (ap (λ (b : Bool). if b then wanted - 1 else wanted) (sym c.carries.ensures ∙ w.if-carries.true))
      | else-carries w ↦ w.left-is ∙ sym (ap (λ (b : Bool). if b then wanted - 1 else wanted) (sym c.carries.ensures ∙ w.if-carries.false))
    ] in
    let straight_is : c.of-straight.result ≡ after (left k c.args.line.entry wanted) = c.of-straight.ensures.value ∙ ap after left_is in
    elim c.match-excursion_of.branch [
      | in-Some w ↦
          let whole = ahead_of-summary c' k n c.args.line wanted after w.in-Some.excursion.now done c.requires.some
          (w.in-Some.ensures.is c' k n known.0 known.1) in
          cc (whole, w.through.ensures.value, w.longer-is, straight_is, w.max-longer.ensures, c.from.ensures)
      | in-None w ↦
          let whole = ahead_of-straight c' k c.args.line wanted after (w.in-None.ensures.is c' k n known.0 known.1) in
          cc (whole, w.longer-is, straight_is, c.from.ensures)
    ]
