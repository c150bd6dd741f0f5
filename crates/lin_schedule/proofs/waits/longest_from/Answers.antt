use Rattle.std.proofs.Common.{◌≡◌, ℕ, ◌+◌, ◌*◌, ap, ◌∙◌, arith}
use Rattle.std.specs.Prelude.{slice_index}
use Rattle.lin_schedule.specs.Rounds.{after_of}
use Rattle.lin_schedule.proofs.Resolving.{longest_from-summary, longest_from-straight}
use Rattle.lin_schedule.proofs.waits.longest_from.Goals as goal

pub returns-in-Some : goal.returns-in-Some
returns-in-Some c = λ c' k known.
    let slots : ℕ = c.args.after.now.slots in
    let place : ℕ = c.args.after.now.place in
    let after : ℕ → ℕ = after_of c.args.after.now.times.now slots place in
    let first : 0 * slots + place ≡ place = omega arith in
    let done : after 0 ≡ 0 = ap (slice_index c.args.after.now.times.now) first ∙ c.requires.done in
    let whole = longest_from-summary c' k c.args.count c.args.line after c.in-Some.excursion.now done c.requires.some
    (c.in-Some.ensures.is c' k c.args.count known.0 known.1) in
    cc (whole, c.max-in-Some.ensures, c.from-delay.ensures, c.max.ensures, c.of-straight.ensures.value, c.through.ensures.value, c.longest.ensures)

pub returns-in-None : goal.returns-in-None
returns-in-None c = λ c' k known.
    let after : ℕ → ℕ = after_of c.args.after.now.times.now c.args.after.now.slots c.args.after.now.place in
    let whole = longest_from-straight c' k c.args.line c.args.count after (c.in-None.ensures.is c' k c.args.count known.0 known.1) in
    cc (whole, c.from-delay.ensures, c.of-straight.ensures.value)
