use Rattle.std.proofs.Common.{◌≡◌, ℕ, ◌+◌, ◌-◌, ◌<◌, List, length, take, get_or, min, max, ap, sym, ◌∙◌, arith}
use Rattle.std.proofs.lemmas.Grind.{get_or_default_zero}
use Rattle.lin_schedule.specs.Excursions.{longest_open}
use Rattle.lin_schedule.specs.Rounds.{after_of}
use Rattle.lin_schedule.proofs.Resolving.{longest_open-more, longest_open-whole}
use Rattle.lin_schedule.proofs.excursion.Excursion.longest.Goals as goal

max-joined : (a b d : ℕ) → max (max a b) d ≡ max a (max b d)
max-joined a b d = omega arith

pub loop-open-preserved : goal.loop-open-preserved
loop-open-preserved c =
    let starts : List ℕ = c.args.self.now.starts.items in
    let after : ℕ → ℕ = after_of c.args.after.now.times.now c.args.after.now.slots c.args.after.now.place in
    let many : length starts ≡ c.len.result = omega (arith, c.args.self.now.starts.ok.0, c.len.ensures) in
    let lt : c.loop-open.open < length starts = omega (arith, c.min-open-end.ensures, c.loop-open-test.true) in
    let few : c.loop-open.open < c.args.wanted = omega (arith, c.min-open-end.ensures, c.loop-open-test.true) in
    let within : ℕ = c.args.self.now.within in
    let former : ℕ = longest_open (take c.loop-open.open starts) c.args.wanted after in
    let start : ℕ = get_or starts c.loop-open.open 0 in
    let element : c.index.result.now ≡ start = c.index.ensures ∙ get_or_default_zero starts c.loop-open.open c.index.result.now lt in
    c.max-longest.ensures
    ∙ ap (λ (x : ℕ). max x (c.index.result.now + c.of.result)) c.loop-open.invariant
    ∙ ap (λ (x : ℕ). max (max within former) (x + c.of.result)) element
    ∙ ap (λ (x : ℕ). max (max within former) (start + x)) c.of.ensures.value
    ∙ max-joined within former (start + after (c.args.wanted - c.loop-open.open))
    ∙ ap (λ (x : ℕ). max within x) (sym (longest_open-more starts c.args.wanted c.loop-open.open after lt few))

pub returns : goal.returns
returns c =
    let starts : List ℕ = c.args.self.now.starts.items in
    let after : ℕ → ℕ = after_of c.args.after.now.times.now c.args.after.now.slots c.args.after.now.place in
    let many : length starts ≡ c.len.result = omega (arith, c.args.self.now.starts.ok.0, c.len.ensures) in
    let all : c.loop-open.open ≡ min (length starts) c.args.wanted =
    omega (arith, c.min-open-end.ensures, c.loop-open-test.false, c.loop-open.auto.open-end) in
    c.loop-open.invariant
    ∙ ap (λ (x : ℕ). max c.args.self.now.within (longest_open (take x starts) c.args.wanted after)) all
    ∙ ap (λ (x : ℕ). max c.args.self.now.within x) (longest_open-whole starts c.args.wanted after)
