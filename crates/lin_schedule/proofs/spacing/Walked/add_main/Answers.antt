use Rattle.std.proofs.Common.{◌≡◌, ℕ, ◌+◌, false, Option, ap, sym, ◌∙◌, arith}
use Rattle.lin_parts.specs.declared.parts.Line.{Line}
use Rattle.lin_schedule.specs.Occurs.{is_own}
use Rattle.lin_schedule.specs.declared.spacing.Extremes.{Extremes}
use Rattle.lin_schedule.specs.declared.spacing.Walked.{Walked}
use Rattle.lin_schedule.proofs.Stretches.{main-straight, main-round}
use Rattle.lin_schedule.proofs.spacing.Walked.add_main.Goals as goal
use Rattle.lin_schedule.proofs.spacing.Walked.add_main.Goals.{in-Some, in_default}

pub returns-clause-least : goal.returns-clause-least
returns-clause-least c = λ c' known.
    let line : Line = c.args.line in
    let a : ℕ = c.args.self.now.next.shortest in
    let b : ℕ = c.args.self.now.next.longest in
    let gaps : Option Extremes = c.args.self.now.gaps in
    let other : is_own c.args.frame line.entry ≡ false = sym c.is_own.ensures ∙ c.if-is_own.false in
    let later : c.later-self.result.shortest ≡ c.from.result + c.match-stretch_of.self.next.shortest =
    ap (λ (e : Extremes). e.shortest) c.later-self.ensures in
    elim c.match-stretch_of.branch [
      | in-Some w ↦
          let found = w.in-Some.ensures.is c' c.args.frame known.0 known.1 in
          let all = main-round c' c.args.frame line a b w.in-Some.stretch.total w.in-Some.stretch.own gaps other found.0 found.1 in
          let its = all.0 in
          let next = ap (λ (walked : Walked). walked.next.shortest) w.self-is in
          let round = w.add_round.ensures.shortest in
          omega (arith, later, c.from.ensures, next, round, its)
      | in_default w ↦
          let all = main-straight c' c.args.frame line a b gaps other (w.in_default.ensures.is c' c.args.frame known.0 known.1) in
          let its = all.0 in
          let next = ap (λ (walked : Walked). walked.next.shortest) w.self-is in
          omega (arith, later, c.from.ensures, next, its)
    ]

pub returns-clause-most : goal.returns-clause-most
returns-clause-most c = λ c' known.
    let line : Line = c.args.line in
    let a : ℕ = c.args.self.now.next.shortest in
    let b : ℕ = c.args.self.now.next.longest in
    let gaps : Option Extremes = c.args.self.now.gaps in
    let other : is_own c.args.frame line.entry ≡ false = sym c.is_own.ensures ∙ c.if-is_own.false in
    let later : c.later-self.result.longest ≡ c.from.result + c.match-stretch_of.self.next.longest =
    ap (λ (e : Extremes). e.longest) c.later-self.ensures in
    elim c.match-stretch_of.branch [
      | in-Some w ↦
          let found = w.in-Some.ensures.is c' c.args.frame known.0 known.1 in
          let all = main-round c' c.args.frame line a b w.in-Some.stretch.total w.in-Some.stretch.own gaps other found.0 found.1 in
          let its = all.1 in
          let next = ap (λ (walked : Walked). walked.next.longest) w.self-is in
          let round = w.add_round.ensures.longest in
          omega (arith, later, c.from.ensures, next, round, its)
      | in_default w ↦
          let all = main-straight c' c.args.frame line a b gaps other (w.in_default.ensures.is c' c.args.frame known.0 known.1) in
          let its = all.1 in
          let next = ap (λ (walked : Walked). walked.next.longest) w.self-is in
          omega (arith, later, c.from.ensures, next, its)
    ]

pub returns-clause-gaps : goal.returns-clause-gaps
returns-clause-gaps c = λ c' known.
    let line : Line = c.args.line in
    let a : ℕ = c.args.self.now.next.shortest in
    let b : ℕ = c.args.self.now.next.longest in
    let gaps : Option Extremes = c.args.self.now.gaps in
    let other : is_own c.args.frame line.entry ≡ false = sym c.is_own.ensures ∙ c.if-is_own.false in
    elim c.match-stretch_of.branch [
      | in-Some w ↦
          let found = w.in-Some.ensures.is c' c.args.frame known.0 known.1 in
          let all = main-round c' c.args.frame line a b w.in-Some.stretch.total w.in-Some.stretch.own gaps other found.0 found.1 in
          ap (λ (walked : Walked). walked.gaps) w.self-is ∙ w.add_round.ensures.gaps ∙ sym all.2
      | in_default w ↦
          let all = main-straight c' c.args.frame line a b gaps other (w.in_default.ensures.is c' c.args.frame known.0 known.1) in
          ap (λ (walked : Walked). walked.gaps) w.self-is ∙ sym all.2
    ]
