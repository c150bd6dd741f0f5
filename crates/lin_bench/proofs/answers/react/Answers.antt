use Rattle.std.proofs.Common.{◌≡◌, ◌∙◌, Some, None, refl, ap, Result, Ok, Err, OnOk}
use Rattle.std.specs.Option.{option_copied}
use Rattle.lin_bench.specs.Rules.{all_noted, with_answers, states_after_entering, noted_answers, rules_after_reaction, rule_for, service_notes, state_of}
use Rattle.lin_bench.proofs.answers.react.Goals as goal

on-both : {T E P Q R : Type 0} (r : Result T E) → (P → Q → R) → OnOk r P → OnOk r Q → OnOk r R
on-both (Ok x) f p q = f p q
on-both (Err e) f p q = p

on-one : {T E P R : Type 0} (r : Result T E) → (P → R) → OnOk r P → OnOk r R
on-one (Ok x) f p = f p
on-one (Err e) f p = p

pub returns-in-Some : goal.returns-in-Some
returns-in-Some c =
    let rules = c.args.rules.now in
    let at = c.args.at in
    let found = rw (c.as_slice-whens.ensures, c.state_of-state.ensures, c.as_slice.ensures) at c.rule_for.ensures in
    let is : Some c.in-Some.when.now ≡ rule_for rules.whens at.node (state_of rules.states at.node) at.message.now = rw c.in-Some.is at found in
    on-both c.apply.result
    (λ (s : c.apply.new.states ≡ states_after_entering rules.states at.node c.in-Some.when.now.enter)
    (n : c.apply.new.noted ≡ with_answers at.to_all rules.noted (noted_answers at.time at.node at.message.now c.in-Some.when.now.answers)).
    rw (← is, s, n) refl)
    c.apply.ensures.states c.apply.ensures.noted

pub returns-in-None : goal.returns-in-None
returns-in-None c =
    let rules = c.args.rules.now in
    let at = c.args.at in
    let found = rw (c.as_slice-whens.ensures, c.state_of-state.ensures, c.as_slice.ensures) at c.rule_for.ensures in
    let is : None ≡ rule_for rules.whens at.node (state_of rules.states at.node) at.message.now = rw c.in-None.is at found in
    rw (← is, c.if-at.true) refl

pub returns-in-None-2 : goal.returns-in-None-2
returns-in-None-2 c =
    let rules = c.args.rules.now in
    let at = c.args.at in
    let found = rw (c.as_slice-whens.ensures, c.state_of-state.ensures, c.as_slice.ensures) at c.rule_for.ensures in
    let is : None ≡ rule_for rules.whens at.node (state_of rules.states at.node) at.message.now = rw c.in-None-2.is at found in
    on-one c.note_service.result
    (λ (n : c.note_service.new.noted ≡ all_noted rules.noted (service_notes (option_copied at.served) at.time at.node at.message.now)).
    rw (← is, n, c.if-at.false) refl)
    c.note_service.ensures
