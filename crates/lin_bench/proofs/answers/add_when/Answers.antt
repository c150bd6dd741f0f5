use Rattle.std.proofs.Common.{◌≡◌, ◌∙◌, ℕ, suc, zero, ◌<◌, true, false, List, [], ◌∷◌, ◌++◌, refl, sym, ap, arith, get_or, length, set}
use Rattle.std.specs.List.{position}
use Rattle.std.proofs.lemmas.List.Quantifiers.{position-Some}
use Rattle.lin_bench.specs.Rules.{same_rule, whens_with}
use Rattle.lin_bench.specs.declared.rules.When.{When}
use Rattle.lin_bench.proofs.Places.{none-at}
use Rattle.lin_bench.proofs.answers.add_when.Goals as goal

in-place : (vs : List When) (w d : When) (i : ℕ) → i < length vs → same_rule w (get_or vs i d) ≡ true
    → ((k : ℕ) → k < i → same_rule w (get_or vs k d) ≡ false) → whens_with vs w ≡ set vs i w
in-place [] w d i h this before = absurd (omega arith)
in-place (v ∷ vs) w d zero h this before = rw this refl
in-place (v ∷ vs) w d (suc i) h this before =
    rw (before 0 (omega arith)) (ap (λ l. v ∷ l) (in-place vs w d i (omega arith) this (λ k q. before (suc k) (omega arith))))

behind-all : (vs : List When) (w d : When) → ((k : ℕ) → k < length vs → same_rule w (get_or vs k d) ≡ false) → whens_with vs w ≡ vs ++ w ∷ []
behind-all [] w d others = refl
behind-all (v ∷ vs) w d others =
    rw (others 0 (omega arith)) (ap (λ l. v ∷ l) (behind-all vs w d (λ k q. others (suc k) (omega arith))))

pub returns-in-Some : goal.returns-in-Some
returns-in-Some c =
    let vs = c.args.whens.now in
    let w = c.args.when in
    let i = c.in-Some.index in
    let at = position-Some (same_rule w) vs i w (ap (position (same_rule w)) (sym c.as_slice.ensures) ∙ sym c.place_of.ensures ∙ c.in-Some.is) in
    c.set.ensures ∙ sym (in-place vs w w i at.0 at.1 at.2)

pub returns-in-None : goal.returns-in-None
returns-in-None c =
    let vs = c.args.whens.now in
    let w = c.args.when in
    let e = behind-all vs w w (none-at (same_rule w) vs w (ap (position (same_rule w)) (sym c.as_slice.ensures) ∙ sym c.place_of.ensures ∙ c.in-None.is)) in
    rw e c.push.ensures
