use Rattle.std.proofs.Common.{◌≡◌, ◌∙◌, ◌+◌, ◌<◌, ℕ, zero, suc, true, false, List, [], ◌∷◌, ◌++◌, OnOk, Option, Result, Ok, Err, Some, None, ap, arith, get_or, length, refl, set, sym}
use Rattle.std.specs.List.{position}
use Rattle.std.specs.Str.{bytes_eq}
use Rattle.std.proofs.lemmas.List.Quantifiers.{position-Some}
use Rattle.lin_bench.specs.Resolved.{with_parameter}
use Rattle.lin_bench.specs.declared.parameters.Parameter.{Parameter}
use Rattle.lin_bench.proofs.Places.{none-at}
use Rattle.lin_bench.proofs.parameters.set_parameter.Goals as goal

changed : (ps : List Parameter) (q d : Parameter) (i : ℕ) → i < length ps → bytes_eq (get_or ps i d).name q.name ≡ true
    → ((k : ℕ) → k < i → bytes_eq (get_or ps k d).name q.name ≡ false) → set ps i q ≡ with_parameter ps q.name q.text
changed [] q d i h this before = absurd (omega (arith, h))
changed (p ∷ ps) q d zero h this before = rw this refl
changed (p ∷ ps) q d (suc i) h this before =
    rw (before 0 (omega arith)) (ap (λ l. p ∷ l) (changed ps q d i (omega (arith, h)) this (λ k s. before (suc k) (omega (arith, s)))))

added : (ps : List Parameter) (q d : Parameter) → ((k : ℕ) → k < length ps → bytes_eq (get_or ps k d).name q.name ≡ false) → ps ++ q ∷ [] ≡ with_parameter ps q.name q.text
added [] q d others = refl
added (p ∷ ps) q d others = rw (others 0 (omega arith)) (ap (λ l. p ∷ l) (added ps q d (λ k s. others (suc k) (omega (arith, s)))))

on-ok : {E : Type 0} (r : Result Unit E) (new one two : List Parameter) → OnOk r (new ≡ one) → one ≡ two → OnOk r (new ≡ two)
on-ok (Ok done) new one two h e = h ∙ e
on-ok (Err why) new one two h e = tt

-- the place of a name, by what lends the parameters and the name
place-of : (ps qs : List Parameter) (m n : List ℕ) (o : Option ℕ) → o ≡ position (λ (p : Parameter). bytes_eq p.name m) qs → qs ≡ ps → m ≡ n → position (λ (p : Parameter). bytes_eq p.name n) ps ≡ o
place-of ps qs m n o e h k =
    sym (e ∙ ap (λ l. position (λ (p : Parameter). bytes_eq p.name l) qs) k ∙ ap (position (λ (p : Parameter). bytes_eq p.name n)) h)

pub returns-in-Some : goal.returns-in-Some
returns-in-Some c =
    let ps = c.args.sets.now in
    let q = c.args.parameter in
    let at = position-Some (λ (p : Parameter). bytes_eq p.name q.name) ps c.in-Some.place q
    (place-of ps c.as_slice.result.now c.as_slice-2.result.now q.name (Some c.in-Some.place) c.in-Some.ensures.place c.as_slice.ensures c.as_slice-2.ensures) in
    c.set.ensures ∙ changed ps q q c.in-Some.place at.0 at.1 at.2

pub returns-in-None : goal.returns-in-None
returns-in-None c =
    let ps = c.args.sets.now in
    let q = c.args.parameter in
    let none = place-of ps c.as_slice.result.now c.as_slice-2.result.now q.name None c.in-None.ensures.place c.as_slice.ensures c.as_slice-2.ensures in
    on-ok c.push.result c.push.new.self (ps ++ q ∷ []) (with_parameter ps q.name q.text) c.push.ensures
    (added ps q q (none-at (λ (p : Parameter). bytes_eq p.name q.name) ps q none))
