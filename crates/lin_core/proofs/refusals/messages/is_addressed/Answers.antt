use Rattle.std.proofs.Common.{◌≡◌, ◌+◌, ℕ, suc, Bool, true, false, List, [], ◌∷◌, ◌++◌, refl, sym, ◌∙◌, ap, arith}
use Rattle.std.specs.Prelude.{◌||◌, is_some}
use Rattle.std.specs.List.{list_any}
use Rattle.lin_frame.specs.Words.{numbers}
use Rattle.lin_parts.specs.Cluster.{nad}
use Rattle.lin_core.proofs.refusals.messages.is_addressed.Goals as goal

or-or : (a b d : Bool) → (a || (b || d)) ≡ ((a || b) || d)
or-or true b d = refl
or-or false b d = refl

or-none : (a : Bool) → (a || false) ≡ a
or-none true = refl
or-none false = refl

any-more : (p : ℕ → Bool) (xs : List ℕ) (x : ℕ) → list_any p (xs ++ x ∷ []) ≡ (list_any p xs || p x)
any-more p [] x = or-none (p x)
any-more p (y ∷ ys) x = ap (λ (b : Bool). p y || b) (any-more p ys x) ∙ or-or (p y) (list_any p ys) (p x)

pub loop-node-preserved : goal.loop-node-preserved
loop-node-preserved c =
    let has : ℕ → Bool = λ n. is_some (nad c.args.cluster.now n) in
    let next : suc c.loop-node.node ≡ c.loop-node.node + 1 = omega arith in
    c.either-found.ensures
    ∙ ap (λ (b : Bool). b || c.is_some.result) c.loop-node.invariant
    ∙ ap (λ (b : Bool). list_any has (numbers c.loop-node.node) || b) (c.is_some.ensures ∙ ap is_some c.nad.ensures)
    ∙ sym (any-more has (numbers c.loop-node.node) c.loop-node.node) ∙ ap (λ (k : ℕ). list_any has (numbers k)) next
