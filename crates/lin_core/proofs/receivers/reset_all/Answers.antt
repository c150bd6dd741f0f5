use Rattle.std.proofs.Common.{◌≡◌, ◌<◌, ℕ, List, length, refl, sym, ◌∙◌, subst, arith, inl, inr}
use Rattle.std.specs.Prelude.{Some, slice_get, slice_set}
use Rattle.std.proofs.Math.ListN.{length-set}
use Rattle.std.proofs.lemmas.Bool.Decides.{eqb_tells}
use Rattle.std.proofs.lemmas.Option.{slice_get_read, slice_get_within}
use Rattle.lin_core.specs.kept.Receivers.{AreReset}
use Rattle.lin_core.specs.declared.receivers.Receivers.{Receivers}
use Rattle.lin_core.proofs.kept.Places.{set-other, set-own}
use Rattle.lin_core.proofs.receivers.reset_all.Goals as goal

pub loop-node-preserved : goal.loop-node-preserved
loop-node-preserved c =
    let i : ℕ = c.loop-node.node in
    let xs : List Receivers = c.loop-node.receivers.items in
    let ys : List Receivers = c.args.receivers.now.items in
    let was : Receivers = c.index_mut.result.now in
    let is : Receivers = c.reset_both.new.self in
    let v = c.loop-node.invariant in
    let count = v.count in
    let test = c.loop-node-test.true in
    let end = c.len-node-end.ensures in
    let below : i < length xs = omega arith in
    let here : slice_get xs i ≡ Some was = slice_get_read xs (length xs) i was refl below c.index_mut.ensures.value in
    let before : slice_get ys i ≡ Some was = sym (v.after i (omega arith)) ∙ here in
    record {
      count = length-set xs i is ∙ v.count;
      before = λ h old new l a b. elim (eqb_tells i h) [
        | inl same ↦
            let a' : slice_get ys i ≡ Some old = subst (λ (x : ℕ). slice_get ys x ≡ Some old) (sym same.1) a in
            let b' : slice_get (slice_set xs i is) i ≡ Some new = subst (λ (x : ℕ). slice_get (slice_set xs i is) x ≡ Some new) (sym same.1) b in
            let first : Some was ≡ Some old = sym before ∙ a' in
            let second : Some is ≡ Some new = sym (set-own xs i was is here) ∙ b' in
            let old_is : was ≡ old = cc in
            let new_is : is ≡ new = cc in
            subst (λ (x : Receivers). AreReset x new) old_is (subst (λ (x : Receivers). AreReset was x) new_is c.reset_both.ensures)
        | inr differ ↦ v.before h old new (let d = differ.1 in omega arith) a (sym (set-other xs i h is differ.1) ∙ b)
      ];
      after = λ h l. set-other xs i h is (λ e. omega arith) ∙ v.after h (omega arith);
    }

pub returns-clause-each : goal.returns-clause-each
returns-clause-each c = λ h old new a b.
    let below : h < length c.args.receivers.now.items = slice_get_within c.args.receivers.now.items h old a in
    let test = c.loop-node-test.false in
    let end = c.len-node-end.ensures in
    c.loop-node.invariant.before h old new (omega arith) a b
