use Rattle.std.proofs.Common.{◌≡◌, ◌<◌, ◌+◌, ℕ, suc, true, false, List, [], ◌∷◌, ◌++◌, length, refl, ap, sym, ◌∙◌, subst, arith, inl, inr, append_assoc}
use Rattle.std.specs.Prelude.{Some, flat_map, is_some, slice_get, slice_set}
use Rattle.std.proofs.Math.ListN.{length-set}
use Rattle.std.proofs.lemmas.Bool.Decides.{eqb_tells}
use Rattle.std.proofs.lemmas.List.{append-nil}
use Rattle.std.proofs.lemmas.Option.{slice_get_read, slice_get_within}
use Rattle.lin_frame.specs.Words.{numbers}
use Rattle.lin_parts.specs.Cluster.{nad}
use Rattle.lin_core.specs.kept.Hosts.{told_to}
use Rattle.lin_core.specs.kept.Receivers.{HearsToo}
use Rattle.lin_core.specs.declared.event.Event.{Event}
use Rattle.lin_core.specs.declared.receivers.Receivers.{Receivers}
use Rattle.lin_core.proofs.kept.Places.{set-other, set-own}
use Rattle.lin_core.proofs.laws.Reports.{flat-append}
use Rattle.lin_core.proofs.messages_to_all.tell_each.Goals.{then-is_some, else-is_some}
use Rattle.lin_core.proofs.messages_to_all.tell_each.Goals as goal

told-more : (f : ℕ → List Event) (i : ℕ) (base es more : List Event) → es ≡ base ++ flat_map f (numbers i) → more ≡ f i → es ++ more ≡ base ++ flat_map f (numbers (i + 1))
told-more f i base es more e m =
    let next : i + 1 ≡ suc i = omega arith
    in let step : flat_map f (numbers (suc i)) ≡ flat_map f (numbers i) ++ f i = flat-append f (numbers i) (i ∷ []) ∙ ap (λ (ys : List Event). flat_map f (numbers i) ++ ys) (append-nil (f i))
    in rw (e, m) (append_assoc base (flat_map f (numbers i)) (f i) ∙ ap (λ (ys : List Event). base ++ ys) (sym step ∙ ap (λ (n : ℕ). flat_map f (numbers n)) (sym next)))

pub loop-node-preserved : goal.loop-node-preserved
loop-node-preserved c =
    let i : ℕ = c.loop-node.node in
    let xs : List Receivers = c.loop-node.receivers.items in
    let ys : List Receivers = c.args.receivers.now.items in
    let v = c.loop-node.invariant in
    let count = v.count in
    let few = v.few in
    let wide = v.room in
    let test = c.loop-node-test.true in
    let end = c.len-node-end.ensures in
    let has : c.is_some.result ≡ is_some (nad c.args.setup.now.cluster i) = c.is_some.ensures ∙ ap is_some c.nad.ensures in
    let below : i < length xs = omega arith in
    elim c.if-is_some.branch [
      | then-is_some w ↦
          let was : Receivers = w.index_mut.result.now in
          let is : Receivers = w.tell_one.new.receivers in
          let own : is_some (nad c.args.setup.now.cluster i) ≡ true = sym has ∙ w.if-is_some.true in
          let here : slice_get xs i ≡ Some was = slice_get_read xs (length xs) i was refl below w.index_mut.ensures.value in
          let before : slice_get ys i ≡ Some was = sym (v.after i (omega arith)) ∙ here in
          let longer = w.tell_one.ensures.few in
          let grown = w.tell_one.ensures.room in
          rw (w.receivers-is, w.events-is) (record {
            count = length-set xs i is ∙ v.count;
            before = λ h old new l a b at. elim (eqb_tells i h) [
              | inl same ↦
                  let a' : slice_get ys i ≡ Some old = subst (λ (x : ℕ). slice_get ys x ≡ Some old) (sym same.1) a in
                  let b' : slice_get (slice_set xs i is) i ≡ Some new = subst (λ (x : ℕ). slice_get (slice_set xs i is) x ≡ Some new) (sym same.1) b in
                  let first : Some was ≡ Some old = sym before ∙ a' in
                  let second : Some is ≡ Some new = sym (set-own xs i was is here) ∙ b' in
                  let old_is : was ≡ old = cc in
                  let new_is : is ≡ new = cc in
                  subst (λ (x : Receivers). HearsToo c.args.frame.now x new) old_is (subst (λ (x : Receivers). HearsToo c.args.frame.now was x) new_is w.tell_one.ensures.hears)
              | inr differ ↦ v.before h old new (let d = differ.1 in omega arith) a (sym (set-other xs i h is differ.1) ∙ b) at
            ];
            after = λ h l. set-other xs i h is (λ e. omega arith) ∙ v.after h (omega arith);
            told = λ heard m all.
                w.tell_one.ensures.told (heard i) m (all i was before own)
                ∙ told-more (told_to c.args.setup.now.cluster m) i c.args.events.now.items c.loop-node.events.items _ (v.told heard m all) (rw own refl);
            few = omega arith;
            room = omega arith;
          })
      | else-is_some w ↦
          let none : is_some (nad c.args.setup.now.cluster i) ≡ false = sym has ∙ w.if-is_some.false in
          rw (w.receivers-is, w.events-is) (record {
            count = v.count;
            before = λ h old new l a b at. elim (eqb_tells i h) [
              | inl same ↦ absurd (let bad : false ≡ true = sym none ∙ subst (λ (x : ℕ). is_some (nad c.args.setup.now.cluster x) ≡ true) (sym same.1) at in cc)
              | inr differ ↦ v.before h old new (let d = differ.1 in omega arith) a b at
            ];
            after = λ h l. v.after h (omega arith);
            told = λ heard m all.
                sym (append-nil c.loop-node.events.items)
                ∙ told-more (told_to c.args.setup.now.cluster m) i c.args.events.now.items c.loop-node.events.items [] (v.told heard m all) (rw none refl);
            few = omega arith;
            room = v.room;
          })
    ]

pub returns-clause-hears : goal.returns-clause-hears
returns-clause-hears c =
    let count = c.loop-node.invariant.count in
    let test = c.loop-node-test.false in
    let end = c.len-node-end.ensures in
    record {
      count = c.loop-node.invariant.count;
      each = λ h was is a b at.
          let below : h < length c.args.receivers.now.items = slice_get_within c.args.receivers.now.items h was a in
          c.loop-node.invariant.before h was is (omega arith) a b at;
    }

pub returns-clause-told : goal.returns-clause-told
returns-clause-told c = λ heard m all.
    let test = c.loop-node-test.false in
    let end = c.len-node-end.ensures in
    let bound = c.loop-node.auto.node-end in
    let last : c.loop-node.node ≡ length c.args.receivers.now.items = omega arith in
    rw (← last) (c.loop-node.invariant.told heard m all)
