use Rattle.std.proofs.Common.{◌≡◌, ◌<◌, ◌≤◌, ℕ, List, length, refl, ap, sym, ◌∙◌, subst, arith, inl, inr}
use Rattle.std.specs.Prelude.{Some, slice_get, slice_set}
use Rattle.std.proofs.Math.ListN.{length-set}
use Rattle.std.proofs.lemmas.Bool.Decides.{eqb_tells}
use Rattle.std.proofs.lemmas.Option.{slice_get_read, slice_get_within}
use Rattle.lin_transport.specs.Receiver.{Reception, ear_of}
use Rattle.lin_core.specs.kept.Receivers.{HaveHeardAlike, receiver_in}
use Rattle.lin_core.specs.declared.link.Direction.{Direction}
use Rattle.lin_core.specs.declared.link.Direction.TheVariants.{Down, Up}
use Rattle.lin_core.specs.declared.receivers.Receivers.{Receivers}
use Rattle.lin_core.proofs.kept.Places.{set-other, set-own}
use Rattle.lin_core.proofs.receivers.make_room_in_all.Goals as goal

-- one more of them has room
alike-dir : (d : Direction) (x was is : Receivers) → (ear_of is.down ≡ ear_of was.down) × (is.down.part ≡ was.down.part) → is.up ≡ was.up
    → (ear_of (receiver_in d was) ≡ ear_of (receiver_in d x)) × ((receiver_in d was).part ≡ (receiver_in d x).part)
    → (ear_of (receiver_in d is) ≡ ear_of (receiver_in d x)) × ((receiver_in d is).part ≡ (receiver_in d x).part)
alike-dir Down x was is down up before = (down.0 ∙ before.0, down.1 ∙ before.1)
alike-dir Up x was is down up before = (ap ear_of up ∙ before.0, ap (λ (r : Reception). r.part) up ∙ before.1)

alike-set : (ys xs : List Receivers) (i : ℕ) (was is : Receivers) → slice_get xs i ≡ Some was → (ear_of is.down ≡ ear_of was.down) × (is.down.part ≡ was.down.part) → is.up ≡ was.up → HaveHeardAlike ys xs → HaveHeardAlike ys (slice_set xs i is)
alike-set ys xs i was is here down up a = record {
  count = length-set xs i is ∙ a.count;
  each = λ h d x y old new. elim (eqb_tells i h) [
    | inl same ↦
        let own : slice_get (slice_set xs i is) h ≡ Some is = subst (λ (n : ℕ). slice_get (slice_set xs i is) n ≡ Some is) same.1 (set-own xs i was is here) in
        let there : slice_get xs h ≡ Some was = subst (λ (n : ℕ). slice_get xs n ≡ Some was) same.1 here in
        let both : Some is ≡ Some y = sym own ∙ new in
        let y_is : is ≡ y = cc in
        subst (λ (z : Receivers). (ear_of (receiver_in d z) ≡ ear_of (receiver_in d x)) × ((receiver_in d z).part ≡ (receiver_in d x).part)) y_is (alike-dir d x was is down up (a.each h d x was old there))
    | inr differ ↦ a.each h d x y old (sym (set-other xs i h is differ.1) ∙ new)
  ];
}

pub loop-node-preserved : goal.loop-node-preserved
loop-node-preserved c =
    let i : ℕ = c.loop-node.node in
    let xs : List Receivers = c.loop-node.receivers.items in
    let ys : List Receivers = c.args.receivers.now.items in
    let was : Receivers = c.index_mut.result.now in
    let is : Receivers = record { down = c.make_room.new.self; up = was.up } in
    let v = c.loop-node.invariant in
    let count = v.alike.count in
    let test = c.loop-node-test.true in
    let end = c.len-node-end.ensures in
    let below : i < length xs = omega arith in
    let here : slice_get xs i ≡ Some was = slice_get_read xs (length xs) i was refl below c.index_mut.ensures.value in
    record {
      alike = alike-set ys xs i was is here (c.in_ok-make_room.ensures.ear, c.in_ok-make_room.ensures.part) refl v.alike;
      room = λ h r l at. elim (eqb_tells i h) [
        | inl same ↦
            let own : slice_get (slice_set xs i is) h ≡ Some is = subst (λ (n : ℕ). slice_get (slice_set xs i is) n ≡ Some is) same.1 (set-own xs i was is here) in
            let both : Some is ≡ Some r = sym own ∙ at in
            let r_is : is ≡ r = cc in
            subst (λ (z : Receivers). 1 ≤ z.down.spare) r_is c.in_ok-make_room.ensures.spare
        | inr differ ↦ v.room h r (let d = differ.1 in omega arith) (sym (set-other xs i h is differ.1) ∙ at)
      ];
    }

pub returns-clause-room : goal.returns-clause-room
returns-clause-room c = λ h r at.
    let below : h < length c.loop-node.receivers.items = slice_get_within c.loop-node.receivers.items h r at in
    let test = c.loop-node-test.false in
    let end = c.len-node-end.ensures in
    let count = c.loop-node.invariant.alike.count in
    c.loop-node.invariant.room h r (omega arith) at
