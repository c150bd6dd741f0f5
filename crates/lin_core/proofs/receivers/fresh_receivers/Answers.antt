use Rattle.std.proofs.Common.{◌≡◌, ◌<◌, ℕ, false, true, zero, suc, List, [], ◌∷◌, ◌++◌, length, refl, ap, sym, ◌∙◌, subst, arith, inl, inr, length-append}
use Rattle.std.specs.Prelude.{◌⊎◌, Some, slice_get}
use Rattle.std.specs.Option.{unwrap_or}
use Rattle.lin_parts.specs.Cluster.{nad, nodes}
use Rattle.lin_parts.specs.declared.parts.Parts.{Parts}
use Rattle.lin_transport.specs.Receiver.{ear_of, HasHeard, Reception}
use Rattle.lin_core.specs.kept.Receivers.{receiver_in, KeepsReceiver}
use Rattle.lin_core.specs.Links.{is_down}
use Rattle.lin_core.specs.Replies.{link_at}
use Rattle.lin_core.specs.declared.link.Direction.{Direction}
use Rattle.lin_core.specs.declared.link.Direction.TheVariants.{Down, Up}
use Rattle.lin_core.specs.declared.receivers.Receivers.{Receivers}
use Rattle.lin_core.proofs.receivers.fresh_receivers.Goals as goal

get-more : (xs : List Receivers) (x y : Receivers) (h : ℕ) → slice_get (xs ++ x ∷ []) h ≡ Some y → (slice_get xs h ≡ Some y) ⊎ ((h ≡ length xs) × (x ≡ y))
get-more [] x y zero e = inr (refl, cc)
get-more [] x y (suc h) e = cc
get-more (a ∷ xs) x y zero e = inl e
get-more (a ∷ xs) x y (suc h) e = elim (get-more xs x y h e) [
  | inl old ↦ inl old
  | inr new ↦ inr (ap suc new.0, new.1)
]

-- a receiver that has heard nothing
record IsFresh (c : Parts) (n : ℕ) (d : Direction) (r : Reception) : Type 0 where
  ear : ear_of r ≡ record { nad = unwrap_or (nad c n) 0; all = is_down d }
  stands : HasHeard r []

keeps-fresh : (c : Parts) (n : ℕ) (rs : Receivers) (d : Direction) → IsFresh c n Down rs.down → IsFresh c n Up rs.up → KeepsReceiver c [] (link_at n d) (receiver_in d rs)
keeps-fresh c n rs Down down up = record { ear_is = down.ear; stands = down.stands }
keeps-fresh c n rs Up down up = record { ear_is = up.ear; stands = up.stands }

pub loop-node-preserved : goal.loop-node-preserved
loop-node-preserved c =
    let p : Parts = c.args.cluster.now in
    let v = c.loop-node.invariant in
    let test = c.loop-node-test.true in
    let number = c.nodes-node-end.ensures.number in
    let few = c.nodes-node-end.ensures.few in
    let below : c.loop-node.node < nodes p = omega arith in
    let made : Receivers = record { down = c.functional.result; up = c.new.result } in
    let address = c.address_of-address.ensures below in
    let down : IsFresh p c.loop-node.node Down c.functional.result = record { ear = c.functional.ensures.ear ∙ ap (λ (n : ℕ). record { nad = n; all = true }) address; stands = c.functional.ensures.stands } in
    let up : IsFresh p c.loop-node.node Up c.new.result = record { ear = c.new.ensures.ear ∙ ap (λ (n : ℕ). record { nad = n; all = false }) address; stands = c.new.ensures.stands } in
    let items : c.push.new.self.items ≡ c.loop-node.made.items ++ made ∷ [] = c.in_ok-push.ensures.items in
    let count = v.count in
    record {
      count = rw (items, length-append) (omega arith);
      each = λ h rs d at. elim (get-more c.loop-node.made.items made rs h (rw items at at)) [
        | inl old ↦ v.each h rs d old
        | inr new ↦ subst (λ (x : Receivers). KeepsReceiver p [] (link_at h d) (receiver_in d x)) new.1 (subst (λ (n : ℕ). KeepsReceiver p [] (link_at n d) (receiver_in d made)) (sym (new.0 ∙ count)) (keeps-fresh p c.loop-node.node made d down up))
      ];
    }

pub returns : goal.returns
returns c =
    let test = c.loop-node-test.false in
    let number = c.nodes-node-end.ensures.number in
    let few = c.nodes-node-end.ensures.few in
    let count = c.loop-node.invariant.count in
    let end = c.loop-node.auto.node-end in
    record { count = omega arith; each = λ h rs d at a. c.loop-node.invariant.each h rs d at }
