use Rattle.std.proofs.Common.{◌≡◌, ◌<◌, ◌≤◌, ◌+◌, ℕ, suc, Bool, true, false, List, [], ◌∷◌, ◌++◌, length, refl, ap, sym, ◌∙◌, subst, arith, inl, inr, append_assoc, length-append}
use Rattle.std.specs.Prelude.{Option, Some, None, flat_map, nat_lt, option_map, slice_get, slice_set}
use Rattle.std.proofs.Math.ListN.{length-set}
use Rattle.std.proofs.lemmas.Bool.Decides.{eqb_tells, nat_tests}
use Rattle.std.proofs.lemmas.List.{append-nil}
use Rattle.std.proofs.lemmas.Option.{slice_get_past, slice_get_read}
use Rattle.lin_frame.specs.Words.{numbers}
use Rattle.lin_transport.specs.Sender.{SenderData as Sender}
use Rattle.lin_core.specs.kept.Hosts.{loss_of, losses_of, host_after_sleep}
use Rattle.lin_core.specs.declared.event.Event.{Event}
use Rattle.lin_core.specs.declared.host.Host.{Host}
use Rattle.lin_core.proofs.kept.Places.{set-other, set-own}
use Rattle.lin_core.proofs.laws.Reports.{flat-append}
use Rattle.lin_core.proofs.sleep_losses.lose_begun.Goals as goal

told-more : (f : ℕ → List Event) (i : ℕ) (base es more : List Event) → es ≡ base ++ flat_map f (numbers i) → more ≡ f i → es ++ more ≡ base ++ flat_map f (numbers (i + 1))
told-more f i base es more e m =
    let next : i + 1 ≡ suc i = omega arith
    in let step : flat_map f (numbers (suc i)) ≡ flat_map f (numbers i) ++ f i = flat-append f (numbers i) (i ∷ []) ∙ ap (λ (ys : List Event). flat_map f (numbers i) ++ ys) (append-nil (f i))
    in rw (e, m) (append_assoc base (flat_map f (numbers i)) (f i) ∙ ap (λ (ys : List Event). base ++ ys) (sym step ∙ ap (λ (n : ℕ). flat_map f (numbers n)) (sym next)))

lost-few : (h : ℕ) (host : Host) (o : Option Sender) → host.sender ≡ o → length (loss_of h host) ≤ 1
lost-few h host None e = rw e (omega arith)
lost-few h host (Some s) e = rw e (omega arith)

pub loop-host-preserved : goal.loop-host-preserved
loop-host-preserved c =
    let i : ℕ = c.loop-host.host in
    let xs : List Host = c.loop-host.hosts.items in
    let ys : List Host = c.args.hosts.now.items in
    let kept : Host = c.index_mut.result.now in
    let v = c.loop-host.invariant in
    let count = v.count in
    let test = c.loop-host-test.true in
    let end = c.len-host-end.ensures in
    let below : i < length xs = omega arith in
    let here : slice_get xs i ≡ Some kept = slice_get_read xs (length xs) i kept refl below c.index_mut.ensures.value in
    let was : slice_get ys i ≡ Some kept = sym (v.after i (omega arith)) ∙ here in
    let at : losses_of ys i ≡ loss_of i kept = rw was refl in
    let own : slice_get (slice_set xs i c.lose_one.new.kept) i ≡ option_map host_after_sleep (slice_get ys i) = set-own xs i kept c.lose_one.new.kept here ∙ ap Some c.lose_one.ensures.host ∙ sym (ap (option_map host_after_sleep) was) in
    let few = lost-few i kept kept.sender refl in
    let longer = ap length c.lose_one.ensures.events ∙ length-append c.loop-host.events.items (loss_of i kept) in
    let grown = c.lose_one.ensures.room in
    let enough = v.room in
    record {
      count = length-set xs i c.lose_one.new.kept ∙ v.count;
      before = λ h l.
          elim (eqb_tells i h) [
            | inl same ↦ subst (λ (x : ℕ). slice_get (slice_set xs i c.lose_one.new.kept) x ≡ option_map host_after_sleep (slice_get ys x)) same.1 own
            | inr differ ↦ set-other xs i h c.lose_one.new.kept differ.1 ∙ v.before h (let d = differ.1 in omega arith)
          ];
      after = λ h l. set-other xs i h c.lose_one.new.kept (λ e. omega arith) ∙ v.after h (omega arith);
      told = c.lose_one.ensures.events ∙ told-more (losses_of ys) i c.args.events.now.items c.loop-host.events.items (loss_of i kept) v.told (sym at);
      room = omega arith;
    }

pub returns-clause-hosts : goal.returns-clause-hosts
returns-clause-hosts c = λ h. by-test h (nat_lt h c.loop-host.host) refl
  where
    by-test : (h : ℕ) (b : Bool) → nat_lt h c.loop-host.host ≡ b → slice_get c.loop-host.hosts.items h ≡ option_map host_after_sleep (slice_get c.args.hosts.now.items h)
    by-test h true e = c.loop-host.invariant.before h (grind (arith, nat_tests, e))
    by-test h false e =
        let far : c.loop-host.host ≤ h = grind (arith, nat_tests, e) in
        let test = c.loop-host-test.false in
        let end = c.len-host-end.ensures in
        let none : slice_get c.args.hosts.now.items h ≡ None = slice_get_past c.args.hosts.now.items h (omega arith) in
        c.loop-host.invariant.after h far ∙ none ∙ sym (ap (option_map host_after_sleep) none)
