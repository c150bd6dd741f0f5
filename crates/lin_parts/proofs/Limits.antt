-- There are at most 60 identifiers for signals.
use Rattle.std.proofs.Common.{◌≡◌, ◌≢◌, ◌<◌, ◌≤◌, ◌+◌, ◌%◌, ℕ, true, false, eqb, List, [], ◌∷◌, length, map, get_or, arith, sym, subst, ap, ◌∙◌, inl, inr, length-append}
use Rattle.std.specs.Prelude.{All, AllPairs}
use Rattle.std.specs.List.{IsDistinct, list_any}
use Rattle.std.proofs.lemmas.Bool.Decides.{eqb_tells}
use Rattle.std.proofs.lemmas.List.{length-map}
use Rattle.std.proofs.lemmas.List.Elements.{All-map, All-head, All-tail, recursion_from_All}
use Rattle.std.proofs.lemmas.Map.Steps.{length-le_from_distinct_below}
use Rattle.lin_frame.specs.Frame.{pid}
use Rattle.lin_parts.specs.Rules.{AreIdentifiers, CarriesSignals, pids}
use Rattle.lin_parts.specs.declared.parts.EventFrame.{EventFrame}
use Rattle.lin_parts.specs.declared.parts.Parts.{Parts}
use Rattle.lin_parts.specs.declared.parts.SignalFrame.{SignalFrame}
use Rattle.lin_parts.proofs.Pairs.{pairs-first, pairs-rest, pairs-map}
use Rattle.lin_parts.proofs.SoundClusters.{pid-low}

abbrev Apart : ℕ → ℕ → Type 0
Apart p q = p ≢ q

abbrev id_of : ℕ → ℕ
id_of p = p % 64

id-of-carrier : (p : ℕ) (carries : CarriesSignals p) → id_of p ≡ carries.identifier
id-of-carrier p carries = ap id_of carries.protected ∙ pid-low carries.identifier (omega (arith, carries.small))

small-id : (p : ℕ) → CarriesSignals p → id_of p < 60
small-id p carries = let e : id_of p ≡ carries.identifier = id-of-carrier p carries in omega (arith, carries.small)

one-pid : (p q : ℕ) → CarriesSignals p → CarriesSignals q → id_of p ≡ id_of q → p ≡ q
one-pid p q here there same =
    let ids : here.identifier ≡ there.identifier = sym (id-of-carrier p here) ∙ (same ∙ id-of-carrier q there)
    in here.protected ∙ (ap pid ids ∙ sym there.protected)

tested-apart : (x y : ℕ) → x ≢ y → eqb x y ≡ false
tested-apart x y differ = elim (eqb_tells x y) as (λ _. eqb x y ≡ false) [ inl same ↦ absurd (differ same.1) | inr apart ↦ apart.0 ]

distinct : (xs : List ℕ) → AllPairs Apart xs → IsDistinct eqb xs
unfolding IsDistinct
distinct [] all = tt
distinct (x ∷ xs) all = (
  recursion_from_All (λ y. eqb x y ≡ false) xs (λ k d lt. tested-apart x (get_or xs k d) (pairs-first Apart x xs all k d lt)),
  distinct xs (pairs-rest Apart x xs all),
)

below : (n : ℕ) (xs : List ℕ) → All (λ x. x < n) xs → (q : ℕ) → list_any (eqb q) xs ≡ true → q < n
below n [] all q found = absurd (cc)
below n (x ∷ xs) all q found =
    elim (eqb_tells q x) as (λ _. q < n) [
      | inl same ↦ subst (λ y. y < n) (sym same.1) (All-head (λ y. y < n) x xs all)
      | inr apart ↦ below n xs (All-tail (λ y. y < n) x xs all) q (rw apart.0 at found)
    ]

-- frames and event-triggered frames are at most 60 together
pub few-identifiers : (c : Parts) → AreIdentifiers c → length c.frames + length c.events ≤ 60
few-identifiers c are =
    let differ : AllPairs (λ p q. id_of p ≢ id_of q) (pids c) =
    λ i j d lt in' same. are.apart i j d lt in' (one-pid _ _ (are.carriers i d (omega arith)) (are.carriers j d in') same)
    in let small : All (λ x. x < 60) (map id_of (pids c)) = All-map (λ x. x < 60) id_of (pids c) (λ k d lt. small-id _ (are.carriers k d lt))
    in let few : length (map id_of (pids c)) ≤ 60 =
    length-le_from_distinct_below (map id_of (pids c)) 60 (distinct (map id_of (pids c)) (pairs-map Apart id_of (pids c) differ)) (below 60 (map id_of (pids c)) small)
    in let fs : List ℕ = map (λ (f : SignalFrame). f.pid) c.frames
    in let es : List ℕ = map (λ (e : EventFrame). e.pid) c.events
    in omega (arith, length-map (pids c) id_of, length-append fs es, length-map c.frames (λ (f : SignalFrame). f.pid), length-map c.events (λ (e : EventFrame). e.pid))
