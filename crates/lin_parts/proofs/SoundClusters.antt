-- Clusters are sound: their addresses and identifiers tell frames apart.
use Rattle.std.proofs.Common.{◌≡◌, ◌≢◌, ◌<◌, ◌≤◌, ◌+◌, ◌*◌, ◌%◌, ℕ, zero, suc, List, [], ◌∷◌, get_or, Some, None, arith, sym, subst, ap, ◌∙◌, inl, inr}
use Rattle.std.specs.Prelude.{All, AllPairs, IfSome}
use Rattle.std.proofs.lemmas.List.Elements.{All-head, All-tail}
use Rattle.std.proofs.lemmas.List.{get_or_past}
use Rattle.std.proofs.lemmas.Bool.{cases_lt}
use Rattle.lin_frame.specs.Frame.{pid}
use Rattle.lin_parts.specs.Cluster.{nodes, nad}
use Rattle.lin_parts.specs.Rules.{IsCluster, CarriesSignals, IsAddress, HaveOwnAddresses}
use Rattle.lin_parts.specs.Sound.{IsSound, IsSignalPid}
use Rattle.lin_parts.specs.declared.parts.EventFrame.{EventFrame}
use Rattle.lin_parts.specs.declared.parts.Node.{Node}
use Rattle.lin_parts.specs.declared.parts.Parts.{Parts}
use Rattle.lin_parts.specs.declared.parts.SignalFrame.{SignalFrame}
use Rattle.lin_parts.proofs.Identifiers.{all-carry}

-- what holds of each item and of the default holds at each number
pub at-any : {X : Type 0} (P : X → Type 0) (xs : List X) (d : X) → All P xs → P d → (k : ℕ) → P (get_or xs k d)
at-any P [] d all base k = base
at-any P (x ∷ xs) d all base zero = All-head P x xs all
at-any P (x ∷ xs) d all base (suc k) = at-any P xs d (All-tail P x xs all) base k

low-bits : (x a b : ℕ) → x < 64 → (x + 64 * a + 128 * b) % 64 ≡ x
low-bits x a b small = omega arith

-- the identifier is in the low 6 bits
pub pid-low : (id : ℕ) → id < 64 → pid id % 64 ≡ id
pid-low id small = low-bits id _ _ small

not-pid : (p q : ℕ) → CarriesSignals p → 60 ≤ q % 64 → p ≢ q
not-pid p q carries big e =
    let low : p % 64 ≡ carries.identifier = ap (λ n. n % 64) carries.protected ∙ pid-low carries.identifier (omega (arith, carries.small))
    in let same : p % 64 ≡ q % 64 = ap (λ n. n % 64) e
    in omega (arith, carries.small)

pub signals-pid : (p : ℕ) → CarriesSignals p → IsSignalPid p
signals-pid p carries = record { request = not-pid p 0x3C carries (omega arith); response = not-pid p 0x7D carries (omega arith) }

default-pid : IsSignalPid 0x80
default-pid = record { request = λ e. omega arith; response = λ e. omega arith }

abbrev no_node : Node
no_node = record { name = []; nad = None }

-- a number with an address is that of a node
present : (c : Parts) (k n : ℕ) → nad c k ≡ Some n → k < nodes c
present c k n is =
    elim (cases_lt k (nodes c)) as (λ _. k < nodes c) [
      | inl lt ↦ lt
      | inr past ↦
          let none : nad c k ≡ None = ap (λ (node : Node). node.nad) (get_or_past c.nodes k no_node past)
          in let clash : None ≡ Some n = sym none ∙ is
          in absurd (cc)
    ]

apart : (c : Parts) (j k n : ℕ) → AllPairs HaveOwnAddresses c.nodes → nad c j ≡ Some n → nad c k ≡ Some n → j ≡ k
apart c j k n own here there =
    elim (cases_lt j k) as (λ _. j ≡ k) [
      | inl lt ↦ absurd (own j k no_node lt (present c k n there) n here there)
      | inr ge ↦ elim (cases_lt k j) as (λ _. j ≡ k) [
        | inl lt ↦ absurd (own k j no_node lt (present c j n here) n there here)
        | inr le ↦ omega arith
      ]
    ]

address-at : (c : Parts) (k n : ℕ) → All (λ (node : Node). IfSome node.nad IsAddress) c.nodes → nad c k ≡ Some n → IsAddress n
address-at c k n addresses is = subst (λ a. IfSome a IsAddress) is (at-any (λ (node : Node). IfSome node.nad IsAddress) c.nodes _ addresses tt k)

pub sound-clusters : (c : Parts) → IsCluster c → IsSound c
sound-clusters c cluster = record {
  apart = λ j k n. apart c j k n cluster.nodes.own_addresses;
  some = λ k n is. (address-at c k n cluster.nodes.addresses is).0;
  most = λ k n is. (address-at c k n cluster.nodes.addresses is).1;
  few = λ k n is. let below : k < nodes c = present c k n is in omega (arith, cluster.nodes.number.1);
  commander = cluster.nodes.commander;
  frames = λ f. at-any (λ (frame : SignalFrame). IsSignalPid frame.pid) c.frames _ (λ k d lt. signals-pid _ (((all-carry c).1 cluster.identifiers.carriers).0 k d lt)) default-pid f;
  events = λ e. at-any (λ (event : EventFrame). IsSignalPid event.pid) c.events _ (λ k d lt. signals-pid _ (((all-carry c).1 cluster.identifiers.carriers).1 k d lt)) default-pid e;
}
