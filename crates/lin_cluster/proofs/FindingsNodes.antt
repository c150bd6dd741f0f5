-- Publishers that are compared by the numbers of their nodes.
use Rattle.std.proofs.Common.{◌≡◌, ◌<◌, ◌≤◌, ℕ, ◌+◌, Bool, true, false, cond, List, length, refl, sym, ap, subst, ◌∙◌, arith, one-add}
use Rattle.std.specs.Prelude.{Some, None, is_some, not, ◌==◌, ◌&&◌, ◌||◌, nat_lt}
use Rattle.std.specs.List.{list_any, position_or_len}
use Rattle.std.specs.Str.{bytes_eq}
use Rattle.std.proofs.lemmas.Bool.{eqb-true, eq-eqb, lt-ltb}
use Rattle.std.proofs.Math.Dec.{eqb-suc-zero}
use Rattle.std.specs.Option.{option_map_or}
use Rattle.lin_cluster.specs.Described.{node_names, node_number}
use Rattle.lin_cluster.specs.Places.{wrong_publisher_at}
use Rattle.lin_cluster.specs.FindingsNames.{at_name, when, same_name, is_node, is_responder, signal_named, frame_named}
use Rattle.lin_cluster.specs.FindingsNodes.{number_of_node, is_node_number, is_responder_number, are_two, wrong_publisher_by}
use Rattle.lin_cluster.specs.Members.{has_publisher}
use Rattle.lin_cluster.proofs.KnownNames.{alike, node-same, same-node}
use Rattle.lin_cluster.specs.declared.finding.FindingKind.TheVariants.{WrongPublisher}
use Rattle.lin_cluster.proofs.NamesFound.{same-text, text-same, within-any, past-any}
use Rattle.lin_parts.specs.declared.description.Description.{Description}
use Rattle.lin_parts.specs.declared.description.Frame.{Frame}
use Rattle.lin_parts.specs.declared.description.Name.{Name}

known-by : (b any : Bool) (k : ℕ) → b ≡ false → any ≡ true → Some (1 + k) ≡ cond (b || any) (Some (cond (not b) (1 + k) 0)) None
known-by true any k e f = absurd (cc)
known-by false true k e f = refl
known-by false false k e f = absurd (cc)

-- the number of a responder
pub responder-numbered : (d : Description) (n : Name) (k : ℕ) → same_name d.master n ≡ false → k ≡ position_or_len (λ m. same_name m n) d.slaves → k < length d.slaves → Some (1 + k) ≡ number_of_node d n
responder-numbered d n k other is lt =
    ap (λ j. Some (1 + j)) is ∙ known-by (same_name d.master n) (list_any (λ m. same_name m n) d.slaves) (position_or_len (λ m. same_name m n) d.slaves) other (within-any (λ m. same_name m n) d.slaves (subst (λ j. j < length d.slaves) is lt))

unknown-by : (b any : Bool) (k : ℕ) → b ≡ false → any ≡ false → None ≡ cond (b || any) (Some (cond (not b) (1 + k) 0)) None
unknown-by true any k e f = absurd (cc)
unknown-by false true k e f = absurd (cc)
unknown-by false false k e f = refl

-- and where the name is no node's
pub no-node : (d : Description) (n : Name) (k : ℕ) → same_name d.master n ≡ false → k ≡ position_or_len (λ m. same_name m n) d.slaves → length d.slaves ≤ k → None ≡ number_of_node d n
no-node d n k other is past =
    unknown-by (same_name d.master n) (list_any (λ m. same_name m n) d.slaves) (position_or_len (λ m. same_name m n) d.slaves) other (past-any (λ m. same_name m n) d.slaves (subst (λ j. length d.slaves ≤ j) is past))

some-by : {A : Type 0} (b : Bool) (x : A) → is_some (cond b (Some x) None) ≡ b
some-by true x = refl
some-by false x = refl

pub some-node : (d : Description) (n : Name) → is_some (number_of_node d n) ≡ is_node d n
some-node d n = some-by (is_node d n) (node_number d n)

number-by : (b : Bool) (k : ℕ) → option_map_or (λ n. nat_lt 0 n) (cond b (Some (1 + k)) None) false ≡ b
number-by true k = lt-ltb 0 (1 + k) (omega arith)
number-by false k = refl

responder-by : (b rest : Bool) (k : ℕ) → option_map_or (λ n. nat_lt 0 n) (cond (b || rest) (Some (cond (not b) (1 + k) 0)) None) false ≡ (not b && rest)
responder-by true rest k = refl
responder-by false rest k = number-by rest k

-- a node after the commander is a responder
pub responder-is : (d : Description) (n : Name) → is_responder_number (number_of_node d n) ≡ is_responder d n
responder-is d n = responder-by (same_name d.master n) (list_any (λ m. same_name m n) d.slaves) (position_or_len (λ m. bytes_eq m.text n.text) d.slaves)

same-names : (a b : Name) → same_name a b ≡ same_name b a
same-names a b = alike (same_name a b) (same_name b a) (λ e. text-same b.text a.text (sym (same-text a.text b.text e))) (λ e. text-same a.text b.text (sym (same-text b.text a.text e)))

no-commander-by : (b rest other : Bool) → other ≡ b → (not b && rest) ≡ ((b || rest) && not other)
no-commander-by true rest true e = refl
no-commander-by true true false e = absurd (cc)
no-commander-by true false false e = absurd (cc)
no-commander-by false true true e = absurd (cc)
no-commander-by false false true e = refl
no-commander-by false true false e = refl
no-commander-by false false false e = refl

-- and is a node that the commander isn't
pub no-commander : (d : Description) (n : Name) → is_responder_number (number_of_node d n) ≡ (is_node d n && not (same_name n d.master))
no-commander d n = responder-is d n ∙ no-commander-by (same_name d.master n) (list_any (λ m. same_name m n) d.slaves) (same_name n d.master) (same-names n d.master)

-- ---- two publishers

both-known : (d : Description) (a b : Name) → is_node d a ≡ true → is_node d b ≡ true → same_name a b ≡ (node_number d a == node_number d b)
both-known d a b known other =
    alike (same_name a b) (node_number d a == node_number d b) (λ e. eq-eqb (node_number d a) (node_number d b) (node-same d a b e)) (λ e. same-node d a b known (eqb-true (node_number d a) (node_number d b) e))

elsewhere : (d : Description) (a b : Name) → are_two (number_of_node d a) (number_of_node d b) ≡ (is_node d a && is_node d b && not (same_name a b))
elsewhere d a b =
    elim (is_node d a) as (λ t. is_node d a ≡ t → are_two (cond t (Some (node_number d a)) None) (number_of_node d b) ≡ (t && is_node d b && not (same_name a b))) [
      | true ↦ λ e. elim (is_node d b) as (λ u. is_node d b ≡ u → option_map_or (λ k. not (node_number d a == k)) (cond u (Some (node_number d b)) None) false ≡ (u && not (same_name a b))) [
        | true ↦ λ f. ap not (sym (both-known d a b e f))
        | false ↦ λ f. refl
      ] refl
      | false ↦ λ e. refl
    ] refl

pub wrong-by : (d : Description) (f : Frame) → wrong_publisher_by d (number_of_node d f.publisher) ≡ wrong_publisher_at d f
wrong-by d f = λ i p. when (option_map_or (λ s. elsewhere d s.publisher f.publisher i) (signal_named d p.signal) false) (at_name WrongPublisher p.signal)

-- ---- publishers of members

node-text : (d : Description) (a b : Name) → same_name a b ≡ true → number_of_node d a ≡ number_of_node d b
node-text d a b e = ap (λ t. cond (list_any (λ n. bytes_eq n.text t) (node_names d)) (Some (position_or_len (λ n. bytes_eq n.text t) (node_names d))) None) (same-text a.text b.text e)

own-number : (d : Description) (b : Name) → is_node d b ≡ true → is_node_number (node_number d b) (number_of_node d b) ≡ true
own-number d b known = ap (λ t. is_node_number (node_number d b) (cond t (Some (node_number d b)) None)) known ∙ eq-eqb (node_number d b) (node_number d b) refl

of-number : (d : Description) (a b : Name) → is_node_number (node_number d b) (number_of_node d a) ≡ true → same_name a b ≡ true
of-number d a b h =
    elim (is_node d a) as (λ t. is_node d a ≡ t → is_node_number (node_number d b) (cond t (Some (node_number d a)) None) ≡ true → same_name a b ≡ true) [
      | true ↦ λ e n. same-node d a b e (eqb-true (node_number d a) (node_number d b) n)
      | false ↦ λ e n. absurd (cc)
    ] refl h

same-number : (d : Description) (a b : Name) → is_node d b ≡ true → is_node_number (node_number d b) (number_of_node d a) ≡ same_name a b
same-number d a b known =
    alike (is_node_number (node_number d b) (number_of_node d a)) (same_name a b) (of-number d a b) (λ e. ap (is_node_number (node_number d b)) (node-text d a b e) ∙ own-number d b known)

commander-by : (b rest : Bool) (k : ℕ) → is_node_number 0 (cond (b || rest) (Some (cond (not b) (1 + k) 0)) None) ≡ b
commander-by true rest k = refl
commander-by false true k = rw one-add (eqb-suc-zero k)
commander-by false false k = refl

pub commanders : (d : Description) (a : Name) → is_node_number 0 (number_of_node d a) ≡ same_name a d.master
commanders d a = commander-by (same_name d.master a) (list_any (λ m. same_name m a) d.slaves) (position_or_len (λ m. bytes_eq m.text a.text) d.slaves) ∙ same-names d.master a

-- whether the node with a number publishes one of some members
abbrev pub publishes : Description → List Name → ℕ → Bool
publishes d members k = list_any (λ m. option_map_or (λ g. is_node_number k (number_of_node d g.publisher)) (frame_named d m) false) members

pub published-same : (d : Description) (earlier : List Name) (published : ℕ → Bool) (a : Name) → ((k : ℕ) → published k ≡ publishes d earlier k) → option_map_or published (number_of_node d a) false ≡ (is_node d a && list_any (has_publisher d a) earlier)
published-same d earlier published a so =
    elim (is_node d a) as (λ t. is_node d a ≡ t → option_map_or published (cond t (Some (node_number d a)) None) false ≡ (t && list_any (has_publisher d a) earlier)) [
      | true ↦ λ e. so (node_number d a) ∙ (λ i. list_any (λ m. option_map_or (λ g. same-number d g.publisher a e i) (frame_named d m) false) earlier)
      | false ↦ λ e. refl
    ] refl
