-- What is known of the responders of a cluster keeps the rules of clusters.
use Rattle.std.proofs.Common.{◌≡◌, ◌∙◌, ℕ, zero, suc, ◌+◌, ◌≤◌, ◌<◌, Bool, true, false, cond, List, [], ◌∷◌, ◌++◌, length, drop, Option, Some, None, flat_map, refl, sym, ap, subst, arith, add-one, append-nil, length-append}
use Rattle.std.specs.Prelude.{All, AllPairs, IfSome, Ok, Err, codes, find, is_some, option_and_then}
use Rattle.std.specs.Option.{option_map, option_map_or, unwrap_or}
use Rattle.std.specs.Str.{bytes_eq}
use Rattle.std.proofs.lemmas.List.{drop-append-le}
use Rattle.std.proofs.lemmas.List.Concat.{flat_map-append}
use Rattle.std.proofs.lemmas.List.Elements.{All-append, All-cons, All-head, All-nil, All-push, All-tail, All-weaker}
use Rattle.std.proofs.lemmas.List.Quantifiers.{all_pairs_push}
use Rattle.lin_frame.specs.Words.{numbers}
use Rattle.lin_ldf.specs.Forms.{tail}
use Rattle.lin_ldf.specs.Symbols.{Symbol}
use Rattle.lin_ldf.specs.Words.{is_word_next}
use Rattle.lin_parts.specs.Cluster.{nad, node_of, nodes}
use Rattle.lin_parts.specs.Rules.{AreIdentities, IsCluster, IsIdentity, IsInitialNad, IsProduct}
use Rattle.lin_parts.specs.Sound.{IsSound}
use Rattle.lin_parts.specs.declared.parts.Identity.{Identity}
use Rattle.lin_parts.specs.declared.parts.Parts.{Parts}
use Rattle.lin_sections.specs.AttributeValues.{product_id}
use Rattle.lin_sections.specs.Configuring.{identities_in, identity_at, identity_in}
use Rattle.lin_sections.specs.Identities.{identities_of, identity_of, identity_unless, initial_nad}
use Rattle.lin_sections.specs.Requests.{identity_named}
use Rattle.lin_sections.specs.declared.attribute_blocks.NodeAttributes.{NodeAttributes}
use Rattle.lin_sections.specs.declared.identities.NodeIdentity.{NodeIdentity}
use Rattle.lin_sections.specs.Stops.{value_read, Reading}
use Rattle.lin_sections.proofs.StopSteps.{initial-limits, product-limits, IfRead}

-- ---- of blocks

abbrev pub KeepsLimits : NodeIdentity → Type 0
KeepsLimits i = IfSome i.product IsProduct × IfSome i.initial IsInitialNad

if-value : {A : Type 0} (P : A → Type 0) (r : Reading A) → IfRead P r → IfSome (value_read r) P
if-value P (Ok read) is = is
if-value P (Err left) is = tt

product-kept : (o : Option (List Symbol)) → IfSome (option_and_then value_read (option_map (λ ts. product_id (tail ts)) o)) IsProduct
product-kept None = tt
product-kept (Some ts) = if-value IsProduct (product_id (tail ts)) (product-limits (tail ts))

initial-kept : (o : Option (List Symbol)) → IfSome (option_and_then value_read (option_map (λ ts. initial_nad (tail ts)) o)) IsInitialNad
initial-kept None = tt
initial-kept (Some ts) = if-value IsInitialNad (initial_nad (tail ts)) (initial-limits (tail ts))

block-limits : (commander : List ℕ) (b : NodeAttributes) → All KeepsLimits (identity_unless commander b)
block-limits commander b =
    elim (bytes_eq b.node.text commander) as (λ is. All KeepsLimits (cond is [] (identity_of b ∷ []))) [
      | true ↦ All-nil KeepsLimits
      | false ↦ All-cons KeepsLimits (identity_of b) [] (product-kept (find (is_word_next (codes "product_id")) b.attributes), initial-kept (find (is_word_next (codes "initial_NAD")) b.attributes)) (All-nil KeepsLimits)
    ]

pub limits-kept : (commander : List ℕ) (bs : List NodeAttributes) → All KeepsLimits (identities_of commander bs)
limits-kept commander [] = All-nil KeepsLimits
limits-kept commander (b ∷ bs) = All-append KeepsLimits (identity_unless commander b) (identities_of commander bs) (block-limits commander b) (limits-kept commander bs)

-- ---- of a node

find-keeps : {X : Type 0} (P : X → Type 0) (p : X → Bool) (xs : List X) → All P xs → IfSome (find p xs) P
find-keeps P p [] all = tt
find-keeps P p (x ∷ xs) all =
    elim (p x) as (λ b. IfSome (cond b (Some x) (find p xs)) P) [
      | true ↦ All-head P x xs all
      | false ↦ find-keeps P p xs (All-tail P x xs all)
    ]

product-known : (o : Option NodeIdentity) → IfSome o KeepsLimits → IfSome (option_and_then (λ i. i.product) o) IsProduct
product-known None h = tt
product-known (Some i) h = h.0

or-own : (o : Option ℕ) (own : ℕ) → IfSome o IsInitialNad → IsInitialNad own → IsInitialNad (unwrap_or o own)
or-own None own h is = is
or-own (Some n) own h is = h

initial-known : (o : Option NodeIdentity) (own : ℕ) → IfSome o KeepsLimits → IsInitialNad own → IsInitialNad (unwrap_or (option_and_then (λ i. i.initial) o) own)
initial-known None own h is = is
initial-known (Some i) own h is = or-own i.initial own h.1 is

address-is-initial : (own : ℕ) → 1 ≤ own → own ≤ 125 → IsInitialNad own
address-is-initial own some most = (some, omega arith, λ e. omega arith)

is-identity : (c : Parts) (ids : List NodeIdentity) (n own : ℕ) → IsSound c → All KeepsLimits ids → 1 ≤ n → n < nodes c → nad c n ≡ Some own → IsIdentity c (identity_in c ids n own)
is-identity c ids n own sound kept some less is =
    let known = find-keeps KeepsLimits (λ i. bytes_eq i.node (node_of c n).name) ids kept in
    record {
      responder = (some, less);
      addressed = ap is_some is;
      initial = initial-known (identity_named ids (node_of c n).name) own known (address-is-initial own (sound.some n own is) (sound.most n own is));
      product = product-known (identity_named ids (node_of c n).name) known;
    }

-- ---- node by node

numbers-length : (n : ℕ) → length (numbers n) ≡ n
numbers-length zero = refl
numbers-length (suc n) = length-append (numbers n) (n ∷ []) ∙ ap (λ k. k + 1) (numbers-length n) ∙ add-one n

from-one : (n : ℕ) → 1 ≤ n → drop 1 (numbers (suc n)) ≡ drop 1 (numbers n) ++ n ∷ []
from-one n h = drop-append-le 1 (numbers n) (n ∷ []) (omega (arith, numbers-length n))

pub one-node-more : {A : Type 0} (f : ℕ → List A) (n : ℕ) → 1 ≤ n → flat_map f (drop 1 (numbers (n + 1))) ≡ flat_map f (drop 1 (numbers n)) ++ f n
one-node-more f n h =
    ap (λ k. flat_map f (drop 1 (numbers k))) (add-one n) ∙ ap (flat_map f) (from-one n h) ∙ flat_map-append f (drop 1 (numbers n)) (n ∷ [])
    ∙ ap (λ ys. flat_map f (drop 1 (numbers n)) ++ ys) (append-nil (f n))

record Known (c : Parts) (n : ℕ) (all : List Identity) : Type 0 where
  pub each : All (IsIdentity c) all
  pub below : All (λ i. i.node < n) all
  pub rising : AllPairs (λ i j. i.node < j.node) all

one-more-known : (c : Parts) (ids : List NodeIdentity) (n : ℕ) (all : List Identity) → IsSound c → All KeepsLimits ids → 1 ≤ n → n < nodes c → Known c n all → Known c (n + 1) (all ++ identity_at c ids n)
one-more-known c ids n all sound kept some less known =
    elim (nad c n) as (λ o. (nad c n ≡ o) → Known c (n + 1) (all ++ option_map_or (λ own. identity_in c ids n own ∷ []) o [])) [
      | None ↦ λ e.
          subst (Known c (n + 1)) (sym (append-nil all)) (record {
            each = known.each;
            below = All-weaker (λ (i : Identity). i.node < n) (λ i. i.node < n + 1) (λ i h. omega arith) all known.below;
            rising = known.rising;
          })
      | Some own ↦ λ e.
          let i = identity_in c ids n own in
          record {
            each = All-push (IsIdentity c) all i known.each (is-identity c ids n own sound kept some less e);
            below = All-push (λ (j : Identity). j.node < n + 1) all i (All-weaker (λ (j : Identity). j.node < n) (λ j. j.node < n + 1) (λ j h. omega arith) all known.below) (omega arith);
            rising = all_pairs_push (λ (j k : Identity). j.node < k.node) all i known.rising known.below;
          }
    ] refl

known-upto : (c : Parts) (ids : List NodeIdentity) (n : ℕ) → IsSound c → All KeepsLimits ids → 1 ≤ n → n ≤ nodes c → Known c n (flat_map (identity_at c ids) (drop 1 (numbers n)))
known-upto c ids zero sound kept some most = absurd (omega arith)
known-upto c ids (suc zero) sound kept some most = record {
  each = All-nil (IsIdentity c);
  below = All-nil (λ (i : Identity). i.node < 1);
  rising = λ i j d up h. absurd (omega arith);
}
known-upto c ids (suc (suc n)) sound kept some most =
    let before = known-upto c ids (suc n) sound kept (omega arith) (omega arith) in
    let more = one-more-known c ids (suc n) (flat_map (identity_at c ids) (drop 1 (numbers (suc n)))) sound kept (omega arith) (omega arith) before in
    subst (λ (k : ℕ). Known c k (flat_map (identity_at c ids) (drop 1 (numbers k)))) (add-one (suc n))
    (subst (Known c (suc n + 1)) (sym (one-node-more (identity_at c ids) (suc n) (omega arith))) more)

pub are-identities : (c : Parts) (ids : List NodeIdentity) → IsCluster c → IsSound c → All KeepsLimits ids → AreIdentities c (identities_in c ids)
are-identities c ids rules sound kept =
    let number = rules.nodes.number in
    let known = known-upto c ids (nodes c) sound kept (omega (arith, number.0)) (omega arith) in
    record { each = known.each; rising = known.rising }
