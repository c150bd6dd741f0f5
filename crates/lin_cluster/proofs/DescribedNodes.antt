-- The nodes of a description without findings keep the rules of clusters.
use Rattle.std.proofs.Common.{◌≡◌, ◌≢◌, ◌<◌, ◌≤◌, ◌+◌, ◌==◌, nat_le, ℕ, zero, suc, Bool, true, false, not, ◌&&◌, cond, List, [], ◌∷◌, length, get_or, take, map, Option, Some, None, refl, sym, subst, ap, ◌∙◌, inl, inr, arith}
use Rattle.std.specs.Prelude.{All, AllPairs, IfSome, find, is_some, filter_map, option_and_then}
use Rattle.std.specs.List.{list_any, enumerate_from, position_or_len}
use Rattle.std.specs.Str.{bytes_eq}
use Rattle.std.proofs.lemmas.Bool.{and_parts, not-false, leb-true, eqb-true, eqb-false, cases_lt, cases_order, cond-true}
use Rattle.std.proofs.lemmas.List.{get_or-take, length-take-le}
use Rattle.std.proofs.lemmas.List.Elements.{All-cons, All-head, All-tail, All-map}
use Rattle.std.proofs.lemmas.List.Sums.{passes_at_first}
use Rattle.std.proofs.lemmas.List.Folds.{list_any_at}
use Rattle.std.proofs.lemmas.List.FromFn.{get_or-enumerate_from, length-enumerate_from}
use Rattle.std.specs.Option.{option_map}
use Rattle.lin_parts.specs.declared.description.Attributes.{Attributes}
use Rattle.lin_parts.specs.declared.description.Description.{Description}
use Rattle.lin_parts.specs.declared.description.Name.{Name}
use Rattle.lin_parts.specs.declared.description.Number.{Number}
use Rattle.lin_cluster.specs.Described.{node_number, is_block_of, configured_address, described_nad, responder, nodes_of, parts_of}
use Rattle.lin_cluster.specs.Addresses.{block_address, addresses, bad_nad, nad_twice}
use Rattle.lin_cluster.specs.FindingsNames.{is_responder, at_number}
use Rattle.lin_cluster.specs.Fitting.{HasMembers}
use Rattle.lin_parts.specs.Rules.{AreNodes, IsAddress, HaveOwnAddresses}
use Rattle.lin_parts.specs.declared.parts.Node.{Node}
use Rattle.lin_cluster.proofs.GoodParts.{within-limits}
use Rattle.lin_cluster.proofs.KnownNames.{no_name, nodes-count}
use Rattle.lin_cluster.proofs.NamesFound.{found-at, found-past}
use Rattle.lin_cluster.proofs.NothingElse.{NothingElse}
use Rattle.lin_cluster.specs.declared.finding.FindingKind.TheVariants.{BadNad, NadTwice}
use Rattle.lin_cluster.proofs.NothingIn.{IsShort, AreShort, in-each, when-not, of-each, from-each, none-has}
use Rattle.lin_parts.proofs.Pairs.{pairs-cons, pairs-map, pairs-first, pairs-rest}

-- ---- what is mapped where it is something

pub mapped-all : {X Y : Type 0} (P : Y → Type 0) (h : X → Option Y) (xs : List X) → All P (filter_map h xs) → (i : ℕ) (d : X) (y : Y) → i < length xs → h (get_or xs i d) ≡ Some y → P y
mapped-all P h [] all i d y lt is = absurd (omega arith)
mapped-all P h (x ∷ xs) all zero d y lt is = All-head P y (filter_map h xs) (rw is at all)
mapped-all P h (x ∷ xs) all (suc i) d y lt is =
    elim (h x) as (λ o. All P (filter_map h (x ∷ xs)) → h x ≡ o → P y) [
      | None ↦ λ here e. mapped-all P h xs (rw e at here) i d y (omega arith) is
      | Some z ↦ λ here e. mapped-all P h xs (All-tail P z (filter_map h xs) (rw e at here)) i d y (omega arith) is
    ] all refl

mapped-pairs : {X Y : Type 0} (R : Y → Y → Type 0) (h : X → Option Y) (xs : List X) → AllPairs R (filter_map h xs) → (i j : ℕ) (d : X) (y z : Y) → i < j → j < length xs → h (get_or xs i d) ≡ Some y → h (get_or xs j d) ≡ Some z → R y z
mapped-pairs R h [] all i j d y z lt in' here there = absurd (omega arith)
mapped-pairs R h (x ∷ xs) all i zero d y z lt in' here there = absurd (omega arith)
mapped-pairs R h (x ∷ xs) all zero (suc j) d y z lt in' here there = mapped-all (R y) h xs (pairs-first R y (filter_map h xs) (rw here at all)) j d z (omega arith) there
mapped-pairs R h (x ∷ xs) all (suc i) (suc j) d y z lt in' here there =
    elim (h x) as (λ o. AllPairs R (filter_map h (x ∷ xs)) → h x ≡ o → R y z) [
      | None ↦ λ pairs e. mapped-pairs R h xs (rw e at pairs) i j d y z (omega arith) (omega arith) here there
      | Some w ↦ λ pairs e. mapped-pairs R h xs (pairs-rest R w (filter_map h xs) (rw e at pairs)) i j d y z (omega arith) (omega arith) here there
    ] all refl

-- ---- the block of a responder

abbrev no_block : Attributes
no_block = record { node = no_name; protocol = None; configured_nad = None; response_error = None }

abbrev block_at : Description → ℕ → Attributes
block_at d p = get_or d.attributes p no_block

-- the block that has an address
record BlockOf (d : Description) (n a : ℕ) : Type 0 where
  place : ℕ
  within : place < length d.attributes
  owner : node_number d (block_at d place).node ≡ n
  number : Number
  given : (block_at d place).configured_nad ≡ Some number
  value : number.value ≡ a

mapped-some : (o : Option Number) (a : ℕ) → option_map (λ (n : Number). n.value) o ≡ Some a → (n : Number) × (o ≡ Some n) × (n.value ≡ a)
mapped-some None a e = absurd (cc)
mapped-some (Some n) a e = (n, refl, cc)

none-then : (o : Option Attributes) (a : ℕ) → is_some o ≡ false → option_and_then configured_address o ≡ Some a → ⊥
none-then None a e is = cc
none-then (Some b) a e is = cc

block-of : (d : Description) (n a : ℕ) → described_nad d n ≡ Some a → BlockOf d n a
block-of d n a is =
    let p = position_or_len (is_block_of d n) d.attributes
    in elim (cases_lt p (length d.attributes)) as (λ _. BlockOf d n a) [
      | inl lt ↦
          let there : configured_address (block_at d p) ≡ Some a = rw (found-at (is_block_of d n) d.attributes no_block lt) at is
          in let some = mapped-some (block_at d p).configured_nad a there
          in record { place = p; within = lt; owner = eqb-true (node_number d (block_at d p).node) n (passes_at_first (is_block_of d n) d.attributes no_block lt); number = some.0; given = some.1; value = some.2 }
      | inr le ↦ absurd (none-then (find (is_block_of d n) d.attributes) a (found-past (is_block_of d n) d.attributes le) is)
    ]

within-any : {X : Type 0} (p : X → Bool) (xs : List X) (d : X) → position_or_len p xs < length xs → list_any p xs ≡ true
within-any p xs d lt = list_any_at p xs (position_or_len p xs) d lt (passes_at_first p xs d lt)

after-first : {X : Type 0} (p : X → Bool) (x : X) (xs : List X) (d : X) → 1 ≤ position_or_len p (x ∷ xs) → position_or_len p (x ∷ xs) ≤ length xs → (not (p x) && list_any p xs) ≡ true
after-first p x xs d some few =
    elim (p x) as (λ b. 1 ≤ cond (not b) (1 + position_or_len p xs) 0 → cond (not b) (1 + position_or_len p xs) 0 ≤ length xs → (not b && list_any p xs) ≡ true) [
      | true ↦ λ low high. absurd (omega arith)
      | false ↦ λ low high. within-any p xs d (omega arith)
    ] some few

known-responder : (d : Description) (name : Name) → 1 ≤ node_number d name → node_number d name ≤ length d.slaves → is_responder d name ≡ true
known-responder d name some few = after-first (λ n. bytes_eq n.text name.text) d.master d.slaves no_name some few

given-address : (d : Description) (n a : ℕ) → 1 ≤ n → n ≤ length d.slaves → (b : BlockOf d n a) → block_address d (block_at d b.place) ≡ Some b.number
given-address d n a some few b =
    let is : is_responder d (block_at d b.place).node ≡ true = known-responder d (block_at d b.place).node (omega (arith, b.owner)) (omega (arith, b.owner))
    in cond-true (is_responder d (block_at d b.place).node) (block_at d b.place).configured_nad None is ∙ b.given

-- ---- addresses

good-addresses : (d : Description) → NothingElse d → All (λ (n : Number). IsAddress n.value) (addresses d)
good-addresses d none k n lt =
    let v = (get_or (addresses d) k n).value
    in let both = and_parts (nat_le 1 v) (nat_le v 125) (not-false (nat_le 1 v && nat_le v 125) (when-not _ (at_number BadNad (get_or (addresses d) k n)) refl (in-each IsShort bad_nad (addresses d) none.nads k n lt)))
    in (leb-true 1 v both.0, leb-true v 125 both.1)

pub addresses-apart : (d : Description) → NothingElse d → AllPairs (λ (y x : Number). y.value ≢ x.value) (addresses d)
addresses-apart d none i j n lt in' same =
    let ns = addresses d
    in let x = get_or ns j n
    in let once : list_any (λ (y : Number). y.value == x.value) (take j ns) ≡ false = when-not _ (at_number NadTwice x) refl (of-each (λ ix. AreShort (nad_twice ns ix)) ns (in-each IsShort (nad_twice ns) (enumerate_from 0 ns) none.nads_once) j n in')
    in let each = none-has (λ (y : Number). y.value == x.value) (take j ns) once
    in let differ : ((get_or (take j ns) i n).value == x.value) ≡ false = each i n (omega (arith, length-take-le j ns (omega arith)))
    in let apart : ((get_or ns i n).value == x.value) ≡ false = rw (get_or-take j ns i n lt) at differ
    in eqb-false (get_or ns i n).value x.value apart same

if-some : {X : Type 0} (P : X → Type 0) (o : Option X) → ((x : X) → o ≡ Some x → P x) → IfSome o P
if-some P None h = tt
if-some P (Some x) h = h x refl

pub good-nad : (d : Description) → NothingElse d → (n : ℕ) → 1 ≤ n → n ≤ length d.slaves → IfSome (described_nad d n) IsAddress
good-nad d none n some few =
    if-some IsAddress (described_nad d n) (λ a is.
    let b = block-of d n a is
    in subst IsAddress b.value (mapped-all (λ (m : Number). IsAddress m.value) (block_address d) d.attributes (good-addresses d none) b.place no_block b.number b.within (given-address d n a some few b)))

one-nad : (d : Description) → NothingElse d → (m n a : ℕ) → 1 ≤ m → m < n → n ≤ length d.slaves → described_nad d m ≡ Some a → described_nad d n ≡ Some a → ⊥
one-nad d none m n a some lt few here there =
    let b = block-of d m a here
    in let e = block-of d n a there
    in let first = given-address d m a some (omega arith) b
    in let second = given-address d n a (omega arith) few e
    in elim (cases_order b.place e.place) as (λ _. ⊥) [
      | inl same ↦ let one : m ≡ n = sym b.owner ∙ (ap (λ p. node_number d (block_at d p).node) same ∙ e.owner) in omega arith
      | inr apart ↦ elim apart as (λ _. ⊥) [
        | inl before ↦ mapped-pairs (λ (y x : Number). y.value ≢ x.value) (block_address d) d.attributes (addresses-apart d none) b.place e.place no_block b.number e.number before e.within first second (b.value ∙ sym e.value)
        | inr after ↦ mapped-pairs (λ (y x : Number). y.value ≢ x.value) (block_address d) d.attributes (addresses-apart d none) e.place b.place no_block e.number b.number after b.within second first (e.value ∙ sym b.value)
      ]
    ]

-- ---- the rules

abbrev master_node : Description → Node
master_node d = record { name = d.master.text; nad = None }

good-nads : (d : Description) → NothingElse d → All (λ node. IfSome node.nad IsAddress) (nodes_of d)
good-nads d none =
    All-cons (λ (node : Node). IfSome node.nad IsAddress) (master_node d) (map (responder d) (enumerate_from 1 d.slaves)) tt
    (All-map (λ (node : Node). IfSome node.nad IsAddress) (responder d) (enumerate_from 1 d.slaves)
    (from-each (λ kn. IfSome (responder d kn).nad IsAddress) 1 d.slaves (λ k n lt. good-nad d none (1 + k) (omega arith) (omega arith))))

own-nads : (d : Description) → NothingElse d → AllPairs HaveOwnAddresses (nodes_of d)
own-nads d none =
    let numbered = enumerate_from 1 d.slaves
    in pairs-cons HaveOwnAddresses (master_node d) (map (responder d) numbered)
    (λ k n lt a here there. let clash : None ≡ Some a = here in cc)
    (pairs-map HaveOwnAddresses (responder d) numbered (λ i j x lt in' a here there.
    let within : j < length d.slaves = omega (arith, length-enumerate_from 1 d.slaves)
    in one-nad d none (1 + i) (1 + j) a (omega arith) (omega arith) (omega arith)
    (subst (λ (kn : ℕ × Name). (responder d kn).nad ≡ Some a) (get_or-enumerate_from 1 d.slaves i x (omega arith)) here)
    (subst (λ (kn : ℕ × Name). (responder d kn).nad ≡ Some a) (get_or-enumerate_from 1 d.slaves j x within) there)))

pub described-nodes : (d : Description) → NothingElse d → HasMembers d → AreNodes (parts_of d)
described-nodes d none members =
    let limits = within-limits d none
    in record {
      number = (omega (arith, nodes-count d, members.responders), omega (arith, nodes-count d, limits.slaves));
      commander = refl;
      addresses = good-nads d none;
      own_addresses = own-nads d none;
    }
