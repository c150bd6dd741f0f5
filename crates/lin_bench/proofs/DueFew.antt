-- At most 16 nodes are due in a slot: nodes of the cluster, or in a slot for a service the responders that have
-- a response ready.
use Rattle.std.proofs.Common.{◌≡◌, ◌∙◌, ℕ, zero, suc, ◌+◌, ◌≤◌, Bool, true, false, not, List, [], ◌∷◌, ◌++◌, map, flat_map, refl, ap, arith, length, length-append, Option, Some, None}
use Rattle.std.specs.Prelude.{◌==◌, filter, if◌then◌else◌, slice_index}
use Rattle.std.specs.Option.{option_map_or}
use Rattle.std.proofs.lemmas.List.{length-map}
use Rattle.std.proofs.lemmas.List.Filters.{length-filter_both}
use Rattle.lin_frame.specs.Words.{numbers}
use Rattle.lin_transport.specs.Transport.{functional}
use Rattle.lin_parts.specs.Cluster.{line_of, nodes, response_of, responses}
use Rattle.lin_parts.specs.declared.parts.Entry.{Entry}
use Rattle.lin_parts.specs.declared.parts.Entry.TheVariants.{Frame, Sporadic, Event, MasterReq, SlaveResp, Fixed, Quiet}
use Rattle.lin_parts.specs.declared.parts.Identity.{Identity}
use Rattle.lin_parts.specs.declared.parts.Parts.{Parts}
use Rattle.lin_core.specs.History.{Slot, finished_slot, good_under, header_is}
use Rattle.lin_core.specs.Slots.{due_nodes, has_put, is_due, is_service, plain_nodes, ready_responses, responses_after, responses_to, served_nodes}
use Rattle.lin_core.specs.declared.log.LogEntry.{LogEntry}
use Rattle.lin_bench.proofs.Makes.{length-last}

-- at most 16 nodes, and as many responders with an address
abbrev pub IsSmall : Parts → Type 0
IsSmall c = (nodes c ≤ 16) × (length c.identities ≤ 16)

filter-few : {X : Type 0} (p : X → Bool) (xs : List X) → length (filter p xs) ≤ length xs
filter-few p xs = let e = length-filter_both p (λ x. not (p x)) (λ x. refl) xs in omega (arith, e)

length-numbers : (n : ℕ) → length (numbers n) ≡ n
length-numbers zero = refl
length-numbers (suc n) = length-last (numbers n) n ∙ ap suc (length-numbers n)

-- ---- each responder responds once to a request
abbrev response_in : Parts → List ℕ → Identity → List (ℕ × List ℕ)
response_in c b i = option_map_or (λ r. (i.node, r) ∷ []) (response_of c i b) []

one-few : (o : Option (List ℕ)) (n : ℕ) → length {A = ℕ × List ℕ} (option_map_or (λ (r : List ℕ). (n, r) ∷ []) o []) ≤ 1
one-few None n = omega arith
one-few (Some r) n = omega arith

all-few : (c : Parts) (b : List ℕ) (all : List Identity) → length (flat_map (response_in c b) all) ≤ length all
all-few c b [] = omega arith
all-few c b (i ∷ is) =
    omega (arith, length-append (response_in c b i) (flat_map (response_in c b) is), one-few (response_of c i b) i.node, all-few c b is)

to-few : (c : Parts) (entry : Entry) → length (responses_to c entry) ≤ length c.identities
to-few c (Frame f) = omega arith
to-few c (Sporadic k) = omega arith
to-few c (Event e) = omega arith
to-few c MasterReq = omega arith
to-few c SlaveResp = omega arith
to-few c (Fixed request) = all-few c request c.identities
to-few c Quiet = omega arith

-- ---- those that are ready
asked-few : (a b : Bool) (n : ℕ) (ready to : List (ℕ × List ℕ)) → length ready ≤ n → length to ≤ n
    → length (if a then [] else if b then ready else to) ≤ n
asked-few true b n ready to few most = omega arith
asked-few false true n ready to few most = few
asked-few false false n ready to few most = most

left-few : (b : Bool) (n : ℕ) (p : ℕ × List ℕ → Bool) (ready : List (ℕ × List ℕ)) → length ready ≤ n
    → length (if b then filter p ready else ready) ≤ n
left-few true n p ready few = omega (arith, filter-few p ready, few)
left-few false n p ready few = few

after-few : (c : Parts) (s : Slot) (ready : List (ℕ × List ℕ)) (o : Option (List ℕ)) → good_under 0x3C s ≡ o → length ready ≤ length c.identities
    → length (responses_after c s ready) ≤ length c.identities
after-few c s ready None is few =
    rw is (left-few (header_is 0x7D s.header) (length c.identities) (λ (r : ℕ × List ℕ). not (has_put s r.0)) ready few)
after-few c s ready (Some bytes) is few =
    rw is (asked-few (slice_index bytes 0 == 0) (slice_index bytes 0 == functional) (length c.identities) ready
    (responses_to c (line_of c s.table s.entry).entry) few (to-few c (line_of c s.table s.entry).entry))

finished-few : (c : Parts) (ready : List (ℕ × List ℕ)) (o : Option Slot) → length ready ≤ length c.identities
    → length (option_map_or (λ s. responses_after c s ready) o ready) ≤ length c.identities
finished-few c ready None few = few
finished-few c ready (Some s) few = after-few c s ready (good_under 0x3C s) refl few

ready-few : (c : Parts) (past : List LogEntry) → length (ready_responses c past) ≤ length c.identities
ready-few c [] = omega arith
ready-few c (e ∷ past) = finished-few c (ready_responses c past) (finished_slot e past) (ready-few c past)

-- ---- those that are due
served-few : (c : Parts) (past : List LogEntry) (entry : Entry) → IsSmall c → length (served_nodes c past entry) ≤ 16
served-few c past (Frame f) small = omega arith
served-few c past (Sporadic k) small = omega arith
served-few c past (Event e) small = omega arith
served-few c past MasterReq small = omega arith
served-few c past SlaveResp small =
    omega (arith, length-map (ready_responses c past) (λ (r : ℕ × List ℕ). r.0), ready-few c past, small.1)
served-few c past (Fixed request) small = omega arith
served-few c past Quiet small = omega arith

plain-few : (c : Parts) (past : List LogEntry) (entry : Entry) → IsSmall c → length (plain_nodes c past entry) ≤ 16
plain-few c past entry small =
    omega (arith, filter-few (is_due c past entry) (numbers (nodes c)), length-numbers (nodes c), small.0)

either-few : (b : Bool) (xs ys : List ℕ) → length xs ≤ 16 → length ys ≤ 16 → length (if b then xs else ys) ≤ 16
either-few true xs ys few most = few
either-few false xs ys few most = most

pub nodes-few : (c : Parts) (past : List LogEntry) (entry : Entry) → IsSmall c → length (due_nodes c past entry) ≤ 16
nodes-few c past entry small =
    either-few (is_service c past entry) (served_nodes c past entry) (plain_nodes c past entry)
    (served-few c past entry small) (plain-few c past entry small)
