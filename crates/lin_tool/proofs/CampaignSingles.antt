-- The single faults of slots, one slot more, and how many there are.
use Rattle.std.proofs.Common.{◌≡◌, ◌∙◌, ℕ, zero, suc, Bool, true, false, ◌&&◌, cond, if◌then◌else◌, ◌+◌, ◌*◌, ◌<◌, ◌≤◌, List, [], ◌∷◌, ◌++◌, refl, sym, ap, ap₂, append_assoc, append-nil, arith, flat_map, get_or, length, length-append, length-take, map, subst, take, take_all}
use Rattle.std.proofs.Math.Nat.{mul-suc}
use Rattle.std.proofs.lemmas.Grind.{flat_map-append}
use Rattle.std.proofs.lemmas.List.{length-map, map-append, take-append-le}
use Rattle.std.proofs.lemmas.List.Elements.{filter-append}
use Rattle.std.proofs.lemmas.List.Sums.{count_by-le-length, length-filter}
use Rattle.std.specs.Prelude.{Option, Some, None, filter, option_map, slice_get, zip}
use Rattle.std.specs.Option.{option_to_list}
use Rattle.lin_frame.specs.Words.{numbers}
use Rattle.lin_parts.specs.declared.parts.Parts.{Parts}
use Rattle.lin_core.specs.History.{Slot}
use Rattle.lin_bench.specs.Faults.{is_intact}
use Rattle.lin_bench.specs.declared.faults.FaultKind.TheVariants.{Damage, Absent}
use Rattle.lin_tool.specs.campaign.Singles.{AreSinglesOf, absent_from, fault_of_single, faults_at, most_slots, single_fault, singles_in, singles_of}
use Rattle.lin_tool.specs.campaign.Slots.{has_responded, kept_of_slot, responders}
use Rattle.lin_tool.specs.declared.campaign.singles.Kinds.{Kinds}
use Rattle.lin_tool.specs.declared.campaign.singles.Single.{Single}
use Rattle.lin_tool.specs.declared.campaign.finished_slots.KeptSlot.{KeptSlot}
use Rattle.lin_tool.proofs.CampaignRows.{length-numbers}
use Rattle.lin_tool.proofs.CampaignSlots.{at-number}

-- ---- numbered slots
zip-more : (ns : List ℕ) (slots : List Slot) (n : ℕ) (s : Slot) → length ns ≡ length slots → zip (ns ++ n ∷ []) (slots ++ s ∷ []) ≡ zip ns slots ++ (n, s) ∷ []
zip-more [] [] n s e = refl
zip-more [] (t ∷ ts) n s e = absurd (omega (arith, e))
zip-more (m ∷ ms) [] n s e = absurd (omega (arith, e))
zip-more (m ∷ ms) (t ∷ ts) n s e = ap (λ l. (m, t) ∷ l) (zip-more ms ts n s (omega (arith, e)))

-- what stands for the first slots, up to a number of them
abbrev numbered : (ℕ × Slot → List Single) → ℕ → List Slot → List Single
numbered f most slots = flat_map f (zip (numbers (length (take most slots))) (take most slots))

all-numbered : (f : ℕ × Slot → List Single) (most : ℕ) (slots : List Slot) → length slots ≤ most → numbered f most slots ≡ flat_map f (zip (numbers (length slots)) slots)
all-numbered f most slots h = ap (λ ts. flat_map f (zip (numbers (length ts)) ts)) (take_all most slots h)

numbered-more : (f : ℕ × Slot → List Single) (most : ℕ) (slots : List Slot) (s : Slot) → length slots < most → numbered f most (slots ++ s ∷ []) ≡ numbered f most slots ++ f (length slots, s)
numbered-more f most slots s h =
    let long = length-append slots (s ∷ []) in
    let next : length (slots ++ s ∷ []) ≡ suc (length slots) = omega (arith, long) in
    all-numbered f most (slots ++ s ∷ []) (omega (arith, next))
    ∙ ap (λ n. flat_map f (zip (numbers n) (slots ++ s ∷ []))) next
    ∙ ap (flat_map f) (zip-more (numbers (length slots)) slots (length slots) s (length-numbers (length slots)))
    ∙ flat_map-append f (zip (numbers (length slots)) slots) ((length slots, s) ∷ [])
    ∙ ap (λ l. flat_map f (zip (numbers (length slots)) slots) ++ l) (append-nil (f (length slots, s)))
    ∙ ap (λ l. l ++ f (length slots, s)) (sym (all-numbered f most slots (omega arith)))

numbered-full : (f : ℕ × Slot → List Single) (most : ℕ) (slots : List Slot) (s : Slot) → most ≤ length slots → numbered f most (slots ++ s ∷ []) ≡ numbered f most slots
numbered-full f most slots s h = ap (λ ts. flat_map f (zip (numbers (length ts)) ts)) (take-append-le most slots (s ∷ []) h)

-- no slot more
pub none-more : (c : Parts) (kinds : Kinds) (slots : List Slot) (next : Option Slot) (ss : List Single) (n : ℕ) → None ≡ option_map kept_of_slot next
    → AreSinglesOf c kinds slots ss n → AreSinglesOf c kinds (slots ++ option_to_list next) ss n
none-more c kinds slots None ss n e h = subst (λ (l : List Slot). AreSinglesOf c kinds l ss n) (sym (append-nil slots)) h
none-more c kinds slots (Some s) ss n e h = absurd (cc)

some-same : {X : Type 0} (x y : X) → Some x ≡ Some y → x ≡ y
some-same x y e = cc

-- one slot more
pub one-more : (c : Parts) (kinds : Kinds) (slots : List Slot) (next : Option Slot) (k : KeptSlot) (old new : List Single) (n : ℕ) → Some k ≡ option_map kept_of_slot next → n < most_slots
    → ((s : Slot) → k ≡ kept_of_slot s → new ≡ old ++ singles_of c kinds (n, s))
    → AreSinglesOf c kinds slots old n → AreSinglesOf c kinds (slots ++ option_to_list next) new (n + 1)
one-more c kinds slots None k old new n e few adds h = absurd (cc)
one-more c kinds slots (Some s) k old new n e few adds h =
    let long = length-append slots (s ∷ []) in
    let named = h.named in
    let own : n ≡ length slots = omega (arith, named) in
    record {
      all =
          adds s (some-same k (kept_of_slot s) e) ∙ ap (λ l. l ++ singles_of c kinds (n, s)) h.all ∙ ap (λ m. singles_in c kinds slots ++ singles_of c kinds (m, s)) own
          ∙ sym (numbered-more (singles_of c kinds) most_slots slots s (omega (arith, named)));
      named = omega (arith, named, long);
    }

-- a slot that no fault can name
pub full-more : (c : Parts) (kinds : Kinds) (slots : List Slot) (next : Option Slot) (k : KeptSlot) (ss : List Single) (n : ℕ) → Some k ≡ option_map kept_of_slot next → most_slots ≤ n
    → AreSinglesOf c kinds slots ss n → AreSinglesOf c kinds (slots ++ option_to_list next) ss n
full-more c kinds slots None k ss n e many h = absurd (cc)
full-more c kinds slots (Some s) k ss n e many h =
    let long = length-append slots (s ∷ []) in
    let named = h.named in
    record {
      all = h.all ∙ sym (numbered-full (singles_of c kinds) most_slots slots s (omega (arith, named)));
      named = omega (arith, named, long);
    }

-- ---- those of a slot
-- the absence of node n
abbrev pub absence : Single → Bool → ℕ → Single
absence first goes_on n = record first { kind = Absent n; goes_on = goes_on }

-- one node more
mapped-if : (g : ℕ → Single) (b : Bool) (m : ℕ) → (if b then g m ∷ [] else []) ≡ map g (cond b (m ∷ []) [])
mapped-if g true m = refl
mapped-if g false m = refl

pub absent-next : (first : Single) (goes_on : Bool) (answered : List Bool) (m : ℕ) (b : Bool) → b ≡ get_or answered m false
    → map (absence first goes_on) (filter (λ n. get_or answered n false) (numbers m)) ++ (if b then absence first goes_on m ∷ [] else [])
    ≡ map (absence first goes_on) (filter (λ n. get_or answered n false) (numbers (m + 1)))
absent-next first goes_on answered m b is =
    let g = absence first goes_on in
    let p = (λ (n : ℕ). get_or answered n false) in
    let next : suc m ≡ m + 1 = omega arith in
    ap (λ l. map g (filter p (numbers m)) ++ l) (ap (λ (x : Bool). if x then g m ∷ [] else []) is ∙ mapped-if g (p m) m)
    ∙ sym (ap (map g) (filter-append p (numbers m) (m ∷ [])) ∙ map-append g (filter p (numbers m)) (filter p (m ∷ [])))
    ∙ ap (λ k. map g (filter p (numbers k))) next

pub absent-all : (first : Single) (goes_on : Bool) (answered : List Bool) (m : ℕ) → m ≡ 16
    → map (absence first goes_on) (filter (λ n. get_or answered n false) (numbers m)) ≡ absent_from first goes_on answered
unfolding absent_from
absent-all first goes_on answered m is = ap (λ k. map (absence first goes_on) (filter (λ n. get_or answered n false) (numbers k))) is

filter-numbers : (p q : ℕ → Bool) (m : ℕ) → ((k : ℕ) → k < m → p k ≡ q k) → filter p (numbers m) ≡ filter q (numbers m)
filter-numbers p q zero same = refl
filter-numbers p q (suc m) same =
    filter-append p (numbers m) (m ∷ [])
    ∙ ap₂ (λ a b. a ++ b) (filter-numbers p q m (λ k h. same k (omega (arith, h)))) (ap (λ (b : Bool). cond b (m ∷ []) []) (same m (omega arith)))
    ∙ sym (filter-append q (numbers m) (m ∷ []))

absent-of : (first : Single) (goes_on : Bool) (f : ℕ → Bool) (m : ℕ)
    → map (absence first goes_on) (filter (λ n. get_or (map f (numbers m)) n false) (numbers m)) ≡ map (absence first goes_on) (filter f (numbers m))
absent-of first goes_on f m = ap (map (absence first goes_on)) (filter-numbers (λ n. get_or (map f (numbers m)) n false) f m (λ k h. at-number f m k false h))

absent-from : (c : Parts) (n : ℕ) (s : Slot) (goes_on : Bool) → absent_from (single_fault c n s Damage false) goes_on (kept_of_slot s).answered ≡ map (absence (single_fault c n s Damage false) goes_on) (responders s)
unfolding absent_from responders
absent-from c n s goes_on = absent-of (single_fault c n s Damage false) goes_on (has_responded s) 16

pub of-slot : (c : Parts) (kinds : Kinds) (n : ℕ) (s : Slot) (k : KeptSlot) (damage : Single) (whole : Bool) (old one two new : List Single) → k ≡ kept_of_slot s → damage ≡ single_fault c n s Damage false → whole ≡ is_intact s
    → one ≡ old ++ (if kinds.damage && whole then damage ∷ [] else [])
    → two ≡ one ++ (if kinds.absent then absent_from damage false k.answered else [])
    → new ≡ two ++ (if kinds.gone then absent_from damage true k.answered else [])
    → new ≡ old ++ singles_of c kinds (n, s)
of-slot c kinds n s k damage whole old one two new is made same first second third =
    let a = (if kinds.damage && is_intact s then single_fault c n s Damage false ∷ [] else []) in
    let b = (if kinds.absent then map (λ m. single_fault c n s (Absent m) false) (responders s) else []) in
    let d = (if kinds.gone then map (λ m. single_fault c n s (Absent m) true) (responders s) else []) in
    let first-is : one ≡ old ++ a = first ∙ ap₂ (λ (x : Single) (y : Bool). old ++ (if kinds.damage && y then x ∷ [] else [])) made same in
    let second-is : two ≡ one ++ b =
    second ∙ ap (λ (l : List Single). one ++ (if kinds.absent then l else [])) (ap₂ (λ (x : Single) (y : KeptSlot). absent_from x false y.answered) made is ∙ absent-from c n s false) in
    let third-is : new ≡ two ++ d =
    third ∙ ap (λ (l : List Single). two ++ (if kinds.gone then l else [])) (ap₂ (λ (x : Single) (y : KeptSlot). absent_from x true y.answered) made is ∙ absent-from c n s true) in
    third-is ∙ ap (λ l. l ++ d) (second-is ∙ ap (λ l. l ++ b) first-is) ∙ append_assoc (old ++ a) b d ∙ append_assoc old a (b ++ d)

-- ---- how many there are
length-if : {X : Type 0} (b : Bool) (xs : List X) (n : ℕ) → length xs ≤ n → length (if b then xs else []) ≤ n
length-if true xs n h = h
length-if false xs n h = omega arith

few-filter : (p : ℕ → Bool) (m : ℕ) → length (filter p (numbers m)) ≤ m
few-filter p m =
    let count = length-filter p (numbers m) in
    let less = count_by-le-length p (numbers m) in
    omega (arith, count, less, length-numbers m)

few-responders : (s : Slot) → length (responders s) ≤ 16
unfolding responders
few-responders s = few-filter (has_responded s) 16

few-of-slot : (c : Parts) (kinds : Kinds) (p : ℕ × Slot) → length (singles_of c kinds p) ≤ 33
few-of-slot c kinds (n, s) =
    let a = (if kinds.damage && is_intact s then single_fault c n s Damage false ∷ [] else []) in
    let b = (if kinds.absent then map (λ m. single_fault c n s (Absent m) false) (responders s) else []) in
    let d = (if kinds.gone then map (λ m. single_fault c n s (Absent m) true) (responders s) else []) in
    let few = few-responders s in
    let absent = length-map (responders s) (λ m. single_fault c n s (Absent m) false) in
    let gone = length-map (responders s) (λ m. single_fault c n s (Absent m) true) in
    let one : length a ≤ 1 = length-if (kinds.damage && is_intact s) (single_fault c n s Damage false ∷ []) 1 (omega arith) in
    let two : length b ≤ 16 = length-if kinds.absent (map (λ m. single_fault c n s (Absent m) false) (responders s)) 16 (omega (arith, few, absent)) in
    let three : length d ≤ 16 = length-if kinds.gone (map (λ m. single_fault c n s (Absent m) true) (responders s)) 16 (omega (arith, few, gone)) in
    let all = length-append a (b ++ d) in
    let behind = length-append b d in
    omega (arith, one, two, three, all, behind)

few-flat : {X Y : Type 0} (f : X → List Y) (most : ℕ) (xs : List X) → ((x : X) → length (f x) ≤ most) → length (flat_map f xs) ≤ most * length xs
few-flat f most [] each = omega arith
few-flat f most (x ∷ xs) each =
    let all = length-append (f x) (flat_map f xs) in
    let rest = few-flat f most xs each in
    let own = each x in
    let times : most * suc (length xs) ≡ most * length xs + most = mul-suc most (length xs) in
    omega (arith, all, rest, own, times)

length-zip-le : {X Y : Type 0} (xs : List X) (ys : List Y) → length (zip xs ys) ≤ length ys
length-zip-le [] ys = omega arith
length-zip-le (x ∷ xs) [] = omega arith
length-zip-le (x ∷ xs) (y ∷ ys) = let rest = length-zip-le xs ys in omega (arith, rest)

few-numbered : (f : ℕ × Slot → List Single) (most : ℕ) (slots : List Slot) → ((p : ℕ × Slot) → length (f p) ≤ 33) → length (numbered f most slots) ≤ 33 * most
few-numbered f most slots each =
    let all = few-flat f 33 (zip (numbers (length (take most slots))) (take most slots)) each in
    let pairs = length-zip-le (numbers (length (take most slots))) (take most slots) in
    let first = length-take most slots in
    omega (arith, all, pairs, first)

pub few-singles : (c : Parts) (kinds : Kinds) (slots : List Slot) → length (singles_in c kinds slots) ≤ 33000000
few-singles c kinds slots = few-numbered (singles_of c kinds) most_slots slots (few-of-slot c kinds)

-- ---- the faults of a row
at-place : (ss : List Single) (p : ℕ) (d : Single) → p < length ss → slice_get ss p ≡ Some (get_or ss p d)
at-place [] p d h = absurd (omega arith)
at-place (s ∷ ss) zero d h = refl
at-place (s ∷ ss) (suc p) d h = at-place ss p d (omega arith)

no-place : (ss : List Single) (p : ℕ) → length ss ≤ p → slice_get ss p ≡ None
no-place [] p h = refl
no-place (s ∷ ss) zero h = absurd (omega arith)
no-place (s ∷ ss) (suc p) h = no-place ss p (omega arith)

pub fault-next : (ss : List Single) (p : ℕ) (ps : List ℕ) (d : Single) → p < length ss → faults_at ss (p ∷ ps) ≡ fault_of_single (get_or ss p d) ∷ faults_at ss ps
fault-next ss p ps d h = rw (at-place ss p d h) refl

pub fault-none : (ss : List Single) (p : ℕ) (ps : List ℕ) → length ss ≤ p → faults_at ss (p ∷ ps) ≡ faults_at ss ps
fault-none ss p ps h = rw (no-place ss p h) refl
