-- Tight slots are too short, and where no slot is, none is tight.
use Rattle.std.proofs.Common.{◌≡◌, ◌≢◌, ◌==◌, ℕ, Bool, true, false, not, ◌&&◌, List, [], ◌∷◌, ◌++◌, get_or, flat_map, refl, ap, ◌∙◌}
use Rattle.std.specs.Prelude.{All, Option, Some, None, if◌then◌else◌, nat_lt}
use Rattle.std.proofs.lemmas.List.Elements.{All-nil, All-cons, All-head, All-append, All-tail}
use Rattle.lin_cluster.specs.Findings.{candidates, in_entry, in_table}
use Rattle.lin_cluster.specs.FindingsNames.{at_name}
use Rattle.lin_cluster.specs.Limits.{long_delay, long_table}
use Rattle.lin_cluster.specs.Slots.{is_speed, needed_us, short_slot, short_slot_at, slot_size, zero_delay}
use Rattle.lin_cluster.specs.Tables.{empty_table}
use Rattle.lin_cluster.specs.UnknownNames.{unknown_entry}
use Rattle.lin_cluster.specs.declared.finding.Finding.{Finding}
use Rattle.lin_cluster.specs.declared.finding.FindingKind.TheVariants.{SlotTooShort}
use Rattle.lin_cluster.proofs.NothingElse.{of-each-part}
use Rattle.lin_cluster.proofs.NothingIn.{four-parts, in-each, three-parts}
use Rattle.lin_parts.specs.declared.description.Description.{Description}
use Rattle.lin_parts.specs.declared.description.Table.{Table}
use Rattle.lin_parts.specs.declared.description.TableEntry.{TableEntry}
use Rattle.lin_field.specs.Times.{is_possible, tight_slot, tight_slots}

short-if : (b : Bool) (us : ℕ) (e : TableEntry) → All (λ f. f.number ≡ 9) (if b then at_name (SlotTooShort us) e.name ∷ [] else [])
short-if true us e = All-cons (λ f. f.number ≡ 9) (at_name (SlotTooShort us) e.name) [] refl (All-nil (λ f. f.number ≡ 9))
short-if false us e = All-nil (λ f. f.number ≡ 9)

short-slot : (jitter speed : ℕ) (e : TableEntry) (size : Option ℕ) → All (λ f. f.number ≡ 9) (short_slot jitter speed e size)
short-slot jitter speed e None = All-nil (λ f. f.number ≡ 9)
short-slot jitter speed e (Some n) = short-if (not (e.delay.value == 0) && is_speed speed && nat_lt e.delay.value (needed_us jitter speed n)) (needed_us jitter speed n) e

all-if : (P : Finding → Type 0) (b : Bool) (fs : List Finding) → All P fs → All P (if b then fs else [])
all-if P true fs all = all
all-if P false fs all = All-nil P

all-of-each : {X A : Type 0} (P : A → Type 0) (f : X → List A) → ((x : X) → All P (f x)) → (xs : List X) → All P (flat_map f xs)
all-of-each P f each [] = All-nil P
all-of-each P f each (x ∷ xs) = All-append P (f x) (flat_map f xs) (each x) (all-of-each P f each xs)

pub tight-are-short : (d : Description) → All (λ f. f.number ≡ 9) (tight_slots d)
tight-are-short d =
    let P = λ (f : Finding). f.number ≡ 9
    in all-of-each P (λ (t : Table). flat_map (tight_slot d) t.entries) (λ t. all-of-each P (tight_slot d) (λ e.
    all-if P (is_possible d e) (short_slot_at d e) (short-slot d.jitter.value d.speed.value e (slot_size d e))) t.entries) d.tables

-- ---- where no slot is too short

pub none-of-each : {X A : Type 0} (f : X → List A) (xs : List X) → All (λ x. f x ≡ []) xs → flat_map f xs ≡ []
none-of-each f [] all = refl
none-of-each f (x ∷ xs) all =
    ap (λ ys. ys ++ flat_map f xs) (All-head (λ y. f y ≡ []) x xs all) ∙ none-of-each f xs (All-tail (λ y. f y ≡ []) x xs all)

if-none : {X : Type 0} (b : Bool) (xs : List X) → xs ≡ [] → (if b then xs else []) ≡ []
if-none true xs none = none
if-none false xs none = refl

short-and-not : (fs : List Finding) → All (λ f. f.number ≡ 9) fs → All (λ f. f.number ≢ 9) fs → fs ≡ []
short-and-not [] short not-short = refl
short-and-not (f ∷ fs) short not-short = absurd (All-head (λ (g : Finding). g.number ≢ 9) f fs not-short (All-head (λ (g : Finding). g.number ≡ 9) f fs short))

pub none-tight : (d : Description) → All (λ f. f.number ≢ 9) (candidates d) → tight_slots d ≡ []
none-tight d all =
    let P = λ (f : Finding). f.number ≢ 9
    in let parts = of-each-part P d all
    in none-of-each (λ (t : Table). flat_map (tight_slot d) t.entries) d.tables (λ k t lt.
    let here = get_or d.tables k t
    in let whole = three-parts P (empty_table here) (long_table here) (flat_map (in_entry d) here.entries) (in-each P (in_table d) d.tables parts.tables k t lt)
    in none-of-each (tight_slot d) here.entries (λ j e in'.
    let x = get_or here.entries j e
    in let each = four-parts P (unknown_entry d x) (short_slot_at d x) (zero_delay x) (long_delay x) (in-each P (in_entry d) here.entries whole.2 j e in')
    in if-none (is_possible d x) (short_slot_at d x) (short-and-not (short_slot_at d x) (short-slot d.jitter.value d.speed.value x (slot_size d x)) each.1)))
