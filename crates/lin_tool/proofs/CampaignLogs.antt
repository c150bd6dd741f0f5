-- What is put of the slots of a log, an entry at a time.
use Rattle.std.proofs.Common.{◌≡◌, ◌∙◌, ◌+◌, ◌-◌, ◌<◌, ◌≤◌, ℕ, zero, suc, Bool, true, false, nat_lt, if◌then◌else◌, List, [], ◌∷◌, ◌++◌, refl, sym, ap, arith, flat_map, get_or, length, length-append, take}
use Rattle.std.specs.Prelude.{Option, Some, None, option_map}
use Rattle.std.specs.Option.{option_to_list}
use Rattle.std.proofs.lemmas.Grind.{common_steps}
use Rattle.std.proofs.lemmas.List.{map-append}
use Rattle.lin_core.specs.History.{Slot, finished_slot, seen_of}
use Rattle.lin_core.specs.declared.log.LogEntry.{LogEntry}
use Rattle.lin_log.proofs.LastFinish.{newest-first}
use Rattle.lin_export.proofs.Rows.{flat-append}
use Rattle.lin_export.proofs.Slots.{some-same}
use Rattle.lin_tool.specs.Placing.{past_at}
use Rattle.lin_tool.specs.campaign.Jsonl.{seen_letter, slot_letters}
use Rattle.lin_tool.specs.campaign.Slots.{kept_of_slot, slots_of}
use Rattle.lin_tool.specs.declared.campaign.finished_slots.KeptSlot.{KeptSlot}

-- what holds of the slot that is kept holds of the one that was finished
pub of-slot : (o : Option Slot) (k : KeptSlot) (P : Option Slot → Type 0) → Some k ≡ option_map kept_of_slot o → ((s : Slot) → k ≡ kept_of_slot s → P (Some s)) → P o
of-slot None k P e h = absurd (cc)
of-slot (Some s) k P e h = h s (some-same k (kept_of_slot s) e)

pub of-none : (o : Option Slot) → None ≡ option_map kept_of_slot o → o ≡ None
of-none None e = refl
of-none (Some s) e = absurd (cc)

-- the texts of the slots after one entry more
pub slots-next : (f : Slot → List ℕ) (log : List LogEntry) (i : ℕ) (e : LogEntry) → i < length log → e ≡ get_or log i e
    → flat_map f (slots_of (past_at log i)) ++ flat_map f (option_to_list (finished_slot e (past_at log i))) ≡ flat_map f (slots_of (past_at log (i + 1)))
slots-next f log i e h is =
    sym (flat-append f (slots_of (past_at log i)) (option_to_list (finished_slot e (past_at log i)))) ∙ ap (λ p. flat_map f (slots_of p)) (sym (newest-first log i e h is))

-- the first of two lists, and then the other
take-both : {X : Type 0} (n : ℕ) (xs ys : List X) → take n (xs ++ ys) ≡ take n xs ++ take (n - length xs) ys
take-both zero xs ys = let e : 0 - length xs ≡ 0 = omega arith in rw e refl
take-both (suc n) [] ys = let e : suc n - 0 ≡ suc n = omega arith in rw e refl
take-both (suc n) (x ∷ xs) ys = let e : suc n - suc (length xs) ≡ n - length xs = omega arith in rw e (ap (λ l. x ∷ l) (take-both n xs ys))

-- the letters of the first slots after one entry more
pub letters-next : (n : ℕ) (log : List LogEntry) (i : ℕ) (e : LogEntry) → i < length log → e ≡ get_or log i e
    → slot_letters (take n (slots_of (past_at log i))) ++ slot_letters (take (n - length (slots_of (past_at log i))) (option_to_list (finished_slot e (past_at log i))))
    ≡ slot_letters (take n (slots_of (past_at log (i + 1))))
letters-next n log i e h is =
    let old = slots_of (past_at log i) in
    let new = option_to_list (finished_slot e (past_at log i)) in
    sym (map-append _ (take n old) (take (n - length old) new)) ∙ ap slot_letters (sym (take-both n old new)) ∙ ap (λ p. slot_letters (take n (slots_of p))) (sym (newest-first log i e h is))

-- the letter of a slot after others, if there is room for one more
take-one : {X : Type 0} (n : ℕ) (x : X) → 1 ≤ n → x ∷ [] ≡ take n (x ∷ [])
take-one zero x h = absurd (omega arith)
take-one (suc zero) x h = refl
take-one (suc (suc n)) x h = refl

fits-by : (n m : ℕ) (s : Slot) (b : Bool) → nat_lt m n ≡ b → (if b then seen_letter (seen_of s) ∷ [] else []) ≡ slot_letters (take (n - m) (s ∷ []))
fits-by n m s true h = let k : 1 ≤ n - m = grind (arith, common_steps) in ap slot_letters (take-one (n - m) s k)
fits-by n m s false h = let k : n - m ≡ 0 = grind (arith, common_steps) in rw k refl

pub letter-fits : (n m : ℕ) (s : Slot) → (if nat_lt m n then seen_letter (seen_of s) ∷ [] else []) ≡ slot_letters (take (n - m) (s ∷ []))
letter-fits n m s = fits-by n m s (nat_lt m n) refl

pub no-letters : (n : ℕ) → [] ≡ slot_letters (take n [])
no-letters zero = refl
no-letters (suc n) = refl

-- how many slots there are after one entry more
pub count-next : (log : List LogEntry) (i : ℕ) (e : LogEntry) → i < length log → e ≡ get_or log i e
    → length (slots_of (past_at log i)) + length (option_to_list (finished_slot e (past_at log i))) ≡ length (slots_of (past_at log (i + 1)))
count-next log i e h is =
    sym (length-append (slots_of (past_at log i)) (option_to_list (finished_slot e (past_at log i)))) ∙ ap (λ p. length (slots_of p)) (sym (newest-first log i e h is))

at-most-one : (o : Option Slot) → length (option_to_list o) ≤ 1
at-most-one None = omega arith
at-most-one (Some s) = omega arith

pub one-most : (e : LogEntry) (past : List LogEntry) → length (option_to_list (finished_slot e past)) ≤ 1
one-most e past = at-most-one (finished_slot e past)
