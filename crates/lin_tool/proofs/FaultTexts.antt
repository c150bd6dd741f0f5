-- Faults as text: the parts before and after a byte.
use Rattle.std.proofs.Common.{◌≡◌, ◌∙◌, ℕ, suc, ◌+◌, ◌≤◌, ◌==◌, Bool, true, false, List, [], ◌∷◌, ◌++◌, refl, sym, ap, append_assoc, arith, length}
use Rattle.std.specs.Prelude.{Option, Some, None, option_map, Result, Ok, Err}
use Rattle.std.specs.List.{onto_first, slice_split}
use Rattle.std.proofs.lemmas.List.Splits.{slice_split-cons_no, slice_split-cons_yes}
use Rattle.lin_parts.specs.declared.parts.Parts.{Parts}
use Rattle.lin_bench.specs.declared.faults.SlotFault.{SlotFault}
use Rattle.lin_tool.specs.FaultText.{split_around, read_all, read_fault, with_fault}
use Rattle.lin_tool.specs.declared.fault_text.FaultReason.{FaultReason}

-- ---- around a byte
abbrev pub behind : List ℕ → Option (List ℕ × List ℕ) → Option (List ℕ × List ℕ)
behind xs o = option_map (λ (parts : List ℕ × List ℕ). (xs ++ parts.0, parts.1)) o

around-no : (mark x : ℕ) (xs : List ℕ) → (x == mark) ≡ false → split_around mark (x ∷ xs) ≡ option_map (λ (parts : List ℕ × List ℕ). (x ∷ parts.0, parts.1)) (split_around mark xs)
around-no mark x xs h = rw h refl

around-yes : (mark x : ℕ) (xs : List ℕ) → (x == mark) ≡ true → split_around mark (x ∷ xs) ≡ Some ([], xs)
around-yes mark x xs h = rw h refl

-- ---- splits
abbrev pub pieces : Option (List ℕ × List ℕ) → List ℕ → List (List ℕ)
pieces None text = text ∷ []
pieces (Some (first, rest)) text = first ∷ slice_split (λ b. b == 43) rest

pieces-more : (x : ℕ) (o : Option (List ℕ × List ℕ)) (xs : List ℕ) → onto_first x (pieces o xs) ≡ pieces (option_map (λ (parts : List ℕ × List ℕ). (x ∷ parts.0, parts.1)) o) (x ∷ xs)
pieces-more x None xs = refl
pieces-more x (Some parts) xs = refl

split-by : (x : ℕ) (xs : List ℕ) (b : Bool) → (x == 43) ≡ b → slice_split (λ y. y == 43) xs ≡ pieces (split_around 43 xs) xs → slice_split (λ y. y == 43) (x ∷ xs) ≡ pieces (split_around 43 (x ∷ xs)) (x ∷ xs)
split-by x xs true h e = slice_split-cons_yes (λ y. y == 43) x xs h ∙ ap (λ o. pieces o (x ∷ xs)) (sym (around-yes 43 x xs h))
split-by x xs false h e =
    slice_split-cons_no (λ y. y == 43) x xs h ∙ ap (onto_first x) e ∙ pieces-more x (split_around 43 xs) xs ∙ ap (λ o. pieces o (x ∷ xs)) (sym (around-no 43 x xs h))

pub split-around : (text : List ℕ) → slice_split (λ b. b == 43) text ≡ pieces (split_around 43 text) text
split-around [] = refl
split-around (x ∷ xs) = split-by x xs (x == 43) refl (split-around xs)

-- what is left is shorter
abbrev pub rest_length : Option (List ℕ × List ℕ) → ℕ
rest_length None = 0
rest_length (Some parts) = length parts.1 + 1

rest-more : (x : ℕ) (o : Option (List ℕ × List ℕ)) → rest_length (option_map (λ (parts : List ℕ × List ℕ). (x ∷ parts.0, parts.1)) o) ≡ rest_length o
rest-more x None = refl
rest-more x (Some parts) = refl

shorter-by : (mark x : ℕ) (xs : List ℕ) (b : Bool) → (x == mark) ≡ b → rest_length (split_around mark xs) ≤ length xs → rest_length (split_around mark (x ∷ xs)) ≤ suc (length xs)
shorter-by mark x xs true h e = let is = ap rest_length (around-yes mark x xs h) in omega arith
shorter-by mark x xs false h e = let is = ap rest_length (around-no mark x xs h) ∙ rest-more x (split_around mark xs) in omega arith

pub shorter : (mark : ℕ) (text : List ℕ) → rest_length (split_around mark text) ≤ length text
shorter mark [] = omega arith
shorter mark (x ∷ xs) = shorter-by mark x xs (x == mark) refl (shorter mark xs)

-- ---- faults that were read, and those that are left
abbrev pub after_faults : List SlotFault → Result (List SlotFault) (List ℕ × FaultReason) → Result (List SlotFault) (List ℕ × FaultReason)
after_faults fs (Ok more) = Ok (fs ++ more)
after_faults fs (Err bad) = Err bad

pub after-none : (r : Result (List SlotFault) (List ℕ × FaultReason)) → r ≡ after_faults [] r
after-none (Ok more) = refl
after-none (Err bad) = refl

after-one : (fs : List SlotFault) (f : SlotFault) (text : List ℕ) (o : Result (List SlotFault) (List ℕ × FaultReason)) → after_faults fs (with_fault text (Ok f) o) ≡ after_faults (fs ++ f ∷ []) o
after-one fs f text (Ok more) = ap Ok (sym (append_assoc fs (f ∷ []) more))
after-one fs f text (Err bad) = refl

-- one fault more
pub faults-next : (c : Parts) (fs : List SlotFault) (f : SlotFault) (text : List ℕ) (texts : List (List ℕ)) → read_fault c text ≡ Ok f
    → after_faults fs (read_all c (text ∷ texts)) ≡ after_faults (fs ++ f ∷ []) (read_all c texts)
faults-next c fs f text texts e = ap (λ r. after_faults fs (with_fault text r (read_all c texts))) e ∙ after-one fs f text (read_all c texts)

pub faults-bad : (c : Parts) (fs : List SlotFault) (text : List ℕ) (texts : List (List ℕ)) (why : FaultReason) → read_fault c text ≡ Err why
    → after_faults fs (read_all c (text ∷ texts)) ≡ Err (text, why)
faults-bad c fs text texts why e = ap (λ r. after_faults fs (with_fault text r (read_all c texts))) e
