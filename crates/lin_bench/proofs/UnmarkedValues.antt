-- Why a line is bad in which `=` is missing before a value, by what stands there.
use Rattle.std.proofs.Common.{◌≡◌, ◌∙◌, ◌&&◌, ℕ, Bool, true, false, cond, List, ap, Option, None, Result, Ok, Err, subst}
use Rattle.lin_parts.specs.declared.parts.Parts.{Parts}
use Rattle.lin_values.specs.Coded.{CodedData}
use Rattle.lin_bench.specs.Read.{Fails}
use Rattle.lin_bench.specs.Words.{asks_value, is_number_or_range, is_signal_after, reads_initial, why_of_signal, why_signal, why_value}
use Rattle.lin_bench.specs.declared.fault.LineFault.{LineFault}
use Rattle.lin_bench.specs.declared.fault.LineFault.TheVariants.{Bad}
use Rattle.lin_bench.specs.declared.reason.Reason.{Reason}

pub numeric-value : (k : CodedData) (field : List ℕ) (s : Result ℕ Reason) (ranged : Bool) (value : List (List ℕ)) → is_number_or_range value ≡ true → why_value k field s ranged value ≡ None
numeric-value k field s ranged value e = ap (λ b. cond b None (why_signal k field s ranged value)) e

other-value : (k : CodedData) (field : List ℕ) (s : Result ℕ Reason) (ranged : Bool) (value : List (List ℕ)) → is_number_or_range value ≡ false → why_value k field s ranged value ≡ why_signal k field s ranged value
other-value k field s ranged value e = ap (λ b. cond b None (why_signal k field s ranged value)) e

pub coded-value : (k : CodedData) (field : List ℕ) (s : Result ℕ Reason) (n : ℕ) (ranged : Bool) (value : List (List ℕ)) → is_number_or_range value ≡ false → s ≡ Ok n → why_value k field s ranged value ≡ why_of_signal k field n ranged value
coded-value k field s n ranged value e f = other-value k field s ranged value e ∙ ap (λ r. why_signal k field r ranged value) f

pub unknown-value : (k : CodedData) (field : List ℕ) (s : Result ℕ Reason) (fault : LineFault) (why : Reason) (ranged : Bool) (value : List (List ℕ)) → is_number_or_range value ≡ false → fault ≡ Bad why → Fails fault s → why_value k field s ranged value ≡ None
unknown-value k field s fault why ranged value e is f =
    let failed : s ≡ Err why = subst (λ x. Fails x s) is f in
    other-value k field s ranged value e ∙ ap (λ r. why_signal k field r ranged value) failed

-- ---- whether a field is a signal, by the fields before it

pub asked : (c : Parts) (before : List (List ℕ)) (signal : List ℕ) → asks_value before ≡ true → is_signal_after c before signal ≡ reads_initial c before signal
asked c before signal e = ap (λ b. b && reads_initial c before signal) e

pub not-asked : (c : Parts) (before : List (List ℕ)) (signal : List ℕ) → asks_value before ≡ false → is_signal_after c before signal ≡ false
not-asked c before signal e = ap (λ b. b && reads_initial c before signal) e
