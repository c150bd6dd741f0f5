-- A table's entries are due in turn.
use Rattle.std.proofs.Common.{◌≡◌, ℕ, zero, suc, ◌+◌, ◌%◌, ◌<◌, true, false, List, length, None, refl, ap, sym, ◌∙◌, arith, inl, inr, add-one}
use Rattle.std.specs.Prelude.{nat_lt, replicate}
use Rattle.std.proofs.lemmas.Bool.{cases_lt}
use Rattle.std.proofs.lemmas.Bool.Decides.{Decides-ltb, nat_tests}
use Rattle.std.proofs.Math.Nat.{mod-add-mod, mod_self, zero-mod, mod-eq_of_lt}
use Rattle.lin_parts.specs.Cluster.{table_of, line_of}
use Rattle.lin_parts.specs.Rules.{IsCluster}
use Rattle.lin_parts.specs.declared.parts.Line.{Line}
use Rattle.lin_parts.specs.declared.parts.Parts.{Parts}
use Rattle.lin_schedule.specs.Schedule.{Slot, Standing, offset, total, due, standing}
use Rattle.lin_schedule.specs.Law.{HaveOwnOffsets, time_of_slots, IsInTurn, IsDueInTurn}
use Rattle.lin_schedule.proofs.Clusters.{table-length, table-delays}
use Rattle.lin_schedule.proofs.Times.{AreDelays, entry_at-offset, offset-apart, offset-next, offset-start, next}

-- the entry after the one in turn is in turn
pub next-in_turn : (table : List Line) (n : ℕ) → 0 < length table → next table (n % length table) ≡ suc n % length table
next-in_turn table n some =
    let k : ℕ = n % length table in
    let k_lt : k < length table = omega arith in
    let passed : suc n % length table ≡ suc k % length table =
    ap (λ (x : ℕ). x % length table) (sym (add-one n)) ∙ sym (mod-add-mod n (length table) 1) ∙ ap (λ (x : ℕ). x % length table) (add-one k) in
    elim (cases_lt (suc k) (length table)) [
      | inl more ↦
          let test : nat_lt (suc k) (length table) ≡ true = (Decides-ltb (suc k) (length table)).1 more in
          rw (test, passed) (sym (mod-eq_of_lt more))
      | inr last ↦
          let test : nat_lt (suc k) (length table) ≡ false = grind (arith, nat_tests) in
          let is : suc k ≡ length table = omega arith in
          rw (test, passed, is) (sym (mod_self (length table)))
    ]

-- the time of n slots is, some rounds apart, the offset of the entry in turn
pub offset-in_turn : (c : Parts) (t : ℕ) → 0 < length (table_of c t) → AreDelays (table_of c t) → (n : ℕ)
    → offset (table_of c t) (n % length (table_of c t)) ≡ time_of_slots c t n % total (table_of c t)
offset-in_turn c t some delays zero =
    ap (offset (table_of c t)) (zero-mod (length (table_of c t))) ∙ offset-start (table_of c t)
offset-in_turn c t some delays (suc n) =
    let k_lt : n % length (table_of c t) < length (table_of c t) = omega arith in
    ap (offset (table_of c t)) (sym (next-in_turn (table_of c t) n some))
    ∙ offset-next (table_of c t) delays (n % length (table_of c t)) (time_of_slots c t n) k_lt (offset-in_turn c t some delays n)

pub entry_at-in_turn : (c : Parts) (t : ℕ) → 0 < length (table_of c t) → AreDelays (table_of c t) → (n : ℕ) → IsInTurn c t n
entry_at-in_turn c t some delays n =
    let k_lt : n % length (table_of c t) < length (table_of c t) = omega arith in
    entry_at-offset (table_of c t) delays (n % length (table_of c t)) (time_of_slots c t n) k_lt (offset-in_turn c t some delays n)

-- where a schedule stands after n slots without a clash
pub standing-in_turn : (c : Parts) (t : ℕ) → 0 < length (table_of c t) → AreDelays (table_of c t) → (n : ℕ)
    → standing c t (replicate n (Slot false)) ≡ record { table = t; elapsed = time_of_slots c t n; excursion = None }
standing-in_turn c t some delays zero = refl
standing-in_turn c t some delays (suc n) =
    rw (standing-in_turn c t some delays n)
    (ap (λ (k : ℕ). let s : Standing = record { table = t; elapsed = time_of_slots c t n + (line_of c t k).delay_us; excursion = None } in s)
    (entry_at-in_turn c t some delays n))

pub due-in_turn : (c : Parts) (t : ℕ) → 0 < length (table_of c t) → AreDelays (table_of c t) → (n : ℕ) → IsDueInTurn c t n
due-in_turn c t some delays n =
    ap (due c) (standing-in_turn c t some delays n) ∙ ap (λ (k : ℕ). (t, k)) (entry_at-in_turn c t some delays n)

-- the same in each table of a cluster
pub cluster-own_offsets : (c : Parts) → IsCluster c → (t : ℕ) → t < length c.tables → HaveOwnOffsets (table_of c t)
cluster-own_offsets c rules t lt k j k_lt j_lt e =
    offset-apart (table_of c t) (table-delays c rules t lt) k j (omega arith) (omega arith) e

pub cluster-in_turn : (c : Parts) → IsCluster c → (t : ℕ) → t < length c.tables → (n : ℕ) → IsInTurn c t n
cluster-in_turn c rules t lt = entry_at-in_turn c t (table-length c rules t lt).0 (table-delays c rules t lt)

pub cluster-due_in_turn : (c : Parts) → IsCluster c → (t : ℕ) → t < length c.tables → (n : ℕ) → IsDueInTurn c t n
cluster-due_in_turn c rules t lt = due-in_turn c t (table-length c rules t lt).0 (table-delays c rules t lt)
