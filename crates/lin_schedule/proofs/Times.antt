-- Offsets of a table's entries, and the entry that is due at a time.
use Rattle.std.proofs.Common.{◌≡◌, ℕ, zero, suc, ◌+◌, ◌-◌, ◌%◌, ◌<◌, ◌≤◌, Bool, true, false, List, [], ◌∷◌, length, Some, None, refl, ap, sym, ◌∙◌, subst, inl, inr, arith, add-one}
use Rattle.std.specs.Prelude.{slice_index_or, find, sum_by, ◌==◌, nat_lt, if◌then◌else◌}
use Rattle.std.proofs.lemmas.Bool.{cases_lt}
use Rattle.std.proofs.lemmas.Bool.Decides.{Decides-eqb, Decides-ltb, nat_tests}
use Rattle.std.proofs.lemmas.List.Sums.{sum_by_more}
use Rattle.std.proofs.lemmas.List.Folds.{find-append}
use Rattle.std.proofs.Math.Nat.{mod-add-mod, mod_self, zero-mod, mod-eq_of_lt}
use Rattle.std.proofs.Math.Seq.{take-length}
use Rattle.lin_frame.specs.Words.{numbers}
use Rattle.lin_parts.specs.declared.parts.Line.{Line}
use Rattle.lin_parts.specs.declared.parts.Entry.TheVariants.{Quiet}
use Rattle.lin_schedule.specs.Schedule.{offset, total, entry_at}

-- what stands where a table has no entry
abbrev pub no_line : Line
no_line = record { entry = Quiet; delay_us = 1 }

abbrev pub delay_at : List Line → ℕ → ℕ
delay_at table k = (slice_index_or table k no_line).delay_us

-- no delay is 0
abbrev pub AreDelays : List Line → Type 0
AreDelays table = (k : ℕ) → k < length table → 1 ≤ delay_at table k

-- after an entry its delay has passed
pub offset-suc : (table : List Line) (k : ℕ) → k < length table → offset table (suc k) ≡ offset table k + delay_at table k
offset-suc table k h = rw (← add-one k) (sum_by_more (λ line. line.delay_us) table k no_line h)

-- the offset of a later entry is greater
pub offset-rises : (table : List Line) → AreDelays table → (k d j : ℕ) → j ≡ suc (k + d) → j ≤ length table → offset table k < offset table j
offset-rises table h k zero j e le =
    let more = offset-suc table k (omega arith) in
    let delay = h k (omega arith) in
    let is : j ≡ suc k = omega arith in
    rw is (omega (arith, more, delay))
offset-rises table h k (suc d) j e le =
    let earlier = offset-rises table h k d (suc (k + d)) refl (omega arith) in
    let more = offset-suc table (suc (k + d)) (omega arith) in
    let delay = h (suc (k + d)) (omega arith) in
    let is : j ≡ suc (suc (k + d)) = omega arith in
    rw is (omega (arith, earlier, more, delay))

pub offset-below : (table : List Line) → AreDelays table → (k j : ℕ) → k < j → j ≤ length table → offset table k < offset table j
offset-below table h k j lt le = offset-rises table h k (j - suc k) j (omega arith) le

-- two entries have different offsets
pub offset-apart : (table : List Line) → AreDelays table → (k j : ℕ) → k ≤ length table → j ≤ length table
    → offset table k ≡ offset table j → k ≡ j
offset-apart table h k j in_k in_j e =
    let up : k < j → offset table k < offset table j = λ lt. offset-below table h k j lt in_j in
    let down : j < k → offset table j < offset table k = λ lt. offset-below table h j k lt in_k in
    grind (arith, up, down)

pub offset-total : (table : List Line) → offset table (length table) ≡ total table
offset-total table = ap (sum_by (λ (line : Line). line.delay_us)) (take-length table)

pub offset-lt-total : (table : List Line) → AreDelays table → (k : ℕ) → k < length table → offset table k < total table
offset-lt-total table h k lt = rw (← offset-total table) (offset-below table h k (length table) lt (omega arith))

-- where no number passes, none is found
pub find-none : (p : ℕ → Bool) (n : ℕ) → ((j : ℕ) → j < n → p j ≡ false) → find p (numbers n) ≡ None
find-none p zero h = refl
find-none p (suc n) h =
    let before : find p (numbers n) ≡ None = find-none p n (λ j lt. h j (omega arith)) in
    let last : p n ≡ false = h n (omega arith) in
    rw (find-append p (numbers n) (n ∷ []), before, last) refl

-- the first number that passes is found
pub find-first : (p : ℕ → Bool) (k n : ℕ) → k < n → p k ≡ true → ((j : ℕ) → j < k → p j ≡ false) → find p (numbers n) ≡ Some k
find-first p k zero lt here before = absurd (omega arith)
find-first p k (suc n) lt here before =
    elim (cases_lt k n) [
      | inl below ↦
          let found : find p (numbers n) ≡ Some k = find-first p k n below here before in
          rw (find-append p (numbers n) (n ∷ []), found) refl
      | inr above ↦
          let is : n ≡ k = omega arith in
          let none : find p (numbers n) ≡ None = find-none p n (λ j less. before j (omega arith)) in
          let last : p n ≡ true = subst (λ (i : ℕ). p i ≡ true) (sym is) here in
          rw (find-append p (numbers n) (n ∷ []), none, last) (ap Some is)
    ]

-- at a time that is an entry's offset in its round, that entry is due
pub entry_at-offset : (table : List Line) → AreDelays table → (k t : ℕ) → k < length table → offset table k ≡ t % total table → entry_at table t ≡ k
entry_at-offset table h k t lt e =
    let p : ℕ → Bool = λ j. offset table j == t % total table in
    let here : p k ≡ true = (Decides-eqb (offset table k) (t % total table)).1 e in
    let before : (j : ℕ) → j < k → p j ≡ false = λ j less.
    let rises = offset-below table h j k less (omega arith) in grind (arith, nat_tests) in
    rw (find-first p k (length table) lt here before) refl

-- the entry after one, the first again after the last
abbrev pub next : List Line → ℕ → ℕ
next table k = if nat_lt (suc k) (length table) then suc k else 0

-- t is the time of an entry of the table, some rounds apart
abbrev pub IsOn : List Line → ℕ → Type 0
IsOn table t = (entry_at table t < length table) × (offset table (entry_at table t) ≡ t % total table)

pub IsOn-from : (table : List Line) → AreDelays table → (k t : ℕ) → k < length table → offset table k ≡ t % total table → IsOn table t
IsOn-from table h k t lt e =
    let is : entry_at table t ≡ k = entry_at-offset table h k t lt e in
    subst (λ (i : ℕ). (i < length table) × (offset table i ≡ t % total table)) (sym is) (lt, e)

-- a table starts at its first entry
pub offset-start : (table : List Line) → offset table 0 ≡ 0 % total table
offset-start table = sym (zero-mod (total table))

pub entry_at-start : (table : List Line) → AreDelays table → 0 < length table → entry_at table 0 ≡ 0
entry_at-start table h lt = entry_at-offset table h 0 0 lt (offset-start table)

pub next-lt : (table : List Line) (k : ℕ) → k < length table → next table k < length table
next-lt table k lt = grind (arith, nat_tests)

-- when an entry's delay has passed, the time is that of the entry after it
pub offset-next : (table : List Line) → AreDelays table → (k t : ℕ) → k < length table → offset table k ≡ t % total table
    → offset table (next table k) ≡ (t + delay_at table k) % total table
offset-next table h k t lt e =
    let passed : (t + delay_at table k) % total table ≡ offset table (suc k) % total table =
    sym (mod-add-mod t (total table) (delay_at table k))
    ∙ ap (λ (x : ℕ). (x + delay_at table k) % total table) (sym e)
    ∙ ap (λ (x : ℕ). x % total table) (sym (offset-suc table k lt)) in
    elim (cases_lt (suc k) (length table)) [
      | inl more ↦
          let test : nat_lt (suc k) (length table) ≡ true = (Decides-ltb (suc k) (length table)).1 more in
          let small = offset-lt-total table h (suc k) more in
          rw (test, passed) (sym (mod-eq_of_lt small))
      | inr last ↦
          let test : nat_lt (suc k) (length table) ≡ false = grind (arith, nat_tests) in
          let is : suc k ≡ length table = omega arith in
          let whole : offset table (suc k) ≡ total table = ap (offset table) is ∙ offset-total table in
          rw (test, passed, whole) (sym (mod_self (total table)))
    ]

-- so it is then due
pub entry_at-next : (table : List Line) → AreDelays table → (t : ℕ) → IsOn table t
    → entry_at table (t + delay_at table (entry_at table t)) ≡ next table (entry_at table t)
entry_at-next table h t on =
    entry_at-offset table h (next table (entry_at table t)) (t + delay_at table (entry_at table t))
    (next-lt table (entry_at table t) on.0) (offset-next table h (entry_at table t) t on.0 on.1)

pub IsOn-next : (table : List Line) → AreDelays table → (t : ℕ) → IsOn table t → IsOn table (t + delay_at table (entry_at table t))
IsOn-next table h t on =
    IsOn-from table h (next table (entry_at table t)) (t + delay_at table (entry_at table t))
    (next-lt table (entry_at table t) on.0) (offset-next table h (entry_at table t) t on.0 on.1)
