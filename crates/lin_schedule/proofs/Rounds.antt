-- The rows of times are times ahead.
use Rattle.std.proofs.Common.{◌≡◌, ℕ, zero, suc, ◌+◌, ◌-◌, ◌*◌, ◌/◌, ◌%◌, ◌<◌, ◌≤◌, max, Bool, true, false, List, [], ◌∷◌, ◌++◌, length, get_or, refl, ap, sym, ◌∙◌, subst, arith, inl, inr, cond, add-one}
use Rattle.std.specs.Prelude.{if◌then◌else◌, nat_le, nat_lt, replicate, ◌&&◌, ◌||◌, not, All}
use Rattle.std.proofs.lemmas.Bool.{cases_lt, cases_Bool, and_parts, ltb-true}
use Rattle.std.proofs.lemmas.Bool.Decides.{nat_tests}
use Rattle.std.proofs.lemmas.List.{get_or_append_left, length-append, length-replicate, get_or-replicate}
use Rattle.std.proofs.Math.Nat.{suc-mul, add-zero}
use Rattle.std.proofs.Math.Seq.{get_or-append_seam}
use Rattle.std.proofs.lemmas.List.Elements.{All-append, All-cons, All-nil}
use Rattle.std.proofs.lemmas.List.Sums.{sum_by-cons}
use Rattle.std.proofs.lemmas.Nat.{div-mul-add, mod-mul-add, mul-le, mul-add-lt}
use Rattle.lin_parts.specs.Cluster.{table_of, line_of}
use Rattle.lin_parts.specs.declared.parts.Parts.{Parts}
use Rattle.lin_parts.specs.declared.parts.Line.{Line}
use Rattle.lin_parts.specs.declared.parts.Entry.{Entry}
use Rattle.lin_schedule.specs.Ahead.{left, through, ahead_of, longest_from, next_entry, resolving_lines, AreTimesAhead}
use Rattle.lin_schedule.specs.Carriers.{Carriers, carries, can_collide}
use Rattle.lin_schedule.specs.Rounds.{AreRows, carriers_in, is_sure, after_of, back_from, longest_of, times_in, times_after, next_time}

-- ---- places in a row

pub back_from-near : (slots last i : ℕ) → i ≤ last → back_from slots last i ≡ last - i
back_from-near slots last i le =
    let test : nat_le i last ≡ true = grind (arith, nat_tests) in rw test refl

pub back_from-far : (slots last i : ℕ) → last < i → back_from slots last i ≡ last + slots - i
back_from-far slots last i lt =
    let test : nat_le i last ≡ false = grind (arith, nat_tests) in rw test refl

pub back_from-lt : (slots last i : ℕ) → last < slots → i < slots → back_from slots last i < slots
back_from-lt slots last i last_lt i_lt = elim (cases_lt last i) [
  | inl far ↦ omega (arith, back_from-far slots last i far)
  | inr near ↦ omega (arith, back_from-near slots last i near)
]

pub back_from-back : (slots last i : ℕ) → last < slots → i < slots → back_from slots last (back_from slots last i) ≡ i
back_from-back slots last i last_lt i_lt = elim (cases_lt last i) [
  | inl far ↦
      let e = back_from-far slots last i far in
      let far_too : last < back_from slots last i = omega (arith, e) in
      omega (arith, e, back_from-far slots last (back_from slots last i) far_too)
  | inr near ↦
      let e = back_from-near slots last i near in
      let near_too : back_from slots last i ≤ last = omega (arith, e) in
      omega (arith, e, back_from-near slots last (back_from slots last i) near_too)
]

next-inner : (table : List Line) (i : ℕ) → suc i < length table → next_entry table i ≡ suc i
next-inner table i lt = let test : nat_lt (suc i) (length table) ≡ true = grind (arith, nat_tests) in rw test refl

next-outer : (table : List Line) (i : ℕ) → length table ≤ suc i → next_entry table i ≡ 0
next-outer table i le = let test : nat_lt (suc i) (length table) ≡ false = grind (arith, nat_tests) in rw test refl

-- the place of the next slot is one before, and at the row's start the last one
pub back_from-next : (table : List Line) (last i : ℕ) → last < length table → i < length table → 0 < back_from (length table) last i
    → suc (back_from (length table) last (next_entry table i)) ≡ back_from (length table) last i
back_from-next table last i last_lt i_lt some =
    let slots : ℕ = length table in
    elim (cases_lt last i) [
      | inl far ↦
          let e = back_from-far slots last i far in
          elim (cases_lt (suc i) slots) [
            | inl inner ↦
                let next_far : last < suc i = omega arith in
                let moved = ap (back_from slots last) (next-inner table i inner) in
                omega (arith, e, back_from-far slots last (suc i) next_far, moved)
            | inr outer ↦
                let moved = ap (back_from slots last) (next-outer table i outer) in
                omega (arith, e, back_from-near slots last 0 (omega arith), moved)
          ]
      | inr near ↦
          let e = back_from-near slots last i near in
          let inner : suc i < slots = omega (arith, e) in
          let next_near : suc i ≤ last = omega (arith, e) in
          let moved = ap (back_from slots last) (next-inner table i inner) in
          omega (arith, e, back_from-near slots last (suc i) next_near, moved)
    ]

pub back_from-start : (table : List Line) (last i : ℕ) → last < length table → i < length table → back_from (length table) last i ≡ 0
    → (i ≡ last) × (back_from (length table) last (next_entry table i) ≡ length table - 1)
back_from-start table last i last_lt i_lt none =
    let slots : ℕ = length table in
    elim (cases_lt last i) [
      | inl far ↦ absurd (let e = back_from-far slots last i far in let no : ⊥ = omega (arith, e) in no)
      | inr near ↦
          let e = back_from-near slots last i near in
          let is : i ≡ last = omega (arith, e) in
          elim (cases_lt (suc i) slots) [
            | inl inner ↦
                let moved = ap (back_from slots last) (next-inner table i inner) in
                let next_far : last < suc i = omega arith in
                (is, omega (arith, back_from-far slots last (suc i) next_far, moved))
            | inr outer ↦
                let moved = ap (back_from slots last) (next-outer table i outer) in
                (is, omega (arith, back_from-near slots last 0 (omega arith), moved))
          ]
    ]

-- ---- what times ahead rest on

carriers_in-cons : (k : Carriers) (line : Line) (lines : List Line)
    → carriers_in k (line ∷ lines) ≡ (if carries k line.entry then 1 else 0) + carriers_in k lines
carriers_in-cons k line lines = sum_by-cons (λ (l : Line). cond (carries k l.entry) 1 0) line lines

left-carriers : (k : Carriers) (line : Line) (lines : List Line) (m x : ℕ) → x ≤ left k line.entry (suc m) - carriers_in k lines
    → x ≤ suc m - carriers_in k (line ∷ lines)
left-carriers k line lines m x le = elim (cases_Bool (carries k line.entry)) [
  | inl does ↦
      let e : left k line.entry (suc m) ≡ suc m - 1 = ap (λ (b : Bool). if b then suc m - 1 else suc m) does in
      let one = ap (λ (b : Bool). (if b then 1 else 0) + carriers_in k lines) does in
      omega (arith, e, one, carriers_in-cons k line lines)
  | inr passes ↦
      let e : left k line.entry (suc m) ≡ suc m = ap (λ (b : Bool). if b then suc m - 1 else suc m) passes in
      let none = ap (λ (b : Bool). (if b then 1 else 0) + carriers_in k lines) passes in
      omega (arith, e, none, carriers_in-cons k line lines)
]

-- an excursion rests on what comes after it, but for the slots that it has itself
pub through-ext : (k : Carriers) (lines : List Line) (m : ℕ) (after other : ℕ → ℕ) → ((x : ℕ) → x ≤ m - carriers_in k lines → after x ≡ other x)
    → through k lines m after ≡ through k lines m other
through-ext k [] m after other same = same m (omega arith)
through-ext k (line ∷ lines) zero after other same = refl
through-ext k (line ∷ lines) (suc m) after other same =
    ap (λ (x : ℕ). line.delay_us + x)
    (through-ext k lines (left k line.entry (suc m)) after other
    (λ x le. same x (left-carriers k line lines m x le)))

left-le : (k : Carriers) (entry : Entry) (n : ℕ) → left k entry n ≤ n
left-le k entry n = elim (carries k entry) as (λ b. (if b then n - 1 else n) ≤ n) [ true ↦ omega arith | false ↦ omega arith ]

-- and a main slot on what comes after it, where it is sure for fewer carrying slots
pub ahead_of-ext : (c : Parts) (k : Carriers) (line : Line) (n : ℕ) (after other : ℕ → ℕ) → 1 ≤ n → ((x : ℕ) → x ≤ n → after x ≡ other x)
    → ahead_of c k line n after ≡ ahead_of c k line n other
ahead_of-ext c k line n after other some same =
    let straight : after (left k line.entry n) ≡ other (left k line.entry n) = same (left k line.entry n) (left-le k line.entry n) in
    let round : through k (resolving_lines c line.entry) n after ≡ through k (resolving_lines c line.entry) n other =
    through-ext k (resolving_lines c line.entry) n after other (λ x le. same x (omega arith)) in
    ap (λ (x : ℕ). line.delay_us + (if can_collide c line.entry then max x (through k (resolving_lines c line.entry) n after) else x)) straight
    ∙ ap (λ (x : ℕ). line.delay_us + (if can_collide c line.entry then max (other (left k line.entry n)) x else other (left k line.entry n))) round

sure-round : (can : Bool) (carriers straight round other : ℕ) → (not can || nat_lt 0 carriers) ≡ true → (0 < carriers → round ≡ other)
    → (if can then max straight round else straight) ≡ (if can then max straight other else straight)
sure-round false carriers straight round other sure same = refl
sure-round true carriers straight round other sure same =
    ap (λ (x : ℕ). max straight x) (same (ltb-true 0 carriers sure))

pub ahead_of-sure : (c : Parts) (k : Carriers) (line : Line) (n : ℕ) (after other : ℕ → ℕ) → 1 ≤ n → is_sure c k line.entry ≡ true
    → ((x : ℕ) → x < n → after x ≡ other x) → ahead_of c k line n after ≡ ahead_of c k line n other
ahead_of-sure c k line n after other some sure same =
    let parts = and_parts (carries k line.entry) (not (can_collide c line.entry) || nat_lt 0 (carriers_in k (resolving_lines c line.entry))) sure in
    let less : left k line.entry n ≡ n - 1 = ap (λ (b : Bool). if b then n - 1 else n) parts.0 in
    let straight : after (left k line.entry n) ≡ other (left k line.entry n) = same (left k line.entry n) (omega (arith, less)) in
    ap (λ (x : ℕ). line.delay_us + (if can_collide c line.entry then max x (through k (resolving_lines c line.entry) n after) else x)) straight
    ∙ ap (λ (x : ℕ). line.delay_us + x)
    (sure-round (can_collide c line.entry) (carriers_in k (resolving_lines c line.entry)) (other (left k line.entry n))
    (through k (resolving_lines c line.entry) n after) (through k (resolving_lines c line.entry) n other) parts.1
    (λ more. through-ext k (resolving_lines c line.entry) n after other (λ x le. same x (omega arith))))

-- ---- the rows

-- the first times: a row of none, and so many more
abbrev pub times_upto : Parts → Carriers → ℕ → ℕ → ℕ → List ℕ
times_upto c k t last zero = replicate (length (table_of c t)) 0
times_upto c k t last (suc j) = times_upto c k t last j ++ next_time c k t last (times_upto c k t last j) ∷ []

pub times_upto-length : (c : Parts) (k : Carriers) (t last j : ℕ) → length (times_upto c k t last j) ≡ length (table_of c t) + j
times_upto-length c k t last zero = length-replicate (length (table_of c t)) 0 ∙ sym (add-zero (length (table_of c t)))
times_upto-length c k t last (suc j) =
    let former = times_upto-length c k t last j in
    let more = length-append (times_upto c k t last j) (next_time c k t last (times_upto c k t last j) ∷ []) in
    omega (arith, former, more)

-- times stay as more come
pub times_upto-kept : (c : Parts) (k : Carriers) (t last j d x : ℕ) → x < length (table_of c t) + j
    → get_or (times_upto c k t last (j + d)) x 0 ≡ get_or (times_upto c k t last j) x 0
times_upto-kept c k t last j zero x lt = ap (λ (i : ℕ). get_or (times_upto c k t last i) x 0) (add-zero j)
times_upto-kept c k t last j (suc d) x lt =
    let is : j + suc d ≡ suc (j + d) = omega arith in
    let many = times_upto-length c k t last (j + d) in
    ap (λ (i : ℕ). get_or (times_upto c k t last i) x 0) is
    ∙ get_or_append_left (times_upto c k t last (j + d)) (next_time c k t last (times_upto c k t last (j + d)) ∷ []) 0 x (omega (arith, many))
    ∙ times_upto-kept c k t last j d x lt

pub times_upto-keep : (c : Parts) (k : Carriers) (t last j most x : ℕ) → j ≤ most → x < length (table_of c t) + j
    → get_or (times_upto c k t last most) x 0 ≡ get_or (times_upto c k t last j) x 0
times_upto-keep c k t last j most x le lt =
    let is : most ≡ j + (most - j) = omega arith in
    ap (λ (i : ℕ). get_or (times_upto c k t last i) x 0) is ∙ times_upto-kept c k t last j (most - j) x lt

-- the time at a place
pub times_upto-at : (c : Parts) (k : Carriers) (t last j most : ℕ) → j < most
    → get_or (times_upto c k t last most) (length (table_of c t) + j) 0 ≡ next_time c k t last (times_upto c k t last j)
times_upto-at c k t last j most lt =
    let many = times_upto-length c k t last j in
    let at : length (table_of c t) + j < length (table_of c t) + suc j = omega arith in
    times_upto-keep c k t last (suc j) most (length (table_of c t) + j) lt at
    ∙ ap (λ (i : ℕ). get_or (times_upto c k t last j ++ next_time c k t last (times_upto c k t last j) ∷ []) i 0) (sym many)
    ∙ get_or-append_seam (times_upto c k t last j) (next_time c k t last (times_upto c k t last j)) [] 0

-- the row of none
pub times_upto-none : (c : Parts) (k : Carriers) (t last most x : ℕ) → x < length (table_of c t) → get_or (times_upto c k t last most) x 0 ≡ 0
times_upto-none c k t last most x lt =
    times_upto-keep c k t last 0 most x (omega arith) (omega arith) ∙ get_or-replicate (length (table_of c t)) x 0 0 lt

module _ (c : Parts) (k : Carriers) (t last most : ℕ) (last_lt : last < length (table_of c t))
    (sure : is_sure c k (line_of c t last).entry ≡ true) where
  -- the place of a time in its row, and the row
  row : (i n : ℕ) → i < length (table_of c t) → 1 ≤ n
      → (j : ℕ) → length (table_of c t) + j ≡ n * length (table_of c t) + back_from (length (table_of c t)) last i
      → next_time c k t last (times_upto c k t last j)
      ≡ ahead_of c k (line_of c t i) n (times_after c t last (times_upto c k t last j) i)
  row i n i_lt some j is =
      let slots : ℕ = length (table_of c t) in
      let b : ℕ = back_from slots last i in
      let b_lt : b < slots = back_from-lt slots last i last_lt i_lt in
      let many : length (times_upto c k t last j) ≡ n * slots + b = times_upto-length c k t last j ∙ is in
      let rest : length (times_upto c k t last j) % slots ≡ b = ap (λ (x : ℕ). x % slots) many ∙ mod-mul-add n slots b b_lt in
      let whole : length (times_upto c k t last j) / slots ≡ n = ap (λ (x : ℕ). x / slots) many ∙ div-mul-add n slots b b_lt in
      let slot : back_from slots last (length (times_upto c k t last j) % slots) ≡ i =
      ap (back_from slots last) rest ∙ back_from-back slots last i last_lt i_lt in
      ap (λ (x : ℕ). ahead_of c k (line_of c t x) (length (times_upto c k t last j) / slots) (times_after c t last (times_upto c k t last j) x)) slot
      ∙ ap (λ (x : ℕ). ahead_of c k (line_of c t i) x (times_after c t last (times_upto c k t last j) i)) whole

  -- it rests on earlier times
  row-kept : (i n : ℕ) → i < length (table_of c t) → 1 ≤ n → n ≤ most
      → (j : ℕ) → length (table_of c t) + j ≡ n * length (table_of c t) + back_from (length (table_of c t)) last i
      → j ≤ length (table_of c t) * most
      → ahead_of c k (line_of c t i) n (times_after c t last (times_upto c k t last j) i)
      ≡ ahead_of c k (line_of c t i) n (times_after c t last (times_upto c k t last (length (table_of c t) * most)) i)
  row-kept i n i_lt some few j is j_le =
      let slots : ℕ = length (table_of c t) in
      let b : ℕ = back_from slots last i in
      let next_back : ℕ = back_from slots last (next_entry (table_of c t) i) in
      elim (cases_lt 0 b) [
        | inl inner ↦
            let before : suc next_back ≡ b = back_from-next (table_of c t) last i last_lt i_lt inner in
            ahead_of-ext c k (line_of c t i) n (times_after c t last (times_upto c k t last j) i)
            (times_after c t last (times_upto c k t last (slots * most)) i) some
            (λ x le.
            let rows : x * slots ≤ n * slots = mul-le x slots n slots le (omega arith) in
            sym (times_upto-keep c k t last j (slots * most) (x * slots + next_back) j_le (omega arith)))
        | inr outer ↦
            let none : b ≡ 0 = omega arith in
            let start = back_from-start (table_of c t) last i last_lt i_lt none in
            let here : is_sure c k (line_of c t i).entry ≡ true = subst (λ (x : ℕ). is_sure c k (line_of c t x).entry ≡ true) (sym start.0) sure in
            let last_back = start.1 in
            ahead_of-sure c k (line_of c t i) n (times_after c t last (times_upto c k t last j) i)
            (times_after c t last (times_upto c k t last (slots * most)) i) some here
            (λ x lt.
            let rows : suc x * slots ≤ n * slots = mul-le (suc x) slots n slots lt (omega arith) in
            let row_is : suc x * slots ≡ x * slots + slots = suc-mul x slots in
            sym (times_upto-keep c k t last j (slots * most) (x * slots + next_back) j_le (omega arith)))
      ]

  rows-done : (i : ℕ) → i < length (table_of c t)
      → times_in (length (table_of c t)) last (times_upto c k t last (length (table_of c t) * most)) i 0 ≡ 0
  rows-done i i_lt =
      let slots : ℕ = length (table_of c t) in
      let b : ℕ = back_from slots last i in
      let is : 0 * slots + b ≡ b = omega arith in
      ap (λ (x : ℕ). get_or (times_upto c k t last (slots * most)) x 0) is
      ∙ times_upto-none c k t last (slots * most) b (back_from-lt slots last i last_lt i_lt)

  rows-ahead : (i n : ℕ) → i < length (table_of c t) → 1 ≤ n → n ≤ most
      → times_in (length (table_of c t)) last (times_upto c k t last (length (table_of c t) * most)) i n
      ≡ ahead_of c k (line_of c t i) n (times_after c t last (times_upto c k t last (length (table_of c t) * most)) i)
  rows-ahead i zero i_lt some few = absurd (omega arith)
  rows-ahead i (suc m) i_lt some few =
      let slots : ℕ = length (table_of c t) in
      let b : ℕ = back_from slots last i in
      let b_lt : b < slots = back_from-lt slots last i last_lt i_lt in
      let j : ℕ = m * slots + b in
      let row_is = suc-mul m slots in
      let is : slots + j ≡ suc m * slots + b = omega (arith, row_is) in
      let j_lt : j < slots * most = mul-add-lt m slots b most few b_lt in
      ap (λ (x : ℕ). get_or (times_upto c k t last (slots * most)) x 0) (sym is)
      ∙ times_upto-at c k t last j (slots * most) j_lt
      ∙ row i (suc m) i_lt some j is
      ∙ row-kept i (suc m) i_lt some few j is (omega arith)

  -- so the rows are times ahead
  pub rows-AreTimes : AreTimesAhead c t k most (times_in (length (table_of c t)) last (times_upto c k t last (length (table_of c t) * most)))
  rows-AreTimes = record { done = rows-done; ahead = rows-ahead }

-- ---- sure slots

pub is_sure-round : (c : Parts) (k : Carriers) (entry : Entry) → carries k entry ≡ true → can_collide c entry ≡ true
    → nat_lt 0 (carriers_in k (resolving_lines c entry)) ≡ is_sure c k entry
is_sure-round c k entry carrying can =
    sym (ap (λ (b : Bool). b && (not (can_collide c entry) || nat_lt 0 (carriers_in k (resolving_lines c entry)))) carrying
    ∙ ap (λ (b : Bool). not b || nat_lt 0 (carriers_in k (resolving_lines c entry))) can)

pub is_sure-straight : (c : Parts) (k : Carriers) (entry : Entry) → carries k entry ≡ true → can_collide c entry ≡ false
    → true ≡ is_sure c k entry
is_sure-straight c k entry carrying can =
    sym (ap (λ (b : Bool). b && (not (can_collide c entry) || nat_lt 0 (carriers_in k (resolving_lines c entry)))) carrying
    ∙ ap (λ (b : Bool). not b || nat_lt 0 (carriers_in k (resolving_lines c entry))) can)

pub is_sure-not : (c : Parts) (k : Carriers) (entry : Entry) → carries k entry ≡ false → false ≡ is_sure c k entry
is_sure-not c k entry idle =
    sym (ap (λ (b : Bool). b && (not (can_collide c entry) || nat_lt 0 (carriers_in k (resolving_lines c entry)))) idle)

-- ---- the rows as they are made

pub short-push : (times : List ℕ) (time : ℕ) → All (λ x. x ≤ length times * 1025000000000) times → time ≤ suc (length times) * 1025000000000
    → All (λ x. x ≤ length (times ++ time ∷ []) * 1025000000000) (times ++ time ∷ [])
short-push times time h le =
    let many : length (times ++ time ∷ []) ≡ length times + 1 = length-append times (time ∷ []) in
    let P : ℕ → Type 0 = λ x. x ≤ length (times ++ time ∷ []) * 1025000000000 in
    All-append P times (time ∷ []) (λ i d lt. let here = h i d lt in omega (arith, many))
    (All-cons P time [] (omega (arith, many)) (All-nil P))

pub rows-AreRows : (c : Parts) (k : Carriers) (t last made count : ℕ) (times : List ℕ) → times ≡ times_upto c k t last made
    → made ≤ length (table_of c t) * count → count ≤ 1024 → length (table_of c t) ≤ 1024 → last < length (table_of c t)
    → All (λ x. x ≤ length times * 1025000000000) times → AreRows times (length (table_of c t)) last
rows-AreRows c k t last made count times is made_le count_le slots_le last_lt short =
    let many : length times ≡ length (table_of c t) + made = ap length is ∙ times_upto-length c k t last made in
    let product : length (table_of c t) * count ≤ 1024 * 1024 = mul-le (length (table_of c t)) count 1024 1024 slots_le count_le in
    record {
      few_slots = slots_le;
      in_row = last_lt;
      few = omega (arith, many);
      short = short;
    }

pub rows-first : (c : Parts) (k : Carriers) (t last made : ℕ) (times : List ℕ) → times ≡ times_upto c k t last made
    → length (table_of c t) ≤ length times
rows-first c k t last made times is =
    let many : length times ≡ length (table_of c t) + made = ap length is ∙ times_upto-length c k t last made in
    omega (arith, many)

pub rows-few : (c : Parts) (k : Carriers) (t last made count : ℕ) (times : List ℕ) → times ≡ times_upto c k t last made
    → made < length (table_of c t) * count → count ≤ 1024 → length times < 1025 * length (table_of c t)
rows-few c k t last made count times is made_lt count_le =
    let many : length times ≡ length (table_of c t) + made = ap length is ∙ times_upto-length c k t last made in
    let product : length (table_of c t) * count ≤ length (table_of c t) * 1024 = mul-le (length (table_of c t)) count (length (table_of c t)) 1024 (omega arith) count_le in
    omega (arith, many)

pub rows-none : (c : Parts) (k : Carriers) (t last made : ℕ) (times : List ℕ) → times ≡ times_upto c k t last made
    → (place : ℕ) → place < length (table_of c t) → get_or times place 0 ≡ 0
rows-none c k t last made times is place lt = ap (λ (xs : List ℕ). get_or xs place 0) is ∙ times_upto-none c k t last made place lt

pub rows-times : (c : Parts) (k : Carriers) (t last made count : ℕ) (times : List ℕ) → times ≡ times_upto c k t last made
    → made ≡ length (table_of c t) * count → last < length (table_of c t) → is_sure c k (line_of c t last).entry ≡ true
    → AreTimesAhead c t k count (times_in (length (table_of c t)) last times)
rows-times c k t last made count times is all last_lt sure =
    let whole : times ≡ times_upto c k t last (length (table_of c t) * count) = is ∙ ap (times_upto c k t last) all in
    subst (λ (xs : List ℕ). AreTimesAhead c t k count (times_in (length (table_of c t)) last xs)) (sym whole)
    (rows-AreTimes c k t last count last_lt sure)

-- the next time, by its parts
pub next_time-parts : (c : Parts) (k : Carriers) (t last : ℕ) (times : List ℕ) (line : Line) (slots slot wide place : ℕ) (seen : List ℕ)
    → slots ≡ length (table_of c t) → slot ≡ back_from slots last (length times % slots) → line ≡ line_of c t slot → seen ≡ times
    → wide ≡ slots → place ≡ back_from slots last (next_entry (table_of c t) slot)
    → ahead_of c k line (length times / slots) (after_of seen wide place) ≡ next_time c k t last times
next_time-parts c k t last times line slots slot wide place seen slots_is slot_is line_is seen_is wide_is place_is =
    let table : List Line = table_of c t in
    let n : ℕ = length times / slots in
    ap (λ (l : Line). ahead_of c k l n (after_of seen wide place)) line_is
    ∙ ap (λ (xs : List ℕ). ahead_of c k (line_of c t slot) n (after_of xs wide place)) seen_is
    ∙ ap (λ (x : ℕ). ahead_of c k (line_of c t slot) n (after_of times x place)) wide_is
    ∙ ap (λ (x : ℕ). ahead_of c k (line_of c t slot) n (after_of times slots x)) place_is
    ∙ ap (λ (x : ℕ). ahead_of c k (line_of c t x) n (after_of times slots (back_from slots last (next_entry table x)))) slot_is
    ∙ ap (λ (x : ℕ). ahead_of c k (line_of c t (back_from x last (length times % x))) (length times / x)
    (after_of times x (back_from x last (next_entry table (back_from x last (length times % x)))))) slots_is

-- the longest wait from a main slot, by its parts
pub longest_of-parts : (c : Parts) (k : Carriers) (t last n : ℕ) (times : List ℕ) (line : Line) (slots slot wide place : ℕ) (seen : List ℕ)
    → slots ≡ length (table_of c t) → line ≡ line_of c t slot → seen ≡ times
    → wide ≡ slots → place ≡ back_from slots last (next_entry (table_of c t) slot)
    → longest_from c k line n (after_of seen wide place) ≡ longest_of c k t last n times slot
longest_of-parts c k t last n times line slots slot wide place seen slots_is line_is seen_is wide_is place_is =
    let table : List Line = table_of c t in
    ap (λ (l : Line). longest_from c k l n (after_of seen wide place)) line_is
    ∙ ap (λ (xs : List ℕ). longest_from c k (line_of c t slot) n (after_of xs wide place)) seen_is
    ∙ ap (λ (x : ℕ). longest_from c k (line_of c t slot) n (after_of times x place)) wide_is
    ∙ ap (λ (x : ℕ). longest_from c k (line_of c t slot) n (after_of times slots x)) place_is
    ∙ ap (λ (x : ℕ). longest_from c k (line_of c t slot) n (after_of times x (back_from x last (next_entry table slot)))) slots_is

pub rows-push : (c : Parts) (k : Carriers) (t last made : ℕ) (times seen pushed : List ℕ) (time : ℕ) → times ≡ times_upto c k t last made
    → seen ≡ times → time ≡ next_time c k t last seen → pushed ≡ times ++ time ∷ [] → pushed ≡ times_upto c k t last (made + 1)
rows-push c k t last made times seen pushed time is seen_is time_is pushed_is =
    pushed_is
    ∙ ap (λ (x : ℕ). times ++ x ∷ []) (time_is ∙ ap (next_time c k t last) seen_is)
    ∙ ap (λ (xs : List ℕ). xs ++ next_time c k t last xs ∷ []) is
    ∙ ap (times_upto c k t last) (sym (add-one made))

pub rows-short : (times seen pushed : List ℕ) (time : ℕ) → All (λ x. x ≤ length times * 1025000000000) times
    → seen ≡ times → time ≤ suc (length seen) * 1025000000000 → pushed ≡ times ++ time ∷ []
    → All (λ x. x ≤ length pushed * 1025000000000) pushed
rows-short times seen pushed time short seen_is le pushed_is =
    let same : length seen ≡ length times = ap length seen_is in
    subst (λ (xs : List ℕ). All (λ (x : ℕ). x ≤ length xs * 1025000000000) xs) (sym pushed_is) (short-push times time short (omega arith))
