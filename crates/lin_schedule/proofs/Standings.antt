-- Where a walker is after each move, by entries in place of times.
use Rattle.std.proofs.Common.{◌≡◌, ℕ, suc, ◌+◌, ◌<◌, Bool, true, false, List, [], ◌∷◌, length, Option, Some, None, refl, ap, sym, ◌∙◌, subst, arith}
use Rattle.std.proofs.Common.{inl, inr, ◌%◌}
use Rattle.std.proofs.lemmas.Bool.{cases_lt}
use Rattle.std.proofs.lemmas.Option.{none-some}
use Rattle.std.proofs.lemmas.Bool.Decides.{Decides-eqb}
use Rattle.lin_parts.specs.declared.parts.Line.{Line}
use Rattle.std.specs.Prelude.{nat_lt, ◌==◌, if◌then◌else◌, option_map}
use Rattle.std.specs.Option.{option_map_or, unwrap_or}
use Rattle.lin_parts.specs.Cluster.{table_of, line_of}
use Rattle.lin_parts.specs.declared.parts.Parts.{Parts}
use Rattle.lin_parts.specs.declared.parts.Entry.{Entry}
use Rattle.lin_schedule.specs.Schedule.{Move, Slot, Switch, Restart, Standing, offset, total, entry_at, due, resolving, after_main, after_place, standing}
use Rattle.lin_schedule.specs.Walker.{Position, position_of, Stands}
use Rattle.lin_schedule.proofs.Times.{AreDelays, IsOn, IsOn-from, IsOn-next, entry_at-next, find-first, offset-start, next}

-- no table is empty, and no delay is 0
abbrev pub AreWalkable : Parts → Type 0
AreWalkable c = (t : ℕ) → t < length c.tables → (0 < length (table_of c t)) × AreDelays (table_of c t)

-- where a schedule stands after a slot
abbrev pub after_slot : Parts → Standing → Bool → Standing
after_slot c s clash = option_map_or (after_place c s) s.excursion (after_main c s (line_of c (due c s).0 (due c s).1) clash)

-- the main slots' time is that of an entry, where the table is one of the cluster's
abbrev pub IsTimed : Parts → Standing → Type 0
IsTimed c s = s.table < length c.tables → IsOn (table_of c s.table) s.elapsed

pub IsTimed-start : (c : Parts) → AreWalkable c → (t : ℕ) → IsTimed c (record { table = t; elapsed = 0; excursion = None })
IsTimed-start c h t lt = IsOn-from (table_of c t) (h t lt).1 0 0 (h t lt).0 (offset-start (table_of c t))

pub IsTimed-slot : (c : Parts) → AreWalkable c → (t elapsed : ℕ) (excursion : Option (ℕ × ℕ)) (clash : Bool)
    → IsTimed c (record { table = t; elapsed = elapsed; excursion = excursion })
    → IsTimed c (after_slot c (record { table = t; elapsed = elapsed; excursion = excursion }) clash)
IsTimed-slot c h t elapsed None clash timed = λ lt. IsOn-next (table_of c t) (h t lt).1 elapsed (timed lt)
IsTimed-slot c h t elapsed (Some place) clash timed = timed

pub IsTimed-standing : (c : Parts) → AreWalkable c → (opening : ℕ) (moves : List Move) → IsTimed c (standing c opening moves)
IsTimed-standing c h opening [] = IsTimed-start c h opening
IsTimed-standing c h opening (Switch t ∷ earlier) = IsTimed-start c h t
IsTimed-standing c h opening (Restart ∷ earlier) = IsTimed-start c h (standing c opening earlier).table
IsTimed-standing c h opening (Slot clash ∷ earlier) =
    let s : Standing = standing c opening earlier in
    IsTimed-slot c h s.table s.elapsed s.excursion clash (IsTimed-standing c h opening earlier)

-- a table that starts is on its first entry
pub entry_at-zero : (table : List Line) → entry_at table 0 ≡ 0
entry_at-zero table =
    let p : ℕ → Bool = λ k. offset table k == 0 % total table in
    elim (cases_lt 0 (length table)) [
      | inl some ↦
          let here : p 0 ≡ true = (Decides-eqb (offset table 0) (0 % total table)).1 (offset-start table) in
          rw (find-first p 0 (length table) some here (λ j lt. absurd (omega arith))) refl
      | inr none ↦
          let is : length table ≡ 0 = omega arith in
          rw is refl
    ]

pub position-start : (c : Parts) (t : ℕ)
    → record { place = (t, 0); back = None } ≡ position_of c (record { table = t; elapsed = 0; excursion = None })
position-start c t = ap (λ (k : ℕ). let at : Position = record { place = (t, k); back = None } in at) (sym (entry_at-zero (table_of c t)))

-- the table of the main slots
abbrev pub main_table : Position → ℕ
main_table w = option_map_or (λ back. back.0) w.back w.place.0

pub main_table-position : (c : Parts) (t elapsed : ℕ) (excursion : Option (ℕ × ℕ))
    → main_table (position_of c (record { table = t; elapsed = elapsed; excursion = excursion })) ≡ t
main_table-position c t elapsed None = refl
main_table-position c t elapsed (Some place) = refl

-- a new start of the current table
pub Stands-restart : (c : Parts) (opening : ℕ) (walker : Position) (moves : List Move) → Stands c opening walker moves
    → Stands c opening (record { place = (main_table walker, 0); back = None }) (Restart ∷ moves)
Stands-restart c opening walker moves stands =
    let s : Standing = standing c opening moves in
    let is : main_table walker ≡ s.table = ap main_table stands ∙ main_table-position c s.table s.elapsed s.excursion in
    rw is (position-start c s.table)

-- what a clash starts
abbrev pub started : Option ℕ → Option (ℕ × ℕ)
started resolver = option_map_or (λ t. Some (t, 0)) resolver None

started-when : (clash : Bool) (resolver : Option ℕ)
    → (if clash then option_map_or (λ (t : ℕ). Some (t, 0)) resolver None else None) ≡ started (if clash then resolver else None)
started-when true resolver = refl
started-when false resolver = refl

-- the position after a main slot: in the resolving table where one is started, else on the next entry
abbrev pub position_after_main : Option ℕ → ℕ × ℕ → Position
position_after_main resolver main =
    option_map_or (λ t. record { place = (t, 0); back = Some main }) resolver (record { place = main; back = None })

-- the position of an excursion, or of a main slot where there is none
abbrev pub position_at : Option (ℕ × ℕ) → ℕ × ℕ → Position
position_at excursion main = record { place = unwrap_or excursion main; back = option_map (λ _. main) excursion }

position_after_main-is : (resolver : Option ℕ) (main : ℕ × ℕ)
    → position_after_main resolver main ≡ position_at (started resolver) main
position_after_main-is None main = refl
position_after_main-is (Some t) main = refl

-- a main slot at entry k of table t
main-slot : (c : Parts) (t elapsed : ℕ) (clash : Bool) → AreDelays (table_of c t) → IsOn (table_of c t) elapsed
    → let k : ℕ = entry_at (table_of c t) elapsed in
    position_after_main (if clash then resolving c (line_of c t k).entry else None) (t, next (table_of c t) k)
    ≡ position_of c (after_slot c (record { table = t; elapsed = elapsed; excursion = None }) clash)
main-slot c t elapsed clash delays on =
    let k : ℕ = entry_at (table_of c t) elapsed in
    let e : Entry = (line_of c t k).entry in
    let moved : entry_at (table_of c t) (elapsed + (line_of c t k).delay_us) ≡ next (table_of c t) k = entry_at-next (table_of c t) delays elapsed on in
    position_after_main-is (if clash then resolving c e else None) (t, next (table_of c t) k)
    ∙ ap (λ (x : Option (ℕ × ℕ)). position_at x (t, next (table_of c t) k)) (sym (started-when clash (resolving c e)))
    ∙ ap (λ (j : ℕ). position_at (if clash then started (resolving c e) else None) (t, j)) (sym moved)

stands-main-at : (c : Parts) → AreWalkable c → (t elapsed : ℕ) (excursion : Option (ℕ × ℕ)) (clash : Bool) (table entry : ℕ)
    → IsTimed c (record { table = t; elapsed = elapsed; excursion = excursion }) → table < length c.tables
    → record { place = (table, entry); back = None } ≡ position_of c (record { table = t; elapsed = elapsed; excursion = excursion })
    → position_after_main (if clash then resolving c (line_of c table entry).entry else None) (table, next (table_of c table) entry)
    ≡ position_of c (after_slot c (record { table = t; elapsed = elapsed; excursion = excursion }) clash)
stands-main-at c h t elapsed None clash table entry timed lt e =
    let table_is : t ≡ table = sym (ap (λ (w : Position). w.place.0) e) in
    let entry_is : entry ≡ entry_at (table_of c t) elapsed = ap (λ (w : Position). w.place.1) e in
    let in_tables : t < length c.tables = omega arith in
    rw (← table_is, entry_is) (main-slot c t elapsed clash (h t in_tables).1 (timed in_tables))
stands-main-at c h t elapsed (Some place) clash table entry timed lt e =
    absurd (none-some (t, entry_at (table_of c t) elapsed) (ap (λ (w : Position). w.back) e))

-- the walker stands for one more main slot
pub Stands-main : (c : Parts) → AreWalkable c → (opening : ℕ) (moves : List Move) (clash : Bool) (table entry : ℕ) → table < length c.tables
    → Stands c opening (record { place = (table, entry); back = None }) moves
    → Stands c opening
    (position_after_main (if clash then resolving c (line_of c table entry).entry else None) (table, next (table_of c table) entry))
    (Slot clash ∷ moves)
Stands-main c h opening moves clash table entry lt stands =
    let s : Standing = standing c opening moves in
    stands-main-at c h s.table s.elapsed s.excursion clash table entry (IsTimed-standing c h opening moves) lt stands

-- the position after a slot of an excursion
abbrev pub position_after_place : Parts → ℕ × ℕ → ℕ × ℕ → Position
position_after_place c place back =
    if nat_lt (suc place.1) (length (table_of c place.0))
    then record { place = (place.0, suc place.1); back = Some back }
    else record { place = back; back = None }

position_after_place-is : (more : Bool) (place main : ℕ × ℕ)
    → (if more then record { place = (place.0, suc place.1); back = Some main } else record { place = main; back = None })
    ≡ position_at (if more then Some (place.0, suc place.1) else None) main
position_after_place-is true place main = refl
position_after_place-is false place main = refl

stands-place-at : (c : Parts) (t elapsed : ℕ) (excursion : Option (ℕ × ℕ)) (clash : Bool) (place back : ℕ × ℕ)
    → record { place = place; back = Some back } ≡ position_of c (record { table = t; elapsed = elapsed; excursion = excursion })
    → position_after_place c place back ≡ position_of c (after_slot c (record { table = t; elapsed = elapsed; excursion = excursion }) clash)
stands-place-at c t elapsed None clash place back e =
    absurd (none-some back (sym (ap (λ (w : Position). w.back) e)))
stands-place-at c t elapsed (Some at) clash place back e =
    let place_is : place ≡ at = ap (λ (w : Position). w.place) e in
    let both : Some back ≡ Some (t, entry_at (table_of c t) elapsed) = ap (λ (w : Position). w.back) e in
    let back_is : back ≡ (t, entry_at (table_of c t) elapsed) = cc in
    rw (place_is, back_is) (position_after_place-is (nat_lt (suc at.1) (length (table_of c at.0))) at (t, entry_at (table_of c t) elapsed))

-- the walker stands for one more slot of an excursion
pub Stands-place : (c : Parts) (opening : ℕ) (moves : List Move) (clash : Bool) (place back : ℕ × ℕ)
    → Stands c opening (record { place = place; back = Some back }) moves
    → Stands c opening (position_after_place c place back) (Slot clash ∷ moves)
Stands-place c opening moves clash place back stands =
    let s : Standing = standing c opening moves in
    stands-place-at c s.table s.elapsed s.excursion clash place back stands

-- a main slot that starts a resolving table
pub Stands-resolving : (c : Parts) → AreWalkable c → (opening : ℕ) (moves : List Move) (clash : Bool) (table entry : ℕ) → table < length c.tables
    → Stands c opening (record { place = (table, entry); back = None }) moves
    → (t n : ℕ) → Some t ≡ (if clash then resolving c (line_of c table entry).entry else None) → n ≡ next (table_of c table) entry
    → Stands c opening (record { place = (t, 0); back = Some (table, n) }) (Slot clash ∷ moves)
Stands-resolving c h opening moves clash table entry lt stands t n is next_is =
    rw next_is
    (subst (λ (r : Option ℕ). Stands c opening (position_after_main r (table, next (table_of c table) entry)) (Slot clash ∷ moves)) (sym is)
    (Stands-main c h opening moves clash table entry lt stands))

-- a main slot that starts none
pub Stands-next : (c : Parts) → AreWalkable c → (opening : ℕ) (moves : List Move) (clash : Bool) (table entry : ℕ) → table < length c.tables
    → Stands c opening (record { place = (table, entry); back = None }) moves
    → (n : ℕ) → None ≡ (if clash then resolving c (line_of c table entry).entry else None) → n ≡ next (table_of c table) entry
    → Stands c opening (record { place = (table, n); back = None }) (Slot clash ∷ moves)
Stands-next c h opening moves clash table entry lt stands n is next_is =
    rw next_is
    (subst (λ (r : Option ℕ). Stands c opening (position_after_main r (table, next (table_of c table) entry)) (Slot clash ∷ moves)) (sym is)
    (Stands-main c h opening moves clash table entry lt stands))

-- a walker with no way back
pub Stands-main_place : (c : Parts) (opening : ℕ) (moves : List Move) (place : ℕ × ℕ) (back : Option (ℕ × ℕ)) (walker : Position)
    → back ≡ None → record { place = place; back = back } ≡ walker → Stands c opening walker moves
    → Stands c opening (record { place = place; back = None }) moves
Stands-main_place c opening moves place back walker none is stands = rw none at (is ∙ stands)
