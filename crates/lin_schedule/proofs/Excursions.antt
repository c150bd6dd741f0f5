-- An excursion runs its resolving table once.
use Rattle.std.proofs.Common.{◌≡◌, ℕ, suc, ◌<◌, Bool, true, false, List, [], ◌∷◌, ◌++◌, length, Option, Some, None, refl, ap, sym, arith}
use Rattle.std.specs.Prelude.{nat_lt, map}
use Rattle.std.proofs.lemmas.Bool.Decides.{Decides-ltb, nat_tests}
use Rattle.std.proofs.lemmas.Option.{none-some}
use Rattle.lin_parts.specs.Cluster.{table_of}
use Rattle.lin_parts.specs.declared.parts.Parts.{Parts}
use Rattle.lin_schedule.specs.Schedule.{Move, Slot, Standing, due, due_line, resolving, standing}
use Rattle.lin_schedule.specs.Law.{IsExcursion, IsResolvedBy}
use Rattle.lin_schedule.proofs.Standings.{after_slot}

-- the same table and time, in this excursion or in none
abbrev pub within : Option (ℕ × ℕ) → Standing → Standing
within excursion s = record s { excursion = excursion }

main-unclashed : (c : Parts) (t elapsed : ℕ) (excursion : Option (ℕ × ℕ)) → excursion ≡ None
    → (after_slot c (record { table = t; elapsed = elapsed; excursion = excursion }) false).excursion ≡ None
main-unclashed c t elapsed None is = refl
main-unclashed c t elapsed (Some place) is = absurd (none-some place (sym is))

main-clashed : (c : Parts) (t elapsed : ℕ) (excursion : Option (ℕ × ℕ)) (r : ℕ) → excursion ≡ None
    → resolving c (due_line c (record { table = t; elapsed = elapsed; excursion = excursion })).entry ≡ Some r
    → after_slot c (record { table = t; elapsed = elapsed; excursion = excursion }) true
    ≡ within (Some (r, 0)) (after_slot c (record { table = t; elapsed = elapsed; excursion = excursion }) false)
main-clashed c t elapsed None r is resolver = rw resolver refl
main-clashed c t elapsed (Some place) r is resolver = absurd (none-some place (sym is))

-- inside
pub excursion-inside : (c : Parts) (opening : ℕ) (moves : List Move) (r : ℕ) → IsResolvedBy c opening moves r → (clashes : List Bool)
    → length clashes < length (table_of c r)
    → standing c opening (map Slot clashes ++ Slot true ∷ moves) ≡ within (Some (r, length clashes)) (standing c opening (Slot false ∷ moves))
excursion-inside c opening moves r resolved [] lt =
    let s : Standing = standing c opening moves in
    main-clashed c s.table s.elapsed s.excursion r resolved.main resolved.resolver
excursion-inside c opening moves r resolved (x ∷ xs) lt =
    let more : nat_lt (suc (length xs)) (length (table_of c r)) ≡ true = (Decides-ltb (suc (length xs)) (length (table_of c r))).1 lt in
    rw (excursion-inside c opening moves r resolved xs (omega arith), more) refl

-- after
pub excursion-after : (c : Parts) (opening : ℕ) (moves : List Move) (r : ℕ) → IsResolvedBy c opening moves r → (clashes : List Bool)
    → length clashes ≡ length (table_of c r)
    → standing c opening (map Slot clashes ++ Slot true ∷ moves) ≡ standing c opening (Slot false ∷ moves)
excursion-after c opening moves r resolved [] is = let some = resolved.entries in absurd (omega arith)
excursion-after c opening moves r resolved (x ∷ xs) is =
    let s : Standing = standing c opening moves in
    let main : Standing = standing c opening (Slot false ∷ moves) in
    let last : nat_lt (suc (length xs)) (length (table_of c r)) ≡ false = grind (arith, nat_tests) in
    rw (excursion-inside c opening moves r resolved xs (omega arith), last)
    (ap (λ (excursion : Option (ℕ × ℕ)). within excursion main) (sym (main-unclashed c s.table s.elapsed s.excursion resolved.main)))

pub excursion-IsExcursion : (c : Parts) (opening : ℕ) (moves : List Move) (r : ℕ) → IsResolvedBy c opening moves r → (clashes : List Bool)
    → IsExcursion c opening moves r clashes
excursion-IsExcursion c opening moves r resolved clashes = record {
  inside = λ lt. ap (due c) (excursion-inside c opening moves r resolved clashes lt);
  after = excursion-after c opening moves r resolved clashes;
}
