-- A walker stays in its cluster's tables.
use Rattle.std.proofs.Common.{◌≡◌, ℕ, suc, ◌<◌, Bool, true, false, length, Option, Some, None, refl, sym, subst, arith}
use Rattle.std.specs.Prelude.{nat_lt, if◌then◌else◌, unwrap_or}
use Rattle.std.specs.Option.{ForSome, option_map_or}
use Rattle.std.proofs.lemmas.Option.{none-some}
use Rattle.std.proofs.lemmas.Bool.Decides.{nat_tests}
use Rattle.lin_parts.specs.Cluster.{table_of}
use Rattle.lin_parts.specs.declared.parts.Parts.{Parts}
use Rattle.lin_schedule.specs.Walker.{Position, HasEntry, Walks}
use Rattle.lin_parts.specs.Cluster.{line_of}
use Rattle.lin_parts.specs.Rules.{IsCluster}
use Rattle.lin_schedule.specs.Schedule.{resolving}
use Rattle.lin_schedule.proofs.Clusters.{table-start, line-entry, resolving-start}
use Rattle.lin_schedule.proofs.Times.{next, next-lt}
use Rattle.lin_schedule.proofs.Standings.{main_table}

-- the entry after one, where there is one
abbrev pub after : ℕ → ℕ → Option ℕ
after len entry = if nat_lt (suc entry) len then Some (suc entry) else None

after-when : (more : Bool) (entry n : ℕ) → Some n ≡ (if more then Some (suc entry) else None) → (more ≡ true) × (n ≡ suc entry)
after-when true entry n is = (refl, cc)
after-when false entry n is = absurd (none-some n (sym is))

pub after-lt : (len entry n : ℕ) → Some n ≡ after len entry → n < len
after-lt len entry n is = let both = after-when (nat_lt (suc entry) len) entry n is in grind (arith, nat_tests)

-- no way back
pub no-back : (P : ℕ × ℕ → Type 0) → ForSome None P
no-back P = λ x is. absurd (none-some x is)

-- only this way back
pub one-back : (P : ℕ × ℕ → Type 0) (back : ℕ × ℕ) → P back → ForSome (Some back) P
one-back P back h = λ x is. let same : back ≡ x = cc in subst P same h

-- on to a later entry of the table
pub Walks-on : (c : Parts) (walker : Position) (n : ℕ) → Walks c walker → Some n ≡ after (length (table_of c walker.place.0)) walker.place.1
    → Walks c (record { place = (walker.place.0, n); back = walker.back })
Walks-on c walker n walks is = record {
  place = (walks.place.0, after-lt (length (table_of c walker.place.0)) walker.place.1 n is);
  back = walks.back;
}

-- back to the former table
pub Walks-back : (c : Parts) (walker : Position) (back : ℕ × ℕ) → Walks c walker → walker.back ≡ Some back
    → Walks c (record { place = back; back = None })
Walks-back c walker back walks is = record { place = walks.back back is; back = no-back (HasEntry c) }

-- a new start of the current table
pub main-start : (c : Parts) (place : ℕ × ℕ) (back : Option (ℕ × ℕ)) → HasEntry c place → ForSome back (HasEntry c)
    → HasEntry c (option_map_or (λ b. b.0) back place.0, 0)
main-start c place None in_table in_back = (in_table.0, omega arith)
main-start c place (Some b) in_table in_back = ((in_back b refl).0, omega (arith, (in_back b refl).1))

pub Walks-restart : (c : Parts) (walker : Position) → Walks c walker → Walks c (record { place = (main_table walker, 0); back = None })
Walks-restart c walker walks = record { place = main-start c walker.place walker.back walks.place walks.back; back = no-back (HasEntry c) }

unwrapped-table : (back : Option (ℕ × ℕ)) (place : ℕ × ℕ) → (unwrap_or back place).0 ≡ option_map_or (λ b. b.0) back place.0
unwrapped-table None place = refl
unwrapped-table (Some b) place = refl

pub unwrapped-main_table : (walker : Position) (back : Option (ℕ × ℕ)) (place : ℕ × ℕ) → back ≡ walker.back → place ≡ walker.place
    → (unwrap_or back place).0 ≡ main_table walker
unwrapped-main_table walker back place back_is place_is = rw (back_is, place_is) (unwrapped-table walker.back walker.place)

-- the start of a table
pub Walks-start : (c : Parts) → IsCluster c → (t : ℕ) → t < length c.tables → Walks c (record { place = (t, 0); back = None })
Walks-start c rules t lt = record { place = table-start c rules t lt; back = no-back (HasEntry c) }

-- the start of a resolving table
pub Walks-resolving : (c : Parts) → IsCluster c → (walker : Position) → Walks c walker → (clash : Bool) (t n : ℕ)
    → Some t ≡ (if clash then resolving c (line_of c walker.place.0 walker.place.1).entry else None)
    → n ≡ next (table_of c walker.place.0) walker.place.1
    → Walks c (record { place = (t, 0); back = Some (walker.place.0, n) })
Walks-resolving c rules walker walks clash t n is next_is = record {
  place = resolving-start c rules (line_of c walker.place.0 walker.place.1).entry (line-entry c rules walker.place walks.place) clash t is;
  back = one-back (HasEntry c) (walker.place.0, n)
      (walks.place.0, rw next_is (next-lt (table_of c walker.place.0) walker.place.1 walks.place.1));
}

-- on to the next entry of a main slot
pub Walks-next : (c : Parts) → (walker : Position) → Walks c walker → (n : ℕ)
    → n ≡ next (table_of c walker.place.0) walker.place.1
    → Walks c (record { place = (walker.place.0, n); back = walker.back })
Walks-next c walker walks n next_is = record {
  place = (walks.place.0, rw next_is (next-lt (table_of c walker.place.0) walker.place.1 walks.place.1));
  back = walks.back;
}

-- the entry after one, or the first where there is none, is the next
pub unwrapped-next : (more : Bool) (entry : ℕ) → unwrap_or (if more then Some (suc entry) else None) 0 ≡ (if more then suc entry else 0)
unwrapped-next true entry = refl
unwrapped-next false entry = refl
