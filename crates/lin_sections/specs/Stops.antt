-- Readers that stop at the first token that can't stand there: what was read, and the tokens behind it; or
-- the tokens from the one on that can't stand there.
use Rattle.std.specs.Prelude.{◌≡◌, ℕ, List, [], ◌&&◌, Option, Some, None, Result, Ok, Err}
use Rattle.std.specs.Prelude.{nat_le, if◌then◌else◌}
use Rattle.lin_cluster.specs.FindingsNames.{at_place, when}
use Rattle.lin_cluster.specs.declared.finding.Finding.{Finding}
use Rattle.lin_cluster.specs.declared.finding.FindingKind.{FindingKind}
use Rattle.lin_ldf.specs.Forms.{front, has_front, mark}
use Rattle.lin_ldf.specs.Symbols.{Symbol}
use Rattle.lin_ldf.specs.Words.{int, place_of, word}
use Rattle.lin_ldf.specs.declared.fault.LdfFault.{LdfFault}
use Rattle.lin_ldf.specs.declared.fault.LdfFault.TheVariants as faults
use Rattle.lin_ldf.specs.declared.token.TokenKind.{TokenKind}
use Rattle.lin_ldf.specs.declared.token.TokenKind.TheVariants.{Comma}
use Rattle.lin_parts.specs.declared.description.Name.{Name}
use Rattle.lin_parts.specs.declared.description.Number.{Number}

abbrev pub Reading : Type 0 → Type 0
Reading A = Result (A × List Symbol) (List Symbol)

-- one reader after the other
infixl 10 ◌>>=◌
abbrev pub ◌>>=◌ : {A B : Type 0} → Reading A → (A × List Symbol → Reading B) → Reading B
(Ok read) >>= f = f read
(Err left) >>= f = Err left

-- what a form of one token reads
abbrev pub or_stop : {A : Type 0} → Option (A × List Symbol) → List Symbol → Reading A
or_stop None ts = Err ts
or_stop (Some read) ts = Ok read

abbrev pub mark_next : TokenKind → List Symbol → Reading (Unit {0})
mark_next kind ts = or_stop ((mark kind).read ts) ts

-- WORD
abbrev pub name_next : List Symbol → Reading Name
name_next ts = or_stop (word.read ts) ts

-- INT from a number to another one
abbrev pub within : ℕ → ℕ → Option (Number × List Symbol) → Option (Number × List Symbol)
within least most None = None
within least most (Some n) =
    if nat_le least n.0.value && nat_le n.0.value most then Some n else None

abbrev pub int_between : ℕ → ℕ → List Symbol → Option (Number × List Symbol)
int_between least most ts = within least most (int.read ts)

abbrev pub number_next : ℕ → ℕ → List Symbol → Reading Number
number_next least most ts = or_stop (int_between least most ts) ts

-- ',' INT up to a number
abbrev pub next_to : ℕ → List Symbol → Reading Number
next_to most ts = do
  u ← mark_next Comma ts
  number_next 0 most u.1

-- ---- what was read, and a finding at the token at which reading stopped
abbrev pub value_read : {A : Type 0} → Reading A → Option A
value_read (Ok read) = Some read.0
value_read (Err left) = None

abbrev pub stopped_at : FindingKind → List Symbol → List Finding
stopped_at kind ts = when (has_front ts) (at_place kind (place_of (front ts)))

abbrev pub findings_at_stop : {A : Type 0} → FindingKind → Reading A → List Finding
findings_at_stop kind (Ok read) = []
findings_at_stop kind (Err left) = stopped_at kind left

-- ---- what a call returned, and left, is what reading gives
abbrev pub StopsAt : {A : Type 0} → LdfFault → List Symbol → Reading A → Type 0
StopsAt faults.OutOfMemory left reading = Unit {0}
StopsAt _ left reading = reading ≡ Err left

abbrev pub Stops : {A : Type 0} → Result A LdfFault → List Symbol → Reading A → Type 0
Stops (Ok x) left reading = reading ≡ Ok (x, left)
Stops (Err e) left reading = StopsAt e left reading
