-- What comes of going back to a mark.
use Rattle.std.specs.Prelude.{◌≡◌, ℕ, IsSome, List, [], ◌∷◌, Result, Ok, Option, Some}
use Rattle.lin_live.specs.Heard.{Heard}
use Rattle.lin_live.specs.Heard.Heard.{GoBack, SetMark}
use Rattle.lin_live.specs.Marking.{mark_place}
use Rattle.lin_live.specs.Told.{AllHeard, HandData, heard_by, reply}
use Rattle.lin_live.specs.Transcript.{short, state_after}
use Rattle.lin_live.specs.declared.reason.Reason.{Reason}

-- a line sets the mark with a name, or goes back to it
abbrev pub IsMark : List ℕ → Result (Option Heard) Reason → Type 0
IsMark name said = said ≡ Ok (Some (SetMark name))

abbrev pub IsBack : List ℕ → Result (Option Heard) Reason → Type 0
IsBack name said = said ≡ Ok (Some (GoBack name))

-- a session after a line and others
abbrev pub after : HandData → List ℕ → List (List ℕ) → HandData
after h line more = state_after reply h (line ∷ more)

-- going back to a mark restores the bench at it: the history, the rules and the consumed events. No line
-- between the two sets the mark again; the mark is still there
abbrev pub BackRestores : Type 0
BackRestores = (h : HandData) (name marking going : List ℕ) (between : List (List ℕ))
    → IsMark name (heard_by h (short marking)) → IsBack name (heard_by (after h marking between) (short going))
    → AllHeard (λ said. IsMark name said → ⊥) (after h marking []) between
    → IsSome (mark_place (after h marking between).marks name)
    → (after (after h marking between) going []).bench ≡ h.bench

-- and it is there if no line since then sets a mark or goes back to one
abbrev pub MarksStay : Type 0
MarksStay = (h : HandData) (name marking : List ℕ) (between : List (List ℕ))
    → IsMark name (heard_by h (short marking))
    → AllHeard (λ said. (other : List ℕ) → (IsMark other said → ⊥) × (IsBack other said → ⊥)) (after h marking []) between
    → IsSome (mark_place (after h marking between).marks name)

-- parameters stay as they are
abbrev pub ParametersStay : Type 0
ParametersStay = (h : HandData) (name going : List ℕ) → IsBack name (heard_by h (short going)) → (after h going []).sets ≡ h.sets
