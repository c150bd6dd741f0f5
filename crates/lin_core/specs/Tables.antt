-- The tables of what has a word and a number: the values in their order, and the word and the number
-- of each. Two values are the same where their numbers are.
use Rattle.std.specs.Prelude.{ℕ, ◌==◌, List, [], ◌∷◌, Option, codes, find}
use Rattle.std.specs.Str.{bytes_eq}
use Rattle.lin_core.specs.declared.reply.Refusal.{Refusal}
use Rattle.lin_core.specs.declared.reply.Refusal.TheVariants as refusal
use Rattle.lin_core.specs.declared.link.Cause.{Cause}
use Rattle.lin_core.specs.declared.link.Cause.TheVariants as cause
use Rattle.lin_core.specs.declared.event.Look.{Look}
use Rattle.lin_core.specs.declared.event.Look.TheVariants as look
use Rattle.lin_core.specs.declared.link.Direction.{Direction}
use Rattle.lin_core.specs.declared.link.Direction.TheVariants as direction
use Rattle.lin_core.specs.declared.event.Seen.{Seen}
use Rattle.lin_core.specs.declared.event.Seen.TheVariants as seen

-- the first value in a table with a word, and with a number
abbrev pub first_with_word : {A : Type 0} → (A → List ℕ) → List A → List ℕ → Option A
first_with_word word_of all word = find (λ x. bytes_eq (word_of x) word) all

abbrev pub first_with_number : {A : Type 0} → (A → ℕ) → List A → ℕ → Option A
first_with_number number_of all number = find (λ x. number_of x == number) all

-- ---- the refusals, in the order in which they are judged
abbrev pub refusals : List Refusal
refusals =
    refusal.NoSuchNode
    ∷ refusal.NoSuchSignal
    ∷ refusal.NoSuchTable
    ∷ refusal.NotPublisher
    ∷ refusal.BadValue
    ∷ refusal.NoAddress
    ∷ refusal.BadLength
    ∷ refusal.Closed
    ∷ refusal.QueueFull
    ∷ refusal.Asleep
    ∷ refusal.Awake
    ∷ refusal.SlotOpen
    ∷ refusal.NoSlot
    ∷ refusal.NotYours
    ∷ refusal.Decided
    ∷ refusal.NothingOnWire
    ∷ refusal.PassesCheck
    ∷ refusal.NoTransfer
    ∷ []

abbrev pub refusal_word : Refusal → List ℕ
refusal_word refusal.NoSuchNode = codes "NoSuchNode"
refusal_word refusal.NoSuchSignal = codes "NoSuchSignal"
refusal_word refusal.NoSuchTable = codes "NoSuchTable"
refusal_word refusal.NotPublisher = codes "NotPublisher"
refusal_word refusal.BadValue = codes "BadValue"
refusal_word refusal.NoAddress = codes "NoAddress"
refusal_word refusal.BadLength = codes "BadLength"
refusal_word refusal.Closed = codes "Closed"
refusal_word refusal.QueueFull = codes "QueueFull"
refusal_word refusal.Asleep = codes "Asleep"
refusal_word refusal.Awake = codes "Awake"
refusal_word refusal.SlotOpen = codes "SlotOpen"
refusal_word refusal.NoSlot = codes "NoSlot"
refusal_word refusal.NotYours = codes "NotYours"
refusal_word refusal.Decided = codes "Decided"
refusal_word refusal.NothingOnWire = codes "NothingOnWire"
refusal_word refusal.PassesCheck = codes "PassesCheck"
refusal_word refusal.NoTransfer = codes "NoTransfer"

abbrev pub refusal_number : Refusal → ℕ
refusal_number refusal.NoSuchNode = 1
refusal_number refusal.NoSuchSignal = 2
refusal_number refusal.NoSuchTable = 3
refusal_number refusal.NotPublisher = 4
refusal_number refusal.BadValue = 5
refusal_number refusal.NoAddress = 6
refusal_number refusal.BadLength = 7
refusal_number refusal.Closed = 8
refusal_number refusal.QueueFull = 9
refusal_number refusal.Asleep = 10
refusal_number refusal.Awake = 11
refusal_number refusal.SlotOpen = 12
refusal_number refusal.NoSlot = 13
refusal_number refusal.NotYours = 14
refusal_number refusal.Decided = 15
refusal_number refusal.NothingOnWire = 16
refusal_number refusal.PassesCheck = 17
refusal_number refusal.NoTransfer = 18

-- ---- why messages are lost
abbrev pub causes : List Cause
causes =
    cause.Damaged
    ∷ cause.TimedOut
    ∷ cause.Slept
    ∷ []

abbrev pub cause_word : Cause → List ℕ
cause_word cause.Damaged = codes "damaged"
cause_word cause.TimedOut = codes "timedout"
cause_word cause.Slept = codes "slept"

abbrev pub cause_number : Cause → ℕ
cause_number cause.Damaged = 0
cause_number cause.TimedOut = 1
cause_number cause.Slept = 2

-- ---- how slots are seen
abbrev pub looks : List Look
looks =
    look.Silent
    ∷ look.NoAnswer
    ∷ look.Good
    ∷ look.Damaged
    ∷ look.Collided
    ∷ []

abbrev pub look_word : Look → List ℕ
look_word look.Silent = codes "silent"
look_word look.NoAnswer = codes "none"
look_word look.Good = codes "good"
look_word look.Damaged = codes "damaged"
look_word look.Collided = codes "collided"

abbrev pub look_number : Look → ℕ
look_number look.Silent = 0
look_number look.NoAnswer = 1
look_number look.Good = 2
look_number look.Damaged = 3
look_number look.Collided = 4

-- ---- the directions of a transfer
abbrev pub directions : List Direction
directions =
    direction.Down
    ∷ direction.Up
    ∷ []

abbrev pub direction_word : Direction → List ℕ
direction_word direction.Down = codes "down"
direction_word direction.Up = codes "up"

abbrev pub direction_number : Direction → ℕ
direction_number direction.Down = 0
direction_number direction.Up = 1

-- how a slot was seen, whatever bytes it carried
abbrev pub look_of : Seen → Look
look_of seen.Silent = look.Silent
look_of seen.NoAnswer = look.NoAnswer
look_of (seen.Good answer) = look.Good
look_of seen.Damaged = look.Damaged
look_of seen.Collided = look.Collided
