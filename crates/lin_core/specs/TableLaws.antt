-- Each value is found by its word and by its number.
use Rattle.std.specs.Prelude.{◌≡◌, Some, refl, find, ◌==◌}
use Rattle.std.specs.Str.{bytes_eq}
use Rattle.lin_core.specs.declared.reply.Refusal.{Refusal}
use Rattle.lin_core.specs.declared.reply.Refusal.TheVariants as refusal
use Rattle.lin_core.specs.declared.link.Cause.{Cause}
use Rattle.lin_core.specs.declared.link.Cause.TheVariants as cause
use Rattle.lin_core.specs.declared.event.Look.{Look}
use Rattle.lin_core.specs.declared.event.Look.TheVariants as look
use Rattle.lin_core.specs.declared.link.Direction.{Direction}
use Rattle.lin_core.specs.declared.link.Direction.TheVariants as direction
use Rattle.lin_core.specs.Tables.{refusals, refusal_word, refusal_number, causes, cause_word, cause_number, looks, look_word, look_number, directions, direction_word, direction_number}

pub refusal-by_word : (x : Refusal) → find (λ y. bytes_eq (refusal_word y) (refusal_word x)) refusals ≡ Some x
refusal-by_word refusal.NoSuchNode = refl
refusal-by_word refusal.NoSuchSignal = refl
refusal-by_word refusal.NoSuchTable = refl
refusal-by_word refusal.NotPublisher = refl
refusal-by_word refusal.BadValue = refl
refusal-by_word refusal.NoAddress = refl
refusal-by_word refusal.BadLength = refl
refusal-by_word refusal.Closed = refl
refusal-by_word refusal.QueueFull = refl
refusal-by_word refusal.Asleep = refl
refusal-by_word refusal.Awake = refl
refusal-by_word refusal.SlotOpen = refl
refusal-by_word refusal.NoSlot = refl
refusal-by_word refusal.NotYours = refl
refusal-by_word refusal.Decided = refl
refusal-by_word refusal.NothingOnWire = refl
refusal-by_word refusal.PassesCheck = refl
refusal-by_word refusal.NoTransfer = refl

pub refusal-by_number : (x : Refusal) → find (λ y. refusal_number y == refusal_number x) refusals ≡ Some x
refusal-by_number refusal.NoSuchNode = refl
refusal-by_number refusal.NoSuchSignal = refl
refusal-by_number refusal.NoSuchTable = refl
refusal-by_number refusal.NotPublisher = refl
refusal-by_number refusal.BadValue = refl
refusal-by_number refusal.NoAddress = refl
refusal-by_number refusal.BadLength = refl
refusal-by_number refusal.Closed = refl
refusal-by_number refusal.QueueFull = refl
refusal-by_number refusal.Asleep = refl
refusal-by_number refusal.Awake = refl
refusal-by_number refusal.SlotOpen = refl
refusal-by_number refusal.NoSlot = refl
refusal-by_number refusal.NotYours = refl
refusal-by_number refusal.Decided = refl
refusal-by_number refusal.NothingOnWire = refl
refusal-by_number refusal.PassesCheck = refl
refusal-by_number refusal.NoTransfer = refl

pub cause-by_word : (x : Cause) → find (λ y. bytes_eq (cause_word y) (cause_word x)) causes ≡ Some x
cause-by_word cause.Damaged = refl
cause-by_word cause.TimedOut = refl
cause-by_word cause.Slept = refl

pub cause-by_number : (x : Cause) → find (λ y. cause_number y == cause_number x) causes ≡ Some x
cause-by_number cause.Damaged = refl
cause-by_number cause.TimedOut = refl
cause-by_number cause.Slept = refl

pub look-by_word : (x : Look) → find (λ y. bytes_eq (look_word y) (look_word x)) looks ≡ Some x
look-by_word look.Silent = refl
look-by_word look.NoAnswer = refl
look-by_word look.Good = refl
look-by_word look.Damaged = refl
look-by_word look.Collided = refl

pub look-by_number : (x : Look) → find (λ y. look_number y == look_number x) looks ≡ Some x
look-by_number look.Silent = refl
look-by_number look.NoAnswer = refl
look-by_number look.Good = refl
look-by_number look.Damaged = refl
look-by_number look.Collided = refl

pub direction-by_word : (x : Direction) → find (λ y. bytes_eq (direction_word y) (direction_word x)) directions ≡ Some x
direction-by_word direction.Down = refl
direction-by_word direction.Up = refl

pub direction-by_number : (x : Direction) → find (λ y. direction_number y == direction_number x) directions ≡ Some x
direction-by_number direction.Down = refl
direction-by_number direction.Up = refl
