-- Promises rest on this: the laws that hold of every history of a cluster.
use Rattle.std.specs.Prelude.{◌≡◌, ℕ, ◌==◌, ⊤, Bool, true, false, ◌&&◌, ◌||◌, not, List, [], ◌∷◌}
use Rattle.std.specs.Prelude.{◌++◌, map, filter}
use Rattle.lin_core.specs.History.{did, is_host_closed, is_sleep_mark, LogEntry, Step, Parts}
use Rattle.lin_core.specs.Links.{Link, goes_over, host_of, Sign, Fate, fate, is_waiting, block_frames}
use Rattle.lin_core.specs.Links.{Message, Sending, sendings, fate_of, reading, waiting}
use Rattle.lin_core.specs.Links.{accepted_messages, blocks, frames_to, messages_on}
use Rattle.lin_core.specs.Links.Fate.{Waiting, Sent, Lost}
use Rattle.lin_core.specs.declared.step.Step.TheVariants.{Send, Hurt, Timeout}

abbrev pub is_sent : Fate → Bool
is_sent Sent = true
is_sent fate = false

abbrev pub is_sent_over : Parts → Link → Sending → Bool
is_sent_over c l s = goes_over s.message.link l && is_sent (fate_of c s)

-- the receiver of a link reads the messages whose fate is Sent, in order
abbrev pub ReadsSent : Parts → List LogEntry → Link → Type 0
ReadsSent c past l =
    reading c past l
    ≡ map (λ (s : Sending). s.message.bytes)
    (filter (is_sent_over c l) (sendings c past (host_of l)))

-- the frames are a beginning of others
abbrev pub IsPrefix : List (List ℕ) → List (List ℕ) → Type 0
IsPrefix xs ys = (zs : List (List ℕ)) × (ys ≡ xs ++ zs)

-- there are no more blocks than messages; each block is a beginning of the frames of its message;
-- where another block follows, the message is sent or lost
abbrev pub InOrder : List (List (List ℕ)) → List (List Sign) → Type 0
InOrder fss [] = ⊤
InOrder [] (b ∷ bs) = ⊥
InOrder (fs ∷ fss) (b ∷ []) = IsPrefix (block_frames b) fs
InOrder (fs ∷ fss) (b ∷ d ∷ bs) =
    IsPrefix (block_frames b) fs × (is_waiting (fate fs b) ≡ false) × InOrder fss (d ∷ bs)

-- the fates of messages with these frames, by the blocks at their places
abbrev pub fates_in : List (List (List ℕ)) → List (List Sign) → List Fate
fates_in [] bs = []
fates_in (fs ∷ fss) [] = fate fs [] ∷ fates_in fss []
fates_in (fs ∷ fss) (b ∷ bs) = fate fs b ∷ fates_in fss bs

-- a message has one fate: the blocks of a link tell of the messages that go over it what those of
-- their home links tell
abbrev pub AgreesOn : Parts → List LogEntry → Link → Type 0
AgreesOn c past l =
    fates_in (map (frames_to c) (messages_on past l)) (blocks c past l)
    ≡ map (fate_of c)
    (filter (λ (s : Sending). goes_over s.message.link l) (sendings c past (host_of l)))

-- the messages of a host with their fates
abbrev pub outcomes_of : Parts → List LogEntry → ℕ → List (Message × Fate)
outcomes_of c past h = map (λ (s : Sending). (s.message, fate_of c s)) (sendings c past h)

-- messages stay in their places, and a fate that isn't Waiting stays as it is
abbrev pub Stays : List (Message × Fate) → List (Message × Fate) → Type 0
Stays [] ys = ⊤
Stays (x ∷ xs) [] = ⊥
Stays (x ∷ xs) (y ∷ ys) = (y.0 ≡ x.0) × (is_waiting x.1 ≡ false → y.1 ≡ x.1) × Stays xs ys

-- whether a step sends a message of a host
abbrev pub is_send_of : ℕ → Step → Bool
is_send_of h (Send from to message) = from == h
is_send_of h step = false

-- where a send of a host is done, no close of it was done before
abbrev pub NoSendAfterClose : LogEntry → List LogEntry → ℕ → Type 0
NoSendAfterClose e past h = did (is_send_of h) e ≡ true → is_host_closed past h ≡ false

-- whether a step disturbs a slot or a transfer
abbrev pub is_disturbing : Step → Bool
is_disturbing (Hurt bytes) = true
is_disturbing (Timeout node dir) = true
is_disturbing step = false

-- a history with no done hurt, no done timeout and no sleep mark
abbrev pub is_calm : List LogEntry → Bool
is_calm [] = true
is_calm (e ∷ past) = not (is_sleep_mark e past || did is_disturbing e) && is_calm past

-- no message is lost
abbrev pub NoneLost : List (Message × Fate) → Type 0
NoneLost [] = ⊤
NoneLost ((m, Waiting) ∷ xs) = NoneLost xs
NoneLost ((m, Sent) ∷ xs) = NoneLost xs
NoneLost ((m, Lost cause) ∷ xs) = ⊥

-- where nothing of its host waits, all that was accepted for a link is read
abbrev pub ReadsAll : Parts → List LogEntry → Link → Type 0
ReadsAll c past l = waiting c past (host_of l) ≡ [] → reading c past l ≡ accepted_messages past l
