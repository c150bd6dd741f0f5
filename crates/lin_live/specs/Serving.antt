-- What a loop that answers lines has done to its state, its reader and its writer, whose bytes are
-- spoken of where they are known.
use Rattle.std.specs.Prelude.{◌≡◌, ℕ, List, [], ◌∷◌, ◌++◌, Option, IfSome, Result, Ok, Err, option_map}
use Rattle.std.specs.Borrow.{Bor}
use Rattle.std.specs.Io.KnownBytes.{Appends, Consumes}
use Rattle.std.specs.Str.Lines.{strip_carriage_return}
use Rattle.lin_live.specs.Lines.{HasNoLf, ended_lines, last_line, lines, after_last_lf}
use Rattle.lin_live.specs.Transcript.{state_after, short, transcript}
use Rattle.lin_live.specs.Begun.{bytes_within_line}
use Rattle.lin_live.specs.declared.fault.Fault.{Fault}
use Rattle.lin_live.specs.declared.fault.Fault.TheVariants.{ReadFailed, WriteFailed, OutOfMemory}
use Rattle.lin_live.specs.declared.fault.Fault.TheVariants.{LogFull}

-- a beginning of a text was written
abbrev pub WritesBeginning : Option (List ℕ) → Option (List ℕ) → List ℕ → Type 0
WritesBeginning old new text = (part rest : List ℕ) × Appends old new part × (text ≡ part ++ rest)

-- what telling the second of a pair has done: it was written, and the state is the first; or a
-- beginning was written; or nothing, where there was no memory or no place
abbrev pub WritesAnswer : {S : Type 0} → S × List ℕ → Type 0 → S → Option (List ℕ) → Option (List ℕ)
    → Result Unit Fault → Type 0
WritesAnswer p full t old new (Ok done) = Appends old new p.1 × (t ≡ p.0)
WritesAnswer p full t old new (Err WriteFailed) = WritesBeginning old new p.1
WritesAnswer p full t old new (Err OutOfMemory) = Appends old new []
WritesAnswer p full t old new (Err LogFull) = Appends old new [] × full
WritesAnswer p full t old new (Err ReadFailed) = ⊥

-- a text was written; or a beginning of it; or nothing, where there was no memory
abbrev pub WritesAlone : Option (List ℕ) → Option (List ℕ) → List ℕ → Result Unit Fault → Type 0
WritesAlone old new text result = WritesAnswer {S = Unit {0}} (tt, text) ⊥ tt old new result

-- what answering a line has done
abbrev pub Replies : {S : Type 0} → (S → Option (List ℕ) → S × List ℕ)
    → (S → Option (List ℕ) → Type 0) → S → S → Option (List ℕ) → Option (List ℕ)
    → Option (List ℕ) → Result Unit Fault → Type 0
Replies reply full s t old new line result = WritesAnswer (reply s line) (full s line) t old new result

-- these lines were answered, all of them
abbrev pub Answers : {S : Type 0} → (S → Option (List ℕ) → S × List ℕ) → S → S
    → Option (List ℕ) → Option (List ℕ) → List (List ℕ) → Type 0
Answers reply s t old new ls = Appends old new (transcript reply s ls) × (t ≡ state_after reply s ls)

-- these lines weren't all answered: a beginning of their transcript was written, or the transcript
-- of those before one for which there was no memory or no place
abbrev pub FailsToServe : {S : Type 0} → (S → Option (List ℕ) → S × List ℕ)
    → (S → Option (List ℕ) → Type 0) → S → Option (List ℕ) → Option (List ℕ) → List (List ℕ)
    → Fault → Type 0
FailsToServe reply full s old new ls WriteFailed = WritesBeginning old new (transcript reply s ls)
FailsToServe reply full s old new ls OutOfMemory =
    (first more : List (List ℕ)) × (ls ≡ first ++ more) × Appends old new (transcript reply s first)
FailsToServe reply full s old new ls LogFull =
    (first : List (List ℕ)) × (line : List ℕ) × (more : List (List ℕ)) × (ls ≡ first ++ line ∷ more)
    × Appends old new (transcript reply s first) × full (state_after reply s first) (short line)
FailsToServe reply full s old new ls ReadFailed = ⊥

-- what the loop has done: each line of the reader was answered; or it ended early, after a failed
-- read with the answers to all lines that an LF ended
abbrev pub IsLive : {S : Type 0} → (S → Option (List ℕ) → S × List ℕ)
    → (S → Option (List ℕ) → Type 0) → S → S → Option (List ℕ) → Option (List ℕ)
    → Option (List ℕ) → Option (List ℕ) → Result Unit Fault → Type 0
IsLive reply full s t known left old new (Ok done) =
    (read : List ℕ) × IfSome known (λ bytes. read ≡ bytes) × Answers reply s t old new (lines read)
IsLive reply full s t known left old new (Err ReadFailed) =
    (read : List ℕ) × Consumes known left read × Answers reply s t old new (ended_lines read)
IsLive reply full s t known left old new (Err fault) =
    (read : List ℕ) × Consumes known left read × FailsToServe reply full s old new (lines read) fault

-- ---- the loop's parts

-- a line was answered, with its CR where it has one
abbrev pub IsAnswered : {S : Type 0} → (S → Option (List ℕ) → S × List ℕ)
    → (S → Option (List ℕ) → Type 0) → S → S → Option (List ℕ) → Option (List ℕ) → List ℕ
    → Result Unit Fault → Type 0
IsAnswered reply full s t old new bytes result =
    Replies reply full s t old new (short (strip_carriage_return bytes)) result

-- what a piece of the input does after the beginning of a line: the lines that end in it were
-- answered, and the beginning of the next one is kept; or they weren't all answered
abbrev pub Feeds : {S : Type 0} → (S → Option (List ℕ) → S × List ℕ)
    → (S → Option (List ℕ) → Type 0) → S → S → Option (List ℕ) → Option (List ℕ)
    → Option (List ℕ) → List ℕ → List ℕ → Result Unit Fault → Type 0
Feeds reply full s t old new begun bytes piece (Ok done) =
    Answers reply s t old new (ended_lines (bytes ++ piece)) × (begun ≡ bytes_within_line (after_last_lf (bytes ++ piece)))
Feeds reply full s t old new begun bytes piece (Err fault) =
    FailsToServe reply full s old new (ended_lines (bytes ++ piece)) fault

-- what the end of the input does after the beginning of a line
abbrev pub ServesEnd : {S : Type 0} → (S → Option (List ℕ) → S × List ℕ)
    → (S → Option (List ℕ) → Type 0) → S → S → Option (List ℕ) → Option (List ℕ) → List ℕ
    → Result Unit Fault → Type 0
ServesEnd reply full s t old new bytes (Ok done) = Answers reply s t old new (last_line bytes)
ServesEnd reply full s t old new bytes (Err fault) =
    FailsToServe reply full s old new (last_line bytes) fault

-- ---- the same, where the code has the state, the reader and the writer, and the beginning of a line
abbrev pub RepliesTo : {S : Type 0} → (S → Option (List ℕ) → S × List ℕ)
    → (S → Option (List ℕ) → Type 0) → S → S → Option (List ℕ) → Option (List ℕ)
    → Option (Bor (List ℕ)) → Result Unit Fault → Type 0
RepliesTo reply full s t old new line result =
    Replies reply full s t old new (option_map (λ l. l.now) line) result

abbrev pub EndsBegun : {A S W : Type 0} → (S → Option (List ℕ) → S × List ℕ)
    → (S → Option (List ℕ) → Type 0) → (A → S) → (W → Option (List ℕ)) → A → A → W → W
    → Option (List ℕ) → List ℕ → Result Unit Fault → Type 0
EndsBegun reply full state contents a b old new begun more result =
    (bytes : List ℕ) → begun ≡ bytes_within_line bytes
    → IsAnswered reply full (state a) (state b) (contents old) (contents new) (bytes ++ more) result

abbrev pub FeedsBegun : {A S W : Type 0} → (S → Option (List ℕ) → S × List ℕ)
    → (S → Option (List ℕ) → Type 0) → (A → S) → (W → Option (List ℕ)) → A → A → W → W
    → Option (List ℕ) → Option (List ℕ) → List ℕ → Result Unit Fault → Type 0
FeedsBegun reply full state contents a b old new begun left piece result =
    (bytes : List ℕ) → begun ≡ bytes_within_line bytes → HasNoLf bytes
    → Feeds reply full (state a) (state b) (contents old) (contents new) left bytes piece result

abbrev pub ServesBegun : {A S W : Type 0} → (S → Option (List ℕ) → S × List ℕ)
    → (S → Option (List ℕ) → Type 0) → (A → S) → (W → Option (List ℕ)) → A → A → W → W
    → Option (List ℕ) → Result Unit Fault → Type 0
ServesBegun reply full state contents a b old new begun result =
    (bytes : List ℕ) → begun ≡ bytes_within_line bytes
    → ServesEnd reply full (state a) (state b) (contents old) (contents new) bytes result

abbrev pub RunsLive : {A S R W : Type 0} → (S → Option (List ℕ) → S × List ℕ)
    → (S → Option (List ℕ) → Type 0) → (A → S) → (R → Option (List ℕ)) → (W → Option (List ℕ))
    → A → A → R → R → W → W → Result Unit Fault → Type 0
RunsLive reply full state remaining contents a b known left old new result =
    IsLive reply full (state a) (state b) (remaining known) (remaining left) (contents old)
    (contents new) result
