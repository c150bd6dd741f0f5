-- What a writer has taken of a text, at once or through a buffer.
use Rattle.std.specs.Prelude.{◌≡◌, ℕ, List, [], ◌++◌, Option, Some, None, Result, Ok, Err, OnOk}
use Rattle.std.specs.Prelude.{IsErr}
use Rattle.std.specs.Borrow.{MutBor}
use Rattle.std.specs.Io.KnownBytes.{Appends}
use Rattle.lin_text.specs.declared.buffered.TextWriter.{TextWriter}
use Rattle.lin_text.specs.declared.fault.WriteFailed.{WriteFailed}

-- A beginning of the text has been written, and after Ok all of it.
pub record WritesText {E : Type 0} (old : Option (List ℕ)) (new : Option (List ℕ))
    (result : Result Unit E) (text : List ℕ) : Type 0 where
  pub part : List ℕ
  pub rest : List ℕ
  pub written : Appends old new part
  pub whole : text ≡ part ++ rest
  pub all : OnOk result (part ≡ text)

-- A text was put after what waited: a beginning of both was written, and the rest waits, or a write
-- has failed (None). After a failed write nothing is written.
abbrev pub Puts : Option (List ℕ) → Option (List ℕ) → Option (List ℕ) → Option (List ℕ) → List ℕ
    → Type 0
Puts old None new None text = Appends old new []
Puts old None new (Some waits) text = ⊥
Puts old (Some waited) new None text =
    (part rest : List ℕ) × Appends old new part × (waited ++ text ≡ part ++ rest)
Puts old (Some waited) new (Some waits) text =
    (part : List ℕ) × Appends old new part × (waited ++ text ≡ part ++ waits)

-- what waits where no write has failed
abbrev pub kept_bytes : Result Unit WriteFailed → List ℕ → Option (List ℕ)
kept_bytes (Ok done) items = Some items
kept_bytes (Err fault) items = None

abbrev pub waiting_bytes : {W : Type 0} → TextWriter W → Option (List ℕ)
waiting_bytes t = kept_bytes t.outcome t.buffer.now.items

-- A text was put into a text writer, over the same writer.
pub record Grows {W : Type 0} (contents : W → Option (List ℕ)) (old : TextWriter W)
    (new : TextWriter W) (text : List ℕ) : Type 0 where
  pub same : new.writer.ghost_name ≡ old.writer.ghost_name
  pub puts :
      Puts (contents old.writer.now) (waiting_bytes old) (contents new.writer.now) (waiting_bytes new) text

-- A text writer over this writer, in which nothing waits.
pub record IsNew {W : Type 0} (writer : MutBor W) (text : TextWriter W) : Type 0 where
  pub same : text.writer.ghost_name ≡ writer.ghost_name
  pub now : text.writer.now ≡ writer.now
  pub empty : waiting_bytes text ≡ Some []

-- what waited was written
abbrev pub WritesWaiting : Option (List ℕ) → Option (List ℕ) → Option (List ℕ) → Result Unit WriteFailed
    → Type 0
WritesWaiting old None new result = Appends old new [] × IsErr result
WritesWaiting old (Some waited) new result = WritesText old new result waited

abbrev pub Finishes : {W : Type 0} → (W → Option (List ℕ)) → TextWriter W → Option (List ℕ)
    → Result Unit WriteFailed → Type 0
Finishes contents text new result = WritesWaiting (contents text.writer.now) (waiting_bytes text) new result
