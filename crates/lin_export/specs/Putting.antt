-- Texts that are put as far as there is memory.
use Rattle.std.specs.Prelude.{◌≡◌, ℕ, List, ◌++◌, Option, Result, OnOk}
use Rattle.lin_text.specs.Written.{Grows}
use Rattle.lin_text.specs.declared.buffered.TextWriter.{TextWriter}

-- A text was put, or after an error a beginning of it.
pub record PutsAll {W E : Type 0} (contents : W → Option (List ℕ)) (old : TextWriter W)
    (new : TextWriter W) (result : Result Unit E) (text : List ℕ) : Type 0 where
  pub part : List ℕ
  pub rest : List ℕ
  pub grows : Grows contents old new part
  pub whole : text ≡ part ++ rest
  pub all : OnOk result (part ≡ text)
