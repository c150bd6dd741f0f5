-- What was written of an answer.
use Rattle.std.proofs.Common.{ℕ, List, Option, Result, Ok, subst}
use Rattle.std.specs.Io.KnownBytes.{Appends}
use Rattle.lin_text.specs.Written.{WritesText}
use Rattle.lin_live.specs.Serving.{WritesBeginning}

pub written-whole : {E : Type 0} (a c : Option (List ℕ)) (done : Unit {0}) (text : List ℕ) → WritesText {E = E} a c (Ok done) text → Appends a c text
written-whole a c done text w = subst (Appends a c) w.all w.written

pub written-part : {E : Type 0} (a c : Option (List ℕ)) (r : Result (Unit {0}) E) (text : List ℕ) → WritesText a c r text → WritesBeginning a c text
written-part a c r text w = (w.part, w.rest, w.written, w.whole)
