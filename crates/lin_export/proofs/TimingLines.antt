-- What of the lines of timings was written.
use Rattle.std.proofs.Common.{ℕ, List, [], Option, Result, Ok, refl, sym, append-nil}
use Rattle.std.specs.Prelude.{IsErr}
use Rattle.lin_parts.specs.declared.parts.Parts.{Parts}
use Rattle.lin_text.specs.Written.{WritesText}
use Rattle.lin_export.specs.ListedTiming.{timing_text, WritesTimings, some_lines}
use Rattle.lin_export.specs.Timings.{AreTimings}
use Rattle.lin_export.specs.declared.cluster_lists.timings.TableTiming.{TableTiming}
use Rattle.lin_export.proofs.Puttings.{written-all, written-short}

-- a beginning of the lines, at an error
pub some-written : {E F : Type 0} (c : Parts) (bytes : ℕ) (a b : Option (List ℕ)) (q : Result Unit F) (r : Result Unit E) (all : List TableTiming)
    → IsErr r → AreTimings c bytes all → WritesText a b q (timing_text c bytes all) → WritesTimings c bytes a b r
some-written c bytes a b q r all failed are h = some_lines all are (written-short [] failed (sym (append-nil (timing_text c bytes all))) h)

-- all lines
pub all-written : {F : Type 0} (E : Type 0) (c : Parts) (bytes : ℕ) (a b : Option (List ℕ)) (all : List TableTiming)
    → AreTimings c bytes all → WritesText {E = F} a b (Ok tt) (timing_text c bytes all) → WritesTimings {E = E} c bytes a b (Ok tt)
all-written E c bytes a b all are h = some_lines all are (written-all refl h)
