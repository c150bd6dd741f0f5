use Rattle.std.proofs.Common.{◌≡◌, drop}
use Rattle.std.specs.Prelude.{find}
use Rattle.std.specs.Str.{bytes_eq}
use Rattle.lin_sections.proofs.requests.frame_pid.Given as goal

abbrev pub invariant-loop-frame : goal.invariant-loop-frame
invariant-loop-frame l =
    find (λ f. bytes_eq f.name l.name) l.cluster.frames ≡ find (λ f. bytes_eq f.name l.name) (drop l.frame l.cluster.frames)
