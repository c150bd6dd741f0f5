-- A turn of a script's task.
use Rattle.std.proofs.Common.{◌≡◌, ◌∙◌, List, [], ◌∷◌, ◌++◌, map, Option, Some, None, IfSome, IfNone, sym, ap, append-nil}
use mathlib.Core.List.{IsPrefix}
use Rattle.lin_threads.specs.Ports.{host_wiring, host_put, host_took, by_port, Continues}
use Rattle.lin_threads.specs.declared.ports.host_port.HostPort.{HostPort}
use Rattle.lin_threads.specs.declared.ports.steps.HostStep.{HostStep}
use Rattle.lin_threads.specs.declared.ports.steps.Note.{Note}
use Rattle.lin_threads.specs.Scripts.{PutsFirst}

-- what a port took begins with what it had taken
took-more : (note : Option Note) (old new : List Note) → IfSome note (λ n. new ≡ old ++ n ∷ []) → IfNone note (new ≡ old) → IsPrefix old new
took-more (Some n) old new some none = (n ∷ [], sym some)
took-more None old new some none = ([], append-nil old ∙ sym none)

-- a port that took a note, if there was one, and then put some steps, is still that port
pub continues : (a b d : HostPort) (note : Option Note) (steps left : List HostStep) → host_wiring b ≡ host_wiring a → host_put b ≡ host_put a → IfSome note (λ n. host_took b ≡ host_took a ++ n ∷ []) → IfNone note (host_took b ≡ host_took a) → host_wiring d ≡ host_wiring b → PutsFirst steps left b d → host_took d ≡ host_took b → Continues a d
continues a b d note steps left same put some none still puts took =
    let more = took-more note (host_took a) (host_took b) some none in
    record {
      wiring = still ∙ same;
      put = (map (by_port b) puts.0, ap (λ l. l ++ map (by_port b) puts.0) (sym put) ∙ sym puts.2);
      took = (more.0, more.1 ∙ sym took);
    }
