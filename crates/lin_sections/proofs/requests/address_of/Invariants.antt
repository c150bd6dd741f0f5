use Rattle.std.proofs.Common.{◌≡◌, None}
use Rattle.std.specs.Prelude.{find}
use Rattle.lin_frame.specs.Words.{numbers}
use Rattle.lin_sections.specs.Requests.{is_responder_named}
use Rattle.lin_sections.proofs.requests.address_of.Given as goal

abbrev pub invariant-loop-node : goal.invariant-loop-node
invariant-loop-node l = find (is_responder_named l.cluster l.name) (numbers l.node) ≡ None
