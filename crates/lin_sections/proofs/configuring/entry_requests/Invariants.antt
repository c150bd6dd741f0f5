use Rattle.std.proofs.Common.{◌≡◌, ◌++◌, flat_map, length, map}
use Rattle.lin_sections.specs.Configuring.{entry_request, entry_warnings}
use Rattle.lin_sections.specs.Lines.{token_lines}
use Rattle.lin_sections.proofs.configuring.entry_requests.Given as goal

abbrev pub invariant-loop-requests : goal.invariant-loop-requests
invariant-loop-requests l = record {
  requests : l.requests.items ++ map (entry_request l.cluster l.identities) (token_lines l.parser) ≡ map (entry_request l.cluster l.identities) (token_lines l.fn.parser);
  warned : l.warned.items ++ flat_map (entry_warnings l.cluster l.identities) (token_lines l.parser) ≡ l.fn.warned.items ++ flat_map (entry_warnings l.cluster l.identities) (token_lines l.fn.parser);
}

abbrev pub decreases-loop-requests : goal.decreases-loop-requests
decreases-loop-requests l = length l.parser
