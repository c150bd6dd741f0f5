use Rattle.std.proofs.Common.{◌≡◌, take}
use Rattle.lin_field.specs.Attributes.{responder_nads}
use Rattle.lin_field.proofs.attributes.responder_nads.Given as goal

abbrev pub invariant-loop-draft : goal.invariant-loop-draft
invariant-loop-draft l = l.nads.items ≡ responder_nads l.nodes (take l.draft-index l.drafts)
