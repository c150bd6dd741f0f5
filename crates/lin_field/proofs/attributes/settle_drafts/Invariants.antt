use Rattle.std.proofs.Common.{◌≡◌, ◌++◌, drop, map, take}
use Rattle.std.specs.List.{flat_map}
use Rattle.lin_field.specs.Attributes.{settled_draft, draft_nad_warnings}
use Rattle.lin_field.proofs.attributes.settle_drafts.Given as goal

abbrev pub invariant-loop-draft : goal.invariant-loop-draft
invariant-loop-draft l = record {
  settled : l.drafts ≡ map (settled_draft l.told l.nads) (take l.draft-index l.fn.drafts) ++ drop l.draft-index l.fn.drafts;
  warned : l.warned.items ≡ l.fn.warned.items ++ flat_map (draft_nad_warnings l.told l.nads) (take l.draft-index l.fn.drafts);
}
