use Rattle.std.proofs.Common.{◌≡◌, ℕ, List, take}
use Rattle.std.specs.List.{list_any}
use Rattle.std.specs.Str.{bytes_eq}
use Rattle.lin_cluster.specs.LintNames.{has_text}
use Rattle.lin_sections.proofs.attribute_lints.publishers.Given as goal

abbrev pub invariant-loop-frame : goal.invariant-loop-frame
invariant-loop-frame l = (q : List ℕ) → has_text l.texts.map q ≡ list_any (λ f. bytes_eq f.publisher.text q) (take l.frame-index l.frames)
