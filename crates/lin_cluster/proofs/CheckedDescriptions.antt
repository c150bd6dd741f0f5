-- An ordered list of findings is empty where nothing is found, and only there.
use Rattle.std.proofs.Common.{◌≡◌, ◌≢◌, List, [], length, sym, ap, ◌∙◌}
use Rattle.std.proofs.lemmas.List.{nil_from_length}
use Rattle.std.proofs.lemmas.List.Sorted.{length_permutation}
use Rattle.lin_cluster.specs.Findings.{candidates, AreFindings, IsFree}
use Rattle.lin_cluster.specs.declared.finding.Finding.{Finding}
use Rattle.lin_parts.specs.declared.description.Description.{Description}

pub free-from-none : (d : Description) (found : List Finding) → AreFindings d found → length found ≡ 0 → IsFree d
free-from-none d found are none = nil_from_length (candidates d) (sym (length_permutation (candidates d) found are.all) ∙ none)

pub some-found : (d : Description) (found : List Finding) → AreFindings d found → length found ≢ 0 → candidates d ≢ []
some-found d found are some free = some (length_permutation (candidates d) found are.all ∙ ap length free)
