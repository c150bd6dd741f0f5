-- The files that a script includes, with one file more.
use Rattle.std.proofs.Common.{◌≡◌, ◌++◌, List, [], ◌∷◌, Some, append-nil, append_assoc, subst, sym, ap, ◌∙◌}
use Rattle.lin_bench.specs.Files.{SourceData}
use Rattle.lin_bench.specs.Resolved.{missing_file}
use Rattle.lin_bench.specs.declared.files.ScriptFile.{ScriptFile}
use Rattle.lin_tool.specs.Playing.{AreMissing}

pub missing-more : (s : SourceData) (before fs : List ScriptFile) (f : ScriptFile) → AreMissing s before fs
    → missing_file (record s { files = before ++ fs }) ≡ Some f.name → AreMissing s before (fs ++ f ∷ [])
missing-more s before [] f h is = (ap (λ l. missing_file (record s { files = l })) (sym (append-nil before)) ∙ is, tt)
missing-more s before (g ∷ fs) f h is =
    (h.0, missing-more s (before ++ g ∷ []) fs f h.1 (ap (λ l. missing_file (record s { files = l })) (append_assoc before (g ∷ []) fs) ∙ is))
