-- The checks of a play that a row names: a line that is repeated is checked several times, and named once.
use Rattle.std.specs.Prelude.{ℕ, ◌==◌, ◌&&◌, Bool, true, not, if◌then◌else◌, List, [], ◌∷◌, ◌++◌}
use Rattle.std.specs.List.{list_any}
use Rattle.std.specs.Str.{bytes_eq}
use Rattle.lin_parts.specs.declared.parts.Parts.{Parts}
use Rattle.lin_bench.specs.Played.{is_unmet}
use Rattle.lin_bench.specs.Texts.{what_text}
use Rattle.lin_bench.specs.declared.got.Judgement.{Judgement}
use Rattle.lin_tool.specs.declared.campaign.checks.Check.{Check}

-- what is named of a check: the line of the script's own file, and what it expects
abbrev pub check_of : Parts → Judgement → Check
check_of c j = record { line = j.place.own; what = what_text c j.judged }

abbrev pub is_same_check : Check → Check → Bool
is_same_check a b = a.line == b.line && bytes_eq a.what b.what

abbrev pub is_named : List Check → Check → Bool
is_named before k = list_any (λ other. is_same_check other k) before

-- the checks that are wanted: all of them, or those that failed
abbrev pub is_wanted : Bool → Judgement → Bool
is_wanted failed j = if failed then is_unmet j.judged else true

-- the first one of each line with what it expects; these were named before
abbrev pub firsts_after : Parts → Bool → List Check → List Judgement → List Judgement
firsts_after c failed before [] = []
firsts_after c failed before (j ∷ js) =
    if is_wanted failed j && not (is_named before (check_of c j))
    then j ∷ firsts_after c failed (before ++ check_of c j ∷ []) js else firsts_after c failed before js

abbrev pub first_checks : Parts → Bool → List Judgement → List Judgement
first_checks c failed js = firsts_after c failed [] js
