-- What contracts see of the code's types of an object.
use Rattle.std.specs.Borrow.{Bor}
use Rattle.std.specs.Prelude.{ℕ, List, Option, map, option_map}
use Rattle.lin_parts.specs.declared.place.Location.{Location}
use Rattle.lin_values.specs.declared.codings.CodingType.{CodingType}
use Rattle.lin_export.specs.CheckObject.{FoundData, ProblemData, check_object}
use Rattle.lin_export.specs.WhereTold.{given_coding}
use Rattle.lin_export.specs.declared.check_object.Found.{Found}
use Rattle.lin_export.specs.declared.check_object.problems.Problem.{Problem}

abbrev pub found_data : Found → FoundData
found_data f =
    record {
      cluster = f.cluster.now;
      description = f.description.now;
      coded = given_coding f.coded;
      protocol = f.protocol.now;
      language = f.language.now;
    }

abbrev pub place_data : Option Location → Option (ℕ × ℕ)
place_data place = option_map (λ p. (p.line, p.column)) place

abbrev pub problem_data : Problem → ProblemData
problem_data p =
    record {
      kind = p.kind.now;
      number = p.number;
      name = p.name.now;
      needed = p.needed_us;
      place = place_data p.place;
      token = p.token;
    }

-- the object of what was found
abbrev pub object_found : List ℕ → ℕ → Option (Bor Found) → Option (Bor (List CodingType)) → List Problem → List ℕ
object_found file status found encodings problems =
    check_object file status (option_map (λ f. found_data f.now) found) (option_map (λ e. e.now) encodings)
    (map problem_data problems)
