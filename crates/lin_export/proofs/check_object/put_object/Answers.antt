use Rattle.std.proofs.Common.{◌∷◌, [], ap, codes, map, sym}
use Rattle.std.proofs.lemmas.Simd.{map-map}
use Rattle.std.specs.Prelude.{option_map}
use Rattle.std.specs.Option.{option_map_or}
use Rattle.lin_text.proofs.Growing.{grows-more, same-growth}
use Rattle.lin_export.specs.CheckObject.{cluster_members, empty_members, encodings_member, list_member, problem_object}
use Rattle.lin_export.specs.ClusterObject.{count_member}
use Rattle.lin_export.specs.Csv.{after_comma}
use Rattle.lin_export.specs.Found.{found_data, problem_data}
use Rattle.lin_export.specs.Json.{escaped_text, member}
use Rattle.lin_export.proofs.Objects.{grows-values, puts-all, puts-more, puts-one}
use Rattle.lin_export.proofs.check_object.put_object.Goals as goal

pub returns : goal.returns
returns g c =
    let first = member (codes "file") (escaped_text c.args.file.now) ∷ count_member (codes "status") c.args.status ∷ [] in
    let found = option_map_or cluster_members (option_map (λ f. found_data f.now) c.args.found) empty_members in
    let encodings = encodings_member (option_map (λ e. e.now) c.args.encodings) in
    let problems = c.args.problems.now in
    let told = list_member (codes "told") (map problem_object (map problem_data problems)) in
    let same = ap (λ l. after_comma (list_member (codes "told") l)) (sym (map-map problem_object problem_data problems)) in
    grows-more
    (grows-values (count_member (codes "version") 1) (grows-more c.put.ensures c.put_number.ensures)
    (puts-more (puts-all first (rw (c.as_bytes.ensures.value, c.from.ensures) at c.put_members.ensures))
    (puts-more (puts-all found c.put_if_found.ensures) (puts-more (puts-one encodings c.put_encodings.ensures) (puts-one told (same-growth same c.put_problems.ensures)))))
    c.put_byte.ensures)
    c.put_byte-2.ensures
