use Rattle.std.proofs.Common.{◌∙◌, List, map, ap}
use Rattle.std.specs.Option.{option_or}
use Rattle.std.proofs.lemmas.Result.{on_ok_weaker}
use Rattle.lin_sections.specs.NewNames.{keyed_name, known_by, new_names, renames_data, KeyedName, NameMap}
use Rattle.lin_sections.specs.Renames.{frame_keys, all_frame_names}
use Rattle.lin_sections.specs.Things.{compared_data, ComparedData}
use Rattle.lin_sections.proofs.RenamedKinds.{kind-named}
use Rattle.lin_sections.proofs.diff.renames.Renames.add_frames.Goals as goal

pub returns : goal.returns
returns c =
    let old : ComparedData = compared_data c.args.ldfs.old.now.ldf in
    let new : ComparedData = compared_data c.args.ldfs.new.now.ldf in
    let known : NameMap = known_by c.args.self.now.frames in
    let olds : List KeyedName = map keyed_name c.in_ok-olds.olds.items in
    let news : List KeyedName = map keyed_name c.in_ok-news.news.items in
    on_ok_weaker c.add_names.result
    (λ is. ap (λ (x : NameMap). record (renames_data c.args.self.now) { frames = x })
    (kind-named (all_frame_names old) (all_frame_names new)
    (frame_keys old) (frame_keys new) olds news known (known_by c.add_names.new.names)
    c.in_ok-olds.ensures c.in_ok-news.ensures
    (λ q. is q ∙ (λ j. option_or (known q) (new_names (map (λ x. x.name.text) (c.frames.ensures j)) olds news q)))))
    c.add_names.ensures
