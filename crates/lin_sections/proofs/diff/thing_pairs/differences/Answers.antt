use Rattle.std.proofs.Common.{◌≡◌, ◌∙◌, ◌+◌, ◌<◌, ◌++◌, ◌∷◌, [], ℕ, List, append-nil, length, flat_map, get_or, take, add-one, ap, arith, sym}
use Rattle.std.specs.Prelude.{min, zip}
use Rattle.std.proofs.lemmas.List.Concat.{flat_map-append}
use Rattle.lin_sections.specs.Differences.{all_differences, kind_differences}
use Rattle.lin_sections.specs.declared.diff.fact.Thing.{Thing}
use Rattle.lin_sections.proofs.TextNumbers.{pairs-all, pairs-more}
use Rattle.lin_sections.proofs.diff.thing_pairs.differences.Goals as goal

kinds-more : (olds news : List (List Thing)) (i : ℕ) (old new : List Thing) → i < length olds → i < length news
    → old ≡ get_or olds i old → new ≡ get_or news i new
    → all_differences (take i olds) (take i news) ++ kind_differences old new ≡ all_differences (take (i + 1) olds) (take (i + 1) news)
kinds-more olds news i old new l m is_old is_new =
    let kinds = λ (k : List Thing × List Thing). kind_differences k.0 k.1 in
    ap (λ o. all_differences (take i olds) (take i news) ++ kind_differences o new) is_old
    ∙ ap (λ n. all_differences (take i olds) (take i news) ++ kind_differences (get_or olds i old) n) is_new
    ∙ ap (λ ds. all_differences (take i olds) (take i news) ++ ds) (sym (append-nil (kind_differences (get_or olds i old) (get_or news i new))))
    ∙ sym (flat_map-append kinds (zip (take i olds) (take i news)) ((get_or olds i old, get_or news i new) ∷ []))
    ∙ ap (flat_map kinds) (sym (pairs-more olds news i old new l m))
    ∙ ap (λ n. all_differences (take n olds) (take n news)) (sym (add-one i))

pub loop-kind-preserved : goal.loop-kind-preserved
loop-kind-preserved c =
    let first : c.loop-kind.kind < length c.args.olds.now = omega arith in
    let second : c.loop-kind.kind < length c.args.news.now = omega arith in
    c.in_ok-add_kind.ensures
    ∙ ap (λ ds. ds ++ kind_differences c.as_slice.result.now c.as_slice-in-loop-kind.result.now) c.loop-kind.invariant
    ∙ ap (λ o. all_differences (take c.loop-kind.kind c.args.olds.now) (take c.loop-kind.kind c.args.news.now) ++ kind_differences o c.as_slice-in-loop-kind.result.now) c.as_slice.ensures
    ∙ ap (λ n. all_differences (take c.loop-kind.kind c.args.olds.now) (take c.loop-kind.kind c.args.news.now) ++ kind_differences c.index-olds-kind.result n) c.as_slice-in-loop-kind.ensures
    ∙ kinds-more c.args.olds.now c.args.news.now c.loop-kind.kind c.index-olds-kind.result c.index-news-kind.result first second c.index-olds-kind.is c.index-news-kind.is

pub returns : goal.returns
returns c =
    let end : c.loop-kind.kind ≡ min (length c.args.olds.now) (length c.args.news.now) = omega arith in
    c.loop-kind.invariant
    ∙ ap (flat_map (λ (kinds : List Thing × List Thing). kind_differences kinds.0 kinds.1)) (pairs-all c.args.olds.now c.args.news.now c.loop-kind.kind end)
