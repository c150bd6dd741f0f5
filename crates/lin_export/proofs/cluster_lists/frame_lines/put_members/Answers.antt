use Rattle.std.proofs.Common.{ℕ, List, sym, ap, ◌∙◌, ◌++◌, map, take, flat_map, arith}
use Rattle.std.proofs.lemmas.List.{take_all}
use Rattle.lin_log.specs.CallerTexts.{seen_text}
use Rattle.lin_log.specs.Words.{line_tail, spaced_word}
use Rattle.lin_parts.specs.Cluster.{frame_name}
use Rattle.lin_text.proofs.Growing.{grows-more, same-growth}
use Rattle.lin_log.proofs.Ends.{ended, mapped-more}
use Rattle.lin_export.proofs.cluster_lists.frame_lines.put_members.Goals as goal

pub loop-frame-preserved : goal.loop-frame-preserved
loop-frame-preserved g c =
    let says : ℕ → List ℕ = λ f. seen_text (frame_name c.args.cluster.now f) in
    same-growth
    (ap (λ l. flat_map spaced_word (map says (take c.loop-frame.frame-index c.args.frames.now)) ++ spaced_word (seen_text l)) c.frame_name.ensures
    ∙ sym (mapped-more spaced_word says c.args.frames.now c.loop-frame.frame-index _ (omega arith)))
    (grows-more c.loop-frame.invariant c.put_spaced.ensures)

pub returns : goal.returns
returns g c =
    let says : ℕ → List ℕ = λ f. seen_text (frame_name c.args.cluster.now f) in
    let all = take_all c.loop-frame.frame-index c.args.frames.now (omega arith) in
    same-growth (ap (λ fs. line_tail (map says fs)) all) (same-growth (ended (map says (take c.loop-frame.frame-index c.args.frames.now))) (grows-more c.loop-frame.invariant c.put_byte.ensures))
