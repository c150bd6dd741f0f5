use Rattle.std.proofs.Common.{◌∷◌, [], List, ℕ, codes}
use Rattle.std.specs.Fmt.{decimal}
use Rattle.lin_parts.specs.Cluster.{sporadic_name, sporadic_of}
use Rattle.lin_log.specs.CallerTexts.{seen_text}
use Rattle.lin_text.proofs.Growing.{grows-more, same-growth}
use Rattle.lin_export.specs.ListedFrames.{member_words}
use Rattle.lin_export.proofs.ListedLines.{head-and-members}
use Rattle.lin_export.proofs.cluster_lists.frame_lines.put_sporadic.Goals as goal

pub returns : goal.returns
returns g c =
    let x = c.args.cluster.now in
    let head : List (List ℕ) = decimal c.args.sporadic ∷ seen_text (sporadic_name x c.args.sporadic) ∷ [] in
    same-growth (head-and-members (codes "sporadic") head (member_words x (sporadic_of x c.args.sporadic)))
    (grows-more (rw (c.from.ensures, c.sporadic_name.ensures) at c.put_head.ensures) (rw c.sporadic.ensures at c.put_members.ensures))
