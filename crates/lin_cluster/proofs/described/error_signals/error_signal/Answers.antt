use Rattle.std.proofs.Common.{◌≡◌, ◌∙◌, ap, length, subst, sym, ◌≤◌}
use Rattle.std.specs.List.{enumerate_from}
use Rattle.std.proofs.lemmas.List.{length-map}
use Rattle.std.proofs.lemmas.List.FromFn.{length-enumerate_from}
use Rattle.lin_cluster.specs.Described.{described_frame}
use Rattle.lin_cluster.proofs.described.error_signals.error_signal.Goals as goal

pub frames_concerning-requires : goal.frames_concerning-requires
frames_concerning-requires c =
    let d = c.args.d.now in
    let count : length c.args.frames.now ≡ length d.frames =
    ap length c.requires.frames ∙ length-map (enumerate_from 0 d.frames) (described_frame d) ∙ length-enumerate_from 0 d.frames in
    subst (λ n. n ≤ 60) (sym count) c.requires.few.frames
