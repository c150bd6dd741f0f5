use Rattle.std.proofs.Common.{◌≡◌, ℕ, List, take, ap, ◌∙◌}
use Rattle.std.specs.Prelude.{slice_index}
use Rattle.lin_frame.proofs.ZerosAfter.{first-read}
use Rattle.lin_frame.proofs.response.Answer.data.Goals as goal

pub returns-clause-each : goal.returns-clause-each
returns-clause-each c = λ k.
    ap (λ xs. slice_index xs k) c.copy_from_slice.ensures.after
    ∙ first-read 9 c.self.inside.len 8 k c.self.inside.bytes c.self.invariant
    ∙ ap (λ xs. slice_index (take 8 xs) k) c.self.view_is
