use Rattle.std.proofs.Common.{◌≡◌, ◌∙◌, ◌+◌, ◌-◌, ℕ, zero, suc, List, [], ◌∷◌, ap, arith, get_or, length, refl}
use Rattle.lin_bench.specs.declared.place.LinePlace.{LinePlace}
use Rattle.lin_bench.specs.declared.reason.Reason.{Reason}
use Rattle.lin_tool.specs.Playing.{last_reason}
use Rattle.lin_tool.proofs.play_command.last_reason.Goals as goal

last-at : (why : Reason) (bs : List (LinePlace × Reason)) (i : ℕ) (d : LinePlace × Reason) → i + 1 ≡ length bs → (get_or bs i d).1 ≡ last_reason why bs
last-at why [] i d h = absurd (omega arith)
last-at why (b ∷ []) zero d h = refl
last-at why (b ∷ []) (suc i) d h = absurd (omega arith)
last-at why (b ∷ x ∷ bs) zero d h = absurd (omega arith)
last-at why (b ∷ x ∷ bs) (suc i) d h = last-at b.1 (x ∷ bs) i d (omega arith)

pub returns-in-len1-up : goal.returns-in-len1-up
returns-in-len1-up c =
    let bs = c.args.bad.now in
    ap (λ (b : LinePlace × Reason). b.1) c.last-item.is ∙ last-at c.args.first.now bs (length bs - 1) c.last-item.result (omega arith)
