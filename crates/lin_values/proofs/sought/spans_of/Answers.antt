use Rattle.std.proofs.Common.{arith, take_all, ◌≡◌, ◌+◌, ◌++◌, ◌∷◌, [], ℕ, Bool, ap, sym, ◌∙◌, not, ◌&&◌, option_map, subst}
use Rattle.std.specs.Prelude.{All, AllPairs}
use Rattle.std.specs.List.{list_any}
use Rattle.lin_values.specs.Layers.{in_span, IsBefore, IsSomeSpan}
use Rattle.lin_values.specs.Raws.{sought_part, sought_raw}
use Rattle.lin_values.specs.declared.layers.RangePart.{RangePart}
use Rattle.lin_values.proofs.SoughtParts.{all-sought, more-ahead, more-apart, more-found, more-some, same-ahead, same-found, AreAhead}
use Rattle.lin_values.proofs.sought.spans_of.Goals as goal
use Rattle.lin_values.proofs.sought.spans_of.Goals.{in-Some+in_ok-push, in_default}

pub loop-part-preserved : goal.loop-part-preserved
loop-part-preserved c =
    let ps = c.parts-part-items.result.now in
    let i = c.loop-part.part-index in
    let xs = c.loop-part.spans.items in
    let q : ℕ → RangePart → Bool = λ n p. sought_part c.args.encoding.now.items c.args.signal.bits (option_map (λ t. t.now) c.args.sought.now.text) c.args.sought.now.decimals c.args.sought.now.unit.now p n in
    elim c.match-part_span.branch [
      | in-Some+in_ok-push w ↦
          let is : c.match-part_span.spans.items ≡ xs ++ w.in-Some.span ∷ [] = ap (λ v. v.items) w.spans-is ∙ w.in_ok-push.ensures.items in
          record {
            found = λ n h. ap (list_any (λ s. in_span s n)) is ∙ more-found (q n) ps i n _ xs w.in-Some.span c.loop-part-test.true (c.loop-part.invariant.found n h) (w.in-Some.ensures.found n h);
            some = subst (All IsSomeSpan) (sym is) (more-some xs w.in-Some.span c.loop-part.invariant.some w.in-Some.ensures.some);
            apart = subst (AllPairs IsBefore) (sym is) (more-apart ps i _ xs w.in-Some.span c.loop-part-test.true c.loop-part.invariant.apart c.loop-part.invariant.ahead w.in-Some.ensures.within.0);
            ahead = subst (AreAhead ps (i + 1)) (sym is) (more-ahead ps i _ xs w.in-Some.span c.loop-part-test.true c.parts-part-items.ensures.ordered c.loop-part.invariant.ahead w.in-Some.ensures.within.1);
          }
      | in_default w ↦
          let is : c.match-part_span.spans.items ≡ xs = ap (λ v. v.items) w.spans-is in
          record {
            found = λ n h. ap (list_any (λ s. in_span s n)) is ∙ same-found (q n) ps i n _ xs c.loop-part-test.true (c.loop-part.invariant.found n h) (w.in_default.ensures.found n h);
            some = subst (All IsSomeSpan) (sym is) c.loop-part.invariant.some;
            apart = subst (AllPairs IsBefore) (sym is) c.loop-part.invariant.apart;
            ahead = subst (AreAhead ps (i + 1)) (sym is) (same-ahead ps i xs c.loop-part.invariant.ahead);
          }
    ]

pub returns-clause-found : goal.returns-clause-found
returns-clause-found c = λ n h.
    let ps = c.parts-part-items.result.now in
    let q : RangePart → Bool = λ p. sought_part c.args.encoding.now.items c.args.signal.bits (option_map (λ t. t.now) c.args.sought.now.text) c.args.sought.now.decimals c.args.sought.now.unit.now p n in
    c.loop-part.invariant.found n h
    ∙ ap (list_any q) (take_all c.loop-part.part-index ps c.loop-part-test.false)
    ∙ all-sought c.args.encoding.now.items c.args.signal.bits (option_map (λ t. t.now) c.args.sought.now.text) c.args.sought.now.decimals c.args.sought.now.unit.now ps n c.parts-part-items.ensures.ordered (c.parts-part-items.ensures.found n (omega (arith, h)))
    ∙ ap (λ b. not b && sought_raw c.args.encoding.now.items c.args.signal.bits (option_map (λ t. t.now) c.args.sought.now.text) c.args.sought.now.decimals c.args.sought.now.unit.now n) (sym c.if-signal.false)
