use Rattle.std.proofs.Common.{◌≡◌, ◌+◌, ◌<◌, ◌≤◌, ◌^◌, ℕ, List, [], ◌∷◌, ◌++◌, length, get_or, map, take, ap, arith, sym, subst, ◌∙◌}
use Rattle.std.proofs.lemmas.List.{length-take-le, take_all, take_more}
use Rattle.lin_sections.specs.Numbering.{count_of, repeats, AreTextCounts}
use Rattle.lin_sections.proofs.FactSteps.{mapped-at}
use Rattle.lin_sections.proofs.Found.{mapped-length}
use Rattle.lin_sections.proofs.TextNumbers.{repeats-more}
use Rattle.lin_sections.proofs.diff.numbering.repeats.Goals as goal

pub loop-one-preserved : goal.loop-one-preserved
loop-one-preserved g c =
    let texts : List (List ℕ) = map g.T.Repeatable.text_of c.args.all.now in
    let i : ℕ = c.loop-one.one-index in
    let lt : i < length c.args.all.now = omega arith in
    let within : i < length texts = omega (arith, mapped-length g.T.Repeatable.text_of c.args.all.now) in
    let d : List ℕ = g.T.Repeatable.text_of (get_or c.args.all.now i c.one-item.result) in
    let is : c.text.result.now ≡ get_or texts i d =
    c.text.ensures ∙ ap g.T.Repeatable.text_of c.one-item.is ∙ mapped-at g.T.Repeatable.text_of c.args.all.now i c.one-item.result lt in
    record {
      repeats =
          c.in_ok-push.ensures.items
          ∙ ap (λ ns. ns ++ c.in_ok-count.field-0 ∷ []) c.loop-one.invariant.repeats
          ∙ ap (λ n. repeats (take i texts) ++ n ∷ []) (c.in_ok-count.ensures.count (take i texts) c.loop-one.invariant.counts ∙ ap (count_of (take i texts)) is)
          ∙ sym (repeats-more texts i d within);
      counts =
          let le : i ≤ length texts = omega arith in
          let few : length (take i texts) + 1 < 2 ^ 64 = omega (arith, length-take-le i texts le) in
          subst (λ (ts : List (List ℕ)). AreTextCounts ts c.count.new.self.map)
          (ap (λ t. take i texts ++ t ∷ []) is ∙ sym (take_more texts i d within))
          (c.in_ok-count.ensures.more (take i texts) few c.loop-one.invariant.counts);
    }

pub returns : goal.returns
returns g c =
    let size : length (map g.T.Repeatable.text_of c.args.all.now) ≤ c.loop-one.one-index =
    omega (arith, mapped-length g.T.Repeatable.text_of c.args.all.now) in
    c.loop-one.invariant.repeats
    ∙ ap repeats (take_all c.loop-one.one-index (map g.T.Repeatable.text_of c.args.all.now) size)
