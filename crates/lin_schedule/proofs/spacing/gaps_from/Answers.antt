use Rattle.std.proofs.Common.{◌≡◌, ℕ, suc, ◌+◌, Option, ap, sym, ◌∙◌, arith, add-one}
use Rattle.lin_parts.specs.Cluster.{line_of}
use Rattle.lin_parts.specs.declared.parts.Line.{Line}
use Rattle.lin_parts.specs.declared.parts.Parts.{Parts}
use Rattle.lin_schedule.specs.Rounds.{back_from}
use Rattle.lin_schedule.specs.Spacing.{least_of, most_of, gaps_of, line_before, least_before, most_before, gaps_after}
use Rattle.lin_schedule.specs.declared.spacing.Extremes.{Extremes}
use Rattle.lin_schedule.proofs.spacing.gaps_from.Goals as goal

pub loop-back-preserved : goal.loop-back-preserved
loop-back-preserved c =
    let parts : Parts = c.args.cluster.now in
    let t : ℕ = c.args.table in
    let f : ℕ = c.args.frame in
    let own : ℕ = c.args.own in
    let back : ℕ = c.loop-back.back in
    let line : Line = c.line_at.result in
    let short : ℕ = c.loop-back.walked.next.shortest in
    let long : ℕ = c.loop-back.walked.next.longest in
    let gaps : Option Extremes = c.loop-back.walked.gaps in
    let there = c.line_at.ensures.there in
    let line_is : line ≡ line_before parts t own (suc back) =
    c.line_at.ensures.line
    ∙ ap (line_of parts t) (c.slot_before-slot.ensures.value ∙ ap (λ (n : ℕ). back_from n own (back + 1)) c.entries-slots.ensures.number)
    ∙ ap (line_before parts t own) (add-one back) in
    let short_in = c.loop-back.invariant.shortest in
    let long_in = c.loop-back.invariant.longest in
    let short_more = c.add_main.ensures.shortest in
    let long_more = c.add_main.ensures.longest in
    record {
      shortest = omega (arith, short_in, short_more);
      longest = omega (arith, long_in, long_more);
      known = λ each.
          let former = c.loop-back.invariant.known each in
          let least : ℕ = least_before parts t f own back in
          let most : ℕ = most_before parts t f own back in (
            c.add_main.ensures.least parts (each, there)
                ∙ ap (least_of parts f line) former.0
                ∙ ap (λ (l : Line). least_of parts f l least) line_is
                ∙ ap (least_before parts t f own) (sym (add-one back)),
            c.add_main.ensures.most parts (each, there)
                ∙ ap (most_of parts f line) former.1
                ∙ ap (λ (l : Line). most_of parts f l most) line_is
                ∙ ap (most_before parts t f own) (sym (add-one back)),
            c.add_main.ensures.gaps parts (each, there)
                ∙ ap (λ (x : ℕ). gaps_of parts f line x long gaps) former.0
                ∙ ap (λ (x : ℕ). gaps_of parts f line least x gaps) former.1
                ∙ ap (gaps_of parts f line least most) former.2
                ∙ ap (λ (l : Line). gaps_of parts f l least most (gaps_after parts t f own back)) line_is
                ∙ ap (gaps_after parts t f own) (sym (add-one back)),
          );
    }
