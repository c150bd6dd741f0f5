use Rattle.std.proofs.Common.{◌≡◌, ◌≤◌, ◌<◌, ◌∙◌, ℕ, List, [], length, get_or, map, add-one, ap, arith, sym}
use Rattle.std.proofs.Math.ListN.{length-set}
use Rattle.lin_sections.specs.Numbering.{all_numbered, repeats, number_if_repeated}
use Rattle.lin_sections.proofs.Found.{mapped-length}
use Rattle.lin_sections.proofs.TextNumbers.{all-between, few-before, none-numbered, one-numbered, repeats-length, zipped-length}
use Rattle.lin_sections.proofs.diff.numbering.numbered.Goals as goal

pub returns-then-len-lt2 : goal.returns-then-len-lt2
returns-then-len-lt2 g c = sym (none-numbered g.T.Repeatable.text_of g.T.Repeatable.with_text c.args.all.items (omega arith))

pub number-requires : goal.number-requires
number-requires g c =
    let texts : List (List ℕ) = map g.T.Repeatable.text_of c.args.all.items in
    let same : c.in_ok-counts.counts.items ≡ repeats texts = c.in_ok-counts.ensures ∙ ap repeats (ap (map g.T.Repeatable.text_of) c.as_slice.ensures.value) in
    let size : length texts ≡ length c.args.all.items = mapped-length g.T.Repeatable.text_of c.args.all.items in
    let numbers : length c.in_ok-counts.counts.items ≡ length c.args.all.items = ap length same ∙ repeats-length [] texts ∙ size in
    let is : c.index.result.now ≡ get_or (repeats texts) c.loop-place.place c.index.result.now =
    c.index.ensures ∙ ap (λ ns. get_or ns c.loop-place.place c.index.result.now) same in
    let within : c.loop-place.place < length texts = omega arith in
    let few : c.index.result.now ≤ c.loop-place.place = few-before texts c.loop-place.place c.index.result.now within is in
    omega arith

pub loop-place-preserved : goal.loop-place-preserved
loop-place-preserved g c =
    let texts : List (List ℕ) = map g.T.Repeatable.text_of c.args.all.items in
    let same : c.in_ok-counts.counts.items ≡ repeats texts = c.in_ok-counts.ensures ∙ ap repeats (ap (map g.T.Repeatable.text_of) c.as_slice.ensures.value) in
    let many : length (repeats texts) ≡ length c.args.all.items = repeats-length [] texts ∙ mapped-length g.T.Repeatable.text_of c.args.all.items in
    let numbers : length c.in_ok-counts.counts.items ≡ length c.args.all.items = ap length same ∙ many in
    let within : c.loop-place.place < length c.args.all.items = omega arith in
    let is : c.index.result.now ≡ get_or (repeats texts) c.loop-place.place c.index.result.now =
    c.index.ensures ∙ ap (λ ns. get_or ns c.loop-place.place c.index.result.now) same in
    record {
      items =
          rw add-one (one-numbered (number_if_repeated g.T.Repeatable.text_of g.T.Repeatable.with_text) (repeats texts) c.args.all.items c.loop-place.all.items c.loop-place.place c.index.result.now
          c.index_mut.result.now c.number.new.one within many c.loop-place.invariant.items c.index_mut.ensures.value is c.in_ok-number.ensures);
      size = length-set c.loop-place.all.items c.loop-place.place c.number.new.one ∙ c.loop-place.invariant.size;
    }

pub returns : goal.returns
returns g c =
    let texts : List (List ℕ) = map g.T.Repeatable.text_of c.args.all.items in
    let same : c.in_ok-counts.counts.items ≡ repeats texts = c.in_ok-counts.ensures ∙ ap repeats (ap (map g.T.Repeatable.text_of) c.as_slice.ensures.value) in
    let many : length (repeats texts) ≡ length c.args.all.items = repeats-length [] texts ∙ mapped-length g.T.Repeatable.text_of c.args.all.items in
    let numbers : length c.in_ok-counts.counts.items ≡ length c.args.all.items = ap length same ∙ many in
    c.loop-place.invariant.items
    ∙ all-between (all_numbered g.T.Repeatable.text_of g.T.Repeatable.with_text c.args.all.items) c.args.all.items c.loop-place.place
    (zipped-length (number_if_repeated g.T.Repeatable.text_of g.T.Repeatable.with_text) (repeats texts) c.args.all.items many) (omega arith)
