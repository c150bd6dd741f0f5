use Rattle.std.proofs.Common.{◌≡◌, ◌∙◌, ◌++◌, ◌+◌, ◌-◌, ◌≤◌, ℕ, List, OnOk, Result, Ok, Err, ap, arith, length, min, sym, take, if◌then◌else◌}
use Rattle.std.specs.Result.{is_ok}
use Rattle.std.proofs.Math.Seq.{take-append-add}
use Rattle.std.proofs.lemmas.List.{take_min}
use Rattle.lin_bench.proofs.parameters.add_text.Goals as goal

-- as much of a text as there is room for
kept-text : (n k : ℕ) (xs ys : List ℕ) → length xs ≤ n → k ≡ min (n - length xs) (length ys) → xs ++ take k ys ≡ take n (xs ++ ys)
kept-text n k xs ys le same =
    let sum : length xs + (n - length xs) ≡ n = omega (arith, le) in
    ap (λ t. xs ++ t) (ap (λ j. take j ys) same ∙ take_min (n - length xs) ys)
    ∙ sym (take-append-add xs ys (n - length xs))
    ∙ ap (λ j. take j (xs ++ ys)) sum

on-ok : {E : Type 0} (r : Result Unit E) (new old kept wanted : List ℕ) → new ≡ (if is_ok r then kept else old) → kept ≡ wanted → OnOk r (new ≡ wanted)
on-ok (Ok done) new old kept wanted e h = e ∙ h
on-ok (Err why) new old kept wanted e h = tt

pub returns : goal.returns
returns c =
    let most : c.min.result ≡ min (65537 - length c.args.line.now.items) (length c.args.text.now) = omega (arith, c.min.ensures, c.len.ensures) in
    on-ok c.extend_from_slice.result c.extend_from_slice.new.self.items c.args.line.now.items (c.args.line.now.items ++ take c.min.result c.args.text.now)
    (take 65537 (c.args.line.now.items ++ c.args.text.now)) c.extend_from_slice.ensures.items
    (kept-text 65537 c.min.result c.args.line.now.items c.args.text.now c.requires most)
