use Rattle.std.proofs.Common.{◌≡◌, ◌<◌, ◌+◌, ℕ, List, [], ◌∷◌, ◌++◌, length, map, take, refl, ap, sym, ◌∙◌, arith, length-append}
use Rattle.std.specs.Prelude.{slice_get, Some, slice_index}
use Rattle.std.proofs.lemmas.List.{take_more, map-append}
use Rattle.std.proofs.lemmas.Option.{slice_get_read}
use Rattle.lin_frame.specs.declared.value.Value.{Value}
use Rattle.lin_core.proofs.signal_frames.gather.Goals as goal

one-more : (g : ℕ → Value) (room : List Value) (x : Value) (signals : List ℕ) (i : ℕ) → i < length signals → room ≡ map g (take i signals) → x ≡ g (slice_index signals i) → room ++ x ∷ [] ≡ map g (take (i + 1) signals)
one-more g room x signals i l r e =
    ap (λ (vs : List Value). vs ++ x ∷ []) r ∙ ap (λ (v : Value). map g (take i signals) ++ v ∷ []) e ∙ sym (ap (map g) (take_more signals i 0 l) ∙ map-append g (take i signals) (slice_index signals i ∷ []))

pub loop-signal-preserved : goal.loop-signal-preserved
loop-signal-preserved c =
    let i = c.loop-signal.signal-index in
    let v = c.loop-signal.invariant in
    let s = slice_index c.args.signals.now i in
    let known : s < length c.args.values.now = c.requires.known i 0 (omega arith) in
    let pushed : c.push.new.self.items ≡ c.loop-signal.room.items ++ c.index-values-signal.result ∷ [] = rw c.unwrap.ensures at c.push.ensures.items in
    let at : slice_get c.args.values.now s ≡ Some c.index-values-signal.result
    = slice_get_read c.args.values.now (length c.args.values.now) s c.index-values-signal.result refl known c.index-values-signal.is in
    let count = v.count in
    record {
      values = λ g p. pushed ∙ one-more g c.loop-signal.room.items c.index-values-signal.result c.args.signals.now i (omega arith) (v.values g p) (p s c.index-values-signal.result at);
      count = rw (pushed, length-append) (omega arith);
      enough = let e = v.enough in let grown = c.push.ensures.capacity in omega arith;
      grown = let e = v.grown in let grown = c.push.ensures.capacity in omega arith;
    }
