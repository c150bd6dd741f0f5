use Rattle.std.proofs.Common.{◌==◌, ◌≡◌, ◌∙◌, ◌<◌, ℕ, List, All, ap, arith, length, slice_index_or, subst, sym}
use Rattle.std.specs.List.{list_any}
use Rattle.std.proofs.lemmas.List.FromFn.{get_or-map-range_with_len, length-map-range_with_len}
use Rattle.lin_parts.specs.Cluster.{frames_with, has_signal}
use Rattle.lin_parts.specs.declared.parts.Parts.{Parts}
use Rattle.lin_parts.proofs.Carrying.{is-found, kept_below}
use Rattle.lin_parts.proofs.cluster.Cluster.frames_with.Goals as goal

pub bounds-as_slice-signal : goal.bounds-as_slice-signal
bounds-as_slice-signal c =
    let parts = c.self.inside.parts in
    let count : length c.as_slice.result.now ≡ length c.args.self.now.signals =
    ap length (c.as_slice.ensures.value ∙ c.self.invariant.1)
    ∙ length-map-range_with_len (frames_with parts) 0 (length parts.signals)
    ∙ ap (λ (p : Parts). length p.signals) c.self.view_is
    in omega arith

pub returns-clause-frames : goal.returns-clause-frames
returns-clause-frames c =
    let parts = c.self.inside.parts in
    let found = c.index-as_slice-signal.result in
    let inside : c.args.signal < length parts.signals = rw c.self.view_is c.requires in
    c.as_slice-2.ensures
    ∙ c.index-as_slice-signal.is
    ∙ ap (λ (xs : List (List ℕ)). slice_index_or xs c.args.signal found) (c.as_slice.ensures.value ∙ c.self.invariant.1)
    ∙ get_or-map-range_with_len (frames_with parts) 0 (length parts.signals) c.args.signal c.args.signal found inside (omega arith)
    ∙ ap (λ (p : Parts). frames_with p c.args.signal) c.self.view_is

pub returns-clause-there : goal.returns-clause-there
returns-clause-there c =
    let parts = c.args.self.now in
    let frames = length parts.frames in
    subst (λ (xs : List ℕ). All (λ f. f < frames) xs) (sym (returns-clause-frames c))
    (kept_below (has_signal parts c.args.signal) frames)

pub returns-clause-each : goal.returns-clause-each
returns-clause-each c f inside =
    let parts = c.args.self.now in
    ap (λ (xs : List ℕ). list_any (λ g. g == f) xs) (returns-clause-frames c) ∙ is-found parts c.args.signal f inside
