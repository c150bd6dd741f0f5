use Rattle.std.proofs.Common.{◌≡◌, ◌<◌, ◌-◌, ℕ, suc, List, length, refl, ◌∙◌, subst, arith}
use Rattle.std.specs.Prelude.{All, slice_index_or}
use Rattle.std.proofs.Math.ListN.{length-set}
use Rattle.std.specs.Option.{unwrap_or}
use Rattle.lin_frame.specs.declared.layout.Layout.{Layout}
use Rattle.lin_frame.specs.declared.layout.Place.{Place}
use Rattle.lin_core.specs.Signals.{ArePointwise}
use Rattle.lin_parts.specs.Cluster.{frame_of}
use Rattle.lin_core.proofs.slots.ClusterFrames.{FrameIs, frame-is}
use Rattle.lin_core.proofs.slots.Hearing.{from_place, hear-none, hear-more, hear-all, no_place}
use Rattle.lin_core.proofs.signal_frames.hear_frame.Goals as goal

pub loop-left-init : goal.loop-left-init
loop-left-init c = record { count = refl; few = omega arith; values = λ g p. hear-none c.data-data.result c.frame_signals-signals.result.now c.layout-layout.result.now.places g c.args.heard.now.items p }

pub unpack-requires-clause-in_range : goal.unpack-requires-clause-in_range
unpack-requires-clause-in_range c =
    let f : FrameIs c.args.cluster.now c.args.frame = frame-is c.args.cluster.now c.args.frame c.sound.ensures.rules c.requires.frame in
    let same : length c.frame_signals-signals.result.now ≡ length c.layout-layout.result.now.places = rw (c.frame_signals-signals.ensures, c.layout-layout.ensures) f.same in
    let few = c.loop-left.invariant.few in
    omega arith

pub index_mut-requires : goal.index_mut-requires
index_mut-requires c =
    let f : FrameIs c.args.cluster.now c.args.frame = frame-is c.args.cluster.now c.args.frame c.sound.ensures.rules c.requires.frame in
    let few = c.loop-left.invariant.few in
    let count = c.loop-left.invariant.count in
    let all = c.requires.count in
    let known : All (λ s. s < length c.args.cluster.now.signals) c.frame_signals-signals.result.now = rw c.frame_signals-signals.ensures f.known in
    let own = known (c.loop-left.left - 1) 0 (omega arith) in
    omega arith

pub loop-left-preserved : goal.loop-left-preserved
loop-left-preserved c =
    let f : FrameIs c.args.cluster.now c.args.frame = frame-is c.args.cluster.now c.args.frame c.sound.ensures.rules c.requires.frame in
    let signals : List ℕ = c.frame_signals-signals.result.now in
    let places : List Place = c.layout-layout.result.now.places in
    let same : length signals ≡ length places = rw (c.frame_signals-signals.ensures, c.layout-layout.ensures) f.same in
    let v = c.loop-left.invariant in
    let few = v.few in
    let i : ℕ = c.loop-left.left - 1 in
    let next : c.loop-left.left ≡ suc i = omega arith in
    let below : i < length signals = omega arith in
    let inside : i < length places = omega arith in
    record {
      count = length-set c.loop-left.heard.items (slice_index_or signals i 0) c.unpack.result ∙ v.count;
      few = omega arith;
      values = λ g p.
          hear-more c.data-data.result signals places g c.loop-left.heard.items i c.unpack.result below inside (c.unpack.ensures no_place)
          (subst (λ (m : ℕ). ArePointwise (λ s. unwrap_or (from_place c.data-data.result signals places m s) (g s)) c.loop-left.heard.items) next (v.values g p));
    }

pub returns-clause-heard : goal.returns-clause-heard
returns-clause-heard c = λ g p.
    let x = c.args.cluster.now in
    let z : c.loop-left.left ≡ 0 = let t = c.loop-left-test.false in omega arith in
    hear-all x c.args.frame c.data-data.result c.args.answer.now g c.loop-left.heard.items c.loop-left.left z c.data-data.ensures.each
    (subst (λ (ss : List ℕ). ArePointwise (λ s. unwrap_or (from_place c.data-data.result ss (frame_of x c.args.frame).layout.places c.loop-left.left s) (g s)) c.loop-left.heard.items) c.frame_signals-signals.ensures
    (subst (λ (l : Layout). ArePointwise (λ s. unwrap_or (from_place c.data-data.result c.frame_signals-signals.result.now l.places c.loop-left.left s) (g s)) c.loop-left.heard.items) c.layout-layout.ensures
    (c.loop-left.invariant.values g p)))
