-- The protected identifiers of all frames, by those of the two kinds.
use Rattle.std.proofs.Common.{◌≢◌, ◌↔◌, ℕ, List, map, get_or}
use Rattle.std.specs.Prelude.{All, AllPairs}
use Rattle.std.proofs.lemmas.List.Elements.{All-append, All-map}
use Rattle.lin_parts.specs.Rules.{pids, CarriesSignals}
use Rattle.lin_parts.specs.declared.parts.EventFrame.{EventFrame}
use Rattle.lin_parts.specs.declared.parts.Parts.{Parts}
use Rattle.lin_parts.specs.declared.parts.SignalFrame.{SignalFrame}
use Rattle.lin_parts.proofs.Pairs.{all-front, all-back, all-of-map, pairs-append, pairs-front, pairs-back, pairs-cross, pairs-map, pairs-of-map}

abbrev frame_pid : SignalFrame → ℕ
frame_pid f = f.pid

abbrev event_pid : EventFrame → ℕ
event_pid e = e.pid

pub all-carry : (c : Parts) → (All (λ f. CarriesSignals f.pid) c.frames × All (λ e. CarriesSignals e.pid) c.events) ↔ All CarriesSignals (pids c)
all-carry c =
    let fs : List ℕ = map frame_pid c.frames
    in let es : List ℕ = map event_pid c.events
    in (
      λ both. All-append CarriesSignals fs es (All-map CarriesSignals frame_pid c.frames both.0) (All-map CarriesSignals event_pid c.events both.1),
      λ all. (all-of-map CarriesSignals frame_pid c.frames (all-front CarriesSignals fs es all), all-of-map CarriesSignals event_pid c.events (all-back CarriesSignals fs es all)),
    )

abbrev Apart : ℕ → ℕ → Type 0
Apart p q = p ≢ q

pub all-own : (c : Parts) → (AllPairs (λ f g. f.pid ≢ g.pid) c.frames × AllPairs (λ d e. d.pid ≢ e.pid) c.events × All (λ f. All (λ e. f.pid ≢ e.pid) c.events) c.frames) ↔ AllPairs ◌≢◌ (pids c)
all-own c =
    let fs : List ℕ = map frame_pid c.frames
    in let es : List ℕ = map event_pid c.events
    in (
      λ each. pairs-append Apart fs es (pairs-map Apart frame_pid c.frames each.0) (pairs-map Apart event_pid c.events each.1)
          (All-map (λ p. All (Apart p) es) frame_pid c.frames (λ k d lt. All-map (Apart (frame_pid (get_or c.frames k d))) event_pid c.events (each.2 k d lt))),
      λ all. (
        pairs-of-map Apart frame_pid c.frames (pairs-front Apart fs es all),
        pairs-of-map Apart event_pid c.events (pairs-back Apart fs es all),
        λ k d lt. all-of-map (Apart (frame_pid (get_or c.frames k d))) event_pid c.events (all-of-map (λ p. All (Apart p) es) frame_pid c.frames (pairs-cross Apart fs es all) k d lt),
      ),
    )
