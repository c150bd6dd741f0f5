-- Where no version of LIN 1.x is told, no node is of LIN 1.x, and no frame has the classic
-- checksum.
use Rattle.std.proofs.Common.{◌≡◌, Bool, true, false, List, [], ◌∷◌, map, refl, ap, ◌∙◌}
use Rattle.std.specs.Prelude.{◌||◌, ◌&&◌, Option, Some, None, cond, find}
use Rattle.std.specs.List.{list_any}
use Rattle.std.proofs.lemmas.Bool.{or_parts}
use Rattle.std.specs.Option.{option_map_or}
use Rattle.lin_cluster.specs.FindingsNames.{is_node, same_name, signal_named}
use Rattle.lin_cluster.specs.Known.{frame_facts}
use Rattle.lin_cluster.specs.Models.{carries_to_lin_1, frame_model, has_lin_1, has_version_1, is_classic, is_lin_1, tells_version_1}
use Rattle.lin_cluster.specs.declared.findings.facts.FrameFacts.{FrameFacts}
use Rattle.lin_parts.specs.declared.description.Description.{Description}
use Rattle.lin_parts.specs.declared.description.Frame.{Frame}
use Rattle.lin_parts.specs.declared.description.Name.{Name}
use Rattle.lin_parts.specs.declared.description.PlacedSignal.{PlacedSignal}
use Rattle.lin_parts.specs.declared.description.Signal.{Signal}

found-fails : {X : Type 0} (p t : X → Bool) (xs : List X) → list_any t xs ≡ false → option_map_or t (find p xs) false ≡ false
found-fails p t [] e = refl
found-fails p t (x ∷ xs) e =
    elim (p x) as (λ b. option_map_or t (cond b (Some x) (find p xs)) false ≡ false) [
      | true ↦ (or_parts (t x) (list_any t xs) e).0
      | false ↦ found-fails p t xs (or_parts (t x) (list_any t xs) e).1
    ]

none-passes : {X : Type 0} (p : X → Bool) (xs : List X) → ((x : X) → p x ≡ false) → list_any p xs ≡ false
none-passes p [] fails = refl
none-passes p (x ∷ xs) fails = ap (λ b. b || list_any p xs) (fails x) ∙ none-passes p xs fails

none-known : {X : Type 0} (o : Option X) (t : X → Bool) → ((x : X) → t x ≡ false) → option_map_or t o false ≡ false
none-known None t fails = refl
none-known (Some x) t fails = fails x

untold_node : (d : Description) → has_version_1 d ≡ false → (n : Name) → is_lin_1 d n ≡ false
untold_node d told n = ap (λ b. b && is_node d n) (found-fails (λ a. same_name a.node n) tells_version_1 d.attributes told)

pub untold_signal : (d : Description) (s : Signal) → has_version_1 d ≡ false → has_lin_1 d s ≡ false
untold_signal d s told = none-passes (is_lin_1 d) s.subscribers (untold_node d told)

untold_placed : (d : Description) → has_version_1 d ≡ false → (p : PlacedSignal) → carries_to_lin_1 d p ≡ false
untold_placed d told p = none-known (signal_named d p.signal) (has_lin_1 d) (λ s. untold_signal d s told)

pub untold_frame : (d : Description) (f : Frame) → has_version_1 d ≡ false → is_classic d f ≡ false
untold_frame d f told =
    ap (λ b. b || list_any (carries_to_lin_1 d) f.placed) (untold_node d told f.publisher) ∙ none-passes (carries_to_lin_1 d) f.placed (untold_placed d told)

-- the models of frames, from what is worked out of each
pub models-made : (d : Description) (fs : List Frame) → map (λ (f : FrameFacts). f.model) (map (frame_facts d) fs) ≡ map (frame_model d) fs
models-made d [] = refl
models-made d (f ∷ fs) = ap (λ ms. frame_model d f ∷ ms) (models-made d fs)
