-- The responses that are ready, as they are kept.
use Rattle.std.proofs.Common.{◌≡◌, ℕ, Bool, true, false, List, [], ◌∷◌, ap, map, refl}
use Rattle.std.specs.Prelude.{Option, Some, None, ◌==◌, cond, filter, find, not, option_map, replicate, slice_index}
use Rattle.std.specs.Option.{option_map_or}
use Rattle.lin_parts.specs.declared.parts.Parts.{Parts}
use Rattle.lin_core.specs.History.{Slot, good_under, header_is}
use Rattle.lin_core.specs.Slots.{ready_bytes, has_put, responses_after}
use Rattle.lin_core.specs.kept.Ready.{response_in}
use Rattle.lin_core.specs.declared.ready.Response.{Response}

-- the bytes of a node
bytes-by : (b : Bool) (r : Response) (x : Option Response) (y : Option (ℕ × List ℕ)) → option_map_or (λ (p : ℕ × List ℕ). p.1) y (replicate 8 255) ≡ option_map_or (λ (q : Response). q.bytes) x (replicate 8 255)
    → option_map_or (λ (p : ℕ × List ℕ). p.1) (cond b (Some (response_in r)) y) (replicate 8 255) ≡ option_map_or (λ (q : Response). q.bytes) (cond b (Some r) x) (replicate 8 255)
bytes-by true r x y e = refl
bytes-by false r x y e = e

pub bytes-in : (ready : List Response) (n : ℕ) → ready_bytes (map response_in ready) n ≡ option_map_or (λ (q : Response). q.bytes) (find (λ (q : Response). q.node == n) ready) (replicate 8 255)
bytes-in [] n = refl
bytes-in (r ∷ rs) n = bytes-by (r.node == n) r (find (λ (q : Response). q.node == n) rs) (find (λ (p : ℕ × List ℕ). p.0 == n) (map response_in rs)) (bytes-in rs n)

-- those of nodes that put nothing
kept-by : (b : Bool) (r : Response) (xs : List Response) (ys : List (ℕ × List ℕ)) → map response_in xs ≡ ys → map response_in (cond b (r ∷ xs) xs) ≡ cond b (response_in r ∷ ys) ys
kept-by true r xs ys e = ap (λ (zs : List (ℕ × List ℕ)). response_in r ∷ zs) e
kept-by false r xs ys e = e

pub unsent-in : (s : Slot) (ready : List Response) → map response_in (filter (λ (r : Response). not (has_put s r.node)) ready) ≡ filter (λ (p : ℕ × List ℕ). not (has_put s p.0)) (map response_in ready)
unsent-in s [] = refl
unsent-in s (r ∷ rs) = kept-by (not (has_put s r.node)) r (filter (λ (q : Response). not (has_put s q.node)) rs) (filter (λ (p : ℕ × List ℕ). not (has_put s p.0)) (map response_in rs)) (unsent-in s rs)

-- after a slot with no good request
none-of : {X Y : Type 0} (f : X → Y) (o : Option X) → option_map f o ≡ None → o ≡ None
none-of f None e = refl
none-of f (Some x) e = cc

pub after-response : (c : Parts) (s : Slot) (ready : List (ℕ × List ℕ)) → option_map (λ (bytes : List ℕ). slice_index bytes 0) (good_under 0x3C s) ≡ None → header_is 0x7D s.header ≡ true → responses_after c s ready ≡ filter (λ (r : ℕ × List ℕ). not (has_put s r.0)) ready
after-response c s ready none head = let gone : good_under 0x3C s ≡ None = none-of (λ (bytes : List ℕ). slice_index bytes 0) (good_under 0x3C s) none in rw (gone, head) refl

pub after-other : (c : Parts) (s : Slot) (ready : List (ℕ × List ℕ)) → option_map (λ (bytes : List ℕ). slice_index bytes 0) (good_under 0x3C s) ≡ None → header_is 0x7D s.header ≡ false → responses_after c s ready ≡ ready
after-other c s ready none head = let gone : good_under 0x3C s ≡ None = none-of (λ (bytes : List ℕ). slice_index bytes 0) (good_under 0x3C s) none in rw (gone, head) refl
