-- What is kept of signals stays that of the log, one more entry on.
use Rattle.std.proofs.Common.{◌≡◌, ◌≢◌, ℕ, zero, suc, ◌+◌, ◌<◌, ◌≤◌, Bool, true, false, List, [], ◌∷◌, ◌++◌, map, length, refl, ap, sym, ◌∙◌, subst, arith, inl, inr, get_or-set_other, get_or-set_same}
use Rattle.std.specs.Prelude.{Option, Some, None, IfSome, slice_get, slice_set, slice_index_or, IsTrue, ◌⊎◌, ◌==◌, ◌&&◌, ◌||◌, if◌then◌else◌, not, replicate, is_some, nat_le, nat_lt, All, vec_capacity}
use Rattle.std.proofs.lemmas.Bool.Decides.{nat_tests, eqb_tells}
use Rattle.std.proofs.Math.ListN.{length-set}
use Rattle.std.proofs.lemmas.List.{length-map, length-replicate, length-append}
use Rattle.std.proofs.lemmas.List.Elements.{All-get_or}
use Rattle.std.proofs.lemmas.List.Folds.{list_any-append}
use Rattle.std.specs.Option.{option_map_or}
use Rattle.lin_frame.specs.Bits.{fits_place}
use Rattle.lin_frame.specs.declared.value.Value.{Value}
use Rattle.lin_parts.specs.Cluster.{signal_of, frame_of}
use Rattle.lin_parts.specs.Rules.{place_at, IsCluster}
use Rattle.lin_parts.specs.declared.parts.Parts.{Parts}
use Rattle.lin_parts.specs.declared.parts.Signal.{Signal}
use Rattle.lin_core.specs.History.{open_slot, good, good_bytes, is_in, seen_by}
use Rattle.lin_core.specs.kept.Signals.{EndsSlot, KeepsSignals, KeepsOne, is_cleared_in, is_cleared}
use Rattle.lin_core.specs.kept.Slots.{put_in, slot_in}
use Rattle.lin_core.specs.Replies.{refusal, refusals}
use Rattle.lin_core.specs.Signals.{value, heard_value, is_pending, carried_frame, is_written_since_answer}
use Rattle.lin_core.specs.declared.event.Event.{Event}
use Rattle.lin_core.specs.declared.log.LogEntry.{LogEntry}
use Rattle.lin_core.specs.declared.port.PortId.{PortId}
use Rattle.lin_core.specs.declared.reply.Reply.TheVariants.{Done}
use Rattle.lin_core.specs.declared.signals.Signals.{Signals}
use Rattle.lin_core.specs.declared.slot.OpenSlot.{OpenSlot}
use Rattle.lin_core.specs.declared.slot.Put.{Put}
use Rattle.lin_core.specs.declared.step.Step.TheVariants.{Write, Answer, Finish}
use Rattle.lin_core.proofs.slots.ClusterFrames.{no_signal, no_frame, index-past, all-append}
use Rattle.lin_core.proofs.slots.OpenSlots.{or-false}
use Rattle.lin_core.proofs.steps.Steps.{AllFalse, none-of}

-- an entry that changes no value, no frame's being pending, and isn't an answer
pub signals-same : (c : Parts) (past : List LogEntry) (e : LogEntry) (slot : Option OpenSlot) (signals : Signals) → ((s : ℕ) → value c (e ∷ past) s ≡ value c past s) → ((s : ℕ) → heard_value c (e ∷ past) s ≡ heard_value c past s)
    → ((f : ℕ) → is_pending c (e ∷ past) f ≡ is_pending c past f) → ((f : ℕ) → is_written_since_answer (frame_of c f) (e ∷ past) ≡ is_written_since_answer (frame_of c f) past) → KeepsSignals c past slot signals → KeepsSignals c (e ∷ past) slot signals
signals-same c past e slot signals same-value same-heard same-pending same-written k = record {
  values_count = k.values_count;
  each_value = λ s v at. k.each_value s v at ∙ sym (same-value s);
  heard_count = k.heard_count;
  each_heard = λ s v at. k.each_heard s v at ∙ sym (same-heard s);
  pending_count = k.pending_count;
  each_pending = λ f. k.each_pending f ∙ sym (same-pending f);
  one = λ s p is only. let o = k.one s p is only in record { written = λ f h. o.written f h ∙ sym (same-written f); own = o.own };
  cleared = k.cleared;
  fits = λ s l. rw (same-value s) (k.fits s l);
  room_empty = k.room_empty;
  room_enough = k.room_enough;
}

-- == an open
no-cons : (p : Put) (ps : List Put) → ps ≡ [] → ps ≡ p ∷ [] → ⊥
no-cons p ps e h = let none : length ps ≡ 0 = ap length e in let some : length ps ≡ 1 = ap length h in omega arith

pub open-signals : (c : Parts) (past : List LogEntry) (e : LogEntry) (slot : OpenSlot) (signals : Signals) → slot.puts.items ≡ [] → ((s : ℕ) → value c (e ∷ past) s ≡ value c past s) → ((s : ℕ) → heard_value c (e ∷ past) s ≡ heard_value c past s)
    → ((f : ℕ) → is_pending c (e ∷ past) f ≡ is_pending c past f) → KeepsSignals c past None signals → KeepsSignals c (e ∷ past) (Some slot) signals
open-signals c past e slot signals empty same-value same-heard same-pending k = record {
  values_count = k.values_count;
  each_value = λ s v at. k.each_value s v at ∙ sym (same-value s);
  heard_count = k.heard_count;
  each_heard = λ s v at. k.each_heard s v at ∙ sym (same-heard s);
  pending_count = k.pending_count;
  each_pending = λ f. rw empty (k.each_pending f ∙ sym (same-pending f));
  one = λ s p is only. let same : slot ≡ s = cc in absurd (no-cons p slot.puts.items empty (ap (λ (x : OpenSlot). x.puts.items) same ∙ only));
  cleared = λ s is. let same : slot ≡ s = cc in let none : s.puts.items ≡ [] = sym (ap (λ (x : OpenSlot). x.puts.items) same) ∙ empty in rw none (λ n d l. absurd (omega arith));
  fits = λ s l. rw (same-value s) (k.fits s l);
  room_empty = k.room_empty;
  room_enough = k.room_enough;
}

-- == a write
-- what a write makes of what is kept
pub record Writes (c : Parts) (signals signals' : Signals) (signal : ℕ) (v : Value) : Type 0 where
  pub values : signals'.values.items ≡ slice_set signals.values.items signal v
  pub heard : signals'.heard ≡ signals.heard
  pub room : signals'.room ≡ signals.room
  pub count : length signals'.pending.items ≡ length c.frames
  pub pending : (f : ℕ) → f < length c.frames → slice_index_or signals'.pending.items f false ≡ (if is_in (frame_of c f).signals signal then true else slice_index_or signals.pending.items f false)

-- a list after one item is set
pub set-at : {X : Type 0} (xs : List X) (i j : ℕ) (x y : X) → slice_get (slice_set xs i x) j ≡ Some y → ((i ≡ j) × (y ≡ x)) ⊎ ((i ≢ j) × (slice_get xs j ≡ Some y))
set-at [] i j x y h = cc
set-at (a ∷ xs) zero zero x y h = inl (refl, cc)
set-at (a ∷ xs) zero (suc j) x y h = inr (λ e. omega arith, h)
set-at (a ∷ xs) (suc i) zero x y h = inr (λ e. omega arith, h)
set-at (a ∷ xs) (suc i) (suc j) x y h = elim (set-at xs i j x y h) [ inl p ↦ inl (ap suc p.0, p.1) | inr p ↦ inr (λ e. p.0 (omega arith), p.1) ]

-- a value that isn't refused is one of the signal's
true-not : (b : Bool) → not b ≡ false → IsTrue b
true-not true h = refl
true-not false h = cc

pub write-fits : (c : Parts) (capacity : ℕ) (past : List LogEntry) (by : PortId) (node signal : ℕ) (v : Value) → refusal c capacity past by (Write node signal v) ≡ None
    → (signal < length c.signals) × IsTrue (fits_place (place_at 0 (signal_of c signal)) v)
write-fits c capacity past by node signal v h =
    let all : AllFalse (refusals c capacity past by (Write node signal v)) = none-of (refusals c capacity past by (Write node signal v)) h
    in let there : nat_le (length c.signals) signal ≡ false = all.1.0
    in (grind (arith, nat_tests, there), true-not (fits_place (place_at 0 (signal_of c signal)) v) all.1.1.1.0)

value-written : (c : Parts) (past : List LogEntry) (by : PortId) (node signal s : ℕ) (v : Value) (b : Bool) → (signal == s) ≡ b
    → value c (record { port = by; step = Write node signal v; reply = Done [] } ∷ past) s ≡ (if b then v else value c past s)
value-written c past by node signal s v true e = rw e refl
value-written c past by node signal s v false e = rw e refl

pub same-test : (a b : ℕ) → a ≡ b → (a == b) ≡ true
same-test a b e = grind (arith, nat_tests, e)

pub other-test : (a b : ℕ) → a ≢ b → (a == b) ≡ false
other-test a b e = grind (arith, nat_tests, e)

fits-if : (b : Bool) (c : Parts) (signal s : ℕ) (v w : Value) → (b ≡ true → signal ≡ s) → IsTrue (fits_place (place_at 0 (signal_of c signal)) v) → IsTrue (fits_place (place_at 0 (signal_of c s)) w)
    → IsTrue (fits_place (place_at 0 (signal_of c s)) (if b then v else w))
fits-if true c signal s v w same p q = subst (λ (n : ℕ). IsTrue (fits_place (place_at 0 (signal_of c n)) v)) (same refl) p
fits-if false c signal s v w same p q = q

-- the flag of a frame after a write
flag-written : (c : Parts) (past : List LogEntry) (f signal : ℕ) (slot : Option OpenSlot) (signals signals' : Signals) (v : Value) (b : Bool) → nat_lt f (length c.frames) ≡ b → Writes c signals signals' signal v → KeepsSignals c past slot signals
    → slice_index_or signals'.pending.items f false ≡ (if is_in (frame_of c f).signals signal then true else slice_index_or signals.pending.items f false)
flag-written c past f signal slot signals signals' v true l w k = w.pending f (grind (arith, nat_tests, l))
flag-written c past f signal slot signals signals' v false l w k =
    let far : length c.frames ≤ f = grind (arith, nat_tests, l)
    in let n = w.count
    in let m = k.pending_count
    in let new : slice_index_or signals'.pending.items f false ≡ false = index-past signals'.pending.items f false (omega arith)
    in let old : slice_index_or signals.pending.items f false ≡ false = index-past signals.pending.items f false (omega arith)
    in let none : frame_of c f ≡ no_frame = index-past c.frames f no_frame far
    in new ∙ sym (rw none old)

or-if : (b x y : Bool) → ((if b then true else x) || y) ≡ (if b then true else (x || y))
or-if true x y = refl
or-if false x y = refl

pub write-signals : (c : Parts) (past : List LogEntry) (by : PortId) (node signal : ℕ) (v : Value) (slot : Option OpenSlot) (signals signals' : Signals)
    → (signal < length c.signals) × IsTrue (fits_place (place_at 0 (signal_of c signal)) v) → Writes c signals signals' signal v → KeepsSignals c past slot signals
    → KeepsSignals c (record { port = by; step = Write node signal v; reply = Done [] } ∷ past) slot signals'
write-signals c past by node signal v slot signals signals' fitting w k =
    let flag : (f : ℕ) → slice_index_or signals'.pending.items f false ≡ (if is_in (frame_of c f).signals signal then true else slice_index_or signals.pending.items f false)
    = λ f. flag-written c past f signal slot signals signals' v (nat_lt f (length c.frames)) refl w k
    in let count : length signals'.pending.items ≡ length signals.pending.items = w.count ∙ sym k.pending_count
    in record {
      values_count = ap length w.values ∙ length-set signals.values.items signal v ∙ k.values_count;
      each_value = λ s x at.
          elim (set-at signals.values.items signal s v x (let t : slice_get (slice_set signals.values.items signal v) s ≡ Some x = rw w.values at at in t)) [
            | inl same ↦ same.1 ∙ sym (value-written c past by node signal s v true (same-test signal s same.0))
            | inr differ ↦ k.each_value s x differ.1 ∙ sym (value-written c past by node signal s v false (other-test signal s differ.0))
          ];
      heard_count = rw w.heard k.heard_count;
      each_heard = λ s x at. k.each_heard s x (rw w.heard at at);
      pending_count = w.count;
      each_pending = λ f.
          ap (λ (b : Bool). b || is_cleared_in slot f) (flag f) ∙ or-if (is_in (frame_of c f).signals signal) (slice_index_or signals.pending.items f false) (is_cleared_in slot f)
          ∙ ap (λ (b : Bool). if is_in (frame_of c f).signals signal then true else b) (k.each_pending f);
      one = λ s p is only.
          let o = k.one s p is only
          in record { written = λ f h. flag f ∙ ap (λ (b : Bool). if is_in (frame_of c f).signals signal then true else b) (o.written f h); own = o.own };
      cleared = λ s is. rw count (k.cleared s is);
      fits = λ s l. rw (value-written c past by node signal s v (signal == s) refl) (fits-if (signal == s) c signal s v (value c past s) (λ t. grind (arith, nat_tests, t)) fitting.1 (k.fits s l));
      room_empty = rw w.room k.room_empty;
      room_enough = rw w.room k.room_enough;
    }

-- == an answer
pub cleared-by : (b : Bool) (f g : ℕ) → option_map_or (λ x. x == g) (if b then Some f else None) false ≡ (b && (f == g))
cleared-by true f g = refl
cleared-by false f g = refl

cleared-more : (ps : List Put) (p : Put) (g : ℕ) → is_cleared (ps ++ p ∷ []) g ≡ (is_cleared ps g || option_map_or (λ x. x == g) p.cleared false)
cleared-more ps p g = list_any-append (λ (q : Put). option_map_or (λ x. x == g) q.cleared false) ps (p ∷ []) ∙ ap (λ (b : Bool). is_cleared ps g || b) (or-false (option_map_or (λ x. x == g) p.cleared false))

or-swap : (x y : Bool) → (y || x) ≡ (x || y)
or-swap true true = refl
or-swap true false = refl
or-swap false true = refl
or-swap false false = refl

-- what an answer makes of what is kept: its response carries this frame, or none
pub record Answers (c : Parts) (slot slot' : OpenSlot) (p : Put) (signals signals' : Signals) : Type 0 where
  pub puts : slot'.puts.items ≡ slot.puts.items ++ p ∷ []
  pub values : signals'.values ≡ signals.values
  pub heard : signals'.heard ≡ signals.heard
  pub count : length signals'.pending.items ≡ length signals.pending.items
  pub flags : (g : ℕ) → (slice_index_or signals'.pending.items g false || option_map_or (λ x. x == g) p.cleared false) ≡ slice_index_or signals.pending.items g false
  pub carries : slot.puts.items ≡ [] → (g : ℕ) → carried_frame c (slot_in slot') ≡ Some g → slice_index_or signals'.pending.items g false ≡ false
  pub own : slot.puts.items ≡ [] → (g : ℕ) → option_map_or (λ x. x == g) p.cleared false ≡ true → carried_frame c (slot_in slot') ≡ Some g
  pub there : IfSome p.cleared (λ f. f < length signals.pending.items)
  pub room_empty : signals'.room.items ≡ []
  pub room_enough : (f : ℕ) → f < length c.frames → length (frame_of c f).signals ≤ vec_capacity signals'.room

or-both : (x y a b : Bool) → (x || b) ≡ y → (x || (a || b)) ≡ (y || a)
or-both true y a b e = rw (← e) refl
or-both false y a b e = rw (← e) (or-swap b a)

one-of : (ps : List Put) (p q : Put) → ps ++ p ∷ [] ≡ q ∷ [] → (ps ≡ []) × (p ≡ q)
one-of [] p q e = (refl, cc)
one-of (x ∷ ps) p q e = absurd (let n : length ((x ∷ ps) ++ p ∷ []) ≡ 1 = ap length e in let m : length ((x ∷ ps) ++ p ∷ []) ≡ length (x ∷ ps) + 1 = length-append (x ∷ ps) (p ∷ []) in omega arith)

pub answer-signals : (c : Parts) (past : List LogEntry) (by : PortId) (node : ℕ) (es : List Event) (slot slot' : OpenSlot) (p : Put) (signals signals' : Signals) → Answers c slot slot' p signals signals' → KeepsSignals c past (Some slot) signals
    → KeepsSignals c (record { port = by; step = Answer node; reply = Done es } ∷ past) (Some slot') signals'
answer-signals c past by node es slot slot' p signals signals' a k = record {
  values_count = rw a.values k.values_count;
  each_value = rw a.values k.each_value;
  heard_count = rw a.heard k.heard_count;
  each_heard = rw a.heard k.each_heard;
  pending_count = a.count ∙ k.pending_count;
  each_pending = λ g.
      ap (λ (b : Bool). slice_index_or signals'.pending.items g false || b) (ap (λ (ps : List Put). is_cleared ps g) a.puts ∙ cleared-more slot.puts.items p g)
      ∙ or-both (slice_index_or signals'.pending.items g false) (slice_index_or signals.pending.items g false) (is_cleared slot.puts.items g) (option_map_or (λ x. x == g) p.cleared false) (a.flags g)
      ∙ k.each_pending g;
  one = λ s q is only.
      let same : slot' ≡ s = cc
      in let alone = one-of slot.puts.items p q (sym a.puts ∙ ap (λ (x : OpenSlot). x.puts.items) same ∙ only)
      in subst (λ (x : OpenSlot). KeepsOne c (record { port = by; step = Answer node; reply = Done es } ∷ past) x q signals'.pending.items) same
      (record { written = λ g h. a.carries alone.0 g h; own = λ g h. a.own alone.0 g (rw alone.1 h) });
  cleared = λ s is.
      let same : slot' ≡ s = cc
      in subst (λ (x : OpenSlot). All (λ (y : Put). IfSome y.cleared (λ f. f < length signals'.pending.items)) x.puts.items) same
      (rw (a.puts, a.count) (all-append (λ (y : Put). IfSome y.cleared (λ f. f < length signals.pending.items)) slot.puts.items p (k.cleared slot refl) a.there));
  fits = k.fits;
  room_empty = a.room_empty;
  room_enough = a.room_enough;
}

and-true : (b : Bool) → (false || (b && true)) ≡ b
and-true true = refl
and-true false = refl

and-none : (b : Bool) → (b && false) ≡ false
and-none true = refl
and-none false = refl

-- the flags where the response carries a frame
pub cleared-flags : (flags : List Bool) (f g : ℕ) → f < length flags
    → (slice_index_or (slice_set flags f false) g false || option_map_or (λ x. x == g) (if slice_index_or flags f false then Some f else None) false) ≡ slice_index_or flags g false
cleared-flags flags f g l = elim (eqb_tells f g) [
  | inl same ↦
      rw (cleared-by (slice_index_or flags f false) f g, same.0) (subst (λ (n : ℕ). (slice_index_or (slice_set flags f false) n false || (slice_index_or flags f false && true)) ≡ slice_index_or flags n false) same.1
      (rw (get_or-set_same flags f false false l) (and-true (slice_index_or flags f false))))
  | inr differ ↦
      rw (cleared-by (slice_index_or flags f false) f g, differ.0, get_or-set_other flags f g false false (λ e. differ.1 (sym e)), and-none (slice_index_or flags f false)) (or-false (slice_index_or flags g false))
]

-- == a finish
-- what a finish makes of what is kept
uncleared : (flag cleared p : Bool) → (flag || cleared) ≡ p → cleared ≡ false → flag ≡ p
uncleared flag cleared p same never = sym (or-false flag) ∙ ap (λ (b : Bool). flag || b) (sym never) ∙ same

false-by : (b : Bool) → (b ≡ true → ⊥) → b ≡ false
false-by true never = absurd (never refl)
false-by false never = refl

-- a slot that was seen good has one response
good-of : (h : Option ℕ) (ps : List Put) (hurt : Bool) → is_some (good_bytes (seen_by h (map put_in ps) hurt)) ≡ true → (p : Put) × (ps ≡ p ∷ [])
good-of None ps hurt e = cc
good-of (Some h) [] hurt e = cc
good-of (Some h) (p ∷ []) true e = cc
good-of (Some h) (p ∷ []) false e = (p, refl)
good-of (Some h) (p ∷ q ∷ ps) hurt e = cc

pub good-one : (slot : OpenSlot) → is_some (good (slot_in slot)) ≡ true → (p : Put) × (slot.puts.items ≡ p ∷ [])
good-one slot e = good-of slot.header slot.puts.items slot.hurt e

only-cleared : (ps : List Put) (p : Put) (f : ℕ) → ps ≡ p ∷ [] → is_cleared ps f ≡ true → option_map_or (λ g. g == f) p.cleared false ≡ true
only-cleared ps p f e h = sym (or-false (option_map_or (λ g. g == f) p.cleared false)) ∙ (let t : is_cleared (p ∷ []) f ≡ true = rw e at h in t)

-- the flag of a frame after a slot that was seen good, with one response
good-flag : (k : Option ℕ) (x f : ℕ) (flag cleared written : Bool) (p : Bool) → ((g : ℕ) → k ≡ Some g → g ≡ f → flag ≡ written) → (cleared ≡ true → k ≡ Some f) → (flag || cleared) ≡ p
    → flag ≡ (if option_map_or (λ g. g == f) k false then written else p)
good-flag None x f flag true written p w o e = absurd (let bad : None ≡ Some f = o refl in cc)
good-flag None x f flag false written p w o e = sym (or-false flag) ∙ e
good-flag (Some g) x f flag cleared written p w o e = elim (eqb_tells g f) [
  | inl same ↦ rw same.0 (w g refl same.1)
  | inr differ ↦ rw differ.0 (uncleared flag cleared p e (false-by cleared (λ h. differ.1 (let s : Some g ≡ Some f = o h in cc))))
]

finish-flag : (b : Bool) (flag flag' cleared carries written p : Bool) → flag' ≡ (if b then flag else (flag || cleared)) → (b ≡ true → flag ≡ (if carries then written else p)) → (flag || cleared) ≡ p
    → (flag' || false) ≡ (if b && carries then written else p)
finish-flag true flag flag' cleared carries written p is w e = or-false flag' ∙ is ∙ w refl
finish-flag false flag flag' cleared carries written p is w e = or-false flag' ∙ is ∙ e

pub finish-signals : (c : Parts) (past : List LogEntry) (by : PortId) (es : List Event) (slot : OpenSlot) (signals signals' : Signals) → open_slot past ≡ Some (slot_in slot) → EndsSlot c slot signals signals' → KeepsSignals c past (Some slot) signals
    → KeepsSignals c (record { port = by; step = Finish; reply = Done es } ∷ past) None signals'
finish-signals c past by es slot signals signals' is n k = record {
  values_count = rw n.values k.values_count;
  each_value = rw n.values k.each_value;
  heard_count = n.heard_count ∙ k.heard_count;
  each_heard = rw is (n.heard (heard_value c past) k.each_heard);
  pending_count = n.count ∙ k.pending_count;
  each_pending = λ f.
      rw is (finish-flag (is_some (good (slot_in slot))) (slice_index_or signals.pending.items f false) (slice_index_or signals'.pending.items f false) (is_cleared slot.puts.items f)
      (option_map_or (λ g. g == f) (carried_frame c (slot_in slot)) false) (is_written_since_answer (frame_of c f) past) (is_pending c past f) (n.pending f)
      (λ yes.
      let one = good-one slot yes
      in let o = k.one slot one.0 refl one.1
      in good-flag (carried_frame c (slot_in slot)) 0 f (slice_index_or signals.pending.items f false) (is_cleared slot.puts.items f) (is_written_since_answer (frame_of c f) past) (is_pending c past f)
      (λ g h same. subst (λ (m : ℕ). slice_index_or signals.pending.items m false ≡ is_written_since_answer (frame_of c m) past) same (o.written g h))
      (λ h. o.own f (only-cleared slot.puts.items one.0 f one.1 h)) (k.each_pending f))
      (k.each_pending f));
  one = λ s p none. absurd (cc);
  cleared = λ s none. absurd (cc);
  fits = k.fits;
  room_empty = rw n.room k.room_empty;
  room_enough = rw n.room k.room_enough;
}

-- == the empty log
initial-at : (xs : List Signal) (i : ℕ) (v : Value) (d : Signal) → slice_get (map (λ (s : Signal). s.initial) xs) i ≡ Some v → v ≡ (slice_index_or xs i d).initial
initial-at [] i v d h = cc
initial-at (x ∷ xs) zero v d h = let e : x.initial ≡ v = cc in sym e
initial-at (x ∷ xs) (suc i) v d h = initial-at xs i v d h

pub none-at : (n f : ℕ) → slice_index_or (replicate n false) f false ≡ false
none-at zero f = refl
none-at (suc n) zero = refl
none-at (suc n) (suc f) = none-at n f

pub start-signals : (c : Parts) (signals : Signals) → IsCluster c → signals.values.items ≡ map (λ (s : Signal). s.initial) c.signals → signals.heard.items ≡ map (λ (s : Signal). s.initial) c.signals
    → signals.pending.items ≡ replicate (length c.frames) false → signals.room.items ≡ [] → ((f : ℕ) → f < length c.frames → length (frame_of c f).signals ≤ vec_capacity signals.room) → KeepsSignals c [] None signals
start-signals c signals rules values heards flags empty enough = record {
  values_count = ap length values ∙ length-map c.signals (λ (s : Signal). s.initial);
  each_value = λ s v at. initial-at c.signals s v _ (rw values at at);
  heard_count = ap length heards ∙ length-map c.signals (λ (s : Signal). s.initial);
  each_heard = λ s v at. initial-at c.signals s v _ (rw heards at at);
  pending_count = ap length flags ∙ length-replicate (length c.frames) false;
  each_pending = λ f. or-false (slice_index_or signals.pending.items f false) ∙ ap (λ (bs : List Bool). slice_index_or bs f false) flags ∙ none-at (length c.frames) f;
  one = λ s p none. absurd (cc);
  cleared = λ s none. absurd (cc);
  fits = λ s l. All-get_or (λ (x : Signal). IsTrue (fits_place (place_at 0 x) x.initial)) c.signals s no_signal l rules.signals.initials;
  room_empty = empty;
  room_enough = enough;
}
