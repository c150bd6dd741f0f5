-- Changes after their times, one group more at a time.
use Rattle.std.proofs.Common.{◌≡◌, ℕ, suc, ◌+◌, ◌/◌, ◌%◌, ◌^◌, List, [], ◌∷◌, ◌++◌, Option, refl, sym, ap, ◌∙◌, append_assoc, append-nil, flat_map, length, subst}
use Rattle.std.specs.Prelude.{Some, nat_lt, true}
use Rattle.std.specs.Option.{option_map_or}
use Rattle.lin_parts.specs.Cluster.{line_of}
use Rattle.lin_parts.specs.declared.parts.Parts.{Parts}
use Rattle.lin_core.specs.History.{Slot, done_step, good, open_slot, reply_events, time}
use Rattle.lin_core.specs.Signals.{carried_frame}
use Rattle.lin_core.specs.declared.event.Event.{Event}
use Rattle.lin_core.specs.declared.log.LogEntry.{LogEntry}
use Rattle.lin_core.specs.declared.reply.Reply.{Reply}
use Rattle.lin_core.specs.declared.reply.Reply.TheVariants.{Done}
use Rattle.lin_core.specs.declared.step.Step.{Step}
use Rattle.lin_core.specs.declared.step.Step.TheVariants.{Finish, Wake, Write}
use Rattle.lin_frame.specs.declared.value.Value.{Value}
use Rattle.lin_text.specs.Written.{Grows}
use Rattle.lin_text.specs.declared.buffered.TextWriter.{TextWriter}
use Rattle.lin_text.proofs.Growing.{grows-more, grows-nothing, same-growth}
use Rattle.lin_export.specs.PutsGroups.{PutsGroups}
use Rattle.lin_export.specs.Track.{shown_slot, finished_slot_count}
use Rattle.lin_export.specs.Vcd.{Group, binary, counted_all, event_group, groups, heard_changes, heard_group, later, latest, number_change, slot_changes, slot_groups, stamp, step_groups, timed_groups, waiting_count, written_change}
use Rattle.lin_values.specs.Coded.{CodedData}
use Rattle.lin_export.proofs.Rows.{carried-shown}

-- one digit more
pub binary-next : (bits : List ℕ) (n left k : ℕ) → left ≡ suc k → (bits ++ (48 + n / 2 ^ k % 2) ∷ []) ++ binary k n ≡ bits ++ binary left n
binary-next bits n left k e = append_assoc bits ((48 + n / 2 ^ k % 2) ∷ []) (binary k n) ∙ ap (λ m. bits ++ binary m n) (sym e)

pub timed-append : (last : ℕ) (gs hs : List Group) → timed_groups last (gs ++ hs) ≡ timed_groups last gs ++ timed_groups (latest last gs) hs
timed-append last [] hs = refl
timed-append last (g ∷ gs) hs =
    ap (λ l. stamp last g.at ++ (g.changes ++ l)) (timed-append (later last g.at) gs hs)
    ∙ ap (λ l. stamp last g.at ++ l) (sym (append_assoc g.changes (timed_groups (later last g.at) gs) (timed_groups (latest (later last g.at) gs) hs)))
    ∙ sym (append_assoc (stamp last g.at) (g.changes ++ timed_groups (later last g.at) gs) (timed_groups (latest (later last g.at) gs) hs))

latest-append : (last : ℕ) (gs hs : List Group) → latest last (gs ++ hs) ≡ latest (latest last gs) hs
latest-append last [] hs = refl
latest-append last (g ∷ gs) hs = latest-append (later last g.at) gs hs

pub groups-none : {W : Type 0} {contents : W → Option (List ℕ)} (x : TextWriter W) (last : ℕ) → PutsGroups contents x x last last []
groups-none x last = record { text = grows-nothing x; shown = refl }

pub groups-one : {W : Type 0} {contents : W → Option (List ℕ)} {x y z : TextWriter W} (last next at : ℕ) (changes : List ℕ)
    → Grows contents x y (stamp last at) → next ≡ later last at → Grows contents y z changes → PutsGroups contents x z last next (record { at = at; changes = changes } ∷ [])
groups-one last next at changes h e k = record {
  text = same-growth (ap (λ l. stamp last at ++ l) (sym (append-nil changes))) (grows-more h k);
  shown = e;
}

pub groups-more : {W : Type 0} {contents : W → Option (List ℕ)} {x y z : TextWriter W} {a b c : ℕ} {gs hs : List Group}
    → PutsGroups contents x y a b gs → PutsGroups contents y z b c hs → PutsGroups contents x z a c (gs ++ hs)
groups-more {a = a} {b = b} {c = c} {gs = gs} {hs = hs} h k = record {
  text = same-growth (ap (λ n. timed_groups a gs ++ timed_groups n hs) h.shown ∙ sym (timed-append a gs hs)) (grows-more h.text k.text);
  shown = k.shown ∙ ap (λ n. latest n hs) h.shown ∙ sym (latest-append a gs hs);
}

pub same-groups : {W : Type 0} {contents : W → Option (List ℕ)} {x y : TextWriter W} {a b : ℕ} {gs hs : List Group}
    → gs ≡ hs → PutsGroups contents x y a b gs → PutsGroups contents x y a b hs
same-groups {contents = contents} {x = x} {y = y} {a = a} {b = b} e h = subst (λ (l : List Group). PutsGroups contents x y a b l) e h

-- what is heard of a slot that was seen good and carries a frame
pub heard-one : (c : Parts) (k : Option CodedData) (end : ℕ) (s : Slot) (bytes : List ℕ) (f : ℕ) → good s ≡ Some bytes → carried_frame c s ≡ Some f
    → heard_group c k end s ≡ record { at = end; changes = heard_changes c k bytes f } ∷ []
heard-one c k end s bytes f g e = rw (g, e) refl

-- the slot that is kept changes what the open one does
pub heard-shown : (c : Parts) (k : Option CodedData) (end : ℕ) (s : Slot) → heard_group c k end (shown_slot s) ≡ heard_group c k end s
heard-shown c k end s =
    ap (λ (o : Option ℕ). option_map_or (λ bytes. option_map_or (λ f. record { at = end; changes = heard_changes c k bytes f } ∷ []) o []) (good s) [])
    (carried-shown c (line_of c s.table s.entry).entry s)

pub slot-shown : (c : Parts) (k : Option CodedData) (number at end : ℕ) (s : Slot) → slot_groups c k number at end (shown_slot s) ≡ slot_groups c k number at end s
slot-shown c k number at end s = ap (λ (gs : List Group). record { at = at; changes = slot_changes number s } ∷ gs) (heard-shown c k end s)

-- what a step changes by itself
pub write-groups : (c : Parts) (k : Option CodedData) (past : List LogEntry) (end at by signal : ℕ) (v : Value) (step : Step) → step ≡ Write by signal v → nat_lt signal (length c.signals) ≡ true
    → at ≡ time c past → step_groups c k past end step ≡ record { at = at; changes = written_change c signal v } ∷ []
write-groups c k past end at by signal v step is below same = rw (is, below, same) refl

pub finish-groups : (c : Parts) (k : Option CodedData) (past : List LogEntry) (end : ℕ) (step : Step) (s : Slot) → step ≡ Finish → open_slot past ≡ Some s
    → step_groups c k past end step ≡ slot_groups c k (finished_slot_count past) (time c past) end s
finish-groups c k past end step s is o = rw (is, o) refl

pub wake-groups : (c : Parts) (k : Option CodedData) (past : List LogEntry) (end : ℕ) (step : Step) (at : ℕ) → step ≡ Wake → at ≡ time c past
    → step_groups c k past end step ≡ record { at = at; changes = number_change 1 5 0 } ∷ []
wake-groups c k past end step at is same = rw (is, same) refl

-- what an entry changes that was done
groups-of : (c : Parts) (k : Option CodedData) (e : LogEntry) (past : List LogEntry) (reply : Reply) (es : List Event) → reply ≡ Done es
    → option_map_or (step_groups c k past (time c (e ∷ past))) (done_step reply e.step) [] ++ flat_map (event_group c (time c (e ∷ past)) (waiting_count (e ∷ past))) (reply_events reply)
    ≡ step_groups c k past (time c (e ∷ past)) e.step ++ flat_map (event_group c (time c (e ∷ past)) (waiting_count (e ∷ past))) es
groups-of c k e past reply es r = rw r refl

pub groups-done : (c : Parts) (k : Option CodedData) (e : LogEntry) (past : List LogEntry) (es : List Event) (end : ℕ) → e.reply ≡ Done es → end ≡ time c (e ∷ past)
    → groups c k e past ≡ step_groups c k past end e.step ++ flat_map (event_group c end (waiting_count (e ∷ past))) es
groups-done c k e past es end r is =
    groups-of c k e past e.reply es r ∙ ap (λ n. step_groups c k past n e.step ++ flat_map (event_group c n (waiting_count (e ∷ past))) es) (sym is)

pub counts-done : (e : LogEntry) (past : List LogEntry) (es : List Event) (h : ℕ) → e.reply ≡ Done es → counted_all h es (waiting_count past h) ≡ waiting_count (e ∷ past) h
counts-done e past es h r = ap (λ (reply : Reply). counted_all h (reply_events reply) (waiting_count past h)) (sym r)
