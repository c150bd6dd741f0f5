-- Links on which good frames were heard.
use Rattle.std.proofs.Common.{◌≡◌, ◌∙◌, ℕ, ◌==◌, nat_lt, Bool, true, false, List, [], ◌∷◌, ◌++◌, reverse, length, map, refl, sym, ap, is_some, cond, Option, Some, None, slice_index}
use Rattle.std.specs.Option.{option_map_or}
use Rattle.std.proofs.lemmas.List.{reverse-append}
use Rattle.lin_parts.specs.Cluster.{nad}
use Rattle.lin_parts.specs.declared.parts.Parts.{Parts}
use Rattle.lin_core.specs.Core.{CoreData, entry_with_reply, past_of}
use Rattle.lin_core.specs.History.{Slot, done, done_step, events, finished_slot, good, good_bytes, is_finish, open_slot, seen_by, time}
use Rattle.lin_core.specs.Replies.{finish_events, link_at, may, reply}
use Rattle.lin_core.specs.Runs.{entry_of}
use Rattle.lin_core.specs.declared.link.Direction.{Direction}
use Rattle.lin_core.specs.declared.link.Direction.TheVariants.{Down, Up}
use Rattle.lin_core.specs.declared.log.LogEntry.{LogEntry}
use Rattle.lin_core.specs.declared.port.PortId.{PortId}
use Rattle.lin_core.specs.declared.reply.Refusal.TheVariants.{NotYours}
use Rattle.lin_core.specs.declared.reply.Reply.{Reply}
use Rattle.lin_core.specs.declared.reply.Reply.TheVariants.{Done, Refused}
use Rattle.lin_core.specs.declared.step.Step.{Step}
use Rattle.lin_core.specs.declared.step.Step.TheVariants.{Finish}
use Rattle.lin_transport.specs.Transport.{looks_at}
use Rattle.lin_bench.specs.Added.{is_good_on}
use Rattle.lin_bench.specs.Adding.{AreEnds, IsAfterFinish, AreHeardTimes, good_in}

-- ---- a slot that was seen good has a header, and one response
pub record IsGoodSlot (hd : Option ℕ) (puts : List (ℕ × List ℕ)) (bytes : List ℕ) : Type 0 where
  pub header : ℕ
  pub node : ℕ
  pub header_is : hd ≡ Some header
  pub puts_are : puts ≡ (node, bytes) ∷ []

good-by : (hd : Option ℕ) (puts : List (ℕ × List ℕ)) (hurt : Bool) (b : List ℕ) → good_bytes (seen_by hd puts hurt) ≡ Some b → IsGoodSlot hd puts b
good-by None puts hurt b e = absurd (cc)
good-by (Some h) [] hurt b e = absurd (cc)
good-by (Some h) ((m, x) ∷ []) false b e = record { header = h; node = m; header_is = refl; puts_are = cc }
good-by (Some h) ((m, x) ∷ []) true b e = absurd (cc)
good-by (Some h) (p ∷ q ∷ ps) hurt b e = absurd (cc)

pub good-slot : (s : Slot) (b : List ℕ) → good s ≡ Some b → IsGoodSlot s.header s.puts b
good-slot s b e = good-by s.header s.puts s.hurt b e

-- ---- on which links its frame was
one-put : {A B : Type 0} (t v : Bool) (f : A → B) (x : A) → nat_lt 0 (length (cond t (map f (cond v (x ∷ []) [])) [])) ≡ cond t v false
one-put true true f x = refl
one-put true false f x = refl
one-put false v f x = refl

pub good-down : (c : Parts) (n : ℕ) (s : Slot) (b : List ℕ) → s.service ≡ false → good s ≡ Some b → (g : IsGoodSlot s.header s.puts b)
    → is_good_on c (link_at n Down) s ≡ cond (g.header == 0x3C) (option_map_or (λ k. looks_at (record { nad = k; all = true }) (slice_index b 0)) (nad c n) false) false
good-down c n s b plain e g =
    rw (plain, e, g.header_is, g.puts_are) (one-put (g.header == 0x3C) (option_map_or (λ k. looks_at (record { nad = k; all = true }) (slice_index b 0)) (nad c n) false) _ (g.node, b))

pub good-up : (c : Parts) (n : ℕ) (s : Slot) (b : List ℕ) → s.service ≡ false → good s ≡ Some b → (g : IsGoodSlot s.header s.puts b)
    → is_good_on c (link_at n Up) s ≡ cond (g.header == 0x7D) (g.node == n) false
good-up c n s b plain e g = rw (plain, e, g.header_is, g.puts_are) (one-put (g.header == 0x7D) (g.node == n) _ (g.node, b))

-- ---- what the finish of an open slot is answered
pub finish-done : (c : Parts) (o cap : ℕ) (past : List LogEntry) (by : PortId) (s : Slot) → open_slot past ≡ Some s → may by Finish ≡ true
    → reply c o cap past by Finish ≡ Done (finish_events c by past)
unfolding reply
finish-done c o cap past by s e m = rw (e, m) refl

pub finish-refused : (c : Parts) (o cap : ℕ) (past : List LogEntry) (by : PortId) (s : Slot) → open_slot past ≡ Some s → may by Finish ≡ false
    → reply c o cap past by Finish ≡ Refused NotYours
unfolding reply
finish-refused c o cap past by s e m = rw (e, m) refl

pub finished-slot : (c : Parts) (o cap : ℕ) (past : List LogEntry) (by : PortId) (s : Slot) → open_slot past ≡ Some s → may by Finish ≡ true
    → finished_slot (entry_of c o cap past (by, Finish)) past ≡ Some s
finished-slot c o cap past by s e m = rw (finish-done c o cap past by s e m) e

pub good-told : (c : Parts) (o cap : ℕ) (past : List LogEntry) (by : PortId) (s : Slot) → open_slot past ≡ Some s → may by Finish ≡ true
    → good_in (events (entry_of c o cap past (by, Finish))) ≡ good s
good-told c o cap past by s e m = rw (finish-done c o cap past by s e m) (rw e refl)

-- ---- ends of links
pub past-one : (old new : CoreData) (by : PortId) (step : Step) → new.log ≡ old.log ++ entry_with_reply old by step ∷ []
    → past_of new ≡ entry_with_reply old by step ∷ past_of old
past-one old new by step e = ap reverse e ∙ reverse-append old.log (entry_with_reply old by step ∷ [])

-- an entry by which no slot was finished
pub ends-stay : (old new : CoreData) (by : PortId) (step : Step) (dir : Direction) (xs : List ℕ)
    → new.log ≡ old.log ++ entry_with_reply old by step ∷ [] → new.cluster ≡ old.cluster
    → finished_slot (entry_with_reply old by step) (past_of old) ≡ None → AreEnds old dir xs → AreEnds new dir xs
ends-stay old new by step dir xs e same none are n small =
    rw (same, past-one old new by step e, none) (are n (rw same at small))

ends-heard : (old new : CoreData) (by : PortId) (s : Slot) (dir : Direction) (xs ys : List ℕ) → IsAfterFinish old by s new → may by Finish ≡ true
    → AreEnds old dir xs → AreHeardTimes new.cluster (time new.cluster (past_of new)) s dir xs ys → AreEnds new dir ys
ends-heard old new by s dir xs ys after m are heard n small =
    let fin = finished-slot old.cluster old.opening old.capacity (past_of old) by s after.slot m in
    let was = are n (rw after.alike.0 at small) in
    let p = past-one old new by Finish after.log in
    let h = heard n small in
    let was-heard = rw (after.alike.0, p, was) at h in
    rw (after.alike.0, p, fin) (was-heard ∙ rw fin refl)

-- ---- which entries finish a slot
pub finish-allowed : (c : Parts) (o cap : ℕ) (past : List LogEntry) (by : PortId) (x : Option Slot) (m : Bool) → open_slot past ≡ x → may by Finish ≡ m
    → is_some (done (entry_of c o cap past (by, Finish))) ≡ true → (s : Slot) × (open_slot past ≡ Some s) × (may by Finish ≡ true)
unfolding reply
finish-allowed c o cap past by (Some s) true e f h = (s, e, f)
finish-allowed c o cap past by (Some s) false e f h = let no : false ≡ true = rw (e, f) at h in absurd (cc)
finish-allowed c o cap past by None m e f h = let no : false ≡ true = rw e at h in absurd (cc)

by-done : (past : List LogEntry) (d : Option Step) → is_some d ≡ false → option_map_or (λ step. cond (is_finish step) (open_slot past) None) d None ≡ None
by-done past None h = refl
by-done past (Some step) h = absurd (cc)

pub refused-finishes-none : (e : LogEntry) (past : List LogEntry) → is_some (done e) ≡ false → finished_slot e past ≡ None
refused-finishes-none e past h = by-done past (done e) h

by-reply : (r : Reply) (step : Step) (past : List LogEntry) → is_finish step ≡ false
    → option_map_or (λ step. cond (is_finish step) (open_slot past) None) (done_step r step) None ≡ None
by-reply (Done es) step past h = rw h refl
by-reply (Refused why) step past h = refl

pub others-finish-none : (c : Parts) (o cap : ℕ) (past : List LogEntry) (by : PortId) (step : Step) → is_finish step ≡ false
    → finished_slot (entry_of c o cap past (by, step)) past ≡ None
others-finish-none c o cap past by step h = by-reply (reply c o cap past by step) step past h

-- ---- what was heard by a finish
stays-by : (old new : CoreData) (by : PortId) (s : Slot) (dir : Direction) (xs : List ℕ) (m : Bool) → IsAfterFinish old by s new → may by Finish ≡ m
    → good_in (events (entry_with_reply old by Finish)) ≡ None → AreEnds old dir xs → AreEnds new dir xs
stays-by old new by s dir xs true after m none are =
    let g = sym (good-told old.cluster old.opening old.capacity (past_of old) by s after.slot m) ∙ none in
    ends-heard old new by s dir xs xs after m are (λ n small. rw g refl)
stays-by old new by s dir xs false after m none are =
    let refused = finish-refused old.cluster old.opening old.capacity (past_of old) by s after.slot m in
    ends-stay old new by Finish dir xs after.log after.alike.0 (rw refused refl) are

pub none-heard : (old new : CoreData) (by : PortId) (s : Slot) (dir : Direction) (xs : List ℕ) → IsAfterFinish old by s new
    → good_in (events (entry_with_reply old by Finish)) ≡ None → AreEnds old dir xs → AreEnds new dir xs
none-heard old new by s dir xs after none are = stays-by old new by s dir xs (may by Finish) after refl none are

heard-by : (old new : CoreData) (by : PortId) (s : Slot) (b : List ℕ) (dir : Direction) (xs ys : List ℕ) (m : Bool) → IsAfterFinish old by s new → may by Finish ≡ m
    → good_in (events (entry_with_reply old by Finish)) ≡ Some b → AreEnds old dir xs
    → (good s ≡ Some b → AreHeardTimes new.cluster (time new.cluster (past_of new)) s dir xs ys) → AreEnds new dir ys
heard-by old new by s b dir xs ys true after m some are heard =
    let g = sym (good-told old.cluster old.opening old.capacity (past_of old) by s after.slot m) ∙ some in
    ends-heard old new by s dir xs ys after m are (heard g)
heard-by old new by s b dir xs ys false after m some are heard =
    let refused = finish-refused old.cluster old.opening old.capacity (past_of old) by s after.slot m in
    let no : None ≡ Some b = rw refused at some in
    absurd (cc)

pub some-heard : (old new : CoreData) (by : PortId) (s : Slot) (b : List ℕ) (dir : Direction) (xs ys : List ℕ) → IsAfterFinish old by s new
    → good_in (events (entry_with_reply old by Finish)) ≡ Some b → AreEnds old dir xs
    → (good s ≡ Some b → AreHeardTimes new.cluster (time new.cluster (past_of new)) s dir xs ys) → AreEnds new dir ys
some-heard old new by s b dir xs ys after some are heard = heard-by old new by s b dir xs ys (may by Finish) after refl some are heard
