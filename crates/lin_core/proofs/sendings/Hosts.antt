-- The messages of a host: those that are settled, and those that wait, of which the first may be begun.
use Rattle.std.proofs.Common.{◌≡◌, ℕ, zero, suc, ◌≤◌, ◌<◌, Bool, true, false, List, [], ◌∷◌, ◌++◌, length, map, refl, ap, sym, ◌∙◌, subst, arith, append_assoc}
use Rattle.std.specs.Prelude.{⊤, Option, Some, None, cond, ◌==◌, if◌then◌else◌, filter, find, is_some, slice_index_or}
use Rattle.std.proofs.lemmas.Bool.Decides.{nat_tests}
use Rattle.std.proofs.lemmas.List.{append-nil, map-append, length-append, get_or_past}
use Rattle.std.proofs.lemmas.List.Elements.{filter-append}
use Rattle.std.specs.Option.{option_map_or}
use Rattle.lin_transport.specs.Law.{Addressed, IsFor}
use Rattle.lin_transport.specs.Transport.{frame, frame_count, Ear, Heard, CanSend, first_frames}
use Rattle.lin_parts.specs.Cluster.{nad}
use Rattle.lin_parts.specs.declared.parts.Parts.{Parts}
use Rattle.lin_core.specs.Links.{Link, same_dir, same_link, Message, host_of, Sign, Fate, fate, is_waiting, block_frames, begins_good, blocks_of, Sending, link_address, ear_on, frames_to, goes_over, home, is_to_all, sendings_from, fate_of, waits, is_begun}
use Rattle.lin_core.specs.declared.link.Direction.{Direction}
use Rattle.lin_core.specs.declared.link.Direction.TheVariants.{Down, Up}
use Rattle.lin_core.specs.Slots.{frame_at}
use Rattle.lin_transport.proofs.Frames.{first-cons, length-first, and-false, count-some}
use Rattle.lin_core.proofs.links.Fates.{good_sign, goods, goods-wait, goods-frames}
use Rattle.lin_core.proofs.links.Tracks.{heard_of, IsSettled, AreSettled, Idle, Busy}

-- the messages of a host that are settled, with their fates; those that wait; and how many frames of the first of these were seen good
pub record HostState : Type 0 where
  pub done : List (Message × Fate)
  pub rest : List Message
  pub count : ℕ

abbrev pub on : Link → Message → Bool
on l m = goes_over m.link l

-- a message with the address of its frames
abbrev pub addressed : Parts → Message → Addressed
addressed c m = record { nad = link_address c m.link; bytes = m.bytes }

abbrev pub outcome_on : Parts → Message × Fate → Addressed × Fate
outcome_on c p = (addressed c p.0, p.1)

abbrev pub on_link : Parts → Link → List (Message × Fate) → List (Addressed × Fate)
on_link c l ps = map (outcome_on c) (filter (λ (p : Message × Fate). on l p.0) ps)

-- the message that is begun on a link
abbrev pub part : Parts → List Message → ℕ → Link → Option (Addressed × ℕ)
part c rest zero l = None
part c [] (suc j) l = None
part c (m ∷ ms) (suc j) l = if on l m then Some (addressed c m, j) else None

abbrev pub Track : Ear → List Sign → List (Addressed × Fate) → Option (Addressed × ℕ) → Type 0
Track e signs ps None = Idle e signs ps
Track e signs ps (Some x) = Busy e signs ps x.0 x.1

pub record LinkIs (e : Ear) (heard : List Heard) (signs : List Sign) (ps : List (Addressed × Fate)) (o : Option (Addressed × ℕ)) : Type 0 where
  pub heard_is : heard ≡ heard_of signs
  pub track : Track e signs ps o

-- a link over which a host sends
pub record IsLink (c : Parts) (h : ℕ) (l : Link) : Type 0 where
  pub host : host_of l ≡ h
  pub address : is_some (nad c l.node) ≡ true

-- a message of a host: it has a home link, and the receiver of each link that it goes over is meant by its frames
pub record CanGo (c : Parts) (h : ℕ) (m : Message) : Type 0 where
  pub host : host_of m.link ≡ h
  pub home_is : IsLink c h (home c m.link)
  pub over : goes_over m.link (home c m.link) ≡ true
  pub can : CanSend m.bytes
  pub meant : (l : Link) → IsLink c h l → goes_over m.link l ≡ true → IsFor (ear_on c l) (addressed c m)
  pub several : 1 < frame_count (length m.bytes) → is_to_all m.link ≡ false
  pub one : is_to_all m.link ≡ false → IsLink c h m.link

abbrev pub AllCanGo : Parts → ℕ → List Message → Type 0
AllCanGo c h [] = ⊤
AllCanGo c h (m ∷ ms) = CanGo c h m × AllCanGo c h ms

pub record IsDone (c : Parts) (h : ℕ) (p : Message × Fate) : Type 0 where
  pub go : CanGo c h p.0
  pub settled : is_waiting p.1 ≡ false

abbrev pub AllDone : Parts → ℕ → List (Message × Fate) → Type 0
AllDone c h [] = ⊤
AllDone c h (p ∷ ps) = IsDone c h p × AllDone c h ps

abbrev pub message_of : Message × Fate → Message
message_of p = p.0

-- where nothing waits, nothing is begun, and what is begun goes to one
abbrev pub IsCount : List Message → ℕ → Type 0
IsCount rest zero = ⊤
IsCount [] (suc j) = ⊥
IsCount (m ∷ ms) (suc j) = is_to_all m.link ≡ false

pub record HostIs (c : Parts) (h : ℕ) (accepted : List Message) (heard : Link → List Heard) (signs : Link → List Sign) (s : HostState) : Type 0 where
  pub accepted_is : accepted ≡ map message_of s.done ++ s.rest
  pub are_done : AllDone c h s.done
  pub can_go : AllCanGo c h s.rest
  pub counts : IsCount s.rest s.count
  pub links : (l : Link) → IsLink c h l → LinkIs (ear_on c l) (heard l) (signs l) (on_link c l s.done) (part c s.rest s.count l)

-- the blocks of a link: those of the settled messages, and others
pub record HasBlocks (ps : List (Addressed × Fate)) (bs tail : List (List Sign)) : Type 0 where
  pub front : List (List Sign)
  pub is : bs ≡ front ++ tail
  pub settled : AreSettled ps front

abbrev pub tail_of : Option (Addressed × ℕ) → List (List Sign)
tail_of None = []
tail_of (Some x) = goods x.0.nad x.0.bytes (suc x.1) ∷ []

pub track-blocks : (e : Ear) (signs : List Sign) (ps : List (Addressed × Fate)) (o : Option (Addressed × ℕ)) → Track e signs ps o → HasBlocks ps (blocks_of signs) (tail_of o)
track-blocks e signs ps None t = record { front = blocks_of signs; is = sym (append-nil (blocks_of signs)); settled = t.settled }
track-blocks e signs ps (Some x) t = record { front = t.earlier; is = t.blocks; settled = t.settled }

pub settled-length : (ps : List (Addressed × Fate)) (bs : List (List Sign)) → AreSettled ps bs → length bs ≡ length ps
settled-length [] [] s = refl
settled-length [] (b ∷ bs) s = absurd s
settled-length (p ∷ ps) [] s = absurd s
settled-length (p ∷ ps) (b ∷ bs) s = ap suc (settled-length ps bs s.1)

-- the block at a settled message's place is its own
pub settled-at : (ps qs : List (Addressed × Fate)) (p : Addressed × Fate) (bs tail : List (List Sign)) → AreSettled (ps ++ p ∷ qs) bs → IsSettled p (slice_index_or (bs ++ tail) (length ps) [])
settled-at [] qs p [] tail s = absurd s
settled-at [] qs p (b ∷ bs) tail s = s.0
settled-at (q ∷ ps) qs p [] tail s = absurd s
settled-at (q ∷ ps) qs p (b ∷ bs) tail s = settled-at ps qs p bs tail s.1

-- how many settled messages a link has
pub count-if : {X Y Z : Type 0} (b : Bool) (x : X) (xs : List X) (y : Y) (ys : List Y) (f : Y → Z) → length xs ≡ length (map f ys) → length (cond b (x ∷ xs) xs) ≡ length (map f (cond b (y ∷ ys) ys))
count-if true x xs y ys f e = ap suc e
count-if false x xs y ys f e = e

pub count-on : (c : Parts) (l : Link) (ps : List (Message × Fate)) → length (filter (on l) (map message_of ps)) ≡ length (on_link c l ps)
count-on c l [] = refl
count-on c l (p ∷ ps) = count-if (on l p.0) p.0 (filter (on l) (map message_of ps)) p (filter (λ (q : Message × Fate). on l q.0) ps) (outcome_on c) (count-on c l ps)

pub eqb-self : (x : ℕ) → (x == x) ≡ true
eqb-self x = grind (arith, nat_tests)

pub same-dir : (d : Direction) → same_dir d d ≡ true
same-dir Down = refl
same-dir Up = refl

pub same-self : (l : Link) → same_link l l ≡ true
same-self l = rw (eqb-self l.node, same-dir l.dir)

pub on-append : (c : Parts) (l : Link) (ps qs : List (Message × Fate)) → on_link c l (ps ++ qs) ≡ on_link c l ps ++ on_link c l qs
on-append c l ps qs = ap (map (outcome_on c)) (filter-append (λ (p : Message × Fate). on l p.0) ps qs) ∙ map-append (outcome_on c) (filter (λ (p : Message × Fate). on l p.0) ps) (filter (λ (p : Message × Fate). on l p.0) qs)

pub on-there : (c : Parts) (l : Link) (p : Message × Fate) (ps qs : List (Message × Fate)) → on l p.0 ≡ true → on_link c l (ps ++ p ∷ qs) ≡ on_link c l ps ++ outcome_on c p ∷ on_link c l qs
on-there c l p ps qs over = on-append c l ps (p ∷ qs) ∙ rw over

-- the blocks of all links of a host
pub record OnLinks (c : Parts) (h : ℕ) (blocks tails : Link → List (List Sign)) (done : List (Message × Fate)) : Type 0 where
  pub at : (l : Link) → IsLink c h l → HasBlocks (on_link c l done) (blocks l) (tails l)

abbrev pub outcome : Parts → Sending → Message × Fate
outcome c s = (s.message, fate_of c s)

abbrev pub sending_at : Parts → (Link → List (List Sign)) → List Message → Message → Sending
sending_at c blocks before m = record { number = suc (length before); message = m; block = slice_index_or (blocks (home c m.link)) (length (filter (on (home c m.link)) before)) [] }

pub sendings-append : (c : Parts) (blocks : Link → List (List Sign)) (before xs ys : List Message) → sendings_from c blocks before (xs ++ ys) ≡ sendings_from c blocks before xs ++ sendings_from c blocks (before ++ xs) ys
sendings-append c blocks before [] ys = rw (append-nil before)
sendings-append c blocks before (x ∷ xs) ys = ap (λ (ss : List Sending). sending_at c blocks before x ∷ ss) (sendings-append c blocks (before ++ x ∷ []) xs ys ∙ ap (λ (b : List Message). sendings_from c blocks (before ++ x ∷ []) xs ++ sendings_from c blocks b ys) (append_assoc before (x ∷ []) xs))

-- the settled messages have their fates
pub done-outcomes : (c : Parts) (h : ℕ) (blocks tails : Link → List (List Sign)) (before after : List (Message × Fate))
    → OnLinks c h blocks tails (before ++ after) → AllDone c h after
    → map (outcome c) (sendings_from c blocks (map message_of before) (map message_of after)) ≡ after
done-outcomes c h blocks tails before [] b d = refl
done-outcomes c h blocks tails before (p ∷ ps) b d =
    let l : Link = home c p.0.link
    in let hb : HasBlocks (on_link c l (before ++ p ∷ ps)) (blocks l) (tails l) = b.at l d.0.go.home_is
    in let settled : AreSettled (on_link c l before ++ outcome_on c p ∷ on_link c l ps) hb.front = subst (λ (qs : List (Addressed × Fate)). AreSettled qs hb.front) (on-there c l p before ps d.0.go.over) hb.settled
    in let own : IsSettled (outcome_on c p) (slice_index_or (hb.front ++ tails l) (length (on_link c l before)) []) = settled-at (on_link c l before) (on_link c l ps) (outcome_on c p) hb.front (tails l) settled
    in let fate_is : fate (frames_to c p.0) (slice_index_or (blocks l) (length (filter (on l) (map message_of before))) []) ≡ p.1 = rw (hb.is, count-on c l before) own.fate
    in let next : map (outcome c) (sendings_from c blocks (map message_of (before ++ p ∷ [])) (map message_of ps)) ≡ ps
    = done-outcomes c h blocks tails (before ++ p ∷ []) ps (rw (append_assoc before (p ∷ []) ps) b) d.1
    in rw (fate_is, ← map-append message_of before (p ∷ [])) (ap (λ (qs : List (Message × Fate)). p ∷ qs) next)

-- so none of them waits
pub none-wait : (c : Parts) (h : ℕ) (xs : List Sending) → AllDone c h (map (outcome c) xs) → filter (waits c) xs ≡ []
none-wait c h [] d = refl
none-wait c h (x ∷ xs) d = let e : waits c x ≡ false = d.0.settled in rw e (none-wait c h xs d.1)

pub none-begun : (c : Parts) (h : ℕ) (xs ys : List Sending) → AllDone c h (map (outcome c) xs) → find (is_begun c) (xs ++ ys) ≡ find (is_begun c) ys
none-begun c h [] ys d = refl
none-begun c h (x ∷ xs) ys d = let e : waits c x ≡ false = d.0.settled in rw e (none-begun c h xs ys d.1)

-- a message that has no block
pub record IsFresh (c : Parts) (s : Sending) : Type 0 where
  pub none : s.block ≡ []
  pub can : CanSend s.message.bytes

abbrev pub AllFresh : Parts → List Sending → Type 0
AllFresh c [] = ⊤
AllFresh c (s ∷ ss) = IsFresh c s × AllFresh c ss

pub fresh-begun : (c : Parts) (xs : List Sending) → AllFresh c xs → find (is_begun c) xs ≡ None
fresh-begun c [] f = refl
fresh-begun c (x ∷ xs) f = rw (f.0.none, and-false) (fresh-begun c xs f.1)

-- no more blocks than messages before
pub record AreFew (c : Parts) (h : ℕ) (blocks : Link → List (List Sign)) (before : List Message) : Type 0 where
  pub at : (l : Link) → IsLink c h l → length (blocks l) ≤ length (filter (on l) before)

pub few-more : (c : Parts) (h : ℕ) (blocks : Link → List (List Sign)) (before : List Message) (m : Message) → AreFew c h blocks before → AreFew c h blocks (before ++ m ∷ [])
few-more c h blocks before m f = record { at = λ l i. let few = f.at l i in rw (filter-append (on l) before (m ∷ []), length-append) (omega arith) }

pub all-fresh : (c : Parts) (h : ℕ) (blocks : Link → List (List Sign)) (before ms : List Message) → AreFew c h blocks before → AllCanGo c h ms → AllFresh c (sendings_from c blocks before ms)
all-fresh c h blocks before [] f g = tt
all-fresh c h blocks before (m ∷ ms) f g = (
  record { none = get_or_past (blocks (home c m.link)) (length (filter (on (home c m.link)) before)) [] (f.at (home c m.link) g.0.home_is); can = g.0.can },
  all-fresh c h blocks (before ++ m ∷ []) ms (few-more c h blocks before m f) g.1,
)

-- the message that comes first of those that wait, with its block
abbrev pub sending_of : Parts → List Message → Message → ℕ → Sending
sending_of c before m k = record { number = suc (length before); message = m; block = goods (link_address c m.link) m.bytes k }

abbrev pub tails_of : Parts → List Message → ℕ → Link → List (List Sign)
tails_of c rest k l = tail_of (part c rest k l)

pub index-after : {X : Type 0} (xs ys : List X) (d : X) → slice_index_or (xs ++ ys) (length xs) d ≡ slice_index_or ys 0 d
index-after [] ys d = refl
index-after (x ∷ xs) ys d = index-after xs ys d

pub block-after : (c : Parts) (h : ℕ) (blocks tails : Link → List (List Sign)) (done : List (Message × Fate)) (l : Link) → OnLinks c h blocks tails done → IsLink c h l
    → slice_index_or (blocks l) (length (filter (on l) (map message_of done))) [] ≡ slice_index_or (tails l) 0 []
block-after c h blocks tails done l b i =
    let hb = b.at l i
    in rw (hb.is, count-on c l done, ← settled-length (on_link c l done) hb.front hb.settled) (index-after hb.front (tails l) [])

pub tail-there : (c : Parts) (m : Message) (ms : List Message) (k : ℕ) (l : Link) → on l m ≡ true → slice_index_or (tails_of c (m ∷ ms) k l) 0 [] ≡ goods (link_address c m.link) m.bytes k
tail-there c m ms zero l over = refl
tail-there c m ms (suc j) l over = rw over

pub tail-by : (x : Addressed × ℕ) (b : Bool) (m : Message) → length (tail_of (if b then Some x else None)) ≤ length (cond b (m ∷ []) [])
tail-by x true m = omega arith
tail-by x false m = omega arith

pub tail-few : (c : Parts) (m : Message) (ms : List Message) (k : ℕ) (l : Link) → length (tails_of c (m ∷ ms) k l) ≤ length (filter (on l) (m ∷ []))
tail-few c m ms zero l = omega arith
tail-few c m ms (suc j) l = tail-by (addressed c m, j) (on l m) m

pub few-after : (c : Parts) (h : ℕ) (blocks : Link → List (List Sign)) (done : List (Message × Fate)) (m : Message) (ms : List Message) (k : ℕ)
    → OnLinks c h blocks (tails_of c (m ∷ ms) k) done → AreFew c h blocks (map message_of done ++ m ∷ [])
few-after c h blocks done m ms k b = record {
  at = λ l i.
      let hb = b.at l i
      in let t = tail-few c m ms k l
      in let e = settled-length (on_link c l done) hb.front hb.settled
      in let x = count-on c l done
      in rw (hb.is, filter-append (on l) (map message_of done) (m ∷ []), length-append, length-append) (omega arith);
}

-- the host's sendings
pub find-append : (c : Parts) (h : ℕ) (xs : List Sending) (y : Sending) (ys : List Sending) → AllDone c h (map (outcome c) xs) → is_begun c y ≡ true → find (is_begun c) (xs ++ y ∷ ys) ≡ Some y
find-append c h xs y ys d e = none-begun c h xs (y ∷ ys) d ∙ rw e

pub goods-begin : (n : ℕ) (m : List ℕ) (k : ℕ) → begins_good (goods n m (suc k)) ≡ true
goods-begin n m k = ap (λ (fs : List (List ℕ)). begins_good (map good_sign fs)) (first-cons n m k)

-- what is known of a host while no frame is put on its links in the open slot
pub record Stands (c : Parts) (h : ℕ) (blocks : Link → List (List Sign)) (accepted : List Message) (s : HostState) : Type 0 where
  pub accepted_is : accepted ≡ map message_of s.done ++ s.rest
  pub are_done : AllDone c h s.done
  pub can_go : AllCanGo c h s.rest
  pub links : OnLinks c h blocks (tails_of c s.rest s.count) s.done
  pub more : (l : Link) (x : Addressed × ℕ) → IsLink c h l → part c s.rest s.count l ≡ Some x → suc x.1 < frame_count (length x.0.bytes)

-- the settled ones among the sendings
abbrev pub settled_ones : Parts → (Link → List (List Sign)) → List (Message × Fate) → List Sending
settled_ones c blocks done = sendings_from c blocks [] (map message_of done)

pub ones-done : (c : Parts) (h : ℕ) (blocks : Link → List (List Sign)) (accepted : List Message) (s : HostState) → Stands c h blocks accepted s → AllDone c h (map (outcome c) (settled_ones c blocks s.done))
ones-done c h blocks accepted s t = rw (done-outcomes c h blocks (tails_of c s.rest s.count) [] s.done t.links t.are_done) t.are_done

-- nothing waits
pub waiting-none : (c : Parts) (h : ℕ) (blocks : Link → List (List Sign)) (accepted : List Message) (done : List (Message × Fate)) (k : ℕ)
    → Stands c h blocks accepted (record { done = done; rest = []; count = k }) → filter (waits c) (sendings_from c blocks [] accepted) ≡ []
waiting-none c h blocks accepted done k t =
    let s : HostState = record { done = done; rest = []; count = k }
    in let e : accepted ≡ map message_of done = t.accepted_is ∙ append-nil (map message_of done)
    in rw e (none-wait c h (settled_ones c blocks done) (ones-done c h blocks accepted s t))

pub begun-none : (c : Parts) (h : ℕ) (blocks : Link → List (List Sign)) (accepted : List Message) (done : List (Message × Fate)) (k : ℕ)
    → Stands c h blocks accepted (record { done = done; rest = []; count = k }) → find (is_begun c) (sendings_from c blocks [] accepted) ≡ None
begun-none c h blocks accepted done k t =
    let s : HostState = record { done = done; rest = []; count = k }
    in let e : accepted ≡ map message_of done ++ [] = t.accepted_is
    in rw (e, sendings-append c blocks [] (map message_of done) []) (none-begun c h (settled_ones c blocks done) [] (ones-done c h blocks accepted s t))

-- the sendings where something waits
pub sendings-split : (c : Parts) (h : ℕ) (blocks : Link → List (List Sign)) (accepted : List Message) (done : List (Message × Fate)) (m : Message) (ms : List Message) (k : ℕ)
    → Stands c h blocks accepted (record { done = done; rest = m ∷ ms; count = k })
    → sendings_from c blocks [] accepted ≡ settled_ones c blocks done ++ sending_of c (map message_of done) m k ∷ sendings_from c blocks (map message_of done ++ m ∷ []) ms
sendings-split c h blocks accepted done m ms k t =
    let l : Link = home c m.link
    in let e : slice_index_or (blocks l) (length (filter (on l) (map message_of done))) [] ≡ goods (link_address c m.link) m.bytes k
    = block-after c h blocks (tails_of c (m ∷ ms) k) done l t.links t.can_go.0.home_is ∙ tail-there c m ms k l t.can_go.0.over
    in rw (t.accepted_is, sendings-append c blocks [] (map message_of done) (m ∷ ms), e)

pub ones-fresh : (c : Parts) (h : ℕ) (blocks : Link → List (List Sign)) (accepted : List Message) (done : List (Message × Fate)) (m : Message) (ms : List Message) (k : ℕ)
    → Stands c h blocks accepted (record { done = done; rest = m ∷ ms; count = k }) → AllFresh c (sendings_from c blocks (map message_of done ++ m ∷ []) ms)
ones-fresh c h blocks accepted done m ms k t = all-fresh c h blocks (map message_of done ++ m ∷ []) ms (few-after c h blocks done m ms k t.links) t.can_go.1

-- the first that waits is begun, or not
pub part-there : (c : Parts) (m : Message) (ms : List Message) (j : ℕ) (l : Link) → on l m ≡ true → part c (m ∷ ms) (suc j) l ≡ Some (addressed c m, j)
part-there c m ms j l over = rw over

pub first-begun : (c : Parts) (h : ℕ) (blocks : Link → List (List Sign)) (accepted : List Message) (done : List (Message × Fate)) (m : Message) (ms : List Message) (j : ℕ)
    → Stands c h blocks accepted (record { done = done; rest = m ∷ ms; count = suc j }) → is_begun c (sending_of c (map message_of done) m (suc j)) ≡ true
first-begun c h blocks accepted done m ms j t =
    let more : suc j < frame_count (length m.bytes) = t.more (home c m.link) (addressed c m, j) t.can_go.0.home_is (part-there c m ms j (home c m.link) t.can_go.0.over)
    in rw (goods-wait (link_address c m.link) m.bytes (suc j) more) (goods-begin (link_address c m.link) m.bytes j)

pub begun-first : (c : Parts) (h : ℕ) (blocks : Link → List (List Sign)) (accepted : List Message) (done : List (Message × Fate)) (m : Message) (ms : List Message) (j : ℕ)
    → Stands c h blocks accepted (record { done = done; rest = m ∷ ms; count = suc j })
    → find (is_begun c) (sendings_from c blocks [] accepted) ≡ Some (sending_of c (map message_of done) m (suc j))
begun-first c h blocks accepted done m ms j t =
    rw (sendings-split c h blocks accepted done m ms (suc j) t)
    (find-append c h (settled_ones c blocks done) (sending_of c (map message_of done) m (suc j)) (sendings_from c blocks (map message_of done ++ m ∷ []) ms)
    (ones-done c h blocks accepted (record { done = done; rest = m ∷ ms; count = suc j }) t) (first-begun c h blocks accepted done m ms j t))

pub begun-fresh : (c : Parts) (h : ℕ) (blocks : Link → List (List Sign)) (accepted : List Message) (done : List (Message × Fate)) (m : Message) (ms : List Message)
    → Stands c h blocks accepted (record { done = done; rest = m ∷ ms; count = 0 })
    → find (is_begun c) (sendings_from c blocks [] accepted) ≡ None
begun-fresh c h blocks accepted done m ms t =
    let fresh : IsFresh c (sending_of c (map message_of done) m 0) = record { none = refl; can = t.can_go.0.can }
    in rw (sendings-split c h blocks accepted done m ms 0 t)
    (none-begun c h (settled_ones c blocks done) (sending_of c (map message_of done) m 0 ∷ sendings_from c blocks (map message_of done ++ m ∷ []) ms) (ones-done c h blocks accepted (record { done = done; rest = m ∷ ms; count = 0 }) t)
    ∙ fresh-begun c (sending_of c (map message_of done) m 0 ∷ sendings_from c blocks (map message_of done ++ m ∷ []) ms) (fresh, ones-fresh c h blocks accepted done m ms 0 t))

pub waiting-fresh : (c : Parts) (h : ℕ) (blocks : Link → List (List Sign)) (accepted : List Message) (done : List (Message × Fate)) (m : Message) (ms : List Message)
    → Stands c h blocks accepted (record { done = done; rest = m ∷ ms; count = 0 })
    → filter (waits c) (sendings_from c blocks [] accepted) ≡ sending_of c (map message_of done) m 0 ∷ filter (waits c) (sendings_from c blocks (map message_of done ++ m ∷ []) ms)
waiting-fresh c h blocks accepted done m ms t =
    let fresh : IsFresh c (sending_of c (map message_of done) m 0) = record { none = refl; can = t.can_go.0.can }
    in rw (
      sendings-split c h blocks accepted done m ms 0 t,
      filter-append (waits c) (settled_ones c blocks done) (sending_of c (map message_of done) m 0 ∷ sendings_from c blocks (map message_of done ++ m ∷ []) ms),
      none-wait c h (settled_ones c blocks done) (ones-done c h blocks accepted (record { done = done; rest = m ∷ ms; count = 0 }) t),
      goods-wait (link_address c m.link) m.bytes 0 (count-some m.bytes),
    )

-- a host stands so while no frame is put on its links
pub host-stands : (c : Parts) (h : ℕ) (blocks : Link → List (List Sign)) (accepted : List Message) (heard : Link → List Heard) (signs : Link → List Sign) (s : HostState)
    → ((l : Link) → blocks l ≡ blocks_of (signs l)) → HostIs c h accepted heard signs s → Stands c h blocks accepted s
host-stands c h blocks accepted heard signs s e t = record {
  accepted_is = t.accepted_is;
  are_done = t.are_done;
  can_go = t.can_go;
  links = record { at = λ l i. rw (e l) (track-blocks (ear_on c l) (signs l) (on_link c l s.done) (part c s.rest s.count l) (t.links l i).track) };
  more = λ l x i p.
      let busy : LinkIs (ear_on c l) (heard l) (signs l) (on_link c l s.done) (Some x)
      = subst (λ (o : Option (Addressed × ℕ)). LinkIs (ear_on c l) (heard l) (signs l) (on_link c l s.done) o) p (t.links l i)
      in busy.track.more;
}

-- the frame that comes next
pub next-begun : (c : Parts) (h : ℕ) (blocks : Link → List (List Sign)) (accepted : List Message) (done : List (Message × Fate)) (m : Message) (ms : List Message) (j : ℕ) (rest : List ℕ)
    → Stands c h blocks accepted (record { done = done; rest = m ∷ ms; count = suc j })
    → option_map_or (λ s. frame_at c s (length (block_frames s.block))) (find (is_begun c) (sendings_from c blocks [] accepted)) rest ≡ frame (link_address c m.link) m.bytes (suc j)
next-begun c h blocks accepted done m ms j rest t =
    rw (begun-first c h blocks accepted done m ms j t, goods-frames (first_frames (link_address c m.link) m.bytes (suc j)), length-first (link_address c m.link) m.bytes (suc j))
