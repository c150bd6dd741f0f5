-- What follows for each link: which messages were read, and which blocks there are.
use Rattle.std.proofs.Common.{◌≡◌, ℕ, suc, ◌≤◌, Bool, true, false, List, [], ◌∷◌, ◌++◌, length, map, refl, ap, ◌∙◌, arith}
use Rattle.std.specs.Prelude.{⊤, Option, Some, None, cond, ◌&&◌, if◌then◌else◌, filter, slice_index_or}
use Rattle.std.proofs.lemmas.List.{append-nil, map-append, length-append}
use Rattle.std.proofs.lemmas.List.Elements.{filter-append}
use Rattle.lin_transport.specs.Law.{Addressed}
use Rattle.lin_transport.specs.Transport.{frames, messages_to, Ear, Heard, first_frames}
use Rattle.lin_transport.proofs.Ears.{to-none}
use Rattle.lin_transport.proofs.Pieces.{reads-nothing}
use Rattle.lin_parts.specs.declared.parts.Parts.{Parts}
use Rattle.lin_core.specs.Links.{Link, Message, Sign, Fate, fate, block_frames, Sending, link_address, frames_to, home, sendings_from}
use Rattle.lin_core.specs.Links.Fate.{Waiting, Sent, Lost}
use Rattle.lin_core.specs.Law.{is_sent, is_sent_over, IsPrefix, InOrder}
use Rattle.lin_transport.proofs.Frames.{and-false, count-some}
use Rattle.lin_core.proofs.links.Fates.{goods-wait}
use Rattle.lin_core.proofs.links.Tracks.{AreSettled, sent_of}
use Rattle.lin_core.proofs.sendings.Hosts.{LinkIs, AllCanGo, AllDone, on, on_link, outcome_on, message_of, OnLinks, outcome, settled_ones, settled-length, done-outcomes, sendings-append, AllFresh, AreFew, all-fresh, count-on, block-after}

-- the blocks of the messages that wait: at most one, of the first of them
abbrev pub tails_with : List Sign → List Message → Link → List (List Sign)
tails_with b [] l = []
tails_with [] (m ∷ ms) l = []
tails_with (s ∷ b) (m ∷ ms) l = if on l m then (s ∷ b) ∷ [] else []

-- the first message waits with this block
pub record IsPart (c : Parts) (b : List Sign) (m : Message) : Type 0 where
  pub waiting : fate (frames_to c m) b ≡ Waiting
  pub begins : IsPrefix (block_frames b) (frames_to c m)

abbrev pub Waits : Parts → List Sign → List Message → Type 0
Waits c b [] = ⊤
Waits c b (m ∷ ms) = IsPart c b m

pub record Holds (c : Parts) (h : ℕ) (blocks : Link → List (List Sign)) (accepted : List Message) (done : List (Message × Fate)) (rest : List Message) (b : List Sign) : Type 0 where
  pub accepted_is : accepted ≡ map message_of done ++ rest
  pub are_done : AllDone c h done
  pub can_go : AllCanGo c h rest
  pub links : OnLinks c h blocks (tails_with b rest) done
  pub waits : Waits c b rest

abbrev pub waiting_one : Message → Message × Fate
waiting_one m = (m, Waiting)

pub tail-first : (b : List Sign) (m : Message) (ms : List Message) (l : Link) → on l m ≡ true → slice_index_or (tails_with b (m ∷ ms) l) 0 [] ≡ b
tail-first [] m ms l over = refl
tail-first (s ∷ b) m ms l over = rw over

pub tail-count : (q : Bool) (s : Sign) (b : List Sign) (m : Message) → length (if q then (s ∷ b) ∷ [] else []) ≤ length (cond q (m ∷ []) [])
tail-count true s b m = omega arith
tail-count false s b m = omega arith

pub tails-few : (b : List Sign) (m : Message) (ms : List Message) (l : Link) → length (tails_with b (m ∷ ms) l) ≤ length (filter (on l) (m ∷ []))
tails-few [] m ms l = omega arith
tails-few (s ∷ b) m ms l = tail-count (on l m) s b m

pub few-held : (c : Parts) (h : ℕ) (blocks : Link → List (List Sign)) (done : List (Message × Fate)) (m : Message) (ms : List Message) (b : List Sign)
    → OnLinks c h blocks (tails_with b (m ∷ ms)) done → AreFew c h blocks (map message_of done ++ m ∷ [])
few-held c h blocks done m ms b o = record {
  at = λ l i.
      let hb = o.at l i
      in let t = tails-few b m ms l
      in let e = settled-length (on_link c l done) hb.front hb.settled
      in let x = count-on c l done
      in rw (hb.is, filter-append (on l) (map message_of done) (m ∷ []), length-append, length-append) (omega arith);
}

pub fresh-outcomes : (c : Parts) (blocks : Link → List (List Sign)) (before ms : List Message) → AllFresh c (sendings_from c blocks before ms) → map (outcome c) (sendings_from c blocks before ms) ≡ map waiting_one ms
fresh-outcomes c blocks before [] f = refl
fresh-outcomes c blocks before (m ∷ ms) f =
    rw (f.0.none, goods-wait (link_address c m.link) m.bytes 0 (count-some m.bytes)) (ap (λ (xs : List (Message × Fate)). waiting_one m ∷ xs) (fresh-outcomes c blocks (before ++ m ∷ []) ms f.1))

pub rest-outcomes : (c : Parts) (h : ℕ) (blocks : Link → List (List Sign)) (accepted : List Message) (done : List (Message × Fate)) (rest : List Message) (b : List Sign)
    → Holds c h blocks accepted done rest b → map (outcome c) (sendings_from c blocks (map message_of done) rest) ≡ map waiting_one rest
rest-outcomes c h blocks accepted done [] b t = refl
rest-outcomes c h blocks accepted done (m ∷ ms) b t =
    let l : Link = home c m.link
    in let e : slice_index_or (blocks l) (length (filter (on l) (map message_of done))) [] ≡ b
    = block-after c h blocks (tails_with b (m ∷ ms)) done l t.links t.can_go.0.home_is ∙ tail-first b m ms l t.can_go.0.over
    in let later = fresh-outcomes c blocks (map message_of done ++ m ∷ []) ms (all-fresh c h blocks (map message_of done ++ m ∷ []) ms (few-held c h blocks done m ms b t.links) t.can_go.1)
    in rw (e, t.waits.waiting) (ap (λ (xs : List (Message × Fate)). waiting_one m ∷ xs) later)

-- the fates of all messages of a host
pub outcomes : (c : Parts) (h : ℕ) (blocks : Link → List (List Sign)) (accepted : List Message) (done : List (Message × Fate)) (rest : List Message) (b : List Sign)
    → Holds c h blocks accepted done rest b → map (outcome c) (sendings_from c blocks [] accepted) ≡ done ++ map waiting_one rest
outcomes c h blocks accepted done rest b t =
    rw (
      t.accepted_is,
      sendings-append c blocks [] (map message_of done) rest,
      map-append (outcome c) (settled_ones c blocks done) (sendings_from c blocks (map message_of done) rest),
      done-outcomes c h blocks (tails_with b rest) [] done t.links t.are_done,
      rest-outcomes c h blocks accepted done rest b t,
    )

-- the messages that went over a link and were sent
abbrev pub went : Link → Message × Fate → Bool
went l p = on l p.0 && is_sent p.1

abbrev pub bytes_of : Message × Fate → List ℕ
bytes_of p = p.0.bytes

pub went-if : (c : Parts) (q : Bool) (x : Sending) (xs : List Sending) (ys : List (Message × Fate)) → map (λ (s : Sending). s.message.bytes) xs ≡ map bytes_of ys
    → map (λ (s : Sending). s.message.bytes) (cond q (x ∷ xs) xs) ≡ map bytes_of (cond q (outcome c x ∷ ys) ys)
went-if c true x xs ys e = ap (λ (zs : List (List ℕ)). x.message.bytes ∷ zs) e
went-if c false x xs ys e = e

pub went-outcomes : (c : Parts) (l : Link) (xs : List Sending) → map (λ (s : Sending). s.message.bytes) (filter (is_sent_over c l) xs) ≡ map bytes_of (filter (went l) (map (outcome c) xs))
went-outcomes c l [] = refl
went-outcomes c l (x ∷ xs) = went-if c (is_sent_over c l x) x (filter (is_sent_over c l) xs) (filter (went l) (map (outcome c) xs)) (went-outcomes c l xs)

pub went-waiting : (l : Link) (ms : List Message) → filter (went l) (map waiting_one ms) ≡ []
went-waiting l [] = refl
went-waiting l (m ∷ ms) = rw (and-false (on l m)) (went-waiting l ms)

pub went-done-by : (c : Parts) (l : Link) (q : Bool) (m : Message) (f : Fate) (ps : List (Message × Fate)) → map bytes_of (filter (went l) ps) ≡ sent_of (on_link c l ps)
    → map bytes_of (cond (q && is_sent f) ((m, f) ∷ filter (went l) ps) (filter (went l) ps)) ≡ sent_of (map (outcome_on c) (cond q ((m, f) ∷ filter (λ (p : Message × Fate). on l p.0) ps) (filter (λ (p : Message × Fate). on l p.0) ps)))
went-done-by c l false m f ps e = e
went-done-by c l true m Sent ps e = ap (λ (zs : List (List ℕ)). m.bytes ∷ zs) e
went-done-by c l true m Waiting ps e = e
went-done-by c l true m (Lost cause) ps e = e

pub went-done : (c : Parts) (l : Link) (ps : List (Message × Fate)) → map bytes_of (filter (went l) ps) ≡ sent_of (on_link c l ps)
went-done c l [] = refl
went-done c l (p ∷ ps) = went-done-by c l (on l p.0) p.0 p.1 ps (went-done c l ps)

pub sent-are : (c : Parts) (h : ℕ) (blocks : Link → List (List Sign)) (accepted : List Message) (done : List (Message × Fate)) (rest : List Message) (b : List Sign) (l : Link)
    → Holds c h blocks accepted done rest b → map (λ (s : Sending). s.message.bytes) (filter (is_sent_over c l) (sendings_from c blocks [] accepted)) ≡ sent_of (on_link c l done)
sent-are c h blocks accepted done rest b l t =
    went-outcomes c l (sendings_from c blocks [] accepted)
    ∙ ap (λ (ps : List (Message × Fate)). map bytes_of (filter (went l) ps)) (outcomes c h blocks accepted done rest b t)
    ∙ ap (map bytes_of) (filter-append (went l) done (map waiting_one rest) ∙ ap (λ (ps : List (Message × Fate)). filter (went l) done ++ ps) (went-waiting l rest) ∙ append-nil (filter (went l) done))
    ∙ went-done c l done

-- what a receiver reads
pub track-reads : (e : Ear) (heard : List Heard) (signs : List Sign) (ps : List (Addressed × Fate)) (o : Option (Addressed × ℕ)) → LinkIs e heard signs ps o → messages_to e heard ≡ sent_of ps
track-reads e heard signs ps None t = rw t.heard_is t.track.reads
track-reads e heard signs ps (Some x) t =
    rw (t.heard_is, t.track.pieces) (reads-nothing e t.track.cut (first_frames x.0.nad x.0.bytes (suc x.1)) (to-none e x.0 x.1 t.track.meant t.track.more) ∙ t.track.reads)

-- the frames of each message
abbrev pub frames_of_each : List (Addressed × Fate) → List (List (List ℕ))
frames_of_each ps = map (λ (p : Addressed × Fate). frames p.0.nad p.0.bytes) ps

-- the blocks in order
pub in-order : (ps : List (Addressed × Fate)) (front tails : List (List Sign)) (more : List (List (List ℕ))) → AreSettled ps front → InOrder more tails → InOrder (frames_of_each ps ++ more) (front ++ tails)
in-order [] [] tails more s i = i
in-order [] (b ∷ bs) tails more s i = absurd s
in-order (p ∷ ps) [] tails more s i = absurd s
in-order (p ∷ ps) (b ∷ []) [] more s i = s.0.begins
in-order (p ∷ ps) (b ∷ []) (t ∷ ts) more s i = (s.0.begins, rw s.0.fate s.0.settled, in-order ps [] (t ∷ ts) more s.1 i)
in-order (p ∷ ps) (b ∷ d ∷ bs) tails more s i = (s.0.begins, rw s.0.fate s.0.settled, in-order ps (d ∷ bs) tails more s.1 i)
