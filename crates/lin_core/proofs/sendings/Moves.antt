-- How the messages of a host go on by what its links have more.
use Rattle.std.proofs.Common.{◌≡◌, ℕ, zero, suc, ◌<◌, Bool, true, false, List, [], ◌∷◌, ◌++◌, length, map, refl, ap, sym, ◌∙◌, subst, arith, inl, inr, append_assoc}
use Rattle.std.specs.Prelude.{Option, Some, None, ◌&&◌, ◌==◌, if◌then◌else◌}
use Rattle.std.proofs.lemmas.Bool.Decides.{eqb_tells, nat_tests}
use Rattle.std.proofs.lemmas.List.{append-nil, map-append}
use Rattle.lin_transport.specs.Law.{Addressed, IsFor}
use Rattle.lin_transport.specs.Transport.{frame, frame_count, functional, Ear, Heard}
use Rattle.lin_transport.specs.Transport.Heard.{Frame, Reset}
use Rattle.lin_parts.specs.declared.parts.Parts.{Parts}
use Rattle.lin_core.specs.Links.{Link, same_dir, same_link, Message, Sign, Fate, link_address, ear_on, goes_over, home, host_of, is_down, is_to_all, reaches}
use Rattle.lin_core.specs.Links.Sign.{Mark}
use Rattle.lin_core.specs.Links.Fate.{Sent, Lost}
use Rattle.lin_core.specs.declared.link.Cause.{Cause}
use Rattle.lin_core.specs.declared.link.Cause.TheVariants.{Damaged}
use Rattle.lin_core.specs.declared.link.Direction.{Direction}
use Rattle.lin_core.specs.declared.link.Direction.TheVariants.{Down, Up}
use Rattle.lin_transport.proofs.Frames.{count-some, and-false}
use Rattle.lin_core.proofs.links.Fates.{good_sign, hurt_sign, or-true}
use Rattle.lin_core.proofs.links.Tracks.{idle-mark, busy-mark, idle-hurt, busy-hurt, idle-whole, idle-part, busy-part, busy-whole}
use Rattle.lin_core.proofs.sendings.Hosts.{HostState, HostIs, LinkIs, IsLink, IsCount, IsDone, AllDone, CanGo, AllCanGo, addressed, on, on_link, on-append, message_of, part, part-there, same-self}

abbrev pub record_of : ℕ → Direction → Link
record_of a d = record { node = a; dir = d }

-- the first message's part in a link: nothing where it goes over another or was not begun
abbrev pub busy_if : Bool → Addressed → ℕ → Option (Addressed × ℕ)
busy_if b m zero = None
busy_if b m (suc j) = if b then Some (m, j) else None

pub link-last : (e : Ear) (heard : List Heard) (signs : List Sign) (ps : List (Addressed × Fate)) (m : Addressed) (k : ℕ) → IsFor e m → suc k ≡ frame_count (length m.bytes)
    → LinkIs e heard signs ps (busy_if true m k) → LinkIs e (Frame (frame m.nad m.bytes k) ∷ heard) (good_sign (frame m.nad m.bytes k) ∷ signs) (ps ++ (m, Sent) ∷ []) None
link-last e heard signs ps m zero can last t = record { heard_is = ap (λ (x : List Heard). Frame (frame m.nad m.bytes 0) ∷ x) t.heard_is; track = idle-whole e signs ps m can (sym last) t.track }
link-last e heard signs ps m (suc j) can last t = record { heard_is = ap (λ (x : List Heard). Frame (frame m.nad m.bytes (suc j)) ∷ x) t.heard_is; track = busy-whole e signs ps m j (sym last) t.track }

pub link-more : (e : Ear) (heard : List Heard) (signs : List Sign) (ps : List (Addressed × Fate)) (m : Addressed) (k : ℕ) → IsFor e m → suc k < frame_count (length m.bytes)
    → LinkIs e heard signs ps (busy_if true m k) → LinkIs e (Frame (frame m.nad m.bytes k) ∷ heard) (good_sign (frame m.nad m.bytes k) ∷ signs) ps (Some (m, k))
link-more e heard signs ps m zero can more t = record { heard_is = ap (λ (x : List Heard). Frame (frame m.nad m.bytes 0) ∷ x) t.heard_is; track = idle-part e signs ps m can more t.track }
link-more e heard signs ps m (suc j) can more t = record { heard_is = ap (λ (x : List Heard). Frame (frame m.nad m.bytes (suc j)) ∷ x) t.heard_is; track = busy-part e signs ps m j more t.track }

pub link-hurt : (e : Ear) (heard : List Heard) (signs : List Sign) (ps : List (Addressed × Fate)) (m : Addressed) (k : ℕ) → IsFor e m
    → LinkIs e heard signs ps (busy_if true m k) → LinkIs e heard (hurt_sign (frame m.nad m.bytes k) ∷ signs) (ps ++ (m, Lost Damaged) ∷ []) None
link-hurt e heard signs ps m zero can t = record { heard_is = t.heard_is; track = idle-hurt e signs ps m can t.track }
link-hurt e heard signs ps m (suc j) can t = record { heard_is = t.heard_is; track = busy-hurt e signs ps m j t.track }

-- the messages after a mark
abbrev pub cut_by : Cause → List (Addressed × Fate) → Option (Addressed × ℕ) → List (Addressed × Fate)
cut_by c ps None = ps
cut_by c ps (Some x) = ps ++ (x.0, Lost c) ∷ []

pub link-mark : (e : Ear) (heard : List Heard) (signs : List Sign) (ps : List (Addressed × Fate)) (o : Option (Addressed × ℕ)) (c : Cause)
    → LinkIs e heard signs ps o → LinkIs e (Reset ∷ heard) (Mark c ∷ signs) (cut_by c ps o) None
link-mark e heard signs ps None c t = record { heard_is = ap (λ (x : List Heard). Reset ∷ x) t.heard_is; track = idle-mark e signs ps c t.track }
link-mark e heard signs ps (Some x) c t = record { heard_is = ap (λ (x : List Heard). Reset ∷ x) t.heard_is; track = busy-mark e signs ps x.0 x.1 c t.track }

-- equal links
pub same-by : (a b : ℕ) (d e : Direction) → (a == b && same_dir d e) ≡ true → record_of a d ≡ record_of b e
same-by a b Down Down h = elim (eqb_tells a b) [ inl same ↦ ap (λ x. record_of x Down) same.1 | inr other ↦ absurd (let bad : (false && true) ≡ true = rw other.0 at h in cc) ]
same-by a b Up Up h = elim (eqb_tells a b) [ inl same ↦ ap (λ x. record_of x Up) same.1 | inr other ↦ absurd (let bad : (false && true) ≡ true = rw other.0 at h in cc) ]
same-by a b Down Up h = absurd (let bad : false ≡ true = rw and-false at h in cc)
same-by a b Up Down h = absurd (let bad : false ≡ true = rw and-false at h in cc)

pub same-is : (a b : Link) → same_link a b ≡ true → a ≡ b
same-is a b h = same-by a.node b.node a.dir b.dir h

-- what goes to one responder or up goes over its own link alone
no-reach : (d : Direction) → reaches d false ≡ false
no-reach Down = refl
no-reach Up = refl

pub over-one : (to l : Link) → is_to_all to ≡ false → goes_over to l ≡ same_link to l
over-one to l one = rw (one, no-reach l.dir)

pub over-self : (l : Link) → goes_over l l ≡ true
over-self l = rw (same-self l) (or-true (reaches l.dir (is_to_all l)))

pub over-is : (to l : Link) → is_to_all to ≡ false → goes_over to l ≡ true → to ≡ l
over-is to l one over = same-is to l (sym (over-one to l one) ∙ over)

-- what goes to all responders goes over each link down
pub to-all-is : (node : ℕ) (dir : Direction) → is_to_all (record_of node dir) ≡ true → record_of node dir ≡ record_of functional Down
to-all-is node Down e = let same : node ≡ functional = grind (arith, nat_tests, e) in ap (λ (n : ℕ). record_of n Down) same
to-all-is node Up e = cc

pub over-all : (node : ℕ) (dir : Direction) → goes_over (record_of functional Down) (record_of node dir) ≡ is_down dir
over-all node Down = refl
over-all node Up = and-false (functional == node)

-- a place and the links over which what goes there goes have one host
all-host : (a b : ℕ) (d e : Direction) → is_to_all (record_of a d) ≡ true → goes_over (record_of a d) (record_of b e) ≡ true → host_of (record_of a d) ≡ host_of (record_of b e)
all-host a b Down Down all over = refl
all-host a b Down Up all over = absurd (let bad : false ≡ true = sym (and-false (a == b)) ∙ over in cc)
all-host a b Up e all over = cc

over-host-by : (to l : Link) (b : Bool) → is_to_all to ≡ b → goes_over to l ≡ true → host_of to ≡ host_of l
over-host-by to l true all over = all-host to.node l.node to.dir l.dir all over
over-host-by to l false one over = ap host_of (over-is to l one over)

pub over-host : (to l : Link) → goes_over to l ≡ true → host_of to ≡ host_of l
over-host to l over = over-host-by to l (is_to_all to) refl over

-- one more settled message, on a link that it goes over and on another
pub on-more : (c : Parts) (l : Link) (ps : List (Message × Fate)) (m : Message) (f : Fate) (b : Bool) → on l m ≡ b → on_link c l (ps ++ (m, f) ∷ []) ≡ on_link c l ps ++ (if b then (addressed c m, f) ∷ [] else [])
on-more c l ps m f true e = on-append c l ps ((m, f) ∷ []) ∙ rw e
on-more c l ps m f false e = on-append c l ps ((m, f) ∷ []) ∙ rw e

pub done-more : (c : Parts) (h : ℕ) (ps : List (Message × Fate)) (p : Message × Fate) → AllDone c h ps → IsDone c h p → AllDone c h (ps ++ p ∷ [])
done-more c h [] p d i = (i, tt)
done-more c h (q ∷ ps) p d i = (d.0, done-more c h ps p d.1 i)

pub accepted-more : (done : List (Message × Fate)) (m : Message) (f : Fate) (ms : List Message) → map message_of done ++ m ∷ ms ≡ map message_of (done ++ (m, f) ∷ []) ++ ms
accepted-more done m f ms = rw (map-append message_of done ((m, f) ∷ []), append_assoc (map message_of done) (m ∷ []) ms)

-- a host after its next frame: whether it was damaged, whether it was the last
abbrev pub advanced : Bool → Bool → List (Message × Fate) → Message → List Message → ℕ → HostState
advanced true last done m ms k = record { done = done ++ (m, Lost Damaged) ∷ []; rest = ms; count = 0 }
advanced false true done m ms k = record { done = done ++ (m, Sent) ∷ []; rest = ms; count = 0 }
advanced false false done m ms k = record { done = done; rest = m ∷ ms; count = suc k }

abbrev pub sign_by : Bool → List ℕ → Sign
sign_by hurt f = if hurt then hurt_sign f else good_sign f

abbrev pub heard_by : Bool → List ℕ → List Heard
heard_by hurt f = if hurt then [] else Frame f ∷ []

-- what the frame leaves on a link
pub record Puts (b hurt : Bool) (f : List ℕ) (heard heard' : List Heard) (signs signs' : List Sign) : Type 0 where
  pub heard_is : heard' ≡ (if b then heard_by hurt f else []) ++ heard
  pub signs_is : signs' ≡ (if b then sign_by hurt f ∷ [] else []) ++ signs

abbrev pub is_last : List ℕ → ℕ → Bool
is_last m k = suc k == frame_count (length m)

pub part-busy : (c : Parts) (m : Message) (ms : List Message) (k : ℕ) (l : Link) (b : Bool) → on l m ≡ b → part c (m ∷ ms) k l ≡ busy_if b (addressed c m) k
part-busy c m ms zero l b e = refl
part-busy c m ms (suc j) l b e = rw e

-- how many frames were good so far
pub count-less : (c : Parts) (h : ℕ) (accepted : List Message) (heard : Link → List Heard) (signs : Link → List Sign) (done : List (Message × Fate)) (m : Message) (ms : List Message) (k : ℕ)
    → HostIs c h accepted heard signs (record { done = done; rest = m ∷ ms; count = k }) → k < frame_count (length m.bytes)
count-less c h accepted heard signs done m ms zero t = count-some m.bytes
count-less c h accepted heard signs done m ms (suc j) t =
    let l : Link = home c m.link
    in let busy : LinkIs (ear_on c l) (heard l) (signs l) (on_link c l done) (Some (addressed c m, j))
    = subst (λ (o : Option (Addressed × ℕ)). LinkIs (ear_on c l) (heard l) (signs l) (on_link c l done) o) (part-there c m ms j l t.can_go.0.over) (t.links l t.can_go.0.home_is)
    in busy.track.more

-- a link that the message does not go over
pub idle-if : (e : Ear) (heard : List Heard) (signs : List Sign) (ps : List (Addressed × Fate)) (m : Addressed) (k : ℕ) → LinkIs e heard signs ps (busy_if false m k) → LinkIs e heard signs ps None
idle-if e heard signs ps m zero t = t
idle-if e heard signs ps m (suc j) t = t

-- one link after the frame
pub link-put : (c : Parts) (ear : Ear) (heard heard' : List Heard) (signs signs' : List Sign) (done : List (Message × Fate)) (m : Message) (ms : List Message) (k : ℕ) (l : Link) (b hurt last : Bool)
    → (on l m ≡ true → IsFor ear (addressed c m)) → k < frame_count (length m.bytes) → on l m ≡ b → is_last m.bytes k ≡ last → Puts b hurt (frame (link_address c m.link) m.bytes k) heard heard' signs signs'
    → LinkIs ear heard signs (on_link c l done) (busy_if b (addressed c m) k)
    → LinkIs ear heard' signs' (on_link c l (advanced hurt last done m ms k).done) (part c (advanced hurt last done m ms k).rest (advanced hurt last done m ms k).count l)
link-put c ear heard heard' signs signs' done m ms k l true true last meant less e x p t = rw (p.heard_is, p.signs_is, on-more c l done m (Lost Damaged) true e) (link-hurt ear heard signs (on_link c l done) (addressed c m) k (meant e) t)
link-put c ear heard heard' signs signs' done m ms k l true false true meant less e x p t = rw (p.heard_is, p.signs_is, on-more c l done m Sent true e) (link-last ear heard signs (on_link c l done) (addressed c m) k (meant e) (grind (arith, nat_tests, x)) t)
link-put c ear heard heard' signs signs' done m ms k l true false false meant less e x p t =
    let more : suc k < frame_count (length m.bytes) = grind (arith, nat_tests, x)
    in rw (p.heard_is, p.signs_is, e) (link-more ear heard signs (on_link c l done) (addressed c m) k (meant e) more t)
link-put c ear heard heard' signs signs' done m ms k l false true last meant less e x p t = rw (p.heard_is, p.signs_is, on-more c l done m (Lost Damaged) false e, append-nil (on_link c l done)) (idle-if ear heard signs (on_link c l done) (addressed c m) k t)
link-put c ear heard heard' signs signs' done m ms k l false false true meant less e x p t = rw (p.heard_is, p.signs_is, on-more c l done m Sent false e, append-nil (on_link c l done)) (idle-if ear heard signs (on_link c l done) (addressed c m) k t)
link-put c ear heard heard' signs signs' done m ms k l false false false meant less e x p t = rw (p.heard_is, p.signs_is, e) (idle-if ear heard signs (on_link c l done) (addressed c m) k t)

pub advanced-accepted : (hurt last : Bool) (done : List (Message × Fate)) (m : Message) (ms : List Message) (k : ℕ)
    → map message_of done ++ m ∷ ms ≡ map message_of (advanced hurt last done m ms k).done ++ (advanced hurt last done m ms k).rest
advanced-accepted true last done m ms k = accepted-more done m (Lost Damaged) ms
advanced-accepted false true done m ms k = accepted-more done m Sent ms
advanced-accepted false false done m ms k = refl

pub advanced-done : (c : Parts) (h : ℕ) (hurt last : Bool) (done : List (Message × Fate)) (m : Message) (ms : List Message) (k : ℕ)
    → AllDone c h done → CanGo c h m → AllDone c h (advanced hurt last done m ms k).done
advanced-done c h true last done m ms k d g = done-more c h done (m, Lost Damaged) d (record { go = g; settled = refl })
advanced-done c h false true done m ms k d g = done-more c h done (m, Sent) d (record { go = g; settled = refl })
advanced-done c h false false done m ms k d g = d

pub advanced-go : (c : Parts) (h : ℕ) (hurt last : Bool) (done : List (Message × Fate)) (m : Message) (ms : List Message) (k : ℕ)
    → AllCanGo c h (m ∷ ms) → AllCanGo c h (advanced hurt last done m ms k).rest
advanced-go c h true last done m ms k g = g.1
advanced-go c h false true done m ms k g = g.1
advanced-go c h false false done m ms k g = g

pub advanced-counts : (c : Parts) (h : ℕ) (hurt last : Bool) (done : List (Message × Fate)) (m : Message) (ms : List Message) (k : ℕ) → CanGo c h m → k < frame_count (length m.bytes) → is_last m.bytes k ≡ last
    → IsCount (advanced hurt last done m ms k).rest (advanced hurt last done m ms k).count
advanced-counts c h true last done m ms k g less x = tt
advanced-counts c h false true done m ms k g less x = tt
advanced-counts c h false false done m ms k g less x = let more : suc k < frame_count (length m.bytes) = grind (arith, nat_tests, x) in g.several (omega arith)

-- a host whose next frame was put and seen
pub host-put : (c : Parts) (h : ℕ) (accepted : List Message) (heard heard' : Link → List Heard) (signs signs' : Link → List Sign) (done : List (Message × Fate)) (m : Message) (ms : List Message) (k : ℕ) (hurt : Bool)
    → HostIs c h accepted heard signs (record { done = done; rest = m ∷ ms; count = k })
    → ((l : Link) → IsLink c h l → Puts (on l m) hurt (frame (link_address c m.link) m.bytes k) (heard l) (heard' l) (signs l) (signs' l))
    → HostIs c h accepted heard' signs' (advanced hurt (is_last m.bytes k) done m ms k)
host-put c h accepted heard heard' signs signs' done m ms k hurt t p = record {
  accepted_is = t.accepted_is ∙ advanced-accepted hurt (is_last m.bytes k) done m ms k;
  are_done = advanced-done c h hurt (is_last m.bytes k) done m ms k t.are_done t.can_go.0;
  can_go = advanced-go c h hurt (is_last m.bytes k) done m ms k t.can_go;
  counts = advanced-counts c h hurt (is_last m.bytes k) done m ms k t.can_go.0 (count-less c h accepted heard signs done m ms k t) refl;
  links = λ l i. link-put c (ear_on c l) (heard l) (heard' l) (signs l) (signs' l) done m ms k l (on l m) hurt (is_last m.bytes k) (t.can_go.0.meant l i) (count-less c h accepted heard signs done m ms k t) refl refl
      (p l i)
      (subst (λ (o : Option (Addressed × ℕ)). LinkIs (ear_on c l) (heard l) (signs l) (on_link c l done) o) (part-busy c m ms k l (on l m) refl) (t.links l i));
}

-- a host whose links have nothing more
pub host-same : (c : Parts) (h : ℕ) (accepted : List Message) (heard heard' : Link → List Heard) (signs signs' : Link → List Sign) (s : HostState)
    → HostIs c h accepted heard signs s → ((l : Link) → IsLink c h l → (heard' l ≡ heard l) × (signs' l ≡ signs l)) → HostIs c h accepted heard' signs' s
host-same c h accepted heard heard' signs signs' s t e = record {
  accepted_is = t.accepted_is;
  are_done = t.are_done;
  can_go = t.can_go;
  counts = t.counts;
  links = λ l i. rw ((e l i).0, (e l i).1) (t.links l i);
}

-- a host after a mark on those of its links that pass a test
abbrev pub marked : (Link → Bool) → Cause → List (Message × Fate) → List Message → ℕ → HostState
marked t c done rest zero = record { done = done; rest = rest; count = 0 }
marked t c done [] (suc j) = record { done = done; rest = []; count = suc j }
marked t c done (m ∷ ms) (suc j) = if t m.link then record { done = done ++ (m, Lost c) ∷ []; rest = ms; count = 0 } else record { done = done; rest = m ∷ ms; count = suc j }

pub record Marks (b : Bool) (c : Cause) (heard heard' : List Heard) (signs signs' : List Sign) : Type 0 where
  pub heard_is : heard' ≡ (if b then Reset ∷ [] else []) ++ heard
  pub signs_is : signs' ≡ (if b then Mark c ∷ [] else []) ++ signs

pub link-maybe : (e : Ear) (b : Bool) (c : Cause) (heard heard' : List Heard) (signs signs' : List Sign) (ps : List (Addressed × Fate)) → Marks b c heard heard' signs signs' → LinkIs e heard signs ps None → LinkIs e heard' signs' ps None
link-maybe e true c heard heard' signs signs' ps p t = rw (p.heard_is, p.signs_is) (link-mark e heard signs ps None c t)
link-maybe e false c heard heard' signs signs' ps p t = rw (p.heard_is, p.signs_is) t

-- where the first message is cut
pub link-cut : (c : Parts) (t : Link → Bool) (cause : Cause) (done : List (Message × Fate)) (m : Message) (j : ℕ) (l : Link) (q : Bool) (heard heard' : List Heard) (signs signs' : List Sign)
    → is_to_all m.link ≡ false → t m.link ≡ true → on l m ≡ q → Marks (t l) cause heard heard' signs signs' → LinkIs (ear_on c l) heard signs (on_link c l done) (busy_if q (addressed c m) (suc j))
    → LinkIs (ear_on c l) heard' signs' (on_link c l (done ++ (m, Lost cause) ∷ [])) None
link-cut c t cause done m j l true heard heard' signs signs' one e same p i =
    let there : t l ≡ true = ap t (sym (over-is m.link l one same)) ∙ e
    in let p' : Marks true cause heard heard' signs signs' = subst (λ (b : Bool). Marks b cause heard heard' signs signs') there p
    in rw (on-more c l done m (Lost cause) true same, p'.heard_is, p'.signs_is) (link-mark (ear_on c l) heard signs (on_link c l done) (Some (addressed c m, j)) cause i)
link-cut c t cause done m j l false heard heard' signs signs' one e same p i =
    rw (on-more c l done m (Lost cause) false same, append-nil (on_link c l done)) (link-maybe (ear_on c l) (t l) cause heard heard' signs signs' (on_link c l done) p i)

-- and where it is not
pub link-uncut : (c : Parts) (t : Link → Bool) (cause : Cause) (done : List (Message × Fate)) (m : Message) (j : ℕ) (l : Link) (q : Bool) (heard heard' : List Heard) (signs signs' : List Sign)
    → is_to_all m.link ≡ false → t m.link ≡ false → on l m ≡ q → Marks (t l) cause heard heard' signs signs' → LinkIs (ear_on c l) heard signs (on_link c l done) (busy_if q (addressed c m) (suc j))
    → LinkIs (ear_on c l) heard' signs' (on_link c l done) (busy_if q (addressed c m) (suc j))
link-uncut c t cause done m j l true heard heard' signs signs' one e same p i =
    let there : t l ≡ false = ap t (sym (over-is m.link l one same)) ∙ e
    in let p' : Marks false cause heard heard' signs signs' = subst (λ (b : Bool). Marks b cause heard heard' signs signs') there p
    in rw (p'.heard_is, p'.signs_is) i
link-uncut c t cause done m j l false heard heard' signs signs' one e same p i = link-maybe (ear_on c l) (t l) cause heard heard' signs signs' (on_link c l done) p i

pub host-cut : (c : Parts) (h : ℕ) (accepted : List Message) (heard heard' : Link → List Heard) (signs signs' : Link → List Sign) (done : List (Message × Fate)) (m : Message) (ms : List Message) (j : ℕ) (t : Link → Bool) (cause : Cause) (b : Bool)
    → t m.link ≡ b → HostIs c h accepted heard signs (record { done = done; rest = m ∷ ms; count = suc j })
    → ((l : Link) → IsLink c h l → Marks (t l) cause (heard l) (heard' l) (signs l) (signs' l))
    → HostIs c h accepted heard' signs' (if b then record { done = done ++ (m, Lost cause) ∷ []; rest = ms; count = 0 } else record { done = done; rest = m ∷ ms; count = suc j })
host-cut c h accepted heard heard' signs signs' done m ms j t cause true e i p = record {
  accepted_is = i.accepted_is ∙ accepted-more done m (Lost cause) ms;
  are_done = done-more c h done (m, Lost cause) i.are_done (record { go = i.can_go.0; settled = refl });
  can_go = i.can_go.1;
  counts = tt;
  links = λ l a. link-cut c t cause done m j l (on l m) (heard l) (heard' l) (signs l) (signs' l) i.counts e refl (p l a) (i.links l a);
}
host-cut c h accepted heard heard' signs signs' done m ms j t cause false e i p = record {
  accepted_is = i.accepted_is;
  are_done = i.are_done;
  can_go = i.can_go;
  counts = i.counts;
  links = λ l a. link-uncut c t cause done m j l (on l m) (heard l) (heard' l) (signs l) (signs' l) i.counts e refl (p l a) (i.links l a);
}

pub host-mark : (c : Parts) (h : ℕ) (accepted : List Message) (heard heard' : Link → List Heard) (signs signs' : Link → List Sign) (done : List (Message × Fate)) (rest : List Message) (k : ℕ) (t : Link → Bool) (cause : Cause)
    → HostIs c h accepted heard signs (record { done = done; rest = rest; count = k })
    → ((l : Link) → IsLink c h l → Marks (t l) cause (heard l) (heard' l) (signs l) (signs' l))
    → HostIs c h accepted heard' signs' (marked t cause done rest k)
host-mark c h accepted heard heard' signs signs' done rest zero t cause i p = record {
  accepted_is = i.accepted_is;
  are_done = i.are_done;
  can_go = i.can_go;
  counts = i.counts;
  links = λ l a. link-maybe (ear_on c l) (t l) cause (heard l) (heard' l) (signs l) (signs' l) (on_link c l done) (p l a) (i.links l a);
}
host-mark c h accepted heard heard' signs signs' done [] (suc j) t cause i p = record {
  accepted_is = i.accepted_is;
  are_done = i.are_done;
  can_go = i.can_go;
  counts = i.counts;
  links = λ l a. link-maybe (ear_on c l) (t l) cause (heard l) (heard' l) (signs l) (signs' l) (on_link c l done) (p l a) (i.links l a);
}
host-mark c h accepted heard heard' signs signs' done (m ∷ ms) (suc j) t cause i p = host-cut c h accepted heard heard' signs signs' done m ms j t cause (t m.link) refl i p
