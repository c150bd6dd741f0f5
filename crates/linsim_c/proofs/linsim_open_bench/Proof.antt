-- The bytes of the settings are lent twice: those of their size, and all of them.
use Rattle.std.proofs.Common.{◌≡◌, ℕ, ◌≤◌, ◌<◌, ◌+◌, ◌*◌, ◌^◌, List, [], ◌∷◌, ◌++◌, length, take, drop as drop_list, refl, sym, ap, ◌∙◌, subst, lit<, w8, w32, w64, Bor, arith, rules, if◌then◌else◌, nat_le, ◌&&◌, take-append-drop, length-take}
use mir.Syntax.{named, impl, tnil, dnil}
use mir.Val.{Val, vint, vptr}
use base.Fraction.{full_share}
use base.Logic.{SProp, ent, sep, emp, id⊢}
use seplogic.Ra.Ura.{Ura}
use base.Fml.{Lft, Share, Fml, ftrue, feq, fsep, flft, flent, Incl-refl}
use prog.Wp.{WpFn}
use types.Logic.{Logic, sem}
use types.Kit.{rewrite, ‵, raw, ◌⊛◌, some, later, ◌$◌, ◌∵◌, !, qed, by, move, keep, drop, use0, use1, use2, split, join, pick, fsplit, fjoin, feq_i, suffices, await}
use types.Tokens.{lft_new, lft_end, lent_back}
use types.Run.{lit, addr, stop, no_more, and_then, returns, enter}
use types.Part.{agg}
use types.ByLocal.{alloc_all, pass_all, free_all, look_at, get, through, sets, lands_as}
use contract.Monad.{fact, fact_i}
use contract.Running.{tables}
use denote.Exit.{yes}
use denote.RattleType.{RattleType, owns}
use denote.Signature.{types_at, plain}
use denote.Laws.{Is, shows}
use denote.Builtin.{u8, u32, usize, SliceRefOf}
use denote.Array.{Array}
use denote.Slice.{ShrSlice, slice_val, shr_slice_Tells}
use denote.Lend.{lends_shr_slice}
use denote.Copied.{uint_Copied}
use denote.Plain.{uint_Lawful}
use denote.Ref.{MutRef, mut_vals, mut_Tells}
use denote.RawPtr.{Ptr, block_ptr, RawPtr, rawptr_vals, rawptr_Tells, lies_at, in_a_block}
use denote.RawPtr.Bytes.{bytes, bytes_cut, bytes_glue, bytes_apart, bytes_whole}
use denote.Steps.{nothing, peeks, heard, only}
use denote.Triple.Clauses.{lasts}
use denote.Triple.Entry.{alive}
use Rattle.linsim_c.specs.BenchSettings.{IsSized, number_at, read_size}
use Rattle.linsim_c.specs.Opening.{OpensBench}
use Rattle.linsim_c.specs.Statuses.{IsCall}
use denote.Triple.Call.{calls_at}
use denote.Triple.Spec.{triple_of}
use denote.Triple.Table.{framed}
use denote.Triple.Walked.{Stays, walk_of, stay_dropped, gave_ref, Goes-dropped, Goes-gave_ref}
use Rattle.std.proofs.raw_atomic.Walks.{proved_at, leaves}
use Rattle.std.proofs.alloc.Calls.{Al, handle_tells}
use Rattle.std.specs.contracts.alloc.Global as heap
use Rattle.std.proofs.alloc.Global.TheLaws as heap_laws
use Rattle.std.specs.contracts.impls.GlobalAllocator.TheImpl.{ghosts}
use Rattle.linsim_c.specs.contracts.handle.Handle.{the_row as HR}
use Rattle.linsim_c.specs.contracts.fault.Report.{the_row as RR}
use Rattle.linsim_c.specs.contracts.linsim_open_bench as f
use Rattle.linsim_c.specs.contracts.linsim_open_bench.Key.{name as #self}
use Rattle.linsim_c.proofs.linsim_open_bench.Statement.{statement}
use Rattle.linsim_c.proofs.linsim_open_bench.Code as code
use Rattle.linsim_c.specs.contracts.bench_settings.read_size as sizes
use Rattle.linsim_c.proofs.bench_settings.read_size.Met as sizes_met
use Rattle.linsim_c.specs.contracts.open_bench as opens
use Rattle.linsim_c.proofs.open_bench.Met as opens_met

-- settings have their size's bytes, and not many more
bounds : (n : ℕ) → (8 ≤ (if nat_le 8 n && nat_le n 4096 then n else 8)) × ((if nat_le 8 n && nat_le n 4096 then n else 8) ≤ 4096)
bounds n = search rules

module _ {M : Type 1} {𝓤 : Ura M} (𝓛 : Logic 𝓤) (q : Share) (xs : List ℕ) (b o : ℕ) where
  -- the bytes of the size, and those after them
  apart : ent 𝓤 (sem 𝓛 (bytes q xs b o)) (sep 𝓤 (sem 𝓛 (bytes q (take 8 xs) b o)) (sem 𝓛 (bytes q (drop_list 8 xs) b (o + length (take 8 xs)))))
  apart = subst (λ (ys : List ℕ). ent 𝓤 (sem 𝓛 (bytes q ys b o)) (sep 𝓤 (sem 𝓛 (bytes q (take 8 xs) b o)) (sem 𝓛 (bytes q (drop_list 8 xs) b (o + length (take 8 xs))))))
      (take-append-drop 8 xs) (bytes_cut 𝓛 q (take 8 xs) (drop_list 8 xs) b o)

  whole : ent 𝓤 (sep 𝓤 (sem 𝓛 (bytes q (take 8 xs) b o)) (sem 𝓛 (bytes q (drop_list 8 xs) b (o + length (take 8 xs))))) (sem 𝓛 (bytes q xs b o))
  whole = subst (λ (ys : List ℕ). ent 𝓤 (sep 𝓤 (sem 𝓛 (bytes q (take 8 xs) b o)) (sem 𝓛 (bytes q (drop_list 8 xs) b (o + length (take 8 xs))))) (sem 𝓛 (bytes q ys b o)))
      (take-append-drop 8 xs) (bytes_glue 𝓛 q (take 8 xs) (drop_list 8 xs) b o)

abbrev Z : RattleType
Z = heap.the_row

abbrev stayed : Stays f.ended.signature.params f.ended.kept
stayed = (stay_dropped _ yes, (stay_dropped _ yes, (stay_dropped _ yes, (gave_ref (1 ∷ []) tt (plain (λ _. HR)), (gave_ref (2 ∷ []) tt (plain (λ _. RR)), tt)))))

abbrev al : Al
al = record { row = Z; laws = heap_laws.the_row_laws; g = ghosts; d = impl [] tnil dnil; drops = impl [] tnil dnil }

pub linsim_open_bench_spec : {M : Type 1} → statement M
linsim_open_bench_spec 𝓤 𝓛 𝓜 𝓡 wired =
    let H = 𝓛.H in let 𝓣 = tables 𝓤 H 𝓜 𝓡 𝓡.env in let c = f.clauses 𝓛 𝓜.mem 𝓡.returns in let fn = code.function in
    proved_at 𝓛 f.ended stayed c 𝓜 𝓡 (Goes-dropped 𝓛 3 (plain (λ _. Z)) yes (λ κs x w. refl), (Goes-dropped 𝓛 3 (SliceRefOf (0 ∷ []) tt (plain (λ _. u8)) (λ _. tt)) yes (λ κs x w. refl), (Goes-dropped 𝓛 3 (plain (λ _. RawPtr)) yes (λ κs x w. refl), (Goes-gave_ref 𝓛 3 1 tt (plain (λ _. HR)), (Goes-gave_ref 𝓛 3 2 tt (plain (λ _. RR)), tt)))))
    #self fn (code.unfolded 𝓤 H 𝓜 𝓡 wired) (λ z are.
    let κs = z.0.0 in let qs = z.0.1 in let a = z.0.3 in let vss = z.0.4 in let q = z.1.0 in let xs = z.1.1 in
    let ldf = a.1.0 in let p = a.1.1.0 in let hnd = a.1.1.1.0 in let rep = a.1.1.1.1.0 in
    let Post : Val → SProp 𝓤 = (walk_of 𝓛 f.ended stayed c).post z in let Run : List Val → SProp 𝓤 = λ ws. WpFn 𝓤 H 𝓣.C 𝓣.Λ fn ws Post in
    let e1 = shr_slice_Tells (named 0) κs.0 u8 ldf vss.1.0 are.1.0 in
    let e3 = mut_Tells (named 1) κs.1.0 HR hnd vss.1.1.1.0 are.1.1.1.0 in
    let e4 = mut_Tells (named 2) κs.1.1.0 RR rep vss.1.1.1.1.0 are.1.1.1.1.0 in
    qed 𝓛 ((raw (alive 𝓛 f.signature κs qs) ⊛ ‵ (owns (types_at f.ended.signature.params κs) a vss)) ∷ raw ((c κs a).requires z.1) ∷ []) ∵ split ! $
    -- [the tokens; the parameters; the requires]
    use1 𝓛 (‵ (flft κs.0 qs.0) ⊛ (‵ (flft κs.1.0 qs.1.0) ⊛ (‵ (flft κs.1.1.0 qs.1.1.0) ⊛ ‵ ftrue))) (id⊢ 𝓤 _) $
    split ! $ move ! (1 ∷ []) $ split ! $ move ! (1 ∷ []) $ split ! $ move ! (1 ∷ []) $ drop ! $ move ! (3 ∷ []) $ fsplit ! $
    handle_tells al ! a.0 vss.0 (λ h e0 fits. move ! (1 ∷ []) $ fsplit ! $
    rewrite ! 0 (λ (us : List Val). ‵ ((ShrSlice (named 0) κs.0 u8).own_val ldf us)) e1 refl $ move ! (1 ∷ []) $ fsplit ! $ drop ! $ fsplit ! $
    rewrite ! 0 (λ (us : List Val). ‵ ((MutRef (named 1) κs.1.0 HR).own_val hnd us)) e3 refl $ move ! (1 ∷ []) $ fsplit ! $
    rewrite ! 0 (λ (us : List Val). ‵ ((MutRef (named 2) κs.1.1.0 RR).own_val rep us)) e4 refl $ move ! (1 ∷ []) $ drop ! $
    -- [report; handle; ldf; the allocator; the tokens of report, handle and ldf; the requires]
    move ! (7 ∷ []) $ use1 𝓛 (‵ (lies_at (Array u8 (length xs)) q p xs) ⊛ raw (fact 𝓤 (IsSized xs))) (id⊢ 𝓤 _) $ split ! $ move ! (1 ∷ []) $ heard ! (IsSized xs) (λ sized.
    in_a_block ! p (λ s. lies_at (Array u8 (length xs)) q s xs) (id⊢ 𝓤 _) (λ b o ep.
    use1 𝓛 (‵ (fsep (feq ℕ (length xs) (length xs)) (bytes q xs b o))) (bytes_apart 𝓛 q (length xs) xs b o) $ fsplit ! $ drop ! $
    let sv = slice_val ldf.ref_ptr (length ldf.now) in
    let args : List Val = h ∷ sv ∷ vptr b o ∷ vptr hnd.ref_ptr.0 hnd.ref_ptr.1 ∷ vptr rep.ref_ptr.0 rep.ref_ptr.1 ∷ [] in
    let e2 : vss.1.1.0 ≡ vptr b o ∷ [] = rawptr_Tells p vss.1.1.0 are.1.1.0 ∙ ap rawptr_vals ep in
    suffices ! (Run args) (subst (λ (us : List Val). ent 𝓤 (Run args) (Run us)) (sym (λ i. e0 i ++ (e1 i ++ (e2 i ++ (e3 i ++ (e4 i ++ [])))))) (id⊢ 𝓤 (Run args))) $
    enter ! 𝓣.C 𝓣.Λ fn args Post $ alloc_all ! (λ l. pass_all ! refl (fits, ((tt, (tt, (record { fits = are.1.0.0.1.0 }, tt))), ((tt, tt), ((tt, tt), ((tt, tt), tt))))) $
    sets ! (agg ! (and_then ! (get ! refl) (and_then ! (lit ! tt) (no_more !)))) refl (tt, (tt, (record { fits = lit< tt }, tt))) $
    -- [the bytes; report; handle; ldf; the allocator; the tokens; the locals]
    let n = length xs in let ys = take 8 xs in
    let low : 8 ≤ n = subst (λ (m : ℕ). 8 ≤ m) (sym sized) (bounds (number_at ys 0)).0 in let high : n ≤ 4096 = subst (λ (m : ℕ). m ≤ 4096) (sym sized) (bounds (number_at ys 0)).1 in
    let e8 : length ys ≡ 8 = omega (arith, length-take 8 xs, low) in
    use1 𝓛 (‵ (bytes q ys b o) ⊛ ‵ (bytes q (drop_list 8 xs) b (o + length ys))) (apart 𝓛 q xs b o) $ split ! $ feq_i ! ℕ (length ys) (length ys) refl $ fjoin ! $
    lft_new ! tt (λ α. let κ : Lft = α ∷ [] in let s : Bor (List ℕ) = record { ref_ptr = (b, o); now = ys } in let Size : Fml = fsep (feq ℕ (length ys) (length ys)) (bytes q ys b o) in
    move ! (1 ∷ 0 ∷ []) $
    use2 𝓛 (later ((‵ ((ShrSlice (named 0) κ u8).own_val s (slice_val (b, o) (length ys) ∷ [])) ⊛ ‵ (flent κ Size)) ⊛ ‵ (flft κ full_share)))
    (lends_shr_slice 𝓛 u8 (named 0) κ q ys b o (subst (λ (m : ℕ). m < 2 ^ 64) (sym e8) (lit< tt), subst (λ (m : ℕ). m * 1 < 2 ^ 63) (sym e8) (lit< tt)) κ ((uint_Copied 𝓛 w8).shares q κ) ((κ, full_share) ∷ []) (Incl-refl κ) (Incl-refl κ)) $ await ! tt $ split ! $ split ! $
    rewrite ! 0 (λ (m : ℕ). ‵ ((ShrSlice (named 0) κ u8).own_val s (slice_val (b, o) m ∷ []))) e8 refl $
    -- [the slice; the right to the bytes; its token; the other bytes; ..]
    let G₁ = triple_of 𝓛 sizes.signature (sizes.spec 𝓛 𝓜.mem 𝓡.returns) in
    let y₁ : G₁.Ghost = (((κ, tt), (full_share, tt), tt, (s, tt), (slice_val (b, o) 8 ∷ [], tt)), tt) in
    nothing ! $ move ! (1 ∷ 0 ∷ []) $ fjoin ! $ nothing ! $ move ! (3 ∷ 0 ∷ []) $ join ! $ join ! $ nothing ! $ move ! (1 ∷ 0 ∷ []) $ use2 𝓛 (raw (G₁.pre y₁)) (id⊢ 𝓤 _) $
    calls_at ! (framed 𝓤 H 𝓜 𝓣) G₁ (sizes_met.met 𝓤 𝓛 𝓜 𝓡 (code.calls-linsim_c::bench_settings::read_size 𝓡.env wired)) y₁ (and_then ! (get ! refl) (no_more !)) (λ v.
    use1 𝓛 (later (some (λ (r : ℕ). ((‵ (flft κ full_share) ⊛ ‵ ftrue) ⊛ ‵ (usize.own_val r (v ∷ []))) ⊛ some (λ (ws : Unit {0} × Unit {0}). ‵ (lasts sizes.ended (κ, tt) (s, tt) ws) ⊛ raw (fact 𝓤 (r ≡ read_size ys)))))) (id⊢ 𝓤 _) $
    await ! tt $ pick ! (λ r. split ! $ move ! (1 ∷ []) $ pick ! (λ ws. split ! $ drop ! $ heard ! (r ≡ read_size ys) (λ er. let en : r ≡ n = er ∙ sym sized in
    split ! $ split ! $ lft_end ! tt $ move ! (1 ∷ []) $ drop ! $ move ! (0 ∷ 2 ∷ []) $ lent_back ! tt $ move ! (1 ∷ []) $
    -- [the size; the bytes of the size; the other bytes; ..]
    peeks ! usize (Is usize) (shows 𝓛 usize) r (v ∷ []) (λ is. drop ! $ lands_as ! (ap only (is.0 ∙ ap (λ (m : ℕ). vint w64 m ∷ []) en)) refl (tt, record { fits = omega (arith, high) }) $
    fsplit ! $ drop ! $ use2 𝓛 (‵ (bytes q xs b o)) (whole 𝓛 q xs b o) $
    sets ! (agg ! (and_then ! (get ! refl) (and_then ! (get ! refl) (no_more !)))) refl (tt, (tt, (record { fits = omega (arith, high) }, tt))) $
    sets ! (addr ! (through ! refl (stop !))) refl (tt, tt) $ sets ! (addr ! (through ! refl (stop !))) refl (tt, tt) $ feq_i ! ℕ n n refl $ fjoin ! $
    lft_new ! tt (λ α'. let κ' : Lft = α' ∷ [] in let s' : Bor (List ℕ) = record { ref_ptr = (b, o); now = xs } in let All : Fml = fsep (feq ℕ n n) (bytes q xs b o) in
    move ! (1 ∷ 0 ∷ []) $
    use2 𝓛 (later ((‵ ((ShrSlice (named 0) κ' u8).own_val s' (slice_val (b, o) n ∷ [])) ⊛ ‵ (flent κ' All)) ⊛ ‵ (flft κ' full_share)))
    (lends_shr_slice 𝓛 u8 (named 0) κ' q xs b o (omega (arith, high), omega (arith, high)) κ' ((uint_Copied 𝓛 w8).shares q κ') ((κ', full_share) ∷ []) (Incl-refl κ') (Incl-refl κ')) $ await ! tt $ split ! $ split ! $
    -- [the slice; the right to the bytes; its token; report; handle; ldf; the allocator; the tokens]
    let G₂ = triple_of 𝓛 opens.signature (opens.spec 𝓛 𝓜.mem 𝓡.returns) in
    let y₂ : G₂.Ghost = (
      (
        (κs.0, (κ', (κs.1.0, (κs.1.1.0, tt)))),
        (qs.0, (full_share, (qs.1.0, (qs.1.1.0, tt)))),
        tt,
        (a.0, (ldf, (s', (hnd, (rep, tt))))),
        (h ∷ [], (sv ∷ [], (slice_val (b, o) n ∷ [], (mut_vals hnd, (mut_vals rep, tt))))),
      ),
      tt,
    ) in
    nothing ! $ move ! (4 ∷ 0 ∷ []) $ fjoin ! $ move ! (4 ∷ 0 ∷ []) $ fjoin ! $ move ! (1 ∷ 0 ∷ []) $ fjoin ! $ move ! (3 ∷ 0 ∷ []) $ fjoin ! $ move ! (3 ∷ 0 ∷ []) $ fjoin ! $
    nothing ! $ move ! (4 ∷ 0 ∷ []) $ join ! $ move ! (4 ∷ 0 ∷ []) $ join ! $ move ! (3 ∷ 0 ∷ []) $ join ! $ move ! (3 ∷ 0 ∷ []) $ join ! $ join ! $
    nothing ! $ move ! (1 ∷ 0 ∷ []) $ use2 𝓛 (raw (G₂.pre y₂)) (id⊢ 𝓤 _) $
    calls_at ! (framed 𝓤 H 𝓜 𝓣) G₂ (opens_met.met 𝓤 𝓛 𝓜 𝓡 (code.calls-linsim_c::open_bench 𝓡.env wired)) y₂
    (and_then ! (get ! refl) (and_then ! (get ! refl) (and_then ! (get ! refl) (and_then ! (get ! refl) (and_then ! (get ! refl) (no_more !)))))) (λ w.
    let Ended = λ (rr : ℕ) (us : Unit {0} × (Unit {0} × (Unit {0} × (HR.Denot × (RR.Denot × Unit {0}))))). IsCall (λ an. OpensBench hnd.now.value us.1.1.1.0.value an ldf.now xs) rr us.1.1.1.1.0 in
    use1 𝓛 (later (some (λ (rr : ℕ). (raw (alive 𝓛 opens.signature y₂.0.0 y₂.0.1) ⊛ ‵ (u32.own_val rr (w ∷ [])))
    ⊛ some (λ (us : Unit {0} × (Unit {0} × (Unit {0} × (HR.Denot × (RR.Denot × Unit {0}))))). ‵ (lasts opens.ended y₂.0.0 y₂.0.3 us) ⊛ raw (fact 𝓤 (Ended rr us)))))) (id⊢ 𝓤 _) $
    await ! tt $ pick ! (λ rr. split ! $ move ! (1 ∷ []) $ pick ! (λ us. split ! $ move ! (1 ∷ []) $ heard ! (Ended rr us) (λ ended. move ! (1 ∷ []) $ split ! $
    use1 𝓛 (‵ (flft κs.0 qs.0) ⊛ (‵ (flft κ' full_share) ⊛ (‵ (flft κs.1.0 qs.1.0) ⊛ (‵ (flft κs.1.1.0 qs.1.1.0) ⊛ ‵ ftrue)))) (id⊢ 𝓤 _) $ split ! $ move ! (1 ∷ []) $ split ! $
    lft_end ! tt $ move ! (0 ∷ 5 ∷ []) $ lent_back ! tt $ move ! (2 ∷ 1 ∷ []) $ join ! $
    -- [the tokens; the bytes; the result; what is left of handle and report]
    move ! (2 ∷ []) $ peeks ! u32 (Is u32) (shows 𝓛 u32) rr (w ∷ []) (λ is'. lands_as ! refl refl ((uint_Lawful 𝓛 w32).typed rr _ is').0 $
    returns ! (look_at ! 0 refl) $ free_all ! refl $
    move ! (2 ∷ []) $ use1 𝓛 (‵ (lies_at (Array u8 n) q (block_ptr b o) xs)) (bytes_whole 𝓛 q n xs b o) $ rewrite ! 0 (λ (s : Ptr). ‵ (lies_at (Array u8 n) q s xs)) (sym ep) refl $
    use0 𝓛 (raw (fact 𝓤 (Ended rr us))) (fact_i 𝓤 (Ended rr us) (emp 𝓤) ended) $ move ! (1 ∷ 0 ∷ []) $ join ! $
    -- [the settings and what is so; the result; the tokens; what is left]
    keep ! (2 ∷ 3 ∷ 1 ∷ 0 ∷ []) $ by ! (leaves 𝓛 f.ended stayed c z w rr us (tt, (tt, (tt, (tt, (tt, tt)))))))))))))))))))))))
