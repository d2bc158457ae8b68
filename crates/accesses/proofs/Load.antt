-- The step load: from RAM, from flash, or by the read helper.
--     exec_load           the load itself, at an offset inside a region
--     try_hit, try_miss   a region is tried: its bytes in w0, or on
--     slow_frag           the read helper
--     load_ok             the step's code does what the machine between does
use mathlib.Core.Path.{◌≡◌, refl, sym, ap, ap₂, ◌∙◌, subst}
use mathlib.Core.Bool.{Bool, true, false, cond}
use mathlib.Core.Option.{Option, none, some}
use mathlib.Core.List.{List, [], ◌∷◌}
use Prim.Native.Nat.{ℕ, ◌+◌, ◌-◌, ◌*◌, ◌/◌, ◌%◌, ◌^◌, ◌≤◌, ◌<◌}
use native.Mathlib.Nat.{mod-eq_of_lt}
use native.Mathlib.Omega.{arith}
use borrow.Author.Tests.{leb-true, leb-false}
use lib.Dec.{leb}
use lib.ListN.{length}
use Rattle.arm.specs.declared.Size.TheVariants.{W, X}
use Rattle.arm.specs.declared.Access.{Access}
use Rattle.arm.specs.declared.Access.TheVariants.{Ldrb, Ldrsb, Ldrh, Ldrsh, LdrW}
use Rattle.block.specs.declared.Width.{Width}
use Rattle.block.specs.declared.Width.TheVariants.{Byte as B8, Half as B16, Word as B32}
use Rattle.block.specs.declared.Block.{Block}
use Rattle.block.specs.Block.{bytes}
use Rattle.block.specs.Checked.{Checked}
use Rattle.code.specs.Items.{b as always}
use Rattle.code.specs.Tree.{Depth, under, Var, inner, outer, code, block, ◌then◌}
use Rattle.code.specs.Machine.{fall}
use Rattle.machine.specs.Bits.{SignExtend}
use Rattle.machine.specs.State.{State, R, with_x, ram, xip}
use Rattle.machine.specs.Memory.{read_le, bytes_of, base_of, size_of}
use Rattle.machine.specs.Execute.{Helpers, loads as plainly, loads_signed, direction, access_bytes}
use Rattle.machine.proofs.Bytes.{read_lt}
use Rattle.machine.proofs.Data.{exec-sbfx}
use Rattle.card.specs.Card.{Card, asked, Outcome as CardOutcome, read as card_read}
use Rattle.card.specs.Word.{plus, sign_extend}
use Rattle.card.specs.Memory.{read_le as card_bytes, load_offset, extend, got, ask, extended as card_extended, load as card_load}
use Rattle.lowering.specs.declared.RegCache.{RegCache}
use Rattle.lowering.specs.Instrs.{CTX, RAM, XIP, DONE, mov, mov_x, mov32, add_i, sbfx, indexed}
use Rattle.lowering.specs.Fragments.{loads, try_region, extended, call, load, step_code, step_cache}
use Rattle.lowering.specs.Steps.{Step}
use Rattle.relation.specs.Lines.{arm, of_effect, bare, exec, taken}
use Rattle.relation.specs.Abs.{Abs, go, upd, kill, known, if_got, with_temp, mstep}
use Rattle.relation.specs.Relation.{cls, Body, Kept, Sim, Frag, Meets}
use Rattle.registers.proofs.Basics.{upd_same, upd-upd, cls_lt}
use Rattle.registers.proofs.Frags.{frag_map, frag_pre, frag_nil, frag_cons, frag_then, frag_block}
use Rattle.registers.proofs.Access.{apart-now, count-now, size-now, start-now, indexed-load, indexed_signed}
use Rattle.registers.proofs.Constants.{below-upd, temp_frag}
use Rattle.accesses.proofs.Paths.{Goes, goes_map, goes_after, goes_before, goes_if, block_here, block_on}
use Rattle.accesses.proofs.Temps.{below_same, below_set, below-skip, below-kill, forget}
use Rattle.accesses.proofs.Numbers.{bytes_pos, bytes_le, bytes_small, read_is, sign-is, bytes_lt, extend_lt}
use Rattle.accesses.proofs.Call.{behind}
use Rattle.accesses.proofs.Ask.{move_frag, context_frag, count_frag, bytes_frag, read_frag}
use Rattle.accesses.proofs.Range.{tested, range_frag, range_in, range_out}

module _ {b : Block} {h : Helpers} {s0 : State} (B : Body b h s0) (C : Checked b) (base : ℕ) (rc : RegCache) where
  -- ---- the load itself
  module _ (r k : ℕ) (q : cls r ≡ 2) (y : k < 8) (e : R X s0 r ≡ base_of s0.mem k) where
    exec_load : {c : Card} {pc slot : ℕ} {s : State} → Kept b s0 c pc slot s → (w : Width) (signed : Bool) (o : ℕ) → R W s 3 ≡ o → o + bytes w ≤ size_of s0.mem k
        → exec h (indexed (loads w signed) 0 r 3) s ≡ fall (bare (with_x 0 (extend signed w (card_bytes (bytes_of s.mem k) o (bytes w))) s))
    unfolding loads
    exec_load {s = s} z w signed o m l = by w signed l
      where
        n : 8 ≤ length s.mem
        n = count-now B z

        sz : size_of s.mem k ≡ size_of s0.mem k
        sz = size-now B z k

        plain : (a : Access) → direction a ≡ plainly → (w : Width) → bytes w ≡ access_bytes a → o + bytes w ≤ size_of s0.mem k → exec h (indexed a 0 r 3) s ≡ fall (bare (with_x 0 (card_bytes (bytes_of s.mem k) o (bytes w)) s))
        plain a d w v l =
            indexed-load h s (apart-now B z) a r 3 k (omega (arith, n)) (cls_lt r q (omega arith)) (start-now B z r k q e) (omega (arith, sz)) (width w v) 0 d
            ∙ ap (λ x. fall (bare (with_x 0 x s))) (ap₂ (read_le (bytes_of s.mem k)) m (sym v) ∙ sym (read_is (bytes_of s.mem k) o (bytes w)))
          where
            width : (w : Width) → bytes w ≡ access_bytes a → 0 < access_bytes a
            width B8 v = omega arith
            width B16 v = omega arith
            width B32 v = omega arith

        signs : (a : Access) → direction a ≡ loads_signed → (j : ℕ) → 0 < j → access_bytes a ≡ j → 256 ^ j ≡ 2 ^ (8 * j) → o + j ≤ size_of s0.mem k
            → exec h (indexed a 0 r 3) s ≡ fall (bare (with_x 0 (sign_extend (8 * j) (card_bytes (bytes_of s.mem k) o j / 2 ^ 0 % 2 ^ (8 * j))) s))
        signs a d j p v x l =
            let lt : read_le (bytes_of s.mem k) o j < 256 ^ j = read_lt (bytes_of s.mem k) o j in
            let f : read_le (bytes_of s.mem k) o j / 2 ^ 0 ≡ read_le (bytes_of s.mem k) o j = omega arith in
            indexed_signed h s (apart-now B z) a r 3 k (omega (arith, n)) (cls_lt r q (omega arith)) (start-now B z r k q e) (omega (arith, sz)) (omega arith) 0 d
            ∙ ap₂ (λ i j'. fall (bare (with_x 0 (SignExtend (8 * j') 32 (read_le (bytes_of s.mem k) i j')) s))) m v
            ∙ ap (λ u. fall (bare (with_x 0 u s))) (sign-is (8 * j) (read_le (bytes_of s.mem k) o j) ∙ ap (sign_extend (8 * j)) (sym (ap (λ u. u / 2 ^ 0 % 2 ^ (8 * j)) (read_is (bytes_of s.mem k) o j) ∙ ap (λ u. u % 2 ^ (8 * j)) f ∙ mod-eq_of_lt (subst (λ u. read_le (bytes_of s.mem k) o j < u) x lt))))

        by : (w : Width) (signed : Bool) → o + bytes w ≤ size_of s0.mem k → exec h (indexed (loads w signed) 0 r 3) s ≡ fall (bare (with_x 0 (extend signed w (card_bytes (bytes_of s.mem k) o (bytes w))) s))
        by B8 false l = plain Ldrb refl B8 refl l
        by B8 true l = signs Ldrsb refl 1 (omega arith) refl refl l
        by B16 false l = plain Ldrh refl B16 refl l
        by B16 true l = signs Ldrsh refl 2 (omega arith) refl refl l
        by B32 false l = plain LdrW refl B32 refl l
        by B32 true l = plain LdrW refl B32 refl l

    -- ---- a region is tried: a, with w2 and w3 not known
    module _ {n : Depth} (a : Abs) (p : ℕ) (k0 : a.t 0 ≡ some p) (k2 : a.t 2 ≡ none) (k3 : a.t 3 ≡ none) (w : Width) (signed : Bool) (miss done : Var n) (g len : ℕ) (fits : g + len ≤ 2 ^ 32) (long : 4 ≤ len) where
      abbrev at : ℕ
      at = load_offset w p g

      at_lt : (w : Width) → load_offset w p g < 2 ^ 32
      at_lt B8 = omega arith
      at_lt B16 = omega arith
      at_lt B32 = omega arith

      try_hit : (l : List ℕ) → ((s : State) → Sim b s0 rc (tested a at (len - bytes w)) s → bytes_of s.mem k ≡ l) → size_of s0.mem k ≡ len → at ≤ len - bytes w
          → Goes (arm h base) (try_region r g len w signed miss done) done (Sim b s0 rc a) (Sim b s0 rc (with_temp 0 (some (extend signed w (card_bytes l at (bytes w)))) (tested a at (len - bytes w))))
      unfolding try_region cls taken
      try_hit l f z le =
          let hi : bytes w ≤ 4 = bytes_le w in
          let lo : len - bytes w < 2 ^ 32 = omega (arith, bytes_pos w) in
          goes_after (range_frag h base a p k0 k2 k3 w g (len - bytes w) (omega arith) lo)
          (goes_after (range_in h base a miss at (len - bytes w) (at_lt w) lo le)
          (goes_after
          (temp_frag h base (tested a at (len - bytes w)) (indexed (loads w signed) 0 r 3) 0 (extend signed w (card_bytes l at (bytes w))) (λ s. extend signed w (card_bytes (bytes_of s.mem k) at (bytes w))) refl
          (λ s v. exec_load v.kept w signed at (v.temps 3 at refl (upd_same (upd a.t 2 (some (len - bytes w))) 3 (some at))) (omega arith))
          (λ s v. ap (λ i. extend signed w (card_bytes i at (bytes w)) % 2 ^ 32) (f s v) ∙ mod-eq_of_lt (extend_lt signed w (card_bytes l at (bytes w)) (bytes_lt w l at))))
          (goes_if always done (λ s v. refl))))

      try_miss : len - bytes w < at → Goes (arm h base) (try_region r g len w signed miss done) miss (Sim b s0 rc a) (Sim b s0 rc (tested a at (len - bytes w)))
      unfolding try_region
      try_miss lt =
          let lo : len - bytes w < 2 ^ 32 = omega (arith, bytes_pos w) in
          goes_after (range_frag h base a p k0 k2 k3 w g (len - bytes w) (omega arith) lo) (goes_before (range_out h base a miss at (len - bytes w) (at_lt w) lo lt))

-- ---- the read helper
module _ {b : Block} {h : Helpers} {s0 : State} (B : Body b h s0) (C : Checked b) (base : ℕ) (rc : RegCache) {n : Depth} where
  -- the sign of what the helper gave
  sign_frag : (a : Abs) (c : Card) (w : Width) (signed : Bool) (v : ℕ) → v < 2 ^ 32
      → Frag (arm h base) {n = n} (code (extended w signed)) (Sim b s0 rc (behind a (some v) c)) (Sim b s0 rc (behind a (some (extend signed w v)) c))
  unfolding extended cls exec
  sign_frag a c w signed v l = by w signed
    where
      narrow : (j : ℕ) → 0 < j → sign_extend j (v / 2 ^ 0 % 2 ^ j) < 2 ^ 32
          → Frag (arm h base) {n = n} (code (sbfx 0 0 0 j ∷ [])) (Sim b s0 rc (behind a (some v) c)) (Sim b s0 rc (behind a (some (sign_extend j (v / 2 ^ 0 % 2 ^ j))) c))
      narrow j p m =
          frag_map (temp_frag h base (behind a (some v) c) (sbfx 0 0 0 j) 0 (sign_extend j (v / 2 ^ 0 % 2 ^ j)) (λ s. SignExtend j 32 (R W s 0 / 2 ^ 0 % 2 ^ j)) refl (λ s y. ap of_effect (exec-sbfx h s W 0 j 0 0 p))
          (λ s y. ap (λ u. u % 2 ^ 32) (sign-is j (R W s 0 / 2 ^ 0 % 2 ^ j) ∙ ap (λ u. sign_extend j (u / 2 ^ 0 % 2 ^ j)) (y.temps 0 v refl (upd_same (kill a.t) 0 (some v)))) ∙ mod-eq_of_lt m))
          (λ s y. subst (λ t. Sim b s0 rc (record { c = c; t = t; f = none }) s) (upd-upd (kill a.t) 0 (some v) (some (sign_extend j (v / 2 ^ 0 % 2 ^ j)))) y)

      by : (w : Width) (signed : Bool) → Frag (arm h base) {n = n} (code (extended w signed)) (Sim b s0 rc (behind a (some v) c)) (Sim b s0 rc (behind a (some (extend signed w v)) c))
      by B8 false = frag_nil
      by B16 false = frag_nil
      by B32 false = frag_nil
      by B8 true = narrow 8 (omega arith) (extend_lt true B8 v l)
      by B16 true = narrow 16 (omega arith) (extend_lt true B16 v l)
      by B32 true = frag_nil

  slow_frag : (a : Abs) (p : ℕ) (w : Width) (signed : Bool) (i : ℕ) (o : CardOutcome) (os : List CardOutcome) → a.t 0 ≡ some p → a.c.outcomes ≡ o ∷ os
      → Frag (arm h base) {n = n} (code (mov 1 0 ∷ mov_x 0 CTX ∷ add_i 2 DONE i ∷ mov32 3 (bytes w)) then call b rc b.addresses.h_read then code (extended w signed)) (Sim b s0 rc a)
      (Sim b s0 rc (behind a (some (extend signed w (o.answer % 2 ^ 32))) (asked (card_read p (bytes w) (plus a.c.done i)) o os a.c)))
  unfolding cls exec upd kill
  slow_frag a p w signed i o os k e =
      frag_then
      (frag_cons (move_frag h base a 1 0 p refl refl k)
      (frag_cons (context_frag h base a₁ B)
      (frag_cons (count_frag h base a₂ 2 i refl (omega arith))
      (bytes_frag h base a₃ 3 (bytes w) refl (omega arith) (bytes_small w)))))
      (frag_then (read_frag B C base rc a₄ p (plus a.c.done i) (bytes w) o os e refl refl refl)
      (frag_map (sign_frag a₄ c w signed (o.answer % 2 ^ 32) (omega arith))
      (λ s y. forget (upd (kill a.t) 0 (some (extend signed w (o.answer % 2 ^ 32)))) (below-upd (below-kill a.t (kill a₄.t) refl refl) 0 (some (extend signed w (o.answer % 2 ^ 32)))) y)))
    where
      c : Card
      c = asked (card_read p (bytes w) (plus a.c.done i)) o os a.c

      a₁ : Abs
      a₁ = with_temp 1 (some p) a

      a₂ : Abs
      a₂ = with_temp 0 none a₁

      a₃ : Abs
      a₃ = with_temp 2 (some (plus a.c.done i)) a₂

      a₄ : Abs
      a₄ = with_temp 3 (some (bytes w)) a₃

-- ---- the step
module _ {b : Block} {h : Helpers} {s0 : State} (B : Body b h s0) (C : Checked b) (base : ℕ) (n : Depth) (limit : ℕ) (rc : RegCache) (a : Abs) (w : Width) (signed : Bool) (i : ℕ) where
  module _ (p : ℕ) (k : a.t 0 ≡ some p) where
    -- what is known at each test: w0 and what a call keeps
    abbrev a₀ : Abs
    a₀ = behind a (some p) a.c

    -- the offsets in the two regions
    abbrev in_ram : ℕ
    in_ram = load_offset w p b.memory.ram_base

    abbrev in_xip : ℕ
    in_xip = load_offset w p b.memory.xip_base

    start : (s : State) → Sim b s0 rc a s → Sim b s0 rc a₀ s
    start s y = forget (upd (kill a.t) 0 (some p)) (below_set (below-kill a.t a.t refl refl) 0 (some p) k) y

    -- what a test leaves known is let go
    again : (o l : ℕ) (s : State) → Sim b s0 rc (tested a₀ o l) s → Sim b s0 rc a₀ s
    unfolding kill upd
    again o l s y = forget a₀.t (below-skip (below-skip (below_same a₀.t) 2 (some l) refl) 3 (some o) refl) y

    ended : (v o l : ℕ) (s : State) → Sim b s0 rc (with_temp 0 (some v) (tested a₀ o l)) s → Sim b s0 rc (behind a (some v) a.c) s
    unfolding kill upd
    ended v o l s y =
        forget (upd (kill a.t) 0 (some v))
        (below-upd (below-skip (below-skip (below-skip (below_same (kill a.t)) 0 (some p) refl) 2 (some l) refl) 3 (some o) refl) 0 (some v)) y

    ram-hit : in_ram ≤ b.memory.ram_len - bytes w → Frag (arm h base) {n = n} (load b rc w signed i) (Sim b s0 rc a) (Sim b s0 rc (behind a (some (extend signed w (card_bytes a.c.ram in_ram (bytes w)))) a.c))
    unfolding load kill upd cls
    ram-hit le =
        frag_pre start (block_here (goes_before (block_on (goes_before (block_on (goes_map
        (try_hit B C base rc RAM ram refl (omega arith) B.x21 a₀ p refl refl refl w signed inner (outer (outer inner)) b.memory.ram_base b.memory.ram_len C.memory.ram.inside C.memory.ram.long
        a.c.ram (λ s y. y.kept.others.ram_is) B.ram-size le)
        (ended (extend signed w (card_bytes a.c.ram in_ram (bytes w))) in_ram (b.memory.ram_len - bytes w))))))))

    ram_miss : b.memory.ram_len - bytes w < in_ram → Frag (arm h base) {n = under (under n)} (block (try_region RAM b.memory.ram_base b.memory.ram_len w signed inner (outer (outer inner)))) (Sim b s0 rc a₀) (Sim b s0 rc a₀)
    unfolding kill upd cls
    ram_miss lt =
        block_here (goes_map
        (try_miss B C base rc RAM ram refl (omega arith) B.x21 a₀ p refl refl refl w signed inner (outer (outer inner)) b.memory.ram_base b.memory.ram_len C.memory.ram.inside C.memory.ram.long lt)
        (again in_ram (b.memory.ram_len - bytes w)))

    xip-hit : b.memory.ram_len - bytes w < in_ram → in_xip ≤ b.memory.xip_len - bytes w
        → Frag (arm h base) {n = n} (load b rc w signed i) (Sim b s0 rc a) (Sim b s0 rc (behind a (some (extend signed w (card_bytes (bytes_of s0.mem xip) in_xip (bytes w)))) a.c))
    unfolding load kill upd cls
    xip-hit lt le =
        frag_pre start (block_here (goes_before (block_on (goes_after (ram_miss lt) (goes_map
        (try_hit B C base rc XIP xip refl (omega arith) B.x22 a₀ p refl refl refl w signed inner (outer inner) b.memory.xip_base b.memory.xip_len C.memory.xip.inside C.memory.xip.long
        (bytes_of s0.mem xip) (λ s y. y.kept.others.xip_is) B.xip-size le)
        (ended (extend signed w (card_bytes (bytes_of s0.mem xip) in_xip (bytes w))) in_xip (b.memory.xip_len - bytes w)))))))

    asks : b.memory.ram_len - bytes w < in_ram → b.memory.xip_len - bytes w < in_xip → (o : CardOutcome) (os : List CardOutcome) → a.c.outcomes ≡ o ∷ os
        → Frag (arm h base) {n = n} (load b rc w signed i) (Sim b s0 rc a) (Sim b s0 rc (behind a (some (extend signed w (o.answer % 2 ^ 32))) (asked (card_read p (bytes w) (plus a.c.done i)) o os a.c)))
    unfolding load kill upd cls
    asks lt lx o os e =
        frag_pre start (frag_block (frag_then (block_here (goes_after (ram_miss lt) (goes_map
        (try_miss B C base rc XIP xip refl (omega arith) B.x22 a₀ p refl refl refl w signed inner (outer inner) b.memory.xip_base b.memory.xip_len C.memory.xip.inside C.memory.xip.long lx)
        (again in_xip (b.memory.xip_len - bytes w)))))
        (frag_map (slow_frag B C base rc a₀ p w signed i o os refl e)
        (λ s y. forget (upd (kill a.t) 0 (some (extend signed w (o.answer % 2 ^ 32)))) (below-upd (below-kill a.t (kill a₀.t) refl refl) 0 (some (extend signed w (o.answer % 2 ^ 32)))) y))))

    -- by where the bytes are
    cases : (u : Bool) → leb in_ram (b.memory.ram_len - bytes w) ≡ u → (v : Bool) → leb in_xip (b.memory.xip_len - bytes w) ≡ v → (os : List CardOutcome) → a.c.outcomes ≡ os
        → Meets h base b s0 rc a {n = n} (load b rc w signed i) rc
        (if_got (card_extended signed w (cond u (got (card_bytes a.c.ram in_ram (bytes w)) a.c) (cond v (got (card_bytes (bytes_of s0.mem xip) in_xip (bytes w)) a.c) (ask (card_read p (bytes w) (plus a.c.done i)) os a.c))))
        (λ x c. go (behind a (some x) c)))
    cases true q v r os e = ram-hit (leb-true in_ram (b.memory.ram_len - bytes w) q)
    cases false q true r os e = xip-hit (leb-false in_ram (b.memory.ram_len - bytes w) q) (leb-true in_xip (b.memory.xip_len - bytes w) r)
    cases false q false r [] e = tt
    cases false q false r (o ∷ os) e = asks (leb-false in_ram (b.memory.ram_len - bytes w) q) (leb-false in_xip (b.memory.xip_len - bytes w) r) o os e

  pub load_ok : Meets h base b s0 rc a {n = n} (step_code b rc (Step.load w signed i)) (step_cache rc (Step.load w signed i)) (mstep b (bytes_of s0.mem xip) limit (Step.load w signed i) a)
  unfolding step_code step_cache mstep card_load
  load_ok = by (a.t 0) refl
    where
      by : (o : Option ℕ) → a.t 0 ≡ o → Meets h base b s0 rc a {n = n} (load b rc w signed i) rc (known o (λ p. if_got (card_load b.memory (bytes_of s0.mem xip) i w signed p a.c) (λ v c. go (record { c = c; t = upd (kill a.t) 0 (some v); f = none }))))
      by none e = tt
      by (some p) e = cases p e (leb (in_ram p e) (b.memory.ram_len - bytes w)) refl (leb (in_xip p e) (b.memory.xip_len - bytes w)) refl a.c.outcomes refl
