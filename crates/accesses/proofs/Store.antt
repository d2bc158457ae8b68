-- The step store: to RAM, or by the write helper.
--     align_passes, align_goes    the tests of an odd halfword, and of a word that is on no multiple of 4
--     map_passes, map-goes        the test of the code map
--     store_frag                  the store itself
--     slow_frag                   the write helper
--     store_ok                    the step's code does what the machine between does
use mathlib.Core.Path.{◌≡◌, refl, sym, ap, ap₂, ◌∙◌}
use mathlib.Core.Bool.{Bool, true, false, cond, not, ◌&&◌}
use mathlib.Core.Option.{Option, none, some}
use mathlib.Core.List.{List, [], ◌∷◌, ◌++◌}
use mathlib.Core.Logic.{◌≢◌}
use Prim.Native.Nat.{ℕ, ◌/◌, ◌%◌, ◌^◌, ◌≤◌, ◌<◌}
use native.Mathlib.Nat.{mod-eq_of_lt}
use native.Mathlib.Omega.{arith}
use borrow.Author.Tests.{leb-true, leb-false, eqb-true, eqb-false, not-true, not-false}
use lib.Dec.{leb, eqb}
use lib.ListN.{length, get_or}
use Rattle.arm.specs.declared.Size.TheVariants.{W, X}
use Rattle.arm.specs.declared.Access.{Access}
use Rattle.arm.specs.declared.Access.TheVariants.{Ldrb, Strb, Strh, StrW}
use Rattle.arm.specs.declared.Test.TheVariants.{Nonzero as nonzero}
use Rattle.block.specs.declared.Width.{Width}
use Rattle.block.specs.declared.Width.TheVariants.{Byte as B8, Half as B16, Word as B32}
use Rattle.block.specs.declared.Block.{Block}
use Rattle.block.specs.Block.{bytes}
use Rattle.block.specs.Checked.{Checked}
use Rattle.code.specs.Items.{b as always, b_cond, cb, tb}
use Rattle.code.specs.Tree.{Depth, under, inner, outer, Code, code, to, ◌then◌}
use Rattle.code.specs.Machine.{fall}
use Rattle.machine.specs.State.{State, R, with_x, with_mem, code as code_region, stack, processor, context, ram, xip, map, table, guards}
use Rattle.machine.specs.Memory.{read_le, write_le, bytes_of, size_of, with_bytes}
use Rattle.machine.specs.Execute.{Helpers, stores as puts, direction, access_bytes}
use Rattle.machine.proofs.Bytes.{read_lt, length-write_le}
use Rattle.machine.proofs.Regions.{alike_trans, alike_with, bytes_same, bytes_other, drop_with}
use Rattle.machine.proofs.Registers.{W_of_X}
use Rattle.machine.proofs.Data.{exec_lsr_imm}
use Rattle.card.specs.Card.{Card, set_ram, asked, Outcome as CardOutcome, write as card_write}
use Rattle.card.specs.Word.{plus, minus}
use Rattle.card.specs.Memory.{read_le as card_bytes, write_le as card_put, unaligned_store, holds_code, direct, got, ask}
use Rattle.card.specs.Memory.{store as card_store}
use Rattle.lowering.specs.declared.RegCache.{RegCache}
use Rattle.lowering.specs.Instrs.{CTX, RAM, FLAGS, DONE, HI, mov, mov_x, mov32, add_i, sub, cmp, lsr_i, indexed}
use Rattle.lowering.specs.Fragments.{even, align_test, map_test, stores, call, store, step_code, step_cache}
use Rattle.lowering.specs.Steps.{Step}
use Rattle.demand.specs.Premises.{ram_guards}
use Rattle.relation.specs.Lines.{arm, of_effect, bare, exec, taken}
use Rattle.relation.specs.Abs.{Abs, go, upd, kill, known, if_got, with_temp, with_card, mstep}
use Rattle.relation.specs.Relation.{cls, Body, Kept, Sim, Frag, Meets}
use Rattle.registers.proofs.Basics.{test, upd_same, sim_at}
use Rattle.registers.proofs.Frags.{frag_map, frag_pre, frag_nil, frag-one, frag_cons, frag_then, frag_block}
use Rattle.registers.proofs.Access.{wrote, apart-now, count-now, size-now, start-now, indexed-load, indexed-store}
use Rattle.registers.proofs.Fields.{cached-mem, cached-card}
use Rattle.registers.proofs.Constants.{below-upd, temp_frag}
use Rattle.accesses.proofs.Paths.{Goes, goes_map, goes_after, goes_before, goes_if, frag_unless, block_here, block_on}
use Rattle.accesses.proofs.Temps.{below_same, below_set, below-skip, below-kill, forget}
use Rattle.accesses.proofs.Numbers.{bytes_pos, bytes_le, bytes_small, read_is, write_is, write_low}
use Rattle.accesses.proofs.Ask.{move_frag, context_frag, count_frag, bytes_frag, write_frag}
use Rattle.accesses.proofs.Range.{store_limit, tested, range_frag, range_in, range_out}

-- ---- RAM changes
module _ {b : Block} {h : Helpers} {s0 : State} (B : Body b h s0) where
  kept-ram : {c : Card} {pc slot : ℕ} {s : State} → Kept b s0 c pc slot s → (l : List ℕ) → length l ≡ size_of s.mem ram → Kept b s0 (set_ram l c) pc slot (with_mem (with_bytes ram l s.mem) s)
  kept-ram {c} {pc} {slot} {s} w l e =
      let n : guards ≤ length s.mem = count-now B w in
      record {
        fixed = record { registers = w.fixed.registers; keeps = w.fixed.keeps; sp = w.fixed.sp };
        fields = rw (bytes_other ram l s.mem processor (omega arith)) (record { sp_is = w.fields.sp_is; rets_is = w.fields.rets_is; hold_is = w.fields.hold_is; pc_is = w.fields.pc_is; outside = w.fields.outside });
        ctx = rw (bytes_other ram l s.mem context (omega arith)) (record { brk_is = w.ctx.brk_is; slot_is = w.ctx.slot_is; version_is = w.ctx.version_is; outside = w.ctx.outside });
        others = record {
          alike = alike_trans w.others.alike (alike_with ram l s.mem e);
          code_is = bytes_other ram l s.mem code_region (omega arith) ∙ w.others.code_is;
          stack_is = bytes_other ram l s.mem stack (omega arith) ∙ w.others.stack_is;
          ram_is = bytes_same ram l s.mem (omega arith);
          xip_is = bytes_other ram l s.mem xip (omega arith) ∙ w.others.xip_is;
          map_is = bytes_other ram l s.mem map (omega arith) ∙ w.others.map_is;
          table_is = bytes_other ram l s.mem table (omega arith) ∙ w.others.table_is;
          guards_are = ap ram_guards (drop_with guards ram l s.mem (omega arith)) ∙ w.others.guards_are;
          guards_is = λ k o y m. ap (λ b. get_or b o 0) (bytes_other ram l s.mem k (omega arith)) ∙ w.others.guards_is k o y m;
        };
        io = record { outcomes_are = w.io.outcomes_are; requests_are = w.io.requests_are; goods = w.io.goods };
        small = record { count = w.small.count; regs_lt = w.small.regs_lt; sp_lt = w.small.sp_lt; rets_lt = w.small.rets_lt; hold_lt = w.small.hold_lt; brk_lt = w.small.brk_lt; pc_lt = w.small.pc_lt };
      }

  sim-ram : {rc : RegCache} {a : Abs} {s : State} → Sim b s0 rc a s → (l : List ℕ) → length l ≡ size_of s.mem ram → Sim b s0 rc (with_card (set_ram l a.c) a) (with_mem (with_bytes ram l s.mem) s)
  sim-ram {rc} {a} {s} w l e = record {
    kept = kept-ram w.kept l e;
    slots = w.slots;
    cached = cached-card (cached-mem w.cached (with_bytes ram l s.mem) (bytes_other ram l s.mem processor (omega arith))) (set_ram l a.c) refl;
    temps = w.temps;
    flags = w.flags;
    done_is = w.done_is;
  }

-- ---- a step: p the address and v the value, in w0 and w1
module _ {b : Block} {h : Helpers} {s0 : State} (B : Body b h s0) (C : Checked b) (base : ℕ) (n : Depth) (limit : ℕ) (rc : RegCache)
    (a : Abs) (w : Width) (alone : Bool) (i : ℕ) where
  module _ (p v : ℕ) (k : a.t 0 ≡ some p) (k₁ : a.t 1 ≡ some v) where
    -- what is known at each test: w0, w1 and what a call keeps
    abbrev a₀ : Abs
    a₀ = record { c = a.c; t = upd (upd (kill a.t) 0 (some p)) 1 (some v); f = none }

    -- the offset in RAM, and the last that fits
    abbrev at : ℕ
    at = minus p b.memory.ram_base

    abbrev lim : ℕ
    lim = store_limit b w

    -- behind the range test: the offset in w3
    abbrev held : Abs
    held = record { c = a.c; t = upd a₀.t 3 (some at); f = none }

    start : (s : State) → Sim b s0 rc a s → Sim b s0 rc a₀ s
    start s y = forget a₀.t (below_set (below_set (below-kill a.t a.t refl refl) 0 (some p) k) 1 (some v) k₁) y

    hold : (s : State) → Sim b s0 rc (tested a₀ at lim) s → Sim b s0 rc held s
    unfolding kill upd
    hold s y = forget held.t (below-upd (below-skip (below_same a₀.t) 2 (some lim) refl) 3 (some at)) y

    back : (s : State) → Sim b s0 rc held s → Sim b s0 rc a₀ s
    unfolding kill upd
    back s y = forget a₀.t (below-skip (below_same a₀.t) 3 (some at) refl) y

    -- ---- an odd halfword, and a word that is on no multiple of 4
    -- tests that are passed, and tests that go to the slow path
    abbrev Passes : Code (under (under n)) → Type 0
    Passes f = Frag (arm h base) f (Sim b s0 rc a₀) (Sim b s0 rc a₀)

    abbrev Misses : Code (under (under n)) → Type 0
    Misses f = Goes (arm h base) f inner (Sim b s0 rc a₀) (Sim b s0 rc a₀)

    -- bit k of the address is x, in any register whose low half is p
    abbrev Bit : (k x : ℕ) → Type 0
    Bit k x = (r : ℕ) → r % 2 ^ 32 ≡ p → r / 2 ^ k % 2 ≡ x

    bit_is : (k x : ℕ) → Bit k x → {s : State} → Sim b s0 rc a₀ s → taken (tb nonzero k 0) s ≡ not (not (eqb x 1))
    unfolding kill upd cls taken
    bit_is k x f {s} y = ap (λ u. not (not (eqb u 1))) (f (R X s 0) (W_of_X s 0 ∙ y.temps 0 p refl refl))

    clear : (k : ℕ) → Bit k 0 → Passes (to (tb nonzero k 0) inner)
    clear k f = frag_unless (tb nonzero k 0) inner (λ s y. bit_is k 0 f y)

    set : (k : ℕ) → Bit k 1 → Misses (to (tb nonzero k 0) inner)
    set k f = goes_if (tb nonzero k 0) inner (λ s y. bit_is k 1 f y)

    even_passes : eqb (p % 2) 1 ≡ false → Passes (to (tb nonzero 0 0) inner)
    even_passes e = let m : p % 2 ≢ 1 = eqb-false (p % 2) 1 e in clear 0 (λ r q. omega arith)

    odd_goes : eqb (p % 2) 1 ≡ true → Misses (to (tb nonzero 0 0) inner)
    odd_goes e = let m : p % 2 ≡ 1 = eqb-true (p % 2) 1 e in set 0 (λ r q. omega arith)

    align_passes : (u : Bool) (w : Width) → unaligned_store u w p ≡ false → Passes (align_test u w)
    unfolding align_test
    align_passes u B8 e = frag_nil
    align_passes u B16 e = even_passes e
    align_passes false B32 e = frag_nil
    align_passes true B32 e =
        let m : p % 4 ≡ 0 = eqb-true (p % 4) 0 (not-false _ e) in
        frag_then (clear 0 (λ r q. omega arith)) (clear 1 (λ r q. omega arith))

    align_goes : (u : Bool) (w : Width) → unaligned_store u w p ≡ true → Misses (align_test u w)
    unfolding align_test
    align_goes u B8 e = absurd (let z : ◌≡◌ {A = ℕ} 0 1 = cc in omega arith)
    align_goes u B16 e = odd_goes e
    align_goes false B32 e = absurd (let z : ◌≡◌ {A = ℕ} 0 1 = cc in omega arith)
    align_goes true B32 e = test (eqb (p % 2) 1) (λ f. goes_before (odd_goes f)) (λ f. goes_after (even_passes f) (second f))
      where
        second : eqb (p % 2) 1 ≡ false → Misses (to (tb nonzero 1 0) inner)
        second f =
            let m : p % 4 ≢ 0 = eqb-false (p % 4) 0 (not-true _ e) in
            let l : p % 2 ≢ 1 = eqb-false (p % 2) 1 f in
            let j : p % 4 ≡ 2 = omega arith in
            set 1 (λ r q. omega arith)

    -- ---- the range
    lim_lt : lim < 2 ^ 32
    lim_lt = omega (arith, C.memory.ram.inside, C.memory.ram.long, bytes_pos w, bytes_le w)

    ahead : Frag (arm h base) {n = under (under n)} (code (mov32 2 b.memory.ram_base ++ (sub 3 0 2 ∷ (mov32 2 lim ++ (cmp 3 2 ∷ []))))) (Sim b s0 rc a₀) (Sim b s0 rc (tested a₀ at lim))
    unfolding even kill upd
    ahead = range_frag h base a₀ p refl refl refl B8 b.memory.ram_base lim (omega (arith, C.memory.ram.inside, C.memory.ram.long)) lim_lt

    -- ---- the code map
    abbrev byte_at : ℕ
    byte_at = card_bytes a.c.map (at / 4) 1

    -- behind its load: the byte in w2
    abbrev seen : Abs
    seen = with_temp 2 (some byte_at) (with_temp 2 (some (at / 4)) held)

    look : b.memory.map ≡ true → at ≤ lim → Frag (arm h base) {n = under (under n)} (code (lsr_i 2 3 2 ∷ indexed Ldrb 2 FLAGS 2 ∷ [])) (Sim b s0 rc held) (Sim b s0 rc seen)
    unfolding cls exec
    look on le =
        let lt : at < 2 ^ 32 = omega arith in
        frag_cons
        (temp_frag h base held (lsr_i 2 3 2) 2 (at / 4) (λ s. R W s 3 / 2 ^ 2) refl (λ s y. ap of_effect (exec_lsr_imm h s W 2 3 2 (omega arith)))
        (λ s y. ap (λ u. u / 2 ^ 2 % 2 ^ 32) (y.temps 3 at refl (upd_same a₀.t 3 (some at))) ∙ omega arith))
        (temp_frag h base (with_temp 2 (some (at / 4)) held) (indexed Ldrb 2 FLAGS 2) 2 byte_at (λ s. read_le (bytes_of s.mem map) (R W s 2) 1) refl (λ s y. byte s y) (λ s y. value s y))
      where
        place : (s : State) → Sim b s0 rc (with_temp 2 (some (at / 4)) held) s → R W s 2 ≡ at / 4
        place s y = y.temps 2 (at / 4) refl (upd_same held.t 2 (some (at / 4)))

        byte : (s : State) → Sim b s0 rc (with_temp 2 (some (at / 4)) held) s → exec h (indexed Ldrb 2 FLAGS 2) s ≡ fall (bare (with_x 2 (read_le (bytes_of s.mem map) (R W s 2) 1) s))
        byte s y =
            let m : at / 4 < size_of s0.mem map = B.map_in on at (omega (arith, C.memory.ram.long, bytes_pos w)) in
            indexed-load h s (apart-now B y.kept) Ldrb FLAGS 2 map (omega (arith, count-now B y.kept)) (omega arith) (start-now B y.kept FLAGS map refl (B.x25 on)) (omega (arith, place s y, size-now B y.kept map)) (omega arith) 2 refl

        value : (s : State) → Sim b s0 rc (with_temp 2 (some (at / 4)) held) s → read_le (bytes_of s.mem map) (R W s 2) 1 % 2 ^ 32 ≡ byte_at
        value s y =
            let z : read_le a.c.map (at / 4) 1 < 256 ^ 1 = read_lt a.c.map (at / 4) 1 in
            ap₂ (λ l o. read_le l o 1 % 2 ^ 32) y.kept.others.map_is (place s y) ∙ mod-eq_of_lt (omega arith) ∙ sym (read_is a.c.map (at / 4) 1)

    unsee : (s : State) → Sim b s0 rc seen s → Sim b s0 rc held s
    unfolding kill upd
    unsee s y = forget held.t (below-skip (below-skip (below_same held.t) 2 (some (at / 4)) refl) 2 (some byte_at) refl) y

    set_is : (s : State) → Sim b s0 rc seen s → taken (cb W nonzero 2) s ≡ not (eqb byte_at 0)
    unfolding taken cls
    set_is s y = ap (λ u. not (eqb u 0)) (y.temps 2 byte_at refl (upd_same (upd held.t 2 (some (at / 4))) 2 (some byte_at)))

    map_passes : at ≤ lim → holds_code b.memory at a.c ≡ false → Frag (arm h base) {n = under (under n)} (map_test b.memory.map) (Sim b s0 rc held) (Sim b s0 rc held)
    unfolding map_test
    map_passes le = by b.memory.map refl
      where
        by : (on : Bool) → b.memory.map ≡ on → (on && not (eqb byte_at 0)) ≡ false → Frag (arm h base) {n = under (under n)} (map_test on) (Sim b s0 rc held) (Sim b s0 rc held)
        by false q e = frag_nil
        by true q e = frag_then (look q le) (frag_map (frag_unless (cb W nonzero 2) inner (λ s y. set_is s y ∙ e)) unsee)

    map-goes : at ≤ lim → holds_code b.memory at a.c ≡ true → Goes (arm h base) {n = under (under n)} (map_test b.memory.map) inner (Sim b s0 rc held) (Sim b s0 rc a₀)
    unfolding map_test
    map-goes le = by b.memory.map refl
      where
        by : (on : Bool) → b.memory.map ≡ on → (on && not (eqb byte_at 0)) ≡ true → Goes (arm h base) {n = under (under n)} (map_test on) inner (Sim b s0 rc held) (Sim b s0 rc a₀)
        by false q e = absurd (let z : ◌≡◌ {A = ℕ} 0 1 = cc in omega arith)
        by true q e = goes_after (look q le) (goes_map (goes_if (cb W nonzero 2) inner (λ s y. set_is s y ∙ e)) (λ s y. back s (unsee s y)))

    -- ---- the store itself: RAM then
    abbrev put : List ℕ
    put = card_put a.c.ram at (bytes w) v

    put-length : {s : State} → Sim b s0 rc held s → length put ≡ size_of s.mem ram
    put-length y = ap length (write_is a.c.ram at (bytes w) v) ∙ length-write_le a.c.ram at (bytes w) v ∙ ap length (sym y.kept.others.ram_is)

    exec-store : {s : State} → Sim b s0 rc held s → at ≤ lim → exec h (indexed (stores w) 1 RAM 3) s ≡ fall (bare (with_mem (with_bytes ram put s.mem) s))
    unfolding stores cls kill upd
    exec-store {s} y le = by w refl
      where
        offset : R W s 3 ≡ at
        offset = y.temps 3 at refl refl

        value : R X s 1 % 2 ^ 32 ≡ v
        value = W_of_X s 1 ∙ y.temps 1 v refl refl

        same : write_le (bytes_of s.mem ram) (R W s 3) (bytes w) (R X s 1) ≡ put
        same =
            ap₂ (λ l o. write_le l o (bytes w) (R X s 1)) y.kept.others.ram_is offset ∙ write_low w a.c.ram at (R X s 1)
            ∙ ap (λ u. write_le a.c.ram at (bytes w) u) value ∙ sym (write_is a.c.ram at (bytes w) v)

        access : (x : Access) → direction x ≡ puts → access_bytes x ≡ bytes w → exec h (indexed x 1 RAM 3) s ≡ fall (bare (with_mem (with_bytes ram put s.mem) s))
        access x d e =
            indexed-store h s (apart-now B y.kept) x RAM 3 ram (omega (arith, count-now B y.kept)) (omega arith) (start-now B y.kept RAM ram refl B.x21)
            (omega (arith, e, offset, size-now B y.kept ram, B.ram-size, C.memory.ram.long, bytes_le w)) (omega (arith, e, bytes_pos w)) 1 d refl
            ∙ ap (λ j. fall (bare (wrote ram (R W s 3) j (R X s 1) s))) e ∙ ap (λ l. fall (bare (with_mem (with_bytes ram l s.mem) s))) same

        by : (u : Width) → w ≡ u → exec h (indexed (stores u) 1 RAM 3) s ≡ fall (bare (with_mem (with_bytes ram put s.mem) s))
        by B8 q = access Strb refl (sym (ap (λ u. bytes u) q))
        by B16 q = access Strh refl (sym (ap (λ u. bytes u) q))
        by B32 q = access StrW refl (sym (ap (λ u. bytes u) q))

    -- behind the step
    abbrev stored : Card → Abs
    stored c = record { c = c; t = kill a.t; f = none }

    store_frag : at ≤ lim → Frag (arm h base) {n = under (under n)} (code (indexed (stores w) 1 RAM 3 ∷ [])) (Sim b s0 rc held) (Sim b s0 rc (stored (set_ram put a.c)))
    unfolding kill upd
    store_frag le =
        frag-one (indexed (stores w) 1 RAM 3) (λ s. bare (with_mem (with_bytes ram put s.mem) s)) (λ s y. exec-store y le)
        (λ s y. sim_at (forget (kill a.t) (below-skip (below-skip (below-skip (below_same (kill a.t)) 0 (some p) refl) 1 (some v) refl) 3 (some at) refl) (sim-ram B y put (put-length y))) 0 0)

    -- ---- the write helper
    slow_frag : (o : CardOutcome) (os : List CardOutcome) → a.c.outcomes ≡ o ∷ os
        → Frag (arm h base) {n = under n} (code (mov 2 1 ∷ mov 1 0 ∷ mov_x 0 CTX ∷ add_i 3 DONE i ∷ mov32 4 (bytes w)) then call b rc b.addresses.h_write) (Sim b s0 rc a₀)
        (Sim b s0 rc (stored (asked (card_write p (bytes w) (plus a.c.done i) v) o os a.c)))
    unfolding cls upd kill
    slow_frag o os e =
        frag_then
        (frag_cons (move_frag h base a₀ 2 1 v refl refl refl)
        (frag_cons (move_frag h base a₁ 1 0 p refl refl refl)
        (frag_cons (context_frag h base a₂ B)
        (frag_cons (count_frag h base a₃ 3 i refl (omega arith))
        (bytes_frag h base a₄ 4 (bytes w) refl (omega arith) (bytes_small w))))))
        (frag_map (write_frag B C base rc a₅ p v (plus a.c.done i) (bytes w) o os e refl refl refl refl)
        (λ s y. forget (kill a.t) (below-skip (below-kill a.t (kill a₅.t) refl refl) 0 none refl) y))
      where
        a₁ : Abs
        a₁ = with_temp 2 (some v) a₀

        a₂ : Abs
        a₂ = with_temp 1 (some p) a₁

        a₃ : Abs
        a₃ = with_temp 0 none a₂

        a₄ : Abs
        a₄ = with_temp 3 (some (plus a.c.done i)) a₃

        a₅ : Abs
        a₅ = with_temp 4 (some (bytes w)) a₄

    -- ---- the tests together
    -- are words tested?
    abbrev words_tested : Bool
    words_tested = alone && b.memory.map

    abbrev guarded : Code (under (under n))
    guarded =
        align_test words_tested w
        then code (mov32 2 b.memory.ram_base ++ (sub 3 0 2 ∷ (mov32 2 lim ++ (cmp 3 2 ∷ []))))
        then to (b_cond HI) inner
        then map_test b.memory.map
        then code (indexed (stores w) 1 RAM 3 ∷ [])
        then to always (outer inner)

    at_lt : at < 2 ^ 32
    at_lt = omega arith

    hit : unaligned_store words_tested w p ≡ false → at ≤ lim → holds_code b.memory at a.c ≡ false
        → Goes (arm h base) guarded (outer inner) (Sim b s0 rc a₀) (Sim b s0 rc (stored (set_ram put a.c)))
    unfolding taken
    hit e le f =
        goes_after (align_passes words_tested w e)
        (goes_after ahead (goes_after (frag_map (range_in h base a₀ inner at lim at_lt lim_lt le) hold)
        (goes_after (map_passes le f) (goes_after (store_frag le) (goes_if always (outer inner) (λ s y. refl))))))

    miss_align : unaligned_store words_tested w p ≡ true → Misses guarded
    miss_align e = goes_before (align_goes words_tested w e)

    miss_range : unaligned_store words_tested w p ≡ false → lim < at → Misses guarded
    miss_range e lt =
        goes_after (align_passes words_tested w e)
        (goes_after ahead (goes_before (goes_map (range_out h base a₀ inner at lim at_lt lim_lt lt) (λ s y. back s (hold s y)))))

    miss_map : unaligned_store words_tested w p ≡ false → at ≤ lim → holds_code b.memory at a.c ≡ true → Misses guarded
    miss_map e le f =
        goes_after (align_passes words_tested w e)
        (goes_after ahead (goes_after (frag_map (range_in h base a₀ inner at lim at_lt lim_lt le) hold) (goes_before (map-goes le f))))

    -- ---- what each makes of the step
    direct_frag : Goes (arm h base) guarded (outer inner) (Sim b s0 rc a₀) (Sim b s0 rc (stored (set_ram put a.c)))
        → Frag (arm h base) {n = n} (store b rc w alone i) (Sim b s0 rc a) (Sim b s0 rc (stored (set_ram put a.c)))
    unfolding store
    direct_frag g = frag_pre start (block_here (goes_before (block_on g)))

    asked-meets : Misses guarded → (os : List CardOutcome) → a.c.outcomes ≡ os
        → Meets h base b s0 rc a {n = n} (store b rc w alone i) rc
        (if_got (ask (card_write p (bytes w) (plus a.c.done i) v) os a.c) (λ u c. go (stored c)))
    unfolding store
    asked-meets g [] e = tt
    asked-meets g (o ∷ os) e = frag_pre start (frag_block (frag_then (block_here g) (slow_frag o os e)))

  pub store_ok : Meets h base b s0 rc a {n = n} (step_code b rc (Step.store w alone i)) (step_cache rc (Step.store w alone i))
      (mstep b (bytes_of s0.mem xip) limit (Step.store w alone i) a)
  unfolding step_code step_cache mstep card_store direct
  store_ok = by (a.t 0) refl (a.t 1) refl
    where
      cases : (p v : ℕ) (k : a.t 0 ≡ some p) (k₁ : a.t 1 ≡ some v)
          → (u : Bool) → unaligned_store (words_tested p v k k₁) w p ≡ u → (x : Bool) → leb (at p v k k₁) (lim p v k k₁) ≡ x
          → (y : Bool) → holds_code b.memory (at p v k k₁) a.c ≡ y
          → Meets h base b s0 rc a {n = n} (store b rc w alone i) rc
          (if_got (cond (not u && x && not y) (got 0 (set_ram (put p v k k₁) a.c))
          (ask (card_write p (bytes w) (plus a.c.done i) v) a.c.outcomes a.c)) (λ u c. go (stored p v k k₁ c)))
      cases p v k k₁ true e x r y z = asked-meets p v k k₁ (miss_align p v k k₁ e) a.c.outcomes refl
      cases p v k k₁ false e false r y z =
          asked-meets p v k k₁ (miss_range p v k k₁ e (leb-false (at p v k k₁) (lim p v k k₁) r)) a.c.outcomes refl
      cases p v k k₁ false e true r true z =
          asked-meets p v k k₁ (miss_map p v k k₁ e (leb-true (at p v k k₁) (lim p v k k₁) r) z) a.c.outcomes refl
      cases p v k k₁ false e true r false z = direct_frag p v k k₁ (hit p v k k₁ e (leb-true (at p v k k₁) (lim p v k k₁) r) z)

      by : (o : Option ℕ) → a.t 0 ≡ o → (o' : Option ℕ) → a.t 1 ≡ o'
          → Meets h base b s0 rc a {n = n} (store b rc w alone i) rc
          (known o (λ p. known o' (λ v. if_got (card_store b.memory i w alone p v a.c)
          (λ u c. go (record { c = c; t = kill a.t; f = none })))))
      by none e o' e' = tt
      by (some p) e none e' = tt
      by (some p) e (some v) e' =
          cases p v e e' (unaligned_store (words_tested p v e e') w p) refl (leb (at p v e e') (lim p v e e')) refl
          (holds_code b.memory (at p v e e') a.c) refl
