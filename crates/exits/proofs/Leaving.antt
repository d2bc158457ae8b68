-- The state between the flush and the exit: every guest register is in the processor record, and the done count is in w26.
--     Leaving, leaving-x, leaving_at, leaving-flags       what of the state it is about
--     leaving_done, leaving-arrive                        the count in w26; the card's pc and count
--     leaving-pc, leaving-slot                            the record's pc; the slot
--     leaving-flush                                       what a flush leaves
--     pc_frag, done_frag                                  the instructions that the ways out share
use mathlib.Core.Path.{◌≡◌, refl, ap, ◌∙◌}
use mathlib.Core.Logic.{◌≢◌}
use mathlib.Core.List.{[], ◌∷◌}
use Prim.Native.Nat.{ℕ, ◌+◌, ◌%◌, ◌^◌, ◌<◌}
use native.Mathlib.Omega.{arith}
use Rattle.arm.specs.declared.Size.TheVariants.{W, X}
use Rattle.block.specs.declared.Block.{Block}
use Rattle.block.specs.Checked.{Checked}
use Rattle.code.specs.Tree.{Depth, code}
use Rattle.machine.specs.Bits.{Nzcv}
use Rattle.machine.specs.State.{State, R, with_x, with_flags, processor, context}
use Rattle.machine.specs.Execute.{Helpers}
use Rattle.machine.proofs.Data.{exec-add_imm}
use Rattle.machine.proofs.Registers.{R_same, R_other, W_of_X}
use Rattle.card.specs.Card.{Card, arrive}
use Rattle.card.specs.Word.{plus}
use Rattle.lowering.specs.declared.RegCache.{RegCache}
use Rattle.lowering.specs.Instrs.{CPU, DONE, add_i, str}
use Rattle.lowering.specs.Cache.{flush}
use Rattle.demand.specs.Claim.{slot_of}
use Rattle.relation.specs.Lines.{arm, of_effect, bare, at, exec}
use Rattle.relation.specs.Abs.{Abs}
use Rattle.relation.specs.Relation.{pc_of, cls, Body, Kept, Sim, Home, Frag}
use Rattle.registers.proofs.Basics.{kept_at, kept-x, kept-flags}
use Rattle.registers.proofs.Frags.{frag_map, frag-one}
use Rattle.registers.proofs.Access.{wrote, count-now, str-now}
use Rattle.registers.proofs.Fields.{kept-pc, kept_slot, home-apart, home-mem, home-card, home_to}
use Rattle.registers.proofs.Flush.{flush_frag}
use Rattle.machine.proofs.Regions.{bytes_other}
use Rattle.machine.specs.Memory.{write_le, bytes_of, with_bytes}

pub record Leaving (b : Block) (s0 : State) (c : Card) (pc slot done : ℕ) (s : State) : Type 0 where
  pub kept : Kept b s0 c pc slot s
  pub home : Home b c s
  pub done_is : R W s 26 ≡ done

module _ {b : Block} {s0 : State} {c : Card} {pc slot done : ℕ} {s : State} (w : Leaving b s0 c pc slot done s) where
  pub leaving_at : (p n : ℕ) → Leaving b s0 c pc slot done (at p n s)
  leaving_at p n = record { kept = kept_at w.kept p n; home = home_to w.home (at p n s) refl; done_is = w.done_is }

  pub leaving-flags : (f : Nzcv) → Leaving b s0 c pc slot done (with_flags f s)
  leaving-flags f = record { kept = kept-flags w.kept f; home = home_to w.home (with_flags f s) refl; done_is = w.done_is }

  pub leaving-x : (k v : ℕ) → cls k ≢ 2 → 26 ≢ k → Leaving b s0 c pc slot done (with_x k v s)
  leaving-x k v q n = record { kept = kept-x w.kept k v q; home = home_to w.home (with_x k v s) refl; done_is = R_other W k v s 26 n ∙ w.done_is }

  -- the count grows
  pub leaving_done : (count : ℕ) → Leaving b s0 c pc slot (plus done count) (with_x 26 ((R W s 26 + count) % 2 ^ 32) s)
  unfolding cls
  leaving_done count = record {
    kept = kept-x w.kept 26 ((R W s 26 + count) % 2 ^ 32) (λ e. absurd (omega arith));
    home = home_to w.home (with_x 26 ((R W s 26 + count) % 2 ^ 32) s) refl;
    done_is = R_same W 26 ((R W s 26 + count) % 2 ^ 32) s (omega (arith, w.kept.fixed.registers)) ∙ rw w.done_is (omega arith);
  }

  pub leaving-arrive : (p n : ℕ) → p < 2 ^ 32 → Leaving b s0 (arrive p n c) pc slot done s
  leaving-arrive p n l = record {
    kept = record {
      fixed = w.kept.fixed;
      fields = record { sp_is = w.kept.fields.sp_is; rets_is = w.kept.fields.rets_is; hold_is = w.kept.fields.hold_is; pc_is = w.kept.fields.pc_is; outside = w.kept.fields.outside };
      ctx = record { brk_is = w.kept.ctx.brk_is; slot_is = w.kept.ctx.slot_is; version_is = w.kept.ctx.version_is; outside = w.kept.ctx.outside };
      others = record {
        alike = w.kept.others.alike;
        code_is = w.kept.others.code_is;
        stack_is = w.kept.others.stack_is;
        ram_is = w.kept.others.ram_is;
        xip_is = w.kept.others.xip_is;
        map_is = w.kept.others.map_is;
        table_is = w.kept.others.table_is;
        guards_are = w.kept.others.guards_are;
        guards_is = w.kept.others.guards_is;
      };
      io = record { outcomes_are = w.kept.io.outcomes_are; requests_are = w.kept.io.requests_are; goods = w.kept.io.goods };
      small = record {
        count = w.kept.small.count;
        regs_lt = w.kept.small.regs_lt;
        sp_lt = w.kept.small.sp_lt;
        rets_lt = w.kept.small.rets_lt;
        hold_lt = w.kept.small.hold_lt;
        brk_lt = w.kept.small.brk_lt;
        pc_lt = l;
      };
    };
    home = home-card w.home (arrive p n c) refl;
    done_is = w.done_is;
  }

  module _ {h : Helpers} (B : Body b h s0) where
    pub leaving-pc : Checked b → (v u : ℕ) → v % 2 ^ 32 ≡ u → Leaving b s0 c u slot done (wrote processor b.layout.pc 4 v s)
    leaving-pc C v u e = record {
      kept = kept-pc B w.kept C v u e;
      home = home-apart w.home b.layout.pc v (omega (arith, count-now B w.kept)) C.layout.regs-pc;
      done_is = w.done_is;
    }

    pub leaving-slot : (v u : ℕ) → v % 2 ^ 64 ≡ u → Leaving b s0 c pc u done (wrote context 32 8 v s)
    leaving-slot v u e = record {
      kept = kept_slot B w.kept v u e;
      home = home-mem w.home (with_bytes context (write_le (bytes_of s.mem context) 32 8 v) s.mem) (bytes_other context (write_le (bytes_of s.mem context) 32 8 v) s.mem processor (omega arith));
      done_is = w.done_is;
    }

-- ---- instructions that the ways out share
module _ {b : Block} {h : Helpers} {s0 : State} (B : Body b h s0) (C : Checked b) (base : ℕ) {n : Depth} where
  pub leaving-flush : (rc : RegCache) (a : Abs) → Frag (arm h base) {n = n} (code (flush b.layout rc)) (Sim b s0 rc a) (λ s. Sim b s0 rc a s × Leaving b s0 a.c (pc_of b s0) (slot_of s0) a.c.done s)
  leaving-flush rc a = frag_map (flush_frag B C base rc a) (λ s w. (w.0, record { kept = w.0.kept; home = w.1; done_is = w.0.done_is }))

  -- w9 or another to the record's pc
  pub pc_frag : {c : Card} {pc slot done : ℕ} (k u : ℕ)
      → Frag (arm h base) {n = n} (code (str k CPU b.layout.pc ∷ [])) (λ s. Leaving b s0 c pc slot done s × (R W s k ≡ u)) (Leaving b s0 c u slot done)
  unfolding cls
  pc_frag k u =
      frag-one (str k CPU b.layout.pc) (λ s. bare (wrote processor b.layout.pc 4 (R X s k) s))
      (λ s w. str-now B w.0.kept CPU processor b.layout.pc refl B.x19 (omega arith) k refl C.layout.pc.aligned B.pc_in)
      (λ s w. leaving_at (leaving-pc w.0 B C (R X s k) u (W_of_X s k ∙ w.1)) 0 0)

  -- w26 = w26 + count
  pub done_frag : {c : Card} {pc slot done : ℕ} (count : ℕ) → Frag (arm h base) {n = n} (code (add_i DONE DONE count ∷ [])) (Leaving b s0 c pc slot done) (Leaving b s0 c pc slot (plus done count))
  unfolding exec
  done_frag count =
      frag-one (add_i DONE DONE count) (λ s. bare (with_x 26 ((R W s 26 + count) % 2 ^ 32) s)) (λ s w. ap of_effect (exec-add_imm h s W count 26 26 (omega arith) (omega arith)))
      (λ s w. leaving_at (leaving_done w count) 0 0)
