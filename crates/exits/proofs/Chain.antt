-- Leaving by a chain site.
--     chain-exits                 go on at a fixed pc: the site's address is in the slot
--     chain-meets, fork-meets     the steps
use mathlib.Core.Path.{◌≡◌, refl, sym, ap, ◌∙◌, subst}
use mathlib.Core.Bool.{true, cond}
use mathlib.Core.Option.{Option, none, some}
use mathlib.Core.List.{List, [], ◌∷◌, ◌++◌}
use Prim.Native.Nat.{ℕ, ◌+◌, ◌*◌, ◌%◌, ◌^◌, ◌<◌}
use native.Mathlib.Nat.{mod-eq_of_lt}
use native.Mathlib.Omega.{arith}
use lib.ListN.{length}
use Rattle.arm.specs.declared.Size.TheVariants.{W, X}
use Rattle.arm.specs.declared.Instr.{Instr}
use Rattle.block.specs.declared.Block.{Block}
use Rattle.block.specs.Checked.{Checked}
use Rattle.code.specs.Items.{b_cond}
use Rattle.code.specs.Items.{b as always}
use Rattle.code.specs.Tree.{Depth, inner, Code, code, start, ◌then◌, words}
use Rattle.code.specs.Machine.{and_then, fell, does}
use Rattle.machine.specs.Bits.{Nzcv, ConditionHolds}
use Rattle.machine.specs.State.{State, R, with_x, context}
use Rattle.machine.specs.Execute.{Helpers}
use Rattle.machine.proofs.Registers.{R_same}
use Rattle.card.specs.Card.{Card, arrive}
use Rattle.card.specs.Step.{Way, chains}
use Rattle.card.specs.Word.{plus}
use Rattle.lowering.specs.declared.RegCache.{RegCache}
use Rattle.lowering.specs.Instrs.{CPU, CTX, DONE, mov, mov32, add_i, str, str_x}
use Rattle.lowering.specs.Cache.{flush}
use Rattle.lowering.specs.Steps.{Step}
use Rattle.lowering.specs.Compile.{starts}
use Rattle.lowering.specs.Fragments.{OFF_SLOT, chain, fork, step_code, step_cache}
use Rattle.demand.specs.Claim.{slot_of}
use Rattle.relation.specs.Lines.{arm, bare, taken}
use Rattle.relation.specs.Abs.{Abs, known, off, mstep}
use Rattle.relation.specs.Relation.{pc_of, cls, Body, Sim, AtExit, Leaves, Frag, Meets}
use Rattle.relation.specs.Fits.{StepFits}
use Rattle.registers.proofs.Basics.{test}
use Rattle.registers.proofs.Frags.{frag_map, frag-one, frag_cons, frag_append, frag_then}
use Rattle.registers.proofs.Access.{wrote, str_x-now}
use Rattle.registers.proofs.Constants.{mov32_frag}
use Rattle.registers.proofs.Slots.{exec-move}
use Rattle.exits.proofs.Ways.{Exits, frag_stays, goes_to, goes-front, frag_caught, exits-then, exits-front, exits-block, exits_outs, exits_here}
use Rattle.exits.proofs.Leaving.{Leaving, leaving_at, leaving-x, leaving-arrive, leaving-slot, leaving-flush, pc_frag, done_frag}

-- behind the code f, the address of its first word
pub exits-start : {h : Helpers} {base : ℕ} {b : Block} {s0 : State} {n : Depth} {f g : Code n} {A B : State → Type 0} {w : Way} {c : Card} (rd : ℕ) → Frag (arm h base) f A B
    → ((q p : ℕ) (s : State) → B s → Leaves b s0 w c ((base + 4 * q) % 2 ^ 64) (does (arm h base) g p (with_x rd ((base + 4 * q) % 2 ^ 64) s)))
    → Exits h base b s0 (start rd f then g) A w c (λ p. p)
unfolding does
exits-start {h = h} {base = base} {b = b} {s0 = s0} {f = f} {g = g} {w = w} {c = c} rd x y = record {
  leaves = λ p s u.
      let (s₁, r₁, u₁) = x.runs p s u in
      subst (λ o. Leaves b s0 w c ((base + 4 * p) % 2 ^ 64) (and_then (and_then o (λ s₂. fell ((arm h base).address rd p s₂))) (λ s₃. does (arm h base) g (p + words (start rd f)) s₃)))
      (sym r₁) (y p (p + words (start rd f)) s₁ u₁);
}

-- the words before the site
abbrev pub ahead : Block → RegCache → (count : ℕ) → List Instr
ahead b rc count = flush b.layout rc ++ (add_i DONE DONE count ∷ [])

module _ {b : Block} {h : Helpers} {s0 : State} (B : Body b h s0) (C : Checked b) (base : ℕ) {n : Depth} (rc : RegCache) (a : Abs) (pc count : ℕ) (l : pc < 2 ^ 32) where
  -- behind the site: the slot, and the count in w0
  closed : (k q : ℕ) → Frag (arm h base) {n = n} (code (str_x 10 CTX OFF_SLOT ∷ mov 0 DONE ∷ []))
      (λ s. Leaving b s0 a.c pc (slot_of s0) (plus a.c.done count) s × (R X s 10 ≡ (base + 4 * q) % 2 ^ 64)) (AtExit b s0 (chains k) (arrive pc count a.c) ((base + 4 * q) % 2 ^ 64))
  unfolding cls
  closed k q = frag_cons {B = Leaving b s0 a.c pc ((base + 4 * q) % 2 ^ 64) (plus a.c.done count)}
      (frag-one (str_x 10 CTX OFF_SLOT) (λ s. bare (wrote context 32 8 (R X s 10) s))
      (λ s w. str_x-now B w.0.kept CTX context 32 refl B.x20 (omega arith) 10 refl refl (omega (arith, B.context_in)))
      (λ s w. leaving_at (leaving-slot w.0 B (R X s 10) ((base + 4 * q) % 2 ^ 64) (ap (λ y. y % 2 ^ 64) w.1 ∙ omega arith)) 0 0))
      (frag-one (mov 0 DONE) (λ s. bare (with_x 0 (R W s 26) s)) (λ s w. exec-move h s 0 26 w.kept.fixed.registers)
      (λ s w. let v : Leaving b s0 (arrive pc count a.c) pc ((base + 4 * q) % 2 ^ 64) (plus a.c.done count) (bare (with_x 0 (R W s 26) s)) =
      leaving_at (leaving-x (leaving-arrive w pc count l) 0 (R W s 26) (λ e. absurd (omega arith)) (omega arith)) 0 0 in
      record {
        kept = v.kept;
        home = v.home;
        done_is = R_same W 0 (R W s 26) s (omega (arith, w.kept.fixed.registers)) ∙ ap (λ y. y % 2 ^ 32) w.done_is ∙ omega arith;
        missed = tt;
      }))

  pub chain-exits : (k : ℕ) → Exits h base b s0 {n = n} (chain b rc pc count) (Sim b s0 rc a) (chains k) (arrive pc count a.c) (λ p. p + length (ahead b rc count))
  unfolding chain words cls taken
  chain-exits k = exits-then (frag_append (frag_map (leaving-flush B C base rc a) (λ s w. w.1)) (done_frag B C base count))
      (exits-start 10 (frag_then (frag_caught (goes_to always inner (λ s w. jumps s))) number)
      (λ q p s w. (exits-then (closed k q) (exits_here {t = λ p. q} (λ p s w. w))).leaves p (with_x 10 ((base + 4 * q) % 2 ^ 64) s)
      (leaving-x w 10 ((base + 4 * q) % 2 ^ 64) (λ e. absurd (omega arith)) (omega arith), R_same X 10 ((base + 4 * q) % 2 ^ 64) s (omega (arith, w.kept.fixed.registers)) ∙ omega arith)))
    where
      jumps : (s : State) → taken always s ≡ true
      jumps s = refl

      number : Frag (arm h base) {n = n} (code (mov32 9 pc ++ (str 9 CPU b.layout.pc ∷ []))) (Leaving b s0 a.c (pc_of b s0) (slot_of s0) (plus a.c.done count)) (Leaving b s0 a.c pc (slot_of s0) (plus a.c.done count))
      number = frag_append {B = λ s. Leaving b s0 a.c (pc_of b s0) (slot_of s0) (plus a.c.done count) s × (R W s 9 ≡ pc)}
          (mov32_frag h base 9 pc (omega arith) l (λ s w. w.kept.fixed.registers)
          (λ s w. (leaving_at (leaving-x w 9 pc (λ e. absurd (omega arith)) (omega arith)) 0 0, R_same W 9 pc s (omega (arith, w.kept.fixed.registers)) ∙ mod-eq_of_lt l)))
          (pc_frag B C base 9 pc)

-- ---- the steps
module _ {b : Block} {h : Helpers} {s0 : State} (B : Body b h s0) (C : Checked b) (base : ℕ) (n : Depth) (flash : List ℕ) (limit : ℕ) (rc : RegCache) (a : Abs) where
  pub chain-meets : (pc count : ℕ) → StepFits (Step.chain pc count)
      → Meets h base b s0 rc a {n = n} (step_code b rc (Step.chain pc count)) (step_cache rc (Step.chain pc count)) (mstep b flash limit (Step.chain pc count) a)
  unfolding StepFits step_code step_cache mstep chain starts words
  chain-meets pc count f = exits_outs (chain-exits B C base rc a pc count f.0 0)

  pub fork-meets : (k pc target count : ℕ) → StepFits (Step.fork k pc target count)
      → Meets h base b s0 rc a {n = n} (step_code b rc (Step.fork k pc target count)) (step_cache rc (Step.fork k pc target count)) (mstep b flash limit (Step.fork k pc target count) a)
  unfolding StepFits step_code step_cache mstep fork chain starts words taken
  fork-meets k pc target count f = by a.f refl
    where
      by : (o : Option Nzcv) → a.f ≡ o → Meets h base b s0 rc a {n = n} (step_code b rc (Step.fork k pc target count)) rc
          (known o (λ g. cond (ConditionHolds k g) (off (chains 1) (arrive target count a.c)) (off (chains 0) (arrive pc count a.c))))
      by none e = tt
      by (some g) e = test (ConditionHolds k g)
          (λ t. rw t (exits_outs (exits-then (frag_caught (goes-front (goes_to (b_cond k) inner (λ s w. ap (ConditionHolds k) (w.flags g e) ∙ t)))) (chain-exits B C base rc a target count f.1 1))))
          (λ t. rw t (exits_outs (exits-front (exits-block (exits-then (frag_stays (b_cond k) inner (λ s w. ap (ConditionHolds k) (w.flags g e) ∙ t)) (chain-exits B C base rc a pc count f.0 0))))))
