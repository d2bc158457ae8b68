-- The guard of a RAM block where its versions are equal, and where they differ and the helper is asked. The opening leaves the register cache
-- empty, so that a call has nothing to write back or to read again.
--     guard_equal      equal versions go on without a request
--     guard-stays      an answer that is not 0 goes on
--     guard-leaves     the block leaves with nothing done where the answer is 0
use mathlib.Core.Path.{◌≡◌, refl, sym, ap, ◌∙◌, subst₂}
use mathlib.Core.Bool.{true, false, not}
use mathlib.Core.Option.{none, some}
use mathlib.Core.List.{List, [], ◌∷◌}
use Prim.Native.Nat.{ℕ, ◌%◌, ◌^◌, ◌<◌}
use native.Mathlib.Nat.{mod-eq_of_lt}
use native.Mathlib.Omega.{arith}
use borrow.Author.Tests.{eq-eqb, ne_eqb}
use lib.Dec.{eqb}
use Rattle.arm.specs.declared.Size.TheVariants.{W, X}
use Rattle.arm.specs.declared.Test.TheVariants.{Nonzero as nonzero}
use Rattle.block.specs.declared.Block.{Block}
use Rattle.block.specs.Checked.{Checked}
use Rattle.code.specs.Items.{b_cond, cb}
use Rattle.code.specs.Tree.{Depth, under, inner, Code, code}
use Rattle.code.specs.Machine.{fall, fell, go_on, of_eff, straight, does}
use Rattle.machine.specs.Bits.{IsZero}
use Rattle.machine.specs.State.{State, Outcome, R, with_x, context}
use Rattle.machine.specs.State.{guard as arm_guard}
use Rattle.machine.specs.Memory.{base_of}
use Rattle.machine.specs.Execute.{Helpers, called, ask, execute}
use Rattle.machine.proofs.Data.{exec_mov}
use Rattle.machine.proofs.Registers.{R_same, R_other, R_lt, x0-called}
use Rattle.card.specs.Card.{arrive, asked, Outcome as CardOutcome}
use Rattle.card.specs.Card.{guard as card_guard}
use Rattle.card.specs.Step.{exits}
use Rattle.lowering.specs.Cache.{empty_cache, flush, flush_from}
use Rattle.lowering.specs.Instrs.{CTX, EQ, mov_x, blr}
use Rattle.lowering.specs.Fragments.{call, guard}
use Rattle.demand.specs.Outside.{as_card, all_card}
use Rattle.demand.specs.Premises.{Guarded}
use Rattle.relation.specs.Lines.{arm, of_effect, bare, exec, taken}
use Rattle.relation.specs.Abs.{Abs, kill, upd}
use Rattle.relation.specs.Relation.{cls, Body, Sim, Home, dirty_of, Frag, Outs}
use Rattle.registers.proofs.Basics.{below8, sim_at}
use Rattle.registers.proofs.Frags.{frag_nil, frag-one, frag_cons, frag_then, frag_lit}
use Rattle.registers.proofs.Access.{start-now}
use Rattle.registers.proofs.Flush.{Homed, reload_frag}
use Rattle.accesses.proofs.Call.{behind, homed_called}
use Rattle.accesses.proofs.Temps.{below-kill, below-skip, forget}
use Rattle.exits.proofs.Ways.{frag_stays, goes_to, goes_then, goes-front, goes_map, frag_caught, exits-then, exits-block, exits_outs_exits}
use Rattle.exits.proofs.Exit.{exit_imm-exits}
use Rattle.simulation.proofs.Versions as versions-of
use Rattle.simulation.proofs.Versions.{put, versions, address, Compared, compare, asks, after}

module _ {b : Block} {h : Helpers} {s0 : State} (B : Body b h s0) (C : Checked b) (base : ℕ) (n : Depth) (G : Guarded b.guard h s0) (a : Abs) where
  abbrev at : ℕ
  at = versions-of.at B C base n G a

  abbrev helper : ℕ
  helper = versions-of.helper B C base n G a

  abbrev guard_code : (pc : ℕ) → Code n
  guard_code = versions-of.guard_code B C base n G a

  abbrev ours : ℕ
  ours = versions-of.ours B C base n G a

  abbrev theirs : ℕ
  theirs = versions-of.theirs B C base n G a

  abbrev plain : Abs
  plain = versions-of.plain B C base n G a

  abbrev Plain : State → Type 0
  Plain = versions-of.Plain B C base n G a

  -- equal versions go on without a request
  pub guard_equal : (pc : ℕ) → eqb ours theirs ≡ true → Frag (arm h base) {n = n} (guard_code pc) (Sim b s0 empty_cache a) Plain
  unfolding Compared guard
  guard_equal pc e =
      frag_caught (goes_then (versions B C base n G a) (goes_then (address B C base n G a) (goes_then (compare B C base n G a)
      (goes-front (goes_map (goes_to (b_cond EQ) inner (λ s w. asks B C base n G a s w ∙ e)) (λ s w. w.0))))))

  -- ---- the call
  -- x0 is the context
  InContext : State → Type 0
  InContext s = Plain s × (R X s 1 ≡ at) × (R X s 0 ≡ base_of s.mem context)

  context_in : Frag (arm h base) {n = under n} (code (mov_x 0 CTX ∷ [])) (Compared B C base n G a) InContext
  unfolding Compared InContext cls kill exec
  context_in =
      frag-one (mov_x 0 CTX) (λ s. bare (with_x 0 (R X s CTX) s)) (λ s w. ap of_effect (exec_mov h s X CTX 0 w.0.kept.fixed.registers))
      (λ s w. (
        sim_at (put B C base n G a 0 (R X s CTX) refl refl w.0) 0 0,
        R_other X 0 (R X s CTX) s 1 (omega arith) ∙ w.1,
        R_same X 0 (R X s CTX) s (omega (arith, w.0.kept.fixed.registers)) ∙ mod-eq_of_lt (R_lt X s CTX)
            ∙ start-now B w.0.kept CTX context refl B.x20,
      ))

  -- with nothing in the slots every guest register is in the processor record
  home_of : {s : State} → Plain s → Home b a.c s
  home_of w = record { regs_are = λ r l. w.cached.home r l (λ i m e. clean i m) }
    where
      clean : (i : ℕ) → i < 8 → dirty_of empty_cache i ≡ false
      clean = below8 (λ i. dirty_of empty_cache i ≡ false) refl refl refl refl refl refl refl refl

  -- x9 is the helper
  Calling : State → Type 0
  Calling s = Plain s × (R X s 1 ≡ at) × (R X s 0 ≡ base_of s.mem context) × (R X s 9 ≡ h.h-ram-ok)

  exec-guard : (s : State) → Calling s → (o : Outcome) (os : List Outcome) → s.outcomes ≡ o ∷ os
      → exec h (blr 9) s ≡ fall (bare (called (arm_guard at) o os s))
  unfolding exec execute Calling
  exec-guard s w o os e =
      rw (
        w.3,
        ne_eqb h.h-ram-ok h.h-read G.differ-read,
        ne_eqb h.h-ram-ok h.h-write G.differ-write,
        eq-eqb h.h-ram-ok h.h-ram-ok refl,
        eq-eqb (R X s 0) (base_of s.mem context) w.2,
        w.1,
      )
      (ap (λ l. of_effect (ask (arm_guard at) l s)) e)

  module _ (o : CardOutcome) (os : List CardOutcome) (met : a.c.outcomes ≡ o ∷ os) where
    -- w0 is the answer
    abbrev pub answer : ℕ
    answer = o.answer % 2 ^ 32

    abbrev pub answered : Abs
    answered = behind plain (some answer) (after B C base n G a o os)

    blr_frag : Frag (arm h base) {n = under n} (code (blr 9 ∷ [])) Calling (Homed b s0 empty_cache answered)
    unfolding does straight Calling
    blr_frag = record { runs = λ p s w. by p s w s.outcomes refl }
      where
        by : (p : ℕ) (s : State) → Calling s → (l : List Outcome) → s.outcomes ≡ l
            → (s' : State) × (does (arm h base) {n = under n} (code (blr 9 ∷ [])) p s ≡ fell s') × Homed b s0 empty_cache answered s'
        by p s w [] z = let y : ◌≡◌ {A = ℕ} 0 1 = cc (w.0.kept.io.outcomes_are ∙ ap all_card z) in absurd (omega arith)
        by p s w (x ∷ xs) z =
            let m : o ∷ os ≡ as_card x ∷ all_card xs = sym met ∙ w.0.kept.io.outcomes_are ∙ ap all_card z in
            let m₁ : as_card x ≡ o = cc in
            let m₂ : all_card xs ≡ os = cc in (
              bare (called (arm_guard at) x xs s),
              ap (λ r. of_eff {n = under n} (go_on r (λ s₁. fall s₁))) (exec-guard s w x xs z),
              subst₂
                  (λ y ys. Homed b s0 empty_cache (behind plain (some (y.answer % 2 ^ 32)) (asked (card_guard at) y ys a.c))
                  (bare (called (arm_guard at) x xs s))) m₁ m₂
                  (homed_called B w.0 (home_of w.0) (card_guard at) x xs z (some (x.answer % 2 ^ 32))
                  (λ u e. ap (λ k. k % 2 ^ 32) (x0-called (arm_guard at) x xs s w.0.kept.fixed.registers) ∙ omega arith
                  ∙ (let y : x.answer % 2 ^ 32 ≡ u = cc in y))),
            )

    asked_frag : Frag (arm h base) {n = under n} (call b empty_cache helper) InContext (Sim b s0 empty_cache answered)
    unfolding call flush flush_from cls kill InContext Calling
    asked_frag =
        frag_then frag_nil (frag_then
        (frag_lit 9 helper {B = Calling} (λ s w. (
          put B C base n G a 9 helper refl refl w.0,
          R_other X 9 helper s 1 (omega arith) ∙ w.1,
          R_other X 9 helper s 0 (omega arith) ∙ w.2,
          R_same X 9 helper s (omega (arith, w.0.kept.fixed.registers)) ∙ mod-eq_of_lt C.guard.h-ram-ok ∙ sym G.h-ram-ok,
        )))
        (frag_cons blr_frag (reload_frag B C base empty_cache answered)))

    asks-answer : (s : State) → Sim b s0 empty_cache answered s → taken (cb W nonzero 0) s ≡ not (eqb answer 0)
    unfolding taken upd cls
    asks-answer s w = ap (λ y. not (IsZero y)) (w.temps 0 answer refl refl)

    -- what the call leaves known but for the answer
    abbrev pub stays : Abs
    stays = record { c = (after B C base n G a o os); t = kill a.t; f = none }

    pub guard-stays : (pc : ℕ) → eqb ours theirs ≡ false → eqb answer 0 ≡ false
        → Frag (arm h base) {n = n} (guard_code pc) (Sim b s0 empty_cache a) (Sim b s0 empty_cache stays)
    unfolding guard kill upd
    guard-stays pc e f =
        frag_caught (goes_then (versions B C base n G a) (goes_then (address B C base n G a) (goes_then (compare B C base n G a)
        (goes_then (frag_stays (b_cond EQ) inner (λ s w. asks B C base n G a s w ∙ e)) (goes_then context_in (goes_then asked_frag
        (goes-front (goes_map (goes_to (cb W nonzero 0) inner (λ s w. asks-answer s w ∙ ap not f))
        (λ s w. forget (kill a.t) (below-skip (below-kill a.t (kill (kill a.t)) refl refl) 0 (some answer) refl) w)))))))))

    pub guard-leaves : (pc : ℕ) → pc < 2 ^ 32 → eqb ours theirs ≡ false → eqb answer 0 ≡ true
        → Outs h base b s0 {n = n} (guard_code pc) (Sim b s0 empty_cache a) exits (arrive pc 0 (after B C base n G a o os))
    unfolding guard
    guard-leaves pc l e f =
        exits_outs_exits (exits-block (exits-then (versions B C base n G a) (exits-then (address B C base n G a) (exits-then (compare B C base n G a)
        (exits-then (frag_stays (b_cond EQ) inner (λ s w. asks B C base n G a s w ∙ e)) (exits-then context_in (exits-then asked_frag
        (exits-then (frag_stays (cb W nonzero 0) inner (λ s w. asks-answer s w ∙ ap not f))
        (exit_imm-exits B C base empty_cache answered pc 0 0 l)))))))))
