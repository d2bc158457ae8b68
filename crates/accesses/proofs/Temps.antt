-- What is known of the temporaries around an access.
--     compare_frag                         a comparison
--     below_set, below-skip, below-kill    fewer temporaries known; forget: and no flags
use mathlib.Core.Path.{◌≡◌, sym, ap, ◌∙◌}
use mathlib.Core.Option.{Option, none, some}
use mathlib.Core.List.{[], ◌∷◌}
use Prim.Native.Nat.{ℕ}
use native.Mathlib.Omega.{arith}
use borrow.Author.Tests.{eqb-true, eqb-false}
use lib.Dec.{eqb}
use Rattle.arm.specs.declared.Size.TheVariants.{W}
use Rattle.block.specs.declared.Block.{Block}
use Rattle.code.specs.Tree.{Depth, code}
use Rattle.machine.specs.Bits.{Nzcv}
use Rattle.machine.specs.State.{State, R, with_flags}
use Rattle.machine.specs.Execute.{Helpers}
use Rattle.machine.proofs.Flags.{compared}
use Rattle.machine.proofs.Data.{exec_cmp}
use Rattle.lowering.specs.declared.RegCache.{RegCache}
use Rattle.lowering.specs.Instrs.{cmp}
use Rattle.relation.specs.Lines.{arm, of_effect, bare, exec}
use Rattle.relation.specs.Abs.{Abs, upd, kill}
use Rattle.relation.specs.Relation.{cls, Sim, Frag}
use Rattle.registers.proofs.Basics.{test, upd_same, upd_other, sim_at, sim-flags}
use Rattle.registers.proofs.Frags.{frag-one}
use Rattle.registers.proofs.Constants.{Below}

module _ (h : Helpers) (base : ℕ) {b : Block} {s0 : State} {n : Depth} {rc : RegCache} (a : Abs) where
  pub compare_frag : (i j x y : ℕ) → cls i ≡ 0 → cls j ≡ 0 → a.t i ≡ some x → a.t j ≡ some y
      → Frag (arm h base) {n = n} (code (cmp i j ∷ [])) (Sim b s0 rc a) (Sim b s0 rc (record { c = a.c; t = a.t; f = some (compared W x y) }))
  unfolding exec
  compare_frag i j x y p q k l =
      frag-one (cmp i j) (λ s. bare (with_flags (compared W (R W s i) (R W s j)) s)) (λ s w. ap of_effect (exec_cmp h s W j i w.kept.fixed.registers))
      (λ s w. sim_at (sim-flags w (compared W (R W s i) (R W s j)) (some (compared W x y)) (λ u e. rw (w.temps i x p k, w.temps j y q l) (some_is (compared W x y) u e))) 0 0)
    where
      some_is : (x y : Nzcv) → some x ≡ some y → x ≡ y
      some_is x y e = cc

-- ---- fewer temporaries known
pub not_some : {A : Type 0} {v : ℕ} → none ≡ some v → A
not_some {A} {v} q = let z : ◌≡◌ {A = ℕ} 0 1 = cc in absurd (omega arith)

pub below_same : (t : ℕ → Option ℕ) → Below t t
below_same t = record { below = λ k v e. e }

module _ {t t' : ℕ → Option ℕ} (p : Below t t') (k : ℕ) (o : Option ℕ) where
  -- one more on the left, that the right knows
  pub below_set : t' k ≡ o → Below (upd t k o) t'
  below_set e =
      record {
        below = λ j v q. test (eqb j k)
            (λ z. let y : j ≡ k = eqb-true j k z in ap t' y ∙ e ∙ sym (upd_same t k o) ∙ ap (upd t k o) (sym y) ∙ q)
            (λ z. p.below j v (sym (upd_other t k o j (eqb-false j k z)) ∙ q));
      }

  -- one more on the right, that the left does not know
  pub below-skip : t k ≡ none → Below t (upd t' k o)
  below-skip e =
      record {
        below = λ j v q. test (eqb j k)
            (λ z. not_some (sym e ∙ ap t (sym (eqb-true j k z)) ∙ q))
            (λ z. upd_other t' k o j (eqb-false j k z) ∙ p.below j v q);
      }

-- the two that a call keeps
pub below-kill : (t t' : ℕ → Option ℕ) → t' 23 ≡ t 23 → t' 24 ≡ t 24 → Below (kill t) t'
unfolding kill
below-kill t t' p q =
    record {
      below = λ k v h. test (eqb k 23)
          (λ e. let z : k ≡ 23 = eqb-true k 23 e in ap t' z ∙ p ∙ ap t (sym z) ∙ (rw e at h))
          (λ e. test (eqb k 24)
          (λ f. let z : k ≡ 24 = eqb-true k 24 f in ap t' z ∙ q ∙ ap t (sym z) ∙ (rw (e, f) at h))
          (λ f. let z : none ≡ some v = rw (e, f) at h in not_some z));
    }

pub forget : {b : Block} {s0 : State} {rc : RegCache} {a : Abs} {s : State} (t : ℕ → Option ℕ) → Below t a.t → Sim b s0 rc a s → Sim b s0 rc (record { c = a.c; t = t; f = none }) s
forget t p w = record { kept = w.kept; slots = w.slots; cached = w.cached; temps = λ k v q e. w.temps k v q (p.below k v e); flags = λ g e. cc; done_is = w.done_is }
