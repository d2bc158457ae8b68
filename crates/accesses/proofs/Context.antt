-- From its move to the call, the context stays in register 0.
--     InContext        something holds, and the context is in register 0
--     in_frag          code that leaves register 0 alone
--     put_spares, flush_spares     code that does
use mathlib.Core.Path.{◌≡◌, refl, sym, ap, ◌∙◌}
use mathlib.Core.Logic.{◌≢◌}
use mathlib.Core.Bool.{Bool, true, false, not, ◌&&◌}
use mathlib.Core.Option.{Option, none, some}
use mathlib.Core.List.{List, [], ◌∷◌}
use Prim.Native.Nat.{ℕ, ◌+◌, ◌*◌, ◌/◌, ◌%◌, ◌^◌}
use lib.Dec.{eqb}
use lib.ListN.{get_or}
use Rattle.arm.specs.declared.Size.TheVariants.{X}
use Rattle.arm.specs.declared.Instr.{Instr}
use Rattle.block.specs.declared.Layout.{Layout}
use Rattle.code.specs.Items.{pick}
use Rattle.code.specs.Tree.{Depth, Code, code}
use Rattle.code.specs.Machine.{Eff, fall, stop, fell, go_on, straight, does}
use Rattle.machine.specs.State.{Region, State, context, R, RSP, with_x}
use Rattle.machine.specs.Memory.{base_of, store}
use Rattle.machine.specs.Execute.{Helpers, accessed, done, execute}
use Rattle.machine.proofs.Registers.{R_other}
use Rattle.lowering.specs.declared.RegCache.{RegCache}
use Rattle.lowering.specs.Instrs.{CPU, str}
use Rattle.lowering.specs.Cache.{POOL, FREE, off_reg, flush_from, flush}
use Rattle.relation.specs.Lines.{Stop, arm, bare, of_effect, exec}
use Rattle.relation.specs.Relation.{Frag}
use Rattle.registers.proofs.Frags.{fell_is}

pub record InContext (s0 : State) (A : State → Type 0) (s : State) : Type 0 where
  pub holds : A s
  pub context_is : R X s 0 ≡ base_of s0.mem context

-- ---- stores
stored_is : (m : Option (List Region)) (s s' : State) → of_effect (accessed m (λ l. done (record { x = s.x; sp = s.sp; nzcv = s.nzcv; pc = s.pc; mem = l; outcomes = s.outcomes; requests = s.requests; count = s.count }))) ≡ fall s' → s'.x ≡ s.x
stored_is none s s' e = cc
stored_is (some l) s s' e = cc

str_spares : (h : Helpers) (t o : ℕ) (s s' : State) → exec h (str t CPU o) s ≡ fall s' → s'.x ≡ s.x
unfolding exec execute
str_spares h t o s s' e = stored_is (store s.mem ((RSP X s CPU + o / 4 * 4) % 2 ^ 64) 4 (R X s t)) s s' e

module _ (h : Helpers) (base : ℕ) where
  pub in_frag : {n : Depth} {s0 : State} {f : Code n} {A B : State → Type 0} → Frag (arm h base) f A B
      → ((p : ℕ) (s s' : State) → A s → does (arm h base) f p s ≡ fell s' → R X s' 0 ≡ R X s 0) → Frag (arm h base) f (InContext s0 A) (InContext s0 B)
  in_frag g k = record {
    runs = λ q s w. let (s₁, r, w₁) = g.runs q s w.holds in (s₁, r, record { holds = w₁; context_is = k q s s₁ w.holds r ∙ w.context_is });
  }

  -- a register is written
  pub put_spares : {n : Depth} (is : List Instr) (d v p : ℕ) (s s' : State) → 0 ≢ d → straight (arm h base) is s ≡ fall (bare (with_x d v s)) → does (arm h base) {n = n} (code is) p s ≡ fell s' → R X s' 0 ≡ R X s 0
  unfolding does
  put_spares {n} is d v p s s' k e r =
      let y : fall (bare (with_x d v s)) ≡ fall s' = sym e ∙ fell_is {n = n} (straight (arm h base) is s) s' r in
      let z : bare (with_x d v s) ≡ s' = cc in
      ap (λ t. R X t 0) (sym z) ∙ R_other X d v s 0 k

  then_spares : (is : List Instr) (s s' : State) (f : Eff State Stop) → ((t : State) → f ≡ fall t → t.x ≡ s.x) → ((t : State) → straight (arm h base) is t ≡ fall s' → s'.x ≡ t.x)
      → go_on f (λ t. straight (arm h base) is t) ≡ fall s' → s'.x ≡ s.x
  then_spares is s s' (fall t) a b e = b t e ∙ a t refl
  then_spares is s s' (stop r) a b e = cc

  from_spares : (lay : Layout) (hs gs : List ℕ) (ds : List Bool) (s s' : State) → straight (arm h base) (flush_from lay hs gs ds) s ≡ fall s' → s'.x ≡ s.x
  unfolding flush_from straight
  from_spares lay [] gs ds s s' e = cc
  from_spares lay (t ∷ hs) [] ds s s' e = cc
  from_spares lay (t ∷ hs) (g ∷ gs) [] s s' e = cc
  from_spares lay (t ∷ hs) (g ∷ gs) (d ∷ ds) s s' e = by (λ w q. from_spares lay hs gs ds w s' q) (d && not (eqb g FREE)) e
    where
      by : ((w : State) → straight (arm h base) (flush_from lay hs gs ds) w ≡ fall s' → s'.x ≡ w.x) → (u : Bool) → straight (arm h base) (pick u (str t CPU (off_reg lay g) ∷ flush_from lay hs gs ds) (flush_from lay hs gs ds)) s ≡ fall s' → s'.x ≡ s.x
      by rec true r = then_spares (flush_from lay hs gs ds) s s' (exec h (str t CPU (off_reg lay g)) s) (λ w q. str_spares h t (off_reg lay g) s w q) rec r
      by rec false r = rec s r

  pub flush_spares : {n : Depth} (lay : Layout) (rc : RegCache) (p : ℕ) (s s' : State) → does (arm h base) {n = n} (code (flush lay rc)) p s ≡ fell s' → R X s' 0 ≡ R X s 0
  unfolding flush does
  flush_spares {n} lay rc p s s' e = ap (λ l. get_or l 0 0 % 2 ^ 64) (from_spares lay POOL rc.guest rc.dirty s s' (fell_is {n = n} (straight (arm h base) (flush_from lay POOL rc.guest rc.dirty) s) s' e))
