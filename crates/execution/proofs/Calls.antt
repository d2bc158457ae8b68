-- Lines whose run does not fail call a helper with the context in register 0, and so do their words.
--     calls-run      in every state of the machine's run
-- Assumes nothing.
use mathlib.Core.Path.{◌≡◌, refl, sym, ap, ◌∙◌, subst}
use mathlib.Core.Logic.{◌⊎◌, inl, inr}
use mathlib.Core.Bool.{Bool, true, false}
use mathlib.Core.Option.{some}
use mathlib.Core.List.{List, [], ◌∷◌}
use Prim.Native.Nat.{ℕ, zero, suc, ◌+◌, ◌*◌, ◌%◌, ◌^◌, ◌<◌}
use native.Mathlib.Nat.{mod-eq_of_lt}
use native.Mathlib.Omega.{arith}
use borrow.Author.Tests.{eqb-true, eq-eqb}
use lib.Dec.{eqb}
use lib.ListN.{length, get_or, drop}
use Rattle.arm.specs.declared.Size.TheVariants.{X}
use Rattle.arm.specs.declared.Jump.TheVariants.{Blr}
use Rattle.arm.specs.declared.Instr.TheVariants.{BranchReg}
use Rattle.code.specs.Items.{b, b_cond, cb, tb, adr, ldr}
use Rattle.code.specs.Tree.{Line, plain, over, back, load, find_in, lines_words}
use Rattle.code.specs.Machine.{stop, Res, stopped, stuck, goes, Reaches, stay, move}
use Rattle.code.specs.Machine.{next as onward, step as line_step}
use Rattle.code.proofs.Fetch.{instr}
use Rattle.code.proofs.Fetch.{fetch as decodes}
use Rattle.machine.specs.State.{State, code, context, R}
use Rattle.machine.specs.Memory.{base_of}
use Rattle.machine.specs.Execute.{Helpers}
use Rattle.machine.specs.Machine.{Status, running, at_return, at_jump, fault, Run, fetch, instruction, step, following, run}
use Rattle.machine.proofs.Fetch.{fetch_ok, decode_lt, instruction_ok, run_next}
use Rattle.demand.specs.Claim.{CallsHelper}
use Rattle.relation.specs.Lines.{Stop, returns, jumps, fails, at, in_context, exec, arm}
use Rattle.execution.proofs.Steps.{Holds, holds_kept, Ready, addr, Led, Leaves, LedTo, drop_lt, lines-words}
use Rattle.execution.proofs.Runs.{line_led}

-- a line whose instruction is a call is the call
call_line : (find : ℕ → ℕ) (p : ℕ) (l : Line) (r : ℕ) → instr find p l ≡ BranchReg Blr r → l ≡ plain (BranchReg Blr r)
unfolding instr
call_line find p (plain i) r e = ap plain e
call_line find p (over b n) r e = cc
call_line find p (over (b_cond c) n) r e = cc
call_line find p (over (cb z t rt) n) r e = cc
call_line find p (over (tb t i rt) n) r e = cc
call_line find p (over (adr rd) n) r e = cc
call_line find p (over (ldr rt) n) r e = cc
call_line find p (back rd n) r e = cc
call_line find p (load rt v) r e = cc

-- a call of a helper that does not fail
in-context : (h : Helpers) (r : ℕ) (s : State) → (R X s r ≡ h.h-read) ⊎ ((R X s r ≡ h.h-write) ⊎ (R X s r ≡ h.h-ram-ok)) → (exec h (BranchReg Blr r) s ≡ stop fails → ⊥) → R X s 0 ≡ base_of s.mem context
unfolding exec
in-context h r s to k = by (in_context s) refl
  where
    refused : (a w : Bool) → eqb (R X s r) h.h-read ≡ a → eqb (R X s r) h.h-write ≡ w → (R X s r ≡ h.h-read) ⊎ ((R X s r ≡ h.h-write) ⊎ (R X s r ≡ h.h-ram-ok)) → in_context s ≡ false → exec h (BranchReg Blr r) s ≡ stop fails
    refused true w f v t g = rw (f, g) refl
    refused false true f v t g = rw (f, v, g) refl
    refused false false f v (inl t) g = absurd (let y : true ≡ false = sym (eq-eqb (R X s r) h.h-read t) ∙ f in let z : ◌≡◌ {A = ℕ} 0 1 = cc in omega arith)
    refused false false f v (inr (inl t)) g = absurd (let y : true ≡ false = sym (eq-eqb (R X s r) h.h-write t) ∙ v in let z : ◌≡◌ {A = ℕ} 0 1 = cc in omega arith)
    refused false false f v (inr (inr t)) g = rw (f, v, eq-eqb (R X s r) h.h-ram-ok t, g) refl

    by : (d : Bool) → in_context s ≡ d → R X s 0 ≡ base_of s.mem context
    by true g = eqb-true (R X s 0) (base_of s.mem context) g
    by false g = absurd (k (refused (eqb (R X s r) h.h-read) (eqb (R X s r) h.h-write) refl refl to g))

-- a line goes on, or ends the run without failing
abbrev Alive : Res State Stop → Type 0
Alive (onward p ls s) = Unit {0}
Alive (stopped r) = r ≡ fails → ⊥
Alive stuck = ⊥

module _ (h : Helpers) (ls : List Line) (base : ℕ) (ready : Ready ls base) where
  -- the word at a line's position
  line_instruction : (s : State) → Holds (lines_words ls) base s.mem → (p : ℕ) (l : Line) (rest : List Line) → drop p ls ≡ l ∷ rest → (w : ℕ) → fetch s.mem (addr base p) ≡ some w → instruction w ≡ some (instr (find_in ls) p l)
  line_instruction s holds p l rest here w f =
      let ws : List ℕ = lines_words ls in
      let lt : p < length ws = omega (arith, drop_lt p ls l rest here, lines-words ls) in
      let a : addr base p ≡ base_of s.mem code + 4 * p = mod-eq_of_lt (omega (arith, lt, ready.ends)) ∙ ap (λ x. x + 4 * p) (sym holds.start) in
      let d = decodes ls p l rest ready.sound here in
      let e : some w ≡ some (get_or ws p 0 % 2 ^ 32) = sym f ∙ fetch_ok s.mem ws p holds.words a lt in
      let g : w ≡ get_or ws p 0 % 2 ^ 32 = cc in
      ap instruction (g ∙ mod-eq_of_lt (decode_lt (get_or ws p 0) (instr (find_in ls) p l) d)) ∙ instruction_ok (get_or ws p 0) (instr (find_in ls) p l) d (ready.encoders p l rest here)

  calls_at : (s : State) → Holds (lines_words ls) base s.mem → (p n : ℕ) (ks : List Line) → drop p ls ≡ ks → Alive (line_step (arm h base) p ks s) → CallsHelper h (at (addr base p) n s) → R X s 0 ≡ base_of s.mem context
  unfolding line_step goes
  calls_at s holds p n [] here alive c = absurd alive
  calls_at s holds p n (l ∷ rest) here alive c =
      let e : some (instr (find_in ls) p l) ≡ some (BranchReg Blr c.rn) = sym (line_instruction s holds p l rest here c.word c.fetched) ∙ c.is_blr in
      let f : instr (find_in ls) p l ≡ BranchReg Blr c.rn = cc in
      let g : Alive (goes (arm h base) p rest (exec h (BranchReg Blr c.rn) s)) = subst (λ k. Alive (line_step (arm h base) p (k ∷ rest) s)) (call_line (find_in ls) p l c.rn f) alive in
      in-context h c.rn s c.to_helper (λ x. subst (λ y. Alive (goes (arm h base) p rest y)) x g refl)

  -- a run that has left does not go on
  not_running : (k : ℕ) (s t : State) (q : Run) → step h s ≡ q → (q.status ≡ running → ⊥) → run (suc k) h s ≡ record { status = running; state = t } → ⊥
  unfolding run
  not_running k s t q e f g = by q.status refl (sym (ap (λ (x : Run). following x.status x (run k h)) e) ∙ g)
    where
      by : (c : Status) → q.status ≡ c → following c q (run k h) ≡ record { status = running; state = t } → ⊥
      by running y z = f y
      by at_return y z = f (ap (λ (x : Run). x.status) z)
      by at_jump y z = f (ap (λ (x : Run). x.status) z)
      by (fault m) y z = f (ap (λ (x : Run). x.status) z)

  gone : (k n p : ℕ) (s t : State) (r : Stop) → (r ≡ fails → ⊥) → Leaves h base s p n r → run (suc k) h (at (addr base p) n s) ≡ record { status = running; state = t } → ⊥
  gone k n p s t (returns to u) f l e = not_running k (at (addr base p) n s) t (record { status = at_return; state = at to (n + 1) u }) l (λ y. absurd (let z : ◌≡◌ {A = ℕ} 0 1 = cc in omega arith)) e
  gone k n p s t (jumps to u) f l e = not_running k (at (addr base p) n s) t (record { status = at_jump; state = at to (n + 1) u }) l (λ y. absurd (let z : ◌≡◌ {A = ℕ} 0 1 = cc in omega arith)) e
  gone k n p s t fails f l e = f refl

  pub calls-run : {p q : ℕ} {ks js : List Line} {s s₂ : State} {r : Stop} → Holds (lines_words ls) base s.mem → drop p ls ≡ ks → Reaches (arm h base) p ks s q js s₂ → line_step (arm h base) q js s₂ ≡ stopped r → (r ≡ fails → ⊥)
      → (n k : ℕ) (t : State) → run k h (at (addr base p) n s) ≡ record { status = running; state = t } → CallsHelper h t → R X t 0 ≡ base_of t.mem context
  unfolding run
  calls-run {p} {q} {ks} {js} {s} {s₂} {r} holds here stay last f n zero t e c =
      let y : at (addr base p) n s ≡ t = ap (λ (x : Run). x.state) e in
      subst (λ u. CallsHelper h u → R X u 0 ≡ base_of u.mem context) y (λ z. calls_at s holds p n ks here (subst Alive (sym last) f) z) c
  calls-run {p} {q} {ks} {js} {s} {s₂} {r} holds here (move e₁ rest) last f n zero t e c =
      let y : at (addr base p) n s ≡ t = ap (λ (x : Run). x.state) e in
      subst (λ u. CallsHelper h u → R X u 0 ≡ base_of u.mem context) y (λ z. calls_at s holds p n ks here (subst Alive (sym e₁) tt) z) c
  calls-run {p} {q} {ks} {js} {s} {s₂} {r} holds here stay last f n (suc k) t e c =
      absurd (gone k n p s t r f (subst (LedTo h ls base s p n) last (line_led h ls base ready s holds p n ks here)) e)
  calls-run {p} {q} {ks} {js} {s} {s₂} {r} holds here (move {p₁ = p₁} {ls₁ = ls₁} {s₁ = s₁} e₁ rest) last f n (suc k) t e c =
      let g : Led h ls base s p n p₁ ls₁ s₁ = subst (LedTo h ls base s p n) e₁ (line_led h ls base ready s holds p n ks here) in
      calls-run (holds_kept g.memory holds) g.lines rest last f (n + 1) k t (sym (run_next k h (at (addr base p) n s) (at (addr base p₁) (n + 1) s₁) g.steps) ∙ e) c
