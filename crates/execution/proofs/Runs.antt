-- Lines that reach a place, and lines that end a run: the machine over their words does the same.
--     reaches-run      it is at that place's word after as many steps
--     ends-run         allowed as many steps as there are lines, it has left in the same way
-- Assumes nothing.
use mathlib.Core.Path.{◌≡◌, refl, sym, ap, ◌∙◌, subst}
use mathlib.Core.List.{List, [], ◌∷◌}
use Prim.Native.Nat.{ℕ, suc, ◌+◌, ◌-◌, ◌≤◌, ◌<◌}
use native.Mathlib.Omega.{arith}
use lib.ListN.{length, drop}
use Rattle.code.specs.Tree.{Line, lines_words}
use Rattle.code.specs.Machine.{Reaches, stay, move, Ends, stopped}
use Rattle.code.specs.Machine.{step as line_step}
use Rattle.machine.specs.State.{State}
use Rattle.machine.specs.Execute.{Helpers}
use Rattle.machine.specs.Machine.{Status, running, at_return, at_jump, fault, Run, step, following, run}
use Rattle.machine.proofs.Fetch.{run_next, run-add, run_more}
use Rattle.relation.specs.Lines.{Stop, returns, jumps, fails, at, arm}
use Rattle.execution.proofs.Steps.{Holds, holds_kept, Ready, addr, Led, Leaves, LedTo, drop_lt, line_does}

module _ (h : Helpers) (ls : List Line) (base : ℕ) (ready : Ready ls base) where
  pub line_led : (s : State) → Holds (lines_words ls) base s.mem → (p n : ℕ) (ks : List Line) → drop p ls ≡ ks → LedTo h ls base s p n (line_step (arm h base) p ks s)
  unfolding line_step
  line_led s holds p n [] here = tt
  line_led s holds p n (l ∷ rest) here = line_does h ls base ready s holds p n rest l here

  -- ---- the machine at the place reached, no more steps later than there are words between
  pub record Reached (s : State) (p n q : ℕ) (js : List Line) (s₁ : State) : Type 0 where
    pub steps : ℕ
    pub few : p + steps ≤ q
    pub runs : run steps h (at (addr base p) n s) ≡ record { status = running; state = at (addr base q) (n + steps) s₁ }
    pub lines : drop q ls ≡ js
    pub holds : Holds (lines_words ls) base s₁.mem

  pub reaches-run : {p q : ℕ} {ks js : List Line} {s s₂ : State} → Holds (lines_words ls) base s.mem → drop p ls ≡ ks → Reaches (arm h base) p ks s q js s₂ → (n : ℕ) → Reached s p n q js s₂
  unfolding run
  reaches-run {p} {q} {ks} {js} {s} holds here stay n =
      record { steps = 0; few = omega arith; runs = ap (λ k. record { status = running; state = at (addr base p) k s }) (omega arith); lines = here; holds = holds }
  reaches-run {p} {q} {ks} {js} {s} {s₂} holds here (move {p₁ = p₁} {ls₁ = ls₁} {s₁ = s₁} e r) n =
      let g : Led h ls base s p n p₁ ls₁ s₁ = subst (LedTo h ls base s p n) e (line_led s holds p n ks here) in
      let x : Reached s₁ p₁ (n + 1) q js s₂ = reaches-run (holds_kept g.memory holds) g.lines r (n + 1) in
      let k : ℕ = x.steps in
      let c : n + 1 + k ≡ n + suc k = omega arith in
      record {
        steps = suc k;
        few = omega (arith, g.ahead, x.few);
        runs = run_next k h (at (addr base p) n s) (at (addr base p₁) (n + 1) s₁) g.steps ∙ x.runs ∙ ap (λ m. record { status = running; state = at (addr base q) m s₂ }) c;
        lines = x.lines;
        holds = x.holds;
      }

-- ---- out of the block
pub record LeftAs (status : Status) (to : ℕ) (t : State) (r : Run) : Type 0 where
  pub count : ℕ
  pub is : r ≡ record { status = status; state = at to count t }

abbrev pub RunsTo : Stop → Run → Type 0
RunsTo (returns to t) r = LeftAs at_return to t r
RunsTo (jumps to t) r = LeftAs at_jump to t r
RunsTo fails r = Unit {0}

one_step : (h : Helpers) (s : State) (r : Run) → step h s ≡ r → run 1 h s ≡ following r.status r (run 0 h)
unfolding run
one_step h s r e = ap (λ (x : Run). following x.status x (run 0 h)) e

left_stays : (c : Status) (r : Run) (f : State → Run) → (c ≡ running → ⊥) → following c r f ≡ r
left_stays running r f n = absurd (n refl)
left_stays at_return r f n = refl
left_stays at_jump r f n = refl
left_stays (fault k) r f n = refl

-- k steps that go on, one that leaves, and any number more
left_after : (h : Helpers) (s s₁ : State) (k m : ℕ) (c : Status) (t : State) → (c ≡ running → ⊥) → run k h s ≡ record { status = running; state = s₁ }
    → step h s₁ ≡ record { status = c; state = t } → k < m → run m h s ≡ record { status = c; state = t }
left_after h s s₁ k m c t f e g l =
    let a : k + 1 + (m - suc k) ≡ m = omega arith in
    ap (λ j. run j h s) (sym a)
    ∙ run_more (k + 1) (m - suc k) h s
    (run-add k 1 h s ∙ ap (λ (x : Run). following x.status x (run 1 h)) e ∙ one_step h s₁ (record { status = c; state = t }) g ∙ left_stays c (record { status = c; state = t }) (run 0 h) f) f

module _ (h : Helpers) (ls : List Line) (base : ℕ) (ready : Ready ls base) where
  leaves_run : {p q : ℕ} {js : List Line} {s s₁ : State} (n m : ℕ) → (x : Reached h ls base ready s p n q js s₁) → x.steps < m → (r : Stop) → Leaves h base s₁ q (n + x.steps) r → RunsTo r (run m h (at (addr base p) n s))
  leaves_run {p} {q} {js} {s} {s₁} n m x l (returns to t) e =
      record { count = n + x.steps + 1; is = left_after h (at (addr base p) n s) (at (addr base q) (n + x.steps) s₁) x.steps m at_return (at to (n + x.steps + 1) t) (λ y. absurd (let z : ◌≡◌ {A = ℕ} 0 1 = cc in omega arith)) x.runs e l }
  leaves_run {p} {q} {js} {s} {s₁} n m x l (jumps to t) e =
      record { count = n + x.steps + 1; is = left_after h (at (addr base p) n s) (at (addr base q) (n + x.steps) s₁) x.steps m at_jump (at to (n + x.steps + 1) t) (λ y. absurd (let z : ◌≡◌ {A = ℕ} 0 1 = cc in omega arith)) x.runs e l }
  leaves_run n m x l fails e = tt

  -- there is a line where a run ends
  last_line : (p : ℕ) (ks : List Line) (s : State) (r : Stop) → line_step (arm h base) p ks s ≡ stopped r → drop p ls ≡ ks → p < length ls
  unfolding line_step
  last_line p [] s r e here = absurd (let z : ◌≡◌ {A = ℕ} 0 1 = cc in omega arith)
  last_line p (l ∷ rest) s r e here = drop_lt p ls l rest here

  -- THE MACHINE ENDS AS THE LINES DO
  pub ends-run : {p : ℕ} {s : State} {r : Stop} → Holds (lines_words ls) base s.mem → Ends (arm h base) p (drop p ls) s r → (n m : ℕ) → length ls ≤ p + m → RunsTo r (run m h (at (addr base p) n s))
  ends-run {p} {s} {r} holds ends n m l =
      let x : Reached h ls base ready s p n ends.p₁ ends.ls₁ ends.s₁ = reaches-run h ls base ready holds refl ends.reaches n in
      let q : ends.p₁ < length ls = last_line ends.p₁ ends.ls₁ ends.s₁ r ends.last x.lines in
      leaves_run n m x (omega (arith, x.few)) r
      (subst (LedTo h ls base ends.s₁ ends.p₁ (n + x.steps)) ends.last (line_led h ls base ready ends.s₁ x.holds ends.p₁ (n + x.steps) ends.ls₁ x.lines))
