-- What runs lines, and what structured code does: a function of the state, with no list, no position and no label.
use Rattle.std.specs.Prelude.{◌≡◌, Bool, true, false, List, [], ◌∷◌, ◌++◌, map, ℕ, zero, suc, ◌+◌, ◌-◌, ◌≤◌, length, drop}
use Rattle.arm.specs.declared.Instr.{Instr}
use Rattle.code.specs.Items.{pick, Hole}
use Rattle.code.specs.Tree.{Depth, top, under, Var, inner, outer, Code, code, lit, to, exit, block, start, ◌then◌, words, Line, plain, over, back, load, lines}

-- an instruction that is no jump goes on, or ends the run
pub data Eff (S R : Type 0) : Type 0 where
  fall : S → Eff S R
  stop : R → Eff S R

pub record Machine : Type 1 where
  pub State : Type 0
  pub Stop : Type 0
  pub exec : Instr → State → Eff State Stop
  pub taken : Hole → State → Bool  -- does this jump jump?
  pub address : (rd place : ℕ) → State → State  -- rd is the address of the word at that position
  pub loads : (rt value : ℕ) → State → State

-- ---- lines, from position p on
pub data Res (S R : Type 0) : Type 0 where
  next : (p : ℕ) → List Line → S → Res S R
  stopped : R → Res S R
  stuck : Res S R

module _ (M : Machine) where
  unfoldable pub goes : ℕ → List Line → Eff M.State M.Stop → Res M.State M.Stop
  goes p ls (fall s) = next (suc p) ls s
  goes p ls (stop r) = stopped r

  unfoldable pub step : ℕ → List Line → M.State → Res M.State M.Stop
  step p [] s = stuck
  step p (plain i ∷ ls) s = goes p ls (M.exec i s)
  step p (over h n ∷ ls) s = pick (M.taken h s) (next (suc p + n) (drop n ls) s) (next (suc p) ls s)
  step p (back rd n ∷ ls) s = next (suc p) ls (M.address rd (p - n) s)
  step p (load rt v ∷ ls) s = next (suc p) ls (M.loads rt v s)

  pub data Reaches : ℕ → List Line → M.State → ℕ → List Line → M.State → Type 0 where
    stay : {p : ℕ} {ls : List Line} {s : M.State} → Reaches p ls s p ls s
    move : {p p₁ p₂ : ℕ} {ls ls₁ ls₂ : List Line} {s s₁ s₂ : M.State} → step p ls s ≡ next p₁ ls₁ s₁ → Reaches p₁ ls₁ s₁ p₂ ls₂ s₂ → Reaches p ls s p₂ ls₂ s₂

  -- the run ends so
  pub record Ends (p : ℕ) (ls : List Line) (s : M.State) (r : M.Stop) : Type 0 where
    pub p₁ : ℕ
    pub ls₁ : List Line
    pub s₁ : M.State
    pub reaches : Reaches p ls s p₁ ls₁ s₁
    pub last : step p₁ ls₁ s₁ ≡ stopped r

-- ---- structured code: it falls off its end, goes behind a block around it, to the exit, or ends the run
pub data Out (S R : Type 0) (n : Depth) : Type 0 where
  fell : S → Out S R n
  went : Var n → S → Out S R n
  left : S → Out S R n
  ended : R → Out S R n

abbrev pub and_then : {S R : Type 0} {n : Depth} → Out S R n → (S → Out S R n) → Out S R n
and_then (fell s) f = f s
and_then (went v s) f = went v s
and_then (left s) f = left s
and_then (ended r) f = ended r

abbrev pub caught : {S R : Type 0} {n : Depth} → Out S R (under n) → Out S R n
caught (fell s) = fell s
caught (went inner s) = fell s
caught (went (outer v) s) = went v s
caught (left s) = left s
caught (ended r) = ended r

abbrev pub go_on : {S R : Type 0} → Eff S R → (S → Eff S R) → Eff S R
go_on (fall s) f = f s
go_on (stop r) f = stop r

abbrev pub of_eff : {S R : Type 0} {n : Depth} → Eff S R → Out S R n
of_eff (fall s) = fell s
of_eff (stop r) = ended r

module _ (M : Machine) where
  unfoldable pub straight : List Instr → M.State → Eff M.State M.Stop
  straight [] s = fall s
  straight (i ∷ is) s = go_on (M.exec i s) (λ s₁. straight is s₁)

  -- p: the code's first position, which only addresses of words need
  unfoldable pub does : {n : Depth} → Code n → ℕ → M.State → Out M.State M.Stop n
  does (code is) p s = of_eff (straight is s)
  does (lit rt v) p s = fell (M.loads rt v s)
  does (to h v) p s = pick (M.taken h s) (went v s) (fell s)
  does (exit h) p s = pick (M.taken h s) (left s) (fell s)
  does (block c) p s = caught (does c p s)
  does (start rd c) p s = and_then (does c p s) (λ s₁. fell (M.address rd p s₁))
  does (c then d) p s = and_then (does c p s) (λ s₁. does d (p + words c) s₁)

  -- what lines do where their code does this: q and k are the position and the lines behind the code,
  -- d and x the words from there to the ends of the blocks around it and to the exit
  unfoldable pub Follows : {n : Depth} → ℕ → List Line → M.State → ℕ → List Line → (Var n → ℕ) → ℕ → Out M.State M.Stop n → Type 0
  Follows p ls s q k d x (fell s₁) = Reaches M p ls s q k s₁
  Follows p ls s q k d x (went v s₁) = Reaches M p ls s (q + d v) (drop (d v) k) s₁
  Follows p ls s q k d x (left s₁) = Reaches M p ls s (q + x) (drop x k) s₁
  Follows p ls s q k d x (ended r) = Ends M p ls s r
