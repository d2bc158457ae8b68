-- Branches and addresses of words.
--     exec-b, exec-b_cond, exec-cb, exec-tb      a branch forward, by so many words
--     exec-adr, exec-adr-back                    an address ahead, and one behind by so many words
-- Assumes nothing.
use mathlib.Core.Path.{◌≡◌, ap, ◌∙◌}
use mathlib.Core.Bool.{true, not}
use Prim.Native.Nat.{ℕ, ◌+◌, ◌-◌, ◌*◌, ◌%◌, ◌^◌, ◌≤◌, ◌<◌}
use native.Mathlib.Omega.{arith}
use Rattle.machine.specs.Isa.{Size, X, Test, CompareBranch, TestBranch, CondBranch, Branch, Adr}
use Rattle.machine.specs.Bits.{bit, IsZero, ConditionHolds}
use Rattle.machine.specs.State.{State, R, with_x, goto}
use Rattle.machine.specs.Execute.{Helpers, next, done, branch_if, tested, execute}
use Rattle.machine.proofs.Numbers.{words_forward, sign_low, sign-back}

module _ (h : Helpers) (s : State) where
  -- ---- branches forward
  pub exec-b : (imm : ℕ) → imm < 2 ^ 25 → execute h (Branch imm) s ≡ next (goto (s.pc + imm * 4) s)
  unfolding execute
  exec-b imm l = ap (λ d. branch_if true d s) (words_forward 26 imm (omega arith) l)

  pub exec-b_cond : (imm k : ℕ) → imm < 2 ^ 18 → execute h (CondBranch imm k) s ≡ branch_if (ConditionHolds k s.nzcv) (imm * 4) s
  unfolding execute
  exec-b_cond imm k l = ap (λ d. branch_if (ConditionHolds k s.nzcv) d s) (words_forward 19 imm (omega arith) l)

  pub exec-cb : (z : Size) (t : Test) (imm rt : ℕ) → imm < 2 ^ 18 → execute h (CompareBranch z t imm rt) s ≡ branch_if (tested t (IsZero (R z s rt))) (imm * 4) s
  unfolding execute
  exec-cb z t imm rt l = ap (λ d. branch_if (tested t (IsZero (R z s rt))) d s) (words_forward 19 imm (omega arith) l)

  pub exec-tb : (t : Test) (n imm rt : ℕ) → imm < 2 ^ 13 → execute h (TestBranch t n imm rt) s ≡ branch_if (tested t (not (bit (R X s rt) n))) (imm * 4) s
  unfolding execute
  exec-tb t n imm rt l = ap (λ d. branch_if (tested t (not (bit (R X s rt) n))) d s) (words_forward 14 imm (omega arith) l)

  -- ---- addresses
  pub exec-adr : (imm rd : ℕ) → imm < 2 ^ 20 → execute h (Adr imm rd) s ≡ done (with_x rd ((s.pc + imm) % 2 ^ 64) s)
  unfolding execute
  exec-adr imm rd l = ap (λ d. done (with_x rd ((s.pc + d) % 2 ^ 64) s)) (sign_low 21 64 imm l)

  -- d bytes behind
  pub exec-adr-back : (d rd : ℕ) → 0 < d → d ≤ 2 ^ 20 → d ≤ s.pc → execute h (Adr (2 ^ 21 - d) rd) s ≡ done (with_x rd ((s.pc - d) % 2 ^ 64) s)
  unfolding execute
  exec-adr-back d rd p l b =
      ap (λ e. done (with_x rd ((s.pc + e) % 2 ^ 64) s)) (sign-back 21 64 d (omega arith) (omega arith) p l)
      ∙ ap (λ v. done (with_x rd v s)) (omega arith)
