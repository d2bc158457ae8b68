-- The registers after a write, and after a helper call.
--     R_same, R_other        register n holds what was written to it, and the others what they held
--     R_31, with_x_31         register 31 is zero and keeps nothing
--     R_lt, W_of_X           a view is below two to its width; W is the low half of X
--     kept, x0-called, answer     a helper call keeps registers 19 to 29, and answers in W0
-- Assumes nothing.
use mathlib.Core.Path.{◌≡◌, refl, ap, ◌∙◌}
use mathlib.Core.Logic.{◌≢◌}
use mathlib.Core.List.{List}
use Prim.Native.Nat.{ℕ, zero, suc, ◌%◌, ◌^◌, ◌≤◌, ◌<◌}
use native.Mathlib.Nat.{mod-lt}
use native.Mathlib.Omega.{arith}
use lib.ListN.{length, get_or, set, length-set, get_or-eq_default}
use lib.Pow.{pow_pos, mod-mod-pow}
use lib.Seq.{get_or-set_same, get_or-set_other, set_out}
use Rattle.arm.specs.Instr.{bits}
use Rattle.machine.specs.Isa.{Size, W, X}
use Rattle.machine.specs.State.{State, Request, read, Outcome, R, with_x}
use Rattle.machine.specs.Execute.{overwritten, answered, called}

-- ---- a write
pub R_same : (z : Size) (n v : ℕ) (s : State) → n < length s.x → R z (with_x n v s) n ≡ v % 2 ^ bits z
R_same z n v s h = ap (λ k. k % 2 ^ bits z) (get_or-set_same s.x n v 0 h)

pub R_other : (z : Size) (n v : ℕ) (s : State) (m : ℕ) → m ≢ n → R z (with_x n v s) m ≡ R z s m
R_other z n v s m h = ap (λ k. k % 2 ^ bits z) (get_or-set_other s.x n m v 0 h)

pub R_31 : (z : Size) (s : State) → length s.x ≡ 31 → R z s 31 ≡ 0
R_31 W s h = ap (λ k. k % 2 ^ 32) (get_or-eq_default s.x 0 {n = 31} (omega arith))
R_31 X s h = ap (λ k. k % 2 ^ 64) (get_or-eq_default s.x 0 {n = 31} (omega arith))

pub with_x_31 : (v : ℕ) (s : State) → length s.x ≡ 31 → with_x 31 v s ≡ s
with_x_31 v s h = ap (λ l. record { x = l; sp = s.sp; nzcv = s.nzcv; pc = s.pc; mem = s.mem; outcomes = s.outcomes; requests = s.requests; count = s.count }) (set_out s.x 31 v (omega arith))

-- ---- the views
pub R_lt : (z : Size) (s : State) (n : ℕ) → R z s n < 2 ^ bits z
R_lt z s n = mod-lt (get_or s.x n 0) (pow_pos (bits z))

pub W_of_X : (s : State) (n : ℕ) → R X s n % 2 ^ 32 ≡ R W s n
W_of_X s n = mod-mod-pow (get_or s.x n 0) 32 32

-- ---- a helper call
pub length-overwritten : (n : ℕ) (l x : List ℕ) → length (overwritten n l x) ≡ length x
length-overwritten zero l x = refl
length-overwritten (suc n) l x = length-overwritten n l (set x n (get_or l n 0)) ∙ length-set x n (get_or l n 0)

pub overwritten-above : (n : ℕ) (l x : List ℕ) (k : ℕ) → n ≤ k → get_or (overwritten n l x) k 0 ≡ get_or x k 0
overwritten-above zero l x k h = refl
overwritten-above (suc n) l x k h = overwritten-above n l (set x n (get_or l n 0)) k (omega arith) ∙ get_or-set_other x n k (get_or l n 0) 0 (omega arith)

module _ (q : Request) (o : Outcome) (os : List Outcome) (s : State) where
  pub length-called : length (called q o os s).x ≡ length s.x
  length-called = length-set (set (overwritten 19 o.scratch s.x) 0 (answered q o)) 30 o.link ∙ length-set (overwritten 19 o.scratch s.x) 0 (answered q o) ∙ length-overwritten 19 o.scratch s.x

  -- registers 19 to 29
  pub kept : (k : ℕ) → 19 ≤ k → k < 30 → get_or (called q o os s).x k 0 ≡ get_or s.x k 0
  kept k h l =
      get_or-set_other (set (overwritten 19 o.scratch s.x) 0 (answered q o)) 30 k o.link 0 (omega arith)
      ∙ get_or-set_other (overwritten 19 o.scratch s.x) 0 k (answered q o) 0 (omega arith)
      ∙ overwritten-above 19 o.scratch s.x k h

  pub x0-called : length s.x ≡ 31 → get_or (called q o os s).x 0 0 ≡ answered q o
  x0-called h =
      get_or-set_other (set (overwritten 19 o.scratch s.x) 0 (answered q o)) 30 0 o.link 0 (omega arith)
      ∙ get_or-set_same (overwritten 19 o.scratch s.x) 0 (answered q o) 0 (rw (length-overwritten 19 o.scratch s.x, h) (omega arith))

-- a read's answer, in W0
pub answer : (a w d : ℕ) (o : Outcome) (os : List Outcome) (s : State) → length s.x ≡ 31 → R W (called (read a w d) o os s) 0 ≡ o.answer % 2 ^ 32
answer a w d o os s h = ap (λ k. k % 2 ^ 32) (x0-called (read a w d) o os s h) ∙ omega arith
