-- What the data-processing instructions of the lowering do, each as one equation `execute h i s ≡ done ..`.
--     exec-movz, exec_movn, exec_movk                            constants
--     exec-add, exec-add_lsl, exec-sub, exec_subs, exec_cmp      add/subtract (shifted register)
--     exec-add_imm, exec-sub_imm                                 add/subtract (immediate), between general registers
--     exec-logic, exec_mov                                       logical (shifted register)
--     exec-ubfx, exec-sbfx, exec_lsr_imm                         bitfield
-- Assumes nothing.
use mathlib.Core.Path.{◌≡◌, refl, ap, ◌∙◌}
use mathlib.Core.Bool.{true, false}
use Prim.Native.Nat.{ℕ, ◌+◌, ◌-◌, ◌*◌, ◌/◌, ◌%◌, ◌^◌, ◌<◌}
use native.Mathlib.Nat.{add-mod-mod}
use native.Mathlib.Omega.{arith}
use borrow.Author.Tests.{ne_eqb}
use lib.Bits.{or_zero_l}
use lib.ListN.{length}
use Rattle.arm.specs.Instr.{bits}
use Rattle.machine.specs.Isa.{Size, W, Add, Sub, Keeps, Sets, Lsl, Movn, Movz, Movk, Logic, Orr, Plain, Sbfm, Ubfm}
use Rattle.machine.specs.Isa.{MoveWide, AddSubImm, AddSubShifted, LogicalShifted, Bitfield}
use Rattle.machine.specs.Bits.{SignExtend, NOT, LSL, Sum, AddWithCarry}
use Rattle.machine.specs.State.{State, R, RSP, with_x, with_xsp, with_flags}
use Rattle.machine.specs.Execute.{Helpers, done, logic, logic_flags, flags_if, test_flags, execute}
use Rattle.machine.proofs.Registers.{R_lt, R_31, with_x_31}
use Rattle.machine.proofs.Flags.{compared}
use Rattle.machine.proofs.Numbers.{lsl-zero, add_is, sub_is}
use Rattle.machine.proofs.Values.{ubfx_is, sbfx_is, lsr_is}

-- a register that is no stack pointer
pub RSP-reg : (z : Size) (s : State) (n : ℕ) → n < 31 → RSP z s n ≡ R z s n
RSP-reg z s n h = rw (ne_eqb n 31 (λ e. omega arith))

pub with_xsp-reg : (n v : ℕ) (s : State) → n < 31 → with_xsp n v s ≡ with_x n v s
with_xsp-reg n v s h = rw (ne_eqb n 31 (λ e. omega arith))

module _ (h : Helpers) (s : State) where
  -- ---- move wide
  pub exec-movz : (z : Size) (hw imm rd : ℕ) → execute h (MoveWide z Movz hw imm rd) s ≡ done (with_x rd (imm * 2 ^ (16 * hw)) s)
  unfolding execute
  exec-movz z hw imm rd = refl

  pub exec_movn : (z : Size) (hw imm rd : ℕ) → execute h (MoveWide z Movn hw imm rd) s ≡ done (with_x rd (2 ^ bits z - 1 - imm * 2 ^ (16 * hw)) s)
  unfolding execute
  exec_movn z hw imm rd = refl

  -- the upper half of 32 bits
  pub exec_movk : (imm rd : ℕ) → execute h (MoveWide W Movk 1 imm rd) s ≡ done (with_x rd (R W s rd % 2 ^ 16 + imm * 2 ^ 16) s)
  unfolding execute
  exec_movk imm rd = ap (λ v. done (with_x rd v s)) (omega arith)

  -- ---- add/subtract (shifted register)
  pub exec-add_lsl : (z : Size) (rm n rn rd : ℕ) → execute h (AddSubShifted z Add Keeps Lsl rm n rn rd) s ≡ done (with_x rd ((R z s rn + R z s rm * 2 ^ n) % 2 ^ bits z) s)
  unfolding execute
  exec-add_lsl z rm n rn rd = ap (λ v. done (with_x rd v s)) (add_is (bits z) (R z s rn) (LSL (bits z) (R z s rm) n) ∙ add-mod-mod (R z s rn) (R z s rm * 2 ^ n) (2 ^ bits z))

  pub exec-add : (z : Size) (rm rn rd : ℕ) → execute h (AddSubShifted z Add Keeps Lsl rm 0 rn rd) s ≡ done (with_x rd ((R z s rn + R z s rm) % 2 ^ bits z) s)
  unfolding execute
  exec-add z rm rn rd =
      ap (λ v. done (with_x rd v s)) (ap (λ b. (AddWithCarry (bits z) (R z s rn) b false).result) (lsl-zero z (R z s rm) (R_lt z s rm)) ∙ add_is (bits z) (R z s rn) (R z s rm))

  pub exec-sub : (z : Size) (rm rn rd : ℕ) → execute h (AddSubShifted z Sub Keeps Lsl rm 0 rn rd) s ≡ done (with_x rd ((R z s rn + (2 ^ bits z - R z s rm)) % 2 ^ bits z) s)
  unfolding execute
  exec-sub z rm rn rd =
      ap (λ v. done (with_x rd v s))
      (ap (λ b. (AddWithCarry (bits z) (R z s rn) (NOT (bits z) b) true).result) (lsl-zero z (R z s rm) (R_lt z s rm)) ∙ sub_is (bits z) (R z s rn) (R z s rm) (R_lt z s rm))

  pub exec_subs : (z : Size) (rm rn rd : ℕ) → execute h (AddSubShifted z Sub Sets Lsl rm 0 rn rd) s
      ≡ done (with_x rd ((R z s rn + (2 ^ bits z - R z s rm)) % 2 ^ bits z) (with_flags (compared z (R z s rn) (R z s rm)) s))
  unfolding execute
  exec_subs z rm rn rd =
      ap (λ b. let r : Sum = AddWithCarry (bits z) (R z s rn) (NOT (bits z) b) true in done (with_x rd r.result (with_flags r.nzcv s))) (lsl-zero z (R z s rm) (R_lt z s rm))
      ∙ ap (λ v. done (with_x rd v (with_flags (compared z (R z s rn) (R z s rm)) s))) (sub_is (bits z) (R z s rn) (R z s rm) (R_lt z s rm))

  pub exec_cmp : (z : Size) (rm rn : ℕ) → length s.x ≡ 31 → execute h (AddSubShifted z Sub Sets Lsl rm 0 rn 31) s ≡ done (with_flags (compared z (R z s rn) (R z s rm)) s)
  exec_cmp z rm rn e = exec_subs z rm rn 31 ∙ ap done (with_x_31 ((R z s rn + (2 ^ bits z - R z s rm)) % 2 ^ bits z) (with_flags (compared z (R z s rn) (R z s rm)) s) e)

  -- ---- add/subtract (immediate)
  pub exec-add_imm : (z : Size) (imm rn rd : ℕ) → rn < 31 → rd < 31 → execute h (AddSubImm z Add Keeps imm rn rd) s ≡ done (with_x rd ((R z s rn + imm) % 2 ^ bits z) s)
  unfolding execute
  exec-add_imm z imm rn rd l k =
      ap done (with_xsp-reg rd (AddWithCarry (bits z) (RSP z s rn) imm false).result s k)
      ∙ ap (λ v. done (with_x rd v s)) (ap (λ a. (AddWithCarry (bits z) a imm false).result) (RSP-reg z s rn l) ∙ add_is (bits z) (R z s rn) imm)

  pub exec-sub_imm : (z : Size) (imm rn rd : ℕ) → imm < 2 ^ bits z → rn < 31 → rd < 31 → execute h (AddSubImm z Sub Keeps imm rn rd) s
      ≡ done (with_x rd ((R z s rn + (2 ^ bits z - imm)) % 2 ^ bits z) s)
  unfolding execute
  exec-sub_imm z imm rn rd m l k =
      ap done (with_xsp-reg rd (AddWithCarry (bits z) (RSP z s rn) (NOT (bits z) imm) true).result s k)
      ∙ ap (λ v. done (with_x rd v s)) (ap (λ a. (AddWithCarry (bits z) a (NOT (bits z) imm) true).result) (RSP-reg z s rn l) ∙ sub_is (bits z) (R z s rn) imm m)

  -- ---- logical (shifted register)
  pub exec-logic : (z : Size) (o : Logic) (rm rn rd : ℕ) → execute h (LogicalShifted z o Plain Lsl rm 0 rn rd) s
      ≡ done (with_x rd (logic o (R z s rn) (R z s rm)) (flags_if (logic_flags o) (test_flags z (logic o (R z s rn) (R z s rm))) s))
  unfolding execute
  exec-logic z o rm rn rd = ap (λ b. let r : ℕ = logic o (R z s rn) b in done (with_x rd r (flags_if (logic_flags o) (test_flags z r) s))) (lsl-zero z (R z s rm) (R_lt z s rm))

  pub exec_mov : (z : Size) (rm rd : ℕ) → length s.x ≡ 31 → execute h (LogicalShifted z Orr Plain Lsl rm 0 31 rd) s ≡ done (with_x rd (R z s rm) s)
  exec_mov z rm rd e = exec-logic z Orr rm 31 rd ∙ ap (λ v. done (with_x rd v s)) (ap (λ a. logic Orr a (R z s rm)) (R_31 z s e) ∙ or_zero_l (R z s rm))

  -- ---- bitfield
  pub exec-ubfx : (z : Size) (lsb w rn rd : ℕ) → 0 < w → execute h (Bitfield z Ubfm lsb (lsb + w - 1) rn rd) s ≡ done (with_x rd (R z s rn / 2 ^ lsb % 2 ^ w) s)
  unfolding execute
  exec-ubfx z lsb w rn rd p = ap (λ v. done (with_x rd v s)) (ubfx_is z lsb w (R z s rd) (R z s rn) p)

  pub exec-sbfx : (z : Size) (lsb w rn rd : ℕ) → 0 < w → execute h (Bitfield z Sbfm lsb (lsb + w - 1) rn rd) s ≡ done (with_x rd (SignExtend w (bits z) (R z s rn / 2 ^ lsb % 2 ^ w)) s)
  unfolding execute
  exec-sbfx z lsb w rn rd p = ap (λ v. done (with_x rd v s)) (sbfx_is z lsb w (R z s rd) (R z s rn) p)

  pub exec_lsr_imm : (z : Size) (n rn rd : ℕ) → n < bits z → execute h (Bitfield z Ubfm n (bits z - 1) rn rd) s ≡ done (with_x rd (R z s rn / 2 ^ n) s)
  unfolding execute
  exec_lsr_imm z n rn rd l = ap (λ v. done (with_x rd v s)) (lsr_is z n (R z s rd) (R z s rn) l (R_lt z s rn))
