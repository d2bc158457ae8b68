-- Loads and stores of a block, each as one equation of `exec`.
--     ldr_at, ldr_x_at, str_at, str_x_at            at a register's address and an offset
--     indexed-load, indexed_signed, indexed-store     at a register's address and another's number
--     apart-now, reg-now                          the regions while a block runs: those at the body
--     ldr-now, str-now, str_x-now                  at an address register of the body
use mathlib.Core.Path.{◌≡◌, sym, ap, ap₂, ◌∙◌, subst}
use mathlib.Core.Bool.{true}
use Prim.Native.Nat.{ℕ, ◌+◌, ◌*◌, ◌/◌, ◌%◌, ◌^◌, ◌≤◌, ◌<◌}
use native.Mathlib.Omega.{arith}
use lib.ListN.{length}
use Rattle.arm.specs.declared.Size.TheVariants.{W, X}
use Rattle.arm.specs.declared.Access.{Access}
use Rattle.arm.specs.declared.Access.TheVariants.{LdrW, StrW, LdrX, StrX}
use Rattle.arm.specs.declared.Scale.TheVariants.{Unscaled}
use Rattle.block.specs.declared.Block.{Block}
use Rattle.code.specs.Machine.{fall}
use Rattle.machine.specs.Bits.{SignExtend}
use Rattle.machine.specs.State.{State, R, RSP, with_x, with_mem}
use Rattle.machine.specs.Memory.{read_le, write_le, bytes_of, base_of, size_of, with_bytes, writable, Apart}
use Rattle.machine.specs.Execute.{Helpers, stores, loads, loads_signed, direction, access_bytes, access}
use Rattle.machine.proofs.Regions.{At, apart-alike, at_offset}
use Rattle.machine.proofs.Data.{RSP-reg}
use Rattle.machine.proofs.Access.{exec_imm, exec-reg, access-load, access_signed, access-store}
use Rattle.card.specs.Card.{Card}
use Rattle.lowering.specs.Instrs.{ldr, str, ldr_x, str_x, indexed}
use Rattle.relation.specs.Lines.{of_effect, bare, exec}
use Rattle.relation.specs.Relation.{cls, Body, Fixed, Kept}
use Rattle.registers.proofs.Basics.{cls_lt}

-- what a store of n bytes at place o of region k leaves
abbrev pub wrote : (k o n v : ℕ) → State → State
wrote k o n v s = with_mem (with_bytes k (write_le (bytes_of s.mem k) o n v) s.mem) s

module _ (h : Helpers) (s : State) (apart : Apart s.mem) where
  imm_at : (a : Access) (q r k p d : ℕ) → k < length s.mem → r < 31 → R X s r ≡ base_of s.mem k + p → q * access_bytes a ≡ d → p + d + access_bytes a ≤ size_of s.mem k → 0 < access_bytes a
      → At s.mem ((RSP X s r + q * access_bytes a) % 2 ^ 64) k (p + d) (access_bytes a)
  imm_at a q r k p d l m e f t z =
      subst (λ n. At s.mem (n % 2 ^ 64) k (p + d) (access_bytes a)) (ap₂ (λ x y. x + y) (sym (RSP-reg X s r m)) (sym f)) (at_offset apart (R X s r) k p d (access_bytes a) l e t z)

  module _ (r k p o : ℕ) (l : k < length s.mem) (m : r < 31) (e : R X s r ≡ base_of s.mem k + p) (rt : ℕ) where
    pub ldr_at : o % 4 ≡ 0 → p + o + 4 ≤ size_of s.mem k → exec h (ldr rt r o) s ≡ fall (bare (with_x rt (read_le (bytes_of s.mem k) (p + o) 4) s))
    unfolding exec
    ldr_at q t = ap of_effect (exec_imm h s LdrW (o / 4) r rt ∙ access-load s apart rt (imm_at LdrW (o / 4) r k p o l m e (omega arith) t (omega arith)))

    pub str_at : writable k ≡ true → o % 4 ≡ 0 → p + o + 4 ≤ size_of s.mem k → exec h (str rt r o) s ≡ fall (bare (wrote k (p + o) 4 (R X s rt) s))
    unfolding exec
    str_at w q t = ap of_effect (exec_imm h s StrW (o / 4) r rt ∙ access-store s apart rt (imm_at StrW (o / 4) r k p o l m e (omega arith) t (omega arith)) w)

    pub ldr_x_at : o % 8 ≡ 0 → p + o + 8 ≤ size_of s.mem k → exec h (ldr_x rt r o) s ≡ fall (bare (with_x rt (read_le (bytes_of s.mem k) (p + o) 8) s))
    unfolding exec
    ldr_x_at q t = ap of_effect (exec_imm h s LdrX (o / 8) r rt ∙ access-load s apart rt (imm_at LdrX (o / 8) r k p o l m e (omega arith) t (omega arith)))

    pub str_x_at : writable k ≡ true → o % 8 ≡ 0 → p + o + 8 ≤ size_of s.mem k → exec h (str_x rt r o) s ≡ fall (bare (wrote k (p + o) 8 (R X s rt) s))
    unfolding exec
    str_x_at w q t = ap of_effect (exec_imm h s StrX (o / 8) r rt ∙ access-store s apart rt (imm_at StrX (o / 8) r k p o l m e (omega arith) t (omega arith)) w)

  -- `[xr, wm, uxtw]`, xr a region's start
  module _ (a : Access) (r m k : ℕ) (l : k < length s.mem) (z : r < 31) (e : R X s r ≡ base_of s.mem k) (t : R W s m + access_bytes a ≤ size_of s.mem k) (u : 0 < access_bytes a) (rt : ℕ) where
    reg_at : At s.mem ((RSP X s r + R W s m * 1) % 2 ^ 64) k (R W s m) (access_bytes a)
    reg_at =
        subst (λ o. At s.mem ((RSP X s r + R W s m * 1) % 2 ^ 64) k o (access_bytes a)) (omega arith)
        (subst (λ n. At s.mem (n % 2 ^ 64) k (0 + R W s m) (access_bytes a)) (ap₂ (λ x y. x + y) (sym (RSP-reg X s r z)) (omega arith))
        (at_offset apart (R X s r) k 0 (R W s m) (access_bytes a) l (omega arith) (omega arith) u))

    pub indexed-load : direction a ≡ loads → exec h (indexed a rt r m) s ≡ fall (bare (with_x rt (read_le (bytes_of s.mem k) (R W s m) (access_bytes a)) s))
    unfolding exec
    indexed-load d = ap of_effect (exec-reg h s a Unscaled m r rt ∙ ap (λ q. access q (access_bytes a) ((RSP X s r + R W s m * 1) % 2 ^ 64) rt s) d ∙ access-load s apart rt reg_at)

    pub indexed_signed : direction a ≡ loads_signed → exec h (indexed a rt r m) s ≡ fall (bare (with_x rt (SignExtend (8 * access_bytes a) 32 (read_le (bytes_of s.mem k) (R W s m) (access_bytes a))) s))
    unfolding exec
    indexed_signed d = ap of_effect (exec-reg h s a Unscaled m r rt ∙ ap (λ q. access q (access_bytes a) ((RSP X s r + R W s m * 1) % 2 ^ 64) rt s) d ∙ access_signed s apart rt reg_at)

    pub indexed-store : direction a ≡ stores → writable k ≡ true → exec h (indexed a rt r m) s ≡ fall (bare (wrote k (R W s m) (access_bytes a) (R X s rt) s))
    unfolding exec
    indexed-store d w = ap of_effect (exec-reg h s a Unscaled m r rt ∙ ap (λ q. access q (access_bytes a) ((RSP X s r + R W s m * 1) % 2 ^ 64) rt s) d ∙ access-store s apart rt reg_at w)

-- ---- while a block runs
-- a register that is left alone
pub reg-now : {s0 s : State} → Fixed s0 s → (r : ℕ) → cls r ≡ 2 → R X s r ≡ R X s0 r
reg-now f r q = ap (λ v. v % 2 ^ 64) (f.keeps r q)

module _ {b : Block} {h : Helpers} {s0 : State} (B : Body b h s0) where
  module _ {c : Card} {pc slot : ℕ} {s : State} (w : Kept b s0 c pc slot s) where
    pub apart-now : Apart s.mem
    apart-now = apart-alike w.others.alike B.apart

    pub count-now : 8 ≤ length s.mem
    count-now = omega (arith, w.others.alike.count, B.regions)

    pub size-now : (k : ℕ) → size_of s.mem k ≡ size_of s0.mem k
    size-now k = w.others.alike.size k

    pub start-now : (r k : ℕ) → cls r ≡ 2 → R X s0 r ≡ base_of s0.mem k → R X s r ≡ base_of s.mem k
    start-now r k q e = reg-now w.fixed r q ∙ e ∙ sym (w.others.alike.base k)

    module _ (r k o : ℕ) (q : cls r ≡ 2) (e : R X s0 r ≡ base_of s0.mem k) (l : k < 8) (rt : ℕ) where
      pub ldr-now : o % 4 ≡ 0 → o + 4 ≤ size_of s0.mem k → exec h (ldr rt r o) s ≡ fall (bare (with_x rt (read_le (bytes_of s.mem k) o 4) s))
      ldr-now m t =
          let z : R X s r ≡ base_of s.mem k = start-now r k q e in
          let n : 8 ≤ length s.mem = count-now in
          let y : size_of s.mem k ≡ size_of s0.mem k = size-now k in
          subst (λ p. exec h (ldr rt r o) s ≡ fall (bare (with_x rt (read_le (bytes_of s.mem k) p 4) s))) (omega arith)
          (ldr_at h s apart-now r k 0 o (omega arith) (cls_lt r q (omega arith)) (omega arith) rt m (omega arith))

      pub str-now : writable k ≡ true → o % 4 ≡ 0 → o + 4 ≤ size_of s0.mem k → exec h (str rt r o) s ≡ fall (bare (wrote k o 4 (R X s rt) s))
      str-now v m t =
          let z : R X s r ≡ base_of s.mem k = start-now r k q e in
          let n : 8 ≤ length s.mem = count-now in
          let y : size_of s.mem k ≡ size_of s0.mem k = size-now k in
          subst (λ p. exec h (str rt r o) s ≡ fall (bare (wrote k p 4 (R X s rt) s))) (omega arith)
          (str_at h s apart-now r k 0 o (omega arith) (cls_lt r q (omega arith)) (omega arith) rt v m (omega arith))

      pub str_x-now : writable k ≡ true → o % 8 ≡ 0 → o + 8 ≤ size_of s0.mem k → exec h (str_x rt r o) s ≡ fall (bare (wrote k o 8 (R X s rt) s))
      str_x-now v m t =
          let z : R X s r ≡ base_of s.mem k = start-now r k q e in
          let n : 8 ≤ length s.mem = count-now in
          let y : size_of s.mem k ≡ size_of s0.mem k = size-now k in
          subst (λ p. exec h (str_x rt r o) s ≡ fall (bare (wrote k p 8 (R X s rt) s))) (omega arith)
          (str_x_at h s apart-now r k 0 o (omega arith) (cls_lt r q (omega arith)) (omega arith) rt v m (omega arith))
