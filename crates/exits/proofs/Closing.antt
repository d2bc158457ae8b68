-- The closing words: the caller's registers and sp from the frame, and the return.
--     Unwinding, pop_is, pop_unwinds     registers up to 28 from the frame, two by two
--     Unwound, closing-runs              the state at the return, of any state with a frame
--     Returned, closing_ok               the same at the common exit of a block
use mathlib.Core.Path.{◌≡◌, refl, sym, ap, ◌∙◌, subst}
use mathlib.Core.Logic.{◌≢◌}
use mathlib.Core.List.{List, [], ◌∷◌}
use Prim.Native.Nat.{ℕ, ◌+◌, ◌-◌, ◌*◌, ◌%◌, ◌^◌, ◌≤◌, ◌<◌}
use native.Mathlib.Nat.{mod-eq_of_lt}
use native.Mathlib.Omega.{arith}
use borrow.Author.Tests.{eqb-true, eqb-false}
use lib.Dec.{eqb}
use lib.ListN.{length, get_or, set, length-set}
use lib.Seq.{get_or-set_same, get_or-set_other}
use Rattle.arm.specs.declared.Size.TheVariants.{W, X}
use Rattle.arm.specs.declared.Mode.TheVariants.{Post, Offset}
use Rattle.arm.specs.declared.Pair.TheVariants.{Ldp}
use Rattle.arm.specs.declared.Instr.{Instr}
use Rattle.block.specs.declared.Block.{Block}
use Rattle.code.specs.Machine.{fall, stop, go_on, straight}
use Rattle.machine.specs.Bits.{SignExtend}
use Rattle.machine.specs.State.{State, R, with_x, with_sp, stack}
use Rattle.machine.specs.Memory.{read_le, bytes_of, base_of, size_of, Apart}
use Rattle.machine.specs.Execute.{Helpers, done, pair, execute}
use Rattle.machine.proofs.Bytes.{read_lt}
use Rattle.machine.proofs.Numbers.{sign_low}
use Rattle.machine.proofs.Regions.{At, at_offset}
use Rattle.machine.proofs.Access.{exec-pair, pair-load}
use Rattle.card.specs.Card.{Card}
use Rattle.lowering.specs.Instrs.{frame, ret}
use Rattle.lowering.specs.Fragments.{closing}
use Rattle.relation.specs.Lines.{returns, arm, of_effect, bare, exec}
use Rattle.relation.specs.Relation.{Body, Kept}
use Rattle.registers.proofs.Basics.{test}
use Rattle.registers.proofs.Access.{apart-now, count-now, size-now}

-- the frame's word at a place, f the frame's offset in the stack
abbrev pub word : State → (f place : ℕ) → ℕ
word s f o = read_le (bytes_of s.mem stack) (f + o) 8

-- sp and the frame, in a state whose regions lie apart
pub record Framed (s : State) (f : ℕ) : Type 0 where
  pub registers : length s.x ≡ 31
  pub apart : Apart s.mem
  pub present : stack < length s.mem
  pub sp_is : s.sp ≡ base_of s.mem stack + f
  pub inside : f + 96 ≤ size_of s.mem stack

-- registers a to 28 are the frame's, all else is as in s
pub record Unwinding (s : State) (f a : ℕ) (t : State) : Type 0 where
  pub registers : length t.x ≡ 31
  pub sp_is : t.sp ≡ s.sp
  pub mem_is : t.mem ≡ s.mem
  pub outcomes_are : t.outcomes ≡ s.outcomes
  pub requests_are : t.requests ≡ s.requests
  pub x0 : get_or t.x 0 0 ≡ get_or s.x 0 0
  pub above : (k : ℕ) → a ≤ k → k < 29 → get_or t.x k 0 ≡ word s f (8 * k - 136)

-- the state at the return
pub record Unwound (s : State) (f to : ℕ) (e : State) : Type 0 where
  pub sp_is : e.sp ≡ (s.sp + 96) % 2 ^ 64
  pub mem_is : e.mem ≡ s.mem
  pub outcomes_are : e.outcomes ≡ s.outcomes
  pub requests_are : e.requests ≡ s.requests
  pub x0 : get_or e.x 0 0 ≡ get_or s.x 0 0
  pub above : (k : ℕ) → 19 ≤ k → k < 29 → R X e k ≡ word s f (8 * k - 136)
  pub x29 : R X e 29 ≡ word s f 0
  pub x30 : R X e 30 ≡ word s f 8
  pub to_is : to ≡ word s f 8

-- two registers from the frame
abbrev popped : State → (f imm : ℕ) → State → State
popped s f imm t = bare (with_x (imm + 18) (word s f (imm * 8 + 8)) (with_x (imm + 17) (word s f (imm * 8)) t))

-- the last two, and sp
abbrev closed : State → (f : ℕ) → State → State
closed s f t = bare (with_sp ((s.sp + 96) % 2 ^ 64) (with_x 30 (word s f 8) (with_x 29 (word s f 0) t)))

pub unwinding_start : (s : State) (f : ℕ) → length s.x ≡ 31 → Unwinding s f 29 s
unwinding_start s f l = record { registers = l; sp_is = refl; mem_is = refl; outcomes_are = refl; requests_are = refl; x0 = refl; above = λ k m n. absurd (omega arith) }

module _ (h : Helpers) (s : State) (f : ℕ) (F : Framed s f) where
  sp_end : s.sp + 96 ≤ 2 ^ 64
  sp_end = omega (arith, F.sp_is, F.inside, F.apart.ends stack F.present)

  -- sixteen bytes of the frame
  here : (o : ℕ) → o + 16 ≤ 96 → At s.mem ((s.sp + o) % 2 ^ 64) stack (f + o) 16
  here o l = at_offset F.apart s.sp stack f o 16 F.present F.sp_is (omega (arith, F.inside)) (omega arith)

  module _ {a : ℕ} (t : State) (U : Unwinding s f a t) where
    there : (o : ℕ) → o + 16 ≤ 96 → At t.mem ((t.sp % 2 ^ 64 + o) % 2 ^ 64) stack (f + o) 16
    there o l = rw (U.sp_is, U.mem_is) (subst (λ y. At s.mem ((y + o) % 2 ^ 64) stack (f + o) 16) (sym (mod-eq_of_lt (omega (arith, sp_end)))) (here o l))

    loads : (o rt rt2 : ℕ) (after : State → State) → o + 16 ≤ 96
        → pair Ldp ((t.sp % 2 ^ 64 + o) % 2 ^ 64) rt rt2 after t ≡ done (after (with_x rt2 (word s f (o + 8)) (with_x rt (word s f o) t)))
    loads o rt rt2 after l =
        pair-load t (subst Apart (sym U.mem_is) F.apart) rt rt2 after (there o l)
        ∙ ap (λ m. done (after (with_x rt2 (read_le (bytes_of m stack) (f + o + 8) 8) (with_x rt (read_le (bytes_of m stack) (f + o) 8) t)))) U.mem_is
        ∙ ap (λ y. done (after (with_x rt2 (read_le (bytes_of s.mem stack) y 8) (with_x rt (word s f o) t)))) (omega arith)

    pop_is : (imm : ℕ) → imm * 8 + 16 ≤ 96 → exec h (frame Offset Ldp imm (imm + 17) (imm + 18)) t ≡ fall (popped s f imm t)
    unfolding exec
    pop_is imm l =
        ap of_effect (exec-pair h t Offset Ldp imm (imm + 18) 31 (imm + 17)
        ∙ ap (λ y. pair Ldp ((t.sp % 2 ^ 64 + y) % 2 ^ 64) (imm + 17) (imm + 18) (λ v. v) t) (sign_low 10 64 (imm * 8) (omega arith))
        ∙ loads (imm * 8) (imm + 17) (imm + 18) (λ v. v) l)

    last_is : exec h (frame Post Ldp 12 29 30) t ≡ fall (closed s f t)
    unfolding exec SignExtend
    last_is =
        ap of_effect (exec-pair h t Post Ldp 12 30 31 29
        ∙ ap (λ y. pair Ldp y 29 30 (λ v. with_sp ((t.sp % 2 ^ 64 + 96) % 2 ^ 64) v) t) (omega arith)
        ∙ loads 0 29 30 (λ v. with_sp ((t.sp % 2 ^ 64 + 96) % 2 ^ 64) v) (omega arith))
        ∙ ap (λ y. fall (bare (with_sp y (with_x 30 (word s f 8) (with_x 29 (word s f 0) t))))) (ap (λ y. (y % 2 ^ 64 + 96) % 2 ^ 64) U.sp_is ∙ omega arith)

  pop_unwinds : (imm : ℕ) (t : State) → 2 ≤ imm → imm ≤ 10 → Unwinding s f (imm + 19) t → Unwinding s f (imm + 17) (popped s f imm t)
  pop_unwinds imm t m l U = record {
    registers = length-set (set t.x (imm + 17) (word s f (imm * 8))) (imm + 18) (word s f (imm * 8 + 8)) ∙ length-set t.x (imm + 17) (word s f (imm * 8)) ∙ U.registers;
    sp_is = U.sp_is;
    mem_is = U.mem_is;
    outcomes_are = U.outcomes_are;
    requests_are = U.requests_are;
    x0 = get_or-set_other (set t.x (imm + 17) (word s f (imm * 8))) (imm + 18) 0 (word s f (imm * 8 + 8)) 0 (omega arith)
        ∙ get_or-set_other t.x (imm + 17) 0 (word s f (imm * 8)) 0 (omega arith) ∙ U.x0;
    above = λ k p q. test (eqb k (imm + 18))
        (λ e. let z : k ≡ imm + 18 = eqb-true k (imm + 18) e in
        rw z (get_or-set_same (set t.x (imm + 17) (word s f (imm * 8))) (imm + 18) (word s f (imm * 8 + 8)) 0
        (omega (arith, length-set t.x (imm + 17) (word s f (imm * 8)), U.registers)) ∙ ap (word s f) (omega arith)))
        (λ e. let z : k ≢ imm + 18 = eqb-false k (imm + 18) e in
        get_or-set_other (set t.x (imm + 17) (word s f (imm * 8))) (imm + 18) k (word s f (imm * 8 + 8)) 0 z ∙ test (eqb k (imm + 17))
        (λ g. let y : k ≡ imm + 17 = eqb-true k (imm + 17) g in
        rw y (get_or-set_same t.x (imm + 17) (word s f (imm * 8)) 0 (omega (arith, U.registers)) ∙ ap (word s f) (omega arith)))
        (λ g. let y : k ≢ imm + 17 = eqb-false k (imm + 17) g in
        get_or-set_other t.x (imm + 17) k (word s f (imm * 8)) 0 y ∙ U.above k (omega arith) q));
  }

  ret_is : (t : State) → exec h ret t ≡ stop (returns (R X t 30 % 2 ^ 64) (bare t))
  unfolding exec execute
  ret_is t = refl

  x30_is : (t : State) → length t.x ≡ 31 → R X (closed s f t) 30 ≡ word s f 8
  x30_is t l =
      ap (λ y. y % 2 ^ 64) (get_or-set_same (set t.x 29 (word s f 0)) 30 (word s f 8) 0 (omega (arith, length-set t.x 29 (word s f 0))))
      ∙ mod-eq_of_lt (read_lt (bytes_of s.mem stack) (f + 8) 8)

  closed_unwound : (t : State) → Unwinding s f 19 t → Unwound s f (word s f 8) (closed s f t)
  closed_unwound t U = record {
    sp_is = refl;
    mem_is = U.mem_is;
    outcomes_are = U.outcomes_are;
    requests_are = U.requests_are;
    x0 = get_or-set_other (set t.x 29 (word s f 0)) 30 0 (word s f 8) 0 (omega arith) ∙ get_or-set_other t.x 29 0 (word s f 0) 0 (omega arith) ∙ U.x0;
    above = λ k l m.
        ap (λ y. y % 2 ^ 64)
        (get_or-set_other (set t.x 29 (word s f 0)) 30 k (word s f 8) 0 (omega arith) ∙ get_or-set_other t.x 29 k (word s f 0) 0 (omega arith) ∙ U.above k l m)
        ∙ mod-eq_of_lt (read_lt (bytes_of s.mem stack) (f + (8 * k - 136)) 8);
    x29 = ap (λ y. y % 2 ^ 64)
        (get_or-set_other (set t.x 29 (word s f 0)) 30 29 (word s f 8) 0 (omega arith) ∙ get_or-set_same t.x 29 (word s f 0) 0 (omega (arith, U.registers)))
        ∙ mod-eq_of_lt (read_lt (bytes_of s.mem stack) (f + 0) 8);
    x30 = x30_is t U.registers;
    to_is = refl;
  }

  module _ (base : ℕ) where
    first_of : (i : Instr) (is : List Instr) (t t₁ : State) → exec h i t ≡ fall t₁ → straight (arm h base) (i ∷ is) t ≡ straight (arm h base) is t₁
    unfolding straight
    first_of i is t t₁ e = ap (λ o. go_on o (λ t₂. straight (arm h base) is t₂)) e

    close : (t : State) → Unwinding s f 19 t → straight (arm h base) (frame Post Ldp 12 29 30 ∷ ret ∷ []) t ≡ stop (returns (word s f 8) (closed s f t))
    unfolding straight
    close t U =
        first_of (frame Post Ldp 12 29 30) (ret ∷ []) t (closed s f t) (last_is t U)
        ∙ ap (λ o. go_on o (λ t₂. fall t₂)) (ret_is (closed s f t))
        ∙ ap (λ y. stop (returns y (closed s f t))) (ap (λ y. y % 2 ^ 64) (x30_is t U.registers) ∙ mod-eq_of_lt (read_lt (bytes_of s.mem stack) (f + 8) 8))

    -- the closing words end in the return, with the caller's registers
    pub closing-runs : (e : State) × (straight (arm h base) closing s ≡ stop (returns (word s f 8) e)) × Unwound s f (word s f 8) e
    unfolding closing
    closing-runs =
        let t₀ : Unwinding s f 29 s = unwinding_start s f F.registers in
        let s₁ : State = popped s f 10 s in
        let t₁ : Unwinding s f 27 s₁ = pop_unwinds 10 s (omega arith) (omega arith) t₀ in
        let s₂ : State = popped s f 8 s₁ in
        let t₂ : Unwinding s f 25 s₂ = pop_unwinds 8 s₁ (omega arith) (omega arith) t₁ in
        let s₃ : State = popped s f 6 s₂ in
        let t₃ : Unwinding s f 23 s₃ = pop_unwinds 6 s₂ (omega arith) (omega arith) t₂ in
        let s₄ : State = popped s f 4 s₃ in
        let t₄ : Unwinding s f 21 s₄ = pop_unwinds 4 s₃ (omega arith) (omega arith) t₃ in
        let s₅ : State = popped s f 2 s₄ in
        let t₅ : Unwinding s f 19 s₅ = pop_unwinds 2 s₄ (omega arith) (omega arith) t₄ in (
          closed s f s₅,
          first_of (frame Offset Ldp 10 27 28) (frame Offset Ldp 8 25 26 ∷ frame Offset Ldp 6 23 24 ∷ frame Offset Ldp 4 21 22 ∷ frame Offset Ldp 2 19 20 ∷ frame Post Ldp 12 29 30 ∷ ret ∷ []) s s₁ (pop_is s t₀ 10 (omega arith))
              ∙ first_of (frame Offset Ldp 8 25 26) (frame Offset Ldp 6 23 24 ∷ frame Offset Ldp 4 21 22 ∷ frame Offset Ldp 2 19 20 ∷ frame Post Ldp 12 29 30 ∷ ret ∷ []) s₁ s₂ (pop_is s₁ t₁ 8 (omega arith))
              ∙ first_of (frame Offset Ldp 6 23 24) (frame Offset Ldp 4 21 22 ∷ frame Offset Ldp 2 19 20 ∷ frame Post Ldp 12 29 30 ∷ ret ∷ []) s₂ s₃ (pop_is s₂ t₂ 6 (omega arith))
              ∙ first_of (frame Offset Ldp 4 21 22) (frame Offset Ldp 2 19 20 ∷ frame Post Ldp 12 29 30 ∷ ret ∷ []) s₃ s₄ (pop_is s₃ t₃ 4 (omega arith))
              ∙ first_of (frame Offset Ldp 2 19 20) (frame Post Ldp 12 29 30 ∷ ret ∷ []) s₄ s₅ (pop_is s₄ t₄ 2 (omega arith))
              ∙ close s₅ t₅,
          closed_unwound s₅ t₅,
        )

-- ---- at the common exit
framed_now : {b : Block} {h : Helpers} {s0 s : State} {c : Card} {pc slot : ℕ} → Body b h s0 → Kept b s0 c pc slot s → Framed s (s0.sp - base_of s0.mem stack)
framed_now B w = record {
  registers = w.fixed.registers;
  apart = apart-now B w;
  present = omega (arith, count-now B w);
  sp_is = omega (arith, w.fixed.sp, w.others.alike.base stack, B.sp_at);
  inside = omega (arith, size-now B w stack, B.sp_at, B.frame_in);
}

-- the frame's word at the body
abbrev pub frame_word : State → (place : ℕ) → ℕ
frame_word s0 o = word s0 (s0.sp - base_of s0.mem stack) o

-- what a state at the return is, of the state s at the common exit and the state s0 at the body
pub record Returned (s0 s : State) (to : ℕ) (e : State) : Type 0 where
  pub sp_is : e.sp ≡ (s0.sp + 96) % 2 ^ 64
  pub mem_is : e.mem ≡ s.mem
  pub outcomes_are : e.outcomes ≡ s.outcomes
  pub requests_are : e.requests ≡ s.requests
  pub x0 : R W e 0 ≡ R W s 0
  pub above : (k : ℕ) → 19 ≤ k → k < 29 → R X e k ≡ frame_word s0 (8 * k - 136)
  pub x29 : R X e 29 ≡ frame_word s0 0
  pub x30 : R X e 30 ≡ frame_word s0 8
  pub to_is : to ≡ frame_word s0 8

pub closing_ok : {b : Block} {h : Helpers} {s0 s : State} {c : Card} {pc slot : ℕ} → Body b h s0 → Kept b s0 c pc slot s → (base : ℕ)
    → (to : ℕ) × (e : State) × (straight (arm h base) closing s ≡ stop (returns to e)) × Returned s0 s to e
closing_ok {h = h} {s0} {s} B w base = by (closing-runs h s f (framed_now B w) base)
  where
    f : ℕ
    f = s0.sp - base_of s0.mem stack

    same : (o : ℕ) → word s f o ≡ frame_word s0 o
    same o = ap (λ l. read_le l (f + o) 8) w.others.stack_is

    by : (e : State) × (straight (arm h base) closing s ≡ stop (returns (word s f 8) e)) × Unwound s f (word s f 8) e
        → (to : ℕ) × (e : State) × (straight (arm h base) closing s ≡ stop (returns to e)) × Returned s0 s to e
    by (e, r, u) = (
      word s f 8,
      e,
      r,
      record {
        sp_is = u.sp_is ∙ ap (λ y. (y + 96) % 2 ^ 64) w.fixed.sp;
        mem_is = u.mem_is;
        outcomes_are = u.outcomes_are;
        requests_are = u.requests_are;
        x0 = ap (λ y. y % 2 ^ 32) u.x0;
        above = λ k l m. u.above k l m ∙ same (8 * k - 136);
        x29 = u.x29 ∙ same 0;
        x30 = u.x30 ∙ same 8;
        to_is = same 8;
      },
    )
