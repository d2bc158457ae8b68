-- The opening words: the caller's registers to the frame, and the arguments to the registers that a block keeps.
--     Winding, wind_first, wind_push      the caller's registers are in the frame
--     Moving, moves_frag                  the registers take their arguments
--     opening-moves, opening_ok           the opening words lead to the body
use mathlib.Core.Path.{◌≡◌, refl, sym, ap, ◌∙◌}
use mathlib.Core.Logic.{◌≢◌, ◌⊎◌, inl, inr}
use mathlib.Core.List.{List, [], ◌∷◌}
use Prim.Native.Nat.{ℕ, ◌+◌, ◌-◌, ◌*◌, ◌%◌, ◌^◌, ◌≤◌, ◌<◌}
use native.Mathlib.Nat.{mod-eq_of_lt}
use native.Mathlib.Omega.{arith}
use borrow.Author.Tests.{eqb-true, eqb-false}
use lib.Dec.{eqb}
use lib.ListN.{length, get_or, drop, length-set}
use lib.Seq.{get_or-set_same, get_or-set_other}
use Rattle.arm.specs.declared.Size.TheVariants.{W, X}
use Rattle.arm.specs.declared.Mode.TheVariants.{Offset, Pre}
use Rattle.arm.specs.declared.Pair.TheVariants.{Stp}
use Rattle.block.specs.declared.Block.{Block}
use Rattle.code.specs.Tree.{Depth, code}
use Rattle.code.specs.Machine.{fall}
use Rattle.machine.specs.Bits.{SignExtend}
use Rattle.machine.specs.State.{State, R, with_x, with_sp, with_mem, stack, guards}
use Rattle.machine.specs.Memory.{read_le, write_le, bytes_of, base_of, size_of, with_bytes, Apart}
use Rattle.machine.specs.Execute.{Helpers, done, pair}
use Rattle.machine.proofs.Bytes.{length-write_le, get_or-write_le-below, get_or-write_le-above, read_below, read_same}
use Rattle.machine.proofs.Numbers.{sign_low}
use Rattle.machine.proofs.Regions.{Alike, at_offset, alike_refl, alike_trans, alike_with, apart-alike, bytes_same, bytes_other, drop_with}
use Rattle.machine.proofs.Access.{exec-pair, pair-store}
use Rattle.machine.proofs.Data.{exec_mov}
use Rattle.machine.proofs.Registers.{R_lt}
use Rattle.card.specs.Card.{Card}
use Rattle.lowering.specs.Instrs.{frame, mov, mov_x, movz}
use Rattle.lowering.specs.Fragments.{opening}
use Rattle.demand.specs.Premises.{first, Premises}
use Rattle.demand.specs.Claim.{frame_at}
use Rattle.relation.specs.Lines.{arm, of_effect, bare, exec}
use Rattle.relation.specs.Abs.{upd}
use Rattle.relation.specs.Relation.{Frag}
use Rattle.registers.proofs.Basics.{test, upd_same, upd_other, other}
use Rattle.registers.proofs.Frags.{frag_map, frag-one, frag_cons}
use Rattle.registers.proofs.Constants.{exec_movz32}
use Rattle.exits.proofs.Closing.{word}
use Rattle.exits.proofs.Ends.{Entered, Loaded}

-- the stack's bytes with two registers at a place
abbrev two : List ℕ → (o u v : ℕ) → List ℕ
two l o u v = write_le (write_le l o 8 u) (o + 8) 8 v

-- registers 29, 30 and 19 to a - 1 of s are in the frame at place f of the stack, all else is as in s
pub record Winding (s : State) (f a : ℕ) (t : State) : Type 0 where
  pub x_is : t.x ≡ s.x
  pub sp_is : t.sp ≡ base_of s.mem stack + f
  pub alike : Alike s.mem t.mem
  pub outcomes_are : t.outcomes ≡ s.outcomes
  pub requests_are : t.requests ≡ s.requests
  pub bytes_are : (k : ℕ) → k ≢ stack → bytes_of t.mem k ≡ bytes_of s.mem k
  pub guards_are : drop guards t.mem ≡ drop guards s.mem
  pub stack_is : (o : ℕ) → (o < f) ⊎ (f + 96 ≤ o) → get_or (bytes_of t.mem stack) o 0 ≡ get_or (bytes_of s.mem stack) o 0
  pub below : (k : ℕ) → 19 ≤ k → k < a → word t f (8 * k - 136) ≡ R X s k
  pub w29 : word t f 0 ≡ R X s 29
  pub w30 : word t f 8 ≡ R X s 30

-- ---- a store of two registers
-- bytes outside of sixteen within the frame
two_outside : (l : List ℕ) (f d u v o : ℕ) → d + 16 ≤ 96 → (o < f) ⊎ (f + 96 ≤ o) → get_or (two l (f + d) u v) o 0 ≡ get_or l o 0
two_outside l f d u v o m (inl h) = get_or-write_le-below (write_le l (f + d) 8 u) (f + d + 8) 8 v o (omega arith) ∙ get_or-write_le-below l (f + d) 8 u o (omega arith)
two_outside l f d u v o m (inr h) = get_or-write_le-above (write_le l (f + d) 8 u) (f + d + 8) 8 v o (omega arith) ∙ get_or-write_le-above l (f + d) 8 u o (omega arith)

two_below : (l : List ℕ) (o u v p : ℕ) → p + 8 ≤ o → read_le (two l o u v) p 8 ≡ read_le l p 8
two_below l o u v p h = read_below (write_le l o 8 u) (o + 8) 8 v p 8 (omega arith) ∙ read_below l o 8 u p 8 h

two_first : (l : List ℕ) (o u v : ℕ) → o + 16 ≤ length l → u < 2 ^ 64 → read_le (two l o u v) o 8 ≡ u
two_first l o u v h m = read_below (write_le l o 8 u) (o + 8) 8 v o 8 (omega arith) ∙ read_same l o 8 u (omega arith) ∙ mod-eq_of_lt m

two_second : (l : List ℕ) (o u v : ℕ) → o + 16 ≤ length l → v < 2 ^ 64 → read_le (two l o u v) (o + 8) 8 ≡ v
two_second l o u v h m = read_same (write_le l o 8 u) (o + 8) 8 v (omega (arith, length-write_le l o 8 u)) ∙ mod-eq_of_lt m

-- what the store leaves
abbrev stacked : (o u v : ℕ) → State → State
stacked o u v t = with_mem (with_bytes stack (two (bytes_of t.mem stack) o u v) t.mem) t

-- a start with room for the frame
pub record Roomy (s : State) (f : ℕ) : Type 0 where
  pub registers : length s.x ≡ 31
  pub apart : Apart s.mem
  pub present : stack < length s.mem
  pub sp_is : s.sp ≡ base_of s.mem stack + f + 96
  pub inside : f + 96 ≤ size_of s.mem stack

module _ (h : Helpers) (s : State) (f : ℕ) (F : Roomy s f) where
  frame_end : base_of s.mem stack + f + 96 ≤ 2 ^ 64
  frame_end = omega (arith, F.inside, F.apart.ends stack F.present)

  stores : (t : State) (o rt rt2 : ℕ) (after : State → State) → o + 16 ≤ 96 → Alike s.mem t.mem
      → pair Stp ((base_of s.mem stack + f + o) % 2 ^ 64) rt rt2 after t ≡ done (after (stacked (f + o) (R X t rt) (R X t rt2) t))
  stores t o rt rt2 after l a =
      pair-store t (apart-alike a F.apart) rt rt2 after
      (at_offset (apart-alike a F.apart) (base_of s.mem stack + f) stack f o 16 (omega (arith, a.count, F.present)) (omega (arith, a.base stack)) (omega (arith, a.size stack, F.inside)) (omega arith)) refl

  -- the first, and sp
  first-is : exec h (frame Pre Stp 116 29 30) s ≡ fall (bare (with_sp (base_of s.mem stack + f) (stacked f (R X s 29) (R X s 30) s)))
  unfolding exec SignExtend
  first-is =
      ap of_effect (exec-pair h s Pre Stp 116 30 31 29
      ∙ ap (λ y. pair Stp y 29 30 (λ v. with_sp y v) s) down
      ∙ ap (λ y. pair Stp y 29 30 (λ v. with_sp (base_of s.mem stack + f) v) s) again
      ∙ stores s 0 29 30 (λ v. with_sp (base_of s.mem stack + f) v) (omega arith) (alike_refl s.mem))
      ∙ ap (λ y. fall (bare (with_sp (base_of s.mem stack + f) (stacked y (R X s 29) (R X s 30) s)))) (omega arith)
    where
      down : (s.sp % 2 ^ 64 + (928 + (2 ^ 64 - 2 ^ 10))) % 2 ^ 64 ≡ base_of s.mem stack + f
      down = omega (arith, F.sp_is, frame_end)

      again : base_of s.mem stack + f ≡ (base_of s.mem stack + f + 0) % 2 ^ 64
      again = omega (arith, frame_end)

  push_is : (imm : ℕ) (t : State) → imm * 8 + 16 ≤ 96 → t.sp ≡ base_of s.mem stack + f → Alike s.mem t.mem
      → exec h (frame Offset Stp imm (imm + 17) (imm + 18)) t ≡ fall (bare (stacked (f + imm * 8) (R X t (imm + 17)) (R X t (imm + 18)) t))
  unfolding exec
  push_is imm t l e a =
      ap of_effect (exec-pair h t Offset Stp imm (imm + 18) 31 (imm + 17)
      ∙ ap (λ y. pair Stp ((t.sp % 2 ^ 64 + y) % 2 ^ 64) (imm + 17) (imm + 18) (λ v. v) t) (sign_low 10 64 (imm * 8) (omega arith))
      ∙ ap (λ y. pair Stp y (imm + 17) (imm + 18) (λ v. v) t) (ap (λ y. (y % 2 ^ 64 + imm * 8) % 2 ^ 64) e ∙ omega (arith, frame_end))
      ∙ stores t (imm * 8) (imm + 17) (imm + 18) (λ v. v) l a)

  -- ---- the frame
  in_stack : (t : State) → Alike s.mem t.mem → f + 96 ≤ length (bytes_of t.mem stack)
  in_stack t a = omega (arith, a.size stack, F.inside)

  here : (t : State) → Alike s.mem t.mem → stack < length t.mem
  here t a = omega (arith, a.count, F.present)

  -- what the frame holds after a store to it
  word_is : (t : State) → Alike s.mem t.mem → (o u v p : ℕ) → word (stacked (f + o) u v t) f p ≡ read_le (two (bytes_of t.mem stack) (f + o) u v) (f + p) 8
  word_is t a o u v p = ap (λ l. read_le l (f + p) 8) (bytes_same stack (two (bytes_of t.mem stack) (f + o) u v) t.mem (here t a))

  two_length : (l : List ℕ) (o u v : ℕ) → length (two l o u v) ≡ length l
  two_length l o u v = length-write_le (write_le l o 8 u) (o + 8) 8 v ∙ length-write_le l o 8 u

  wind_first : Winding s f 19 (bare (with_sp (base_of s.mem stack + f) (stacked f (R X s 29) (R X s 30) s)))
  wind_first =
      let l : List ℕ = bytes_of s.mem stack in
      let m : List ℕ = two l f (R X s 29) (R X s 30) in
      record {
        x_is = refl;
        sp_is = refl;
        alike = alike_with stack m s.mem (two_length l f (R X s 29) (R X s 30));
        outcomes_are = refl;
        requests_are = refl;
        bytes_are = λ k q. bytes_other stack m s.mem k q;
        guards_are = drop_with guards stack m s.mem (omega arith);
        stack_is = λ o q. ap (λ y. get_or y o 0) (bytes_same stack m s.mem F.present) ∙ ap (λ y. get_or (two l y (R X s 29) (R X s 30)) o 0) plain ∙ two_outside l f 0 (R X s 29) (R X s 30) o (omega arith) q;
        below = λ k q r. absurd (omega arith);
        w29 = ap (λ y. read_le y (f + 0) 8) (bytes_same stack m s.mem F.present) ∙ ap (λ y. read_le m y 8) (sym plain) ∙ two_first l f (R X s 29) (R X s 30) (omega (arith, F.inside)) (R_lt X s 29);
        w30 = ap (λ y. read_le y (f + 8) 8) (bytes_same stack m s.mem F.present) ∙ two_second l f (R X s 29) (R X s 30) (omega (arith, F.inside)) (R_lt X s 30);
      }
    where
      plain : f ≡ f + 0
      plain = omega arith

  wind_push : (imm : ℕ) (t : State) → 2 ≤ imm → imm ≤ 10 → Winding s f (imm + 17) t → Winding s f (imm + 19) (bare (stacked (f + imm * 8) (R X t (imm + 17)) (R X t (imm + 18)) t))
  wind_push imm t p q w =
      let l : List ℕ = bytes_of t.mem stack in
      let u : ℕ = R X t (imm + 17) in
      let v : ℕ = R X t (imm + 18) in
      let m : List ℕ = two l (f + imm * 8) u v in
      let r : f + 96 ≤ length l = in_stack t w.alike in
      record {
        x_is = w.x_is;
        sp_is = w.sp_is;
        alike = alike_trans w.alike (alike_with stack m t.mem (two_length l (f + imm * 8) u v));
        outcomes_are = w.outcomes_are;
        requests_are = w.requests_are;
        bytes_are = λ k n. bytes_other stack m t.mem k n ∙ w.bytes_are k n;
        guards_are = drop_with guards stack m t.mem (omega arith) ∙ w.guards_are;
        stack_is = λ o n. ap (λ y. get_or y o 0) (bytes_same stack m t.mem (here t w.alike)) ∙ two_outside l f (imm * 8) u v o (omega arith) n ∙ w.stack_is o n;
        below = λ k n o. word_is t w.alike (imm * 8) u v (8 * k - 136) ∙ test (eqb k (imm + 18))
            (λ e. let z : k ≡ imm + 18 = eqb-true k (imm + 18) e in
            ap (λ y. read_le m y 8) (omega arith) ∙ two_second l (f + imm * 8) u v (omega arith) (R_lt X t (imm + 18)) ∙ same (imm + 18) ∙ ap (R X s) (sym z))
            (λ e. let z : k ≢ imm + 18 = eqb-false k (imm + 18) e in
            test (eqb k (imm + 17))
            (λ g. let y : k ≡ imm + 17 = eqb-true k (imm + 17) g in
            ap (λ x. read_le m x 8) (omega arith) ∙ two_first l (f + imm * 8) u v (omega arith) (R_lt X t (imm + 17)) ∙ same (imm + 17) ∙ ap (R X s) (sym y))
            (λ g. let y : k ≢ imm + 17 = eqb-false k (imm + 17) g in
            two_below l (f + imm * 8) u v (f + (8 * k - 136)) (omega arith) ∙ w.below k n (omega arith)));
        w29 = word_is t w.alike (imm * 8) u v 0 ∙ two_below l (f + imm * 8) u v (f + 0) (omega arith) ∙ w.w29;
        w30 = word_is t w.alike (imm * 8) u v 8 ∙ two_below l (f + imm * 8) u v (f + 8) (omega arith) ∙ w.w30;
      }
    where
      same : (k : ℕ) → R X t k ≡ R X s k
      same k = ap (λ y. get_or y k 0 % 2 ^ 64) w.x_is

  module _ (base : ℕ) {n : Depth} where
    push_frag : (imm : ℕ) → 2 ≤ imm → imm ≤ 10 → Frag (arm h base) {n = n} (code (frame Offset Stp imm (imm + 17) (imm + 18) ∷ [])) (Winding s f (imm + 17)) (Winding s f (imm + 19))
    push_frag imm p q =
        frag-one (frame Offset Stp imm (imm + 17) (imm + 18)) (λ t. bare (stacked (f + imm * 8) (R X t (imm + 17)) (R X t (imm + 18)) t))
        (λ t w. push_is imm t (omega arith) w.sp_is w.alike) (λ t w. wind_push imm t p q w)

-- ---- the arguments
-- the frame is there, and register k holds v k
pub record Moving (s : State) (f : ℕ) (v : ℕ → ℕ) (t : State) : Type 0 where
  pub winding : Winding s f 29 (other t s.x t.nzcv 0 0)
  pub registers : length t.x ≡ 31
  pub x_are : (k : ℕ) → get_or t.x k 0 ≡ v k

module _ (h : Helpers) (s : State) (f : ℕ) where
  -- all are there before the first move
  moving_start : length s.x ≡ 31 → (t : State) → Winding s f 29 t → Moving s f (λ k. get_or s.x k 0) t
  moving_start l t w = record {
    winding = record {
      x_is = refl;
      sp_is = w.sp_is;
      alike = w.alike;
      outcomes_are = w.outcomes_are;
      requests_are = w.requests_are;
      bytes_are = w.bytes_are;
      guards_are = w.guards_are;
      stack_is = w.stack_is;
      below = w.below;
      w29 = w.w29;
      w30 = w.w30;
    };
    registers = ap length w.x_is ∙ l;
    x_are = λ k. ap (λ y. get_or y k 0) w.x_is;
  }

  moving_set : {v : ℕ → ℕ} (rd u : ℕ) → rd < 31 → (t : State) → Moving s f v t → Moving s f (upd v rd u) (bare (with_x rd u t))
  moving_set {v} rd u l t w = record {
    winding = w.winding;
    registers = length-set t.x rd u ∙ w.registers;
    x_are = λ k. test (eqb k rd)
        (λ e. let z : k ≡ rd = eqb-true k rd e in rw z (get_or-set_same t.x rd u 0 (omega (arith, w.registers)) ∙ sym (upd_same v rd u)))
        (λ e. let z : k ≢ rd = eqb-false k rd e in get_or-set_other t.x rd k u 0 z ∙ w.x_are k ∙ sym (upd_other v rd u k z));
  }

  module _ (base : ℕ) {n : Depth} {v : ℕ → ℕ} where
    move_x_frag : (rd rm u : ℕ) → rd < 31 → v rm % 2 ^ 64 ≡ u → Frag (arm h base) {n = n} (code (mov_x rd rm ∷ [])) (Moving s f v) (Moving s f (upd v rd u))
    unfolding exec
    move_x_frag rd rm u l e =
        frag-one (mov_x rd rm) (λ t. bare (with_x rd u t))
        (λ t w. ap of_effect (exec_mov h t X rm rd w.registers) ∙ ap (λ y. fall (bare (with_x rd y t))) (ap (λ y. y % 2 ^ 64) (w.x_are rm) ∙ e)) (λ t w. moving_set rd u l t w)

    move_w_frag : (rd rm u : ℕ) → rd < 31 → v rm % 2 ^ 32 ≡ u → Frag (arm h base) {n = n} (code (mov rd rm ∷ [])) (Moving s f v) (Moving s f (upd v rd u))
    unfolding exec
    move_w_frag rd rm u l e =
        frag-one (mov rd rm) (λ t. bare (with_x rd u t))
        (λ t w. ap of_effect (exec_mov h t W rm rd w.registers) ∙ ap (λ y. fall (bare (with_x rd y t))) (ap (λ y. y % 2 ^ 32) (w.x_are rm) ∙ e)) (λ t w. moving_set rd u l t w)

    zero_frag : (rd : ℕ) → rd < 31 → Frag (arm h base) {n = n} (code (movz rd 0 ∷ [])) (Moving s f v) (Moving s f (upd v rd 0))
    zero_frag rd l = frag-one (movz rd 0) (λ t. bare (with_x rd 0 t)) (λ t w. exec_movz32 h base 0 0 rd 0 t refl) (λ t w. moving_set rd 0 l t w)

-- the registers at the body
abbrev arguments : State → ℕ → ℕ
arguments s = upd (upd (upd (upd (upd (upd (upd (λ k. get_or s.x k 0) 19 (R X s 0)) 20 (R X s 1)) 21 (R X s 2)) 22 (R X s 3)) 27 (R W s 4)) 25 (R X s 5)) 26 0

module _ (h : Helpers) (s : State) (f : ℕ) (F : Roomy s f) (base : ℕ) {n : Depth} where
  moves_frag : Frag (arm h base) {n = n} (code (mov_x 19 0 ∷ mov_x 20 1 ∷ mov_x 21 2 ∷ mov_x 22 3 ∷ mov 27 4 ∷ mov_x 25 5 ∷ movz 26 0 ∷ [])) (Moving s f (λ k. get_or s.x k 0)) (Moving s f (arguments s))
  unfolding upd
  moves_frag =
      frag_cons (move_x_frag h s f base 19 0 (R X s 0) (omega arith) refl)
      (frag_cons (move_x_frag h s f base 20 1 (R X s 1) (omega arith) refl)
      (frag_cons (move_x_frag h s f base 21 2 (R X s 2) (omega arith) refl)
      (frag_cons (move_x_frag h s f base 22 3 (R X s 3) (omega arith) refl)
      (frag_cons (move_w_frag h s f base 27 4 (R W s 4) (omega arith) refl)
      (frag_cons (move_x_frag h s f base 25 5 (R X s 5) (omega arith) refl)
      (zero_frag h s f base 26 (omega arith)))))))

  pub opening-moves : Frag (arm h base) {n = n} (code opening) (λ t. t ≡ bare s) (Moving s f (arguments s))
  unfolding opening
  opening-moves =
      frag_cons {B = Winding s f 19} (frag-one (frame Pre Stp 116 29 30) (λ t. bare (with_sp (base_of s.mem stack + f) (stacked f (R X s 29) (R X s 30) s)))
      (λ t e. rw e (first-is h (bare s) f (record { registers = F.registers; apart = F.apart; present = F.present; sp_is = F.sp_is; inside = F.inside }))) (λ t e. wind_first h s f F))
      (frag_cons (push_frag h s f F base 2 (omega arith) (omega arith))
      (frag_cons (push_frag h s f F base 4 (omega arith) (omega arith))
      (frag_cons (push_frag h s f F base 6 (omega arith) (omega arith))
      (frag_cons (push_frag h s f F base 8 (omega arith) (omega arith))
      (frag_cons (frag_map (push_frag h s f F base 10 (omega arith) (omega arith)) (moving_start h s f F.registers))
      moves_frag)))))

-- ---- a start at the first word
module _ {b : Block} {h : Helpers} {limit : ℕ} {c : Card} {s : State} (P : Premises b h first limit c s) where
  roomy : Roomy s (frame_at first s)
  roomy = record {
    registers = P.registers;
    apart = P.apart;
    present = omega (arith, P.regions);
    sp_is = omega (arith, P.starts.room);
    inside = omega (arith, P.starts.room, P.starts.inside);
  }

  module _ (s0 : State) (w : Moving s (frame_at first s) (arguments s) s0) where
    entered : Entered first s s0
    entered = record {
      registers = w.registers;
      alike = w.winding.alike;
      outcomes_are = w.winding.outcomes_are;
      requests_are = w.winding.requests_are;
      sp_is = w.winding.sp_is;
      bytes_are = w.winding.bytes_are;
      guards_are = w.winding.guards_are;
      stack_is = w.winding.stack_is;
      frame = w.winding.below;
      frame_29 = w.winding.w29;
      frame_30 = w.winding.w30;
    }

    -- an argument, in the register that keeps it
    held : (k r : ℕ) → arguments s k ≡ R X s r → R X s0 k ≡ R X s r
    held k r e = ap (λ y. y % 2 ^ 64) (w.x_are k ∙ e) ∙ mod-eq_of_lt (R_lt X s r)

    loaded : Loaded b limit c s s0
    unfolding upd
    loaded = record {
      x19 = held 19 0 refl ∙ P.starts.x0;
      x20 = held 20 1 refl ∙ P.starts.x1;
      x21 = held 21 2 refl ∙ P.starts.x2;
      x22 = held 22 3 refl ∙ P.starts.x3;
      x25 = λ e. held 25 5 refl ∙ P.starts.x5 e;
      w26 = ap (λ y. y % 2 ^ 32) (w.x_are 26) ∙ sym P.starts.done;
      w27 = ap (λ y. y % 2 ^ 32) (w.x_are 27) ∙ mod-eq_of_lt (R_lt W s 4) ∙ P.starts.w4;
    }

  -- the opening words lead to the body
  pub opening_ok : (base : ℕ) {n : Depth} → Frag (arm h base) {n = n} (code opening) (λ t. t ≡ bare s) (λ s0. Entered first s s0 × Loaded b limit c s s0)
  opening_ok base = frag_map (opening-moves h s (frame_at first s) roomy base) (λ s0 w. (entered s0 w, loaded s0 w))
