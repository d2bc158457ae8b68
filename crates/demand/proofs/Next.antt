-- From a block's end by the table to the next block's start at its body.
--     next_starts     the claim of specs/Next
-- Assumes nothing.
use mathlib.Core.Path.{◌≡◌, sym, ap, ap₂, ◌∙◌}
use mathlib.Core.Logic.{◌≢◌}
use Prim.Native.Nat.{ℕ, ◌+◌, ◌-◌, ◌*◌, ◌%◌, ◌^◌, ◌≤◌}
use native.Mathlib.Omega.{arith}
use lib.ListN.{length, get_or}
use Rattle.arm.specs.declared.Size.TheVariants.{X}
use Rattle.block.specs.declared.Block.{Block}
use Rattle.machine.specs.State.{State, R, code, stack, processor, context, ram, xip, map}
use Rattle.machine.specs.Memory.{read_le, base_of, size_of}
use Rattle.machine.specs.Execute.{Helpers}
use Rattle.machine.specs.Machine.{Run}
use Rattle.card.specs.Card.{Card}
use Rattle.demand.specs.Premises.{Entry, first, body, Premises}
use Rattle.demand.specs.Claim.{frame_at, stack_word, saved, limit_at, ByTable}
use Rattle.demand.specs.Next.{Enters, Started, NextStarts}

module _ {b : Block} {h : Helpers} {limit : ℕ} {c : Card} {s : State} where
  -- the limit stands in a register
  pub limit_is : (entry : Entry) → Premises b h entry limit c s → limit_at entry s ≡ limit
  limit_is first P = P.starts.w4
  limit_is body P = P.starts.w27

  -- the frame is in the stack
  pub frame-inside : (entry : Entry) → Premises b h entry limit c s → frame_at entry s + 96 ≤ size_of s.mem stack
  frame-inside first P = omega (arith, P.starts.room, P.starts.inside)
  frame-inside body P = omega (arith, P.starts.room, P.starts.inside)

module _ {b b' : Block} {h : Helpers} {entry : Entry} {limit : ℕ} {c d : Card} {s n : State} {r : Run}
    (P : Premises b h entry limit c s) (T : ByTable b entry d s r) (N : Enters b b' d.pc s r.state n) where
  -- a region but the code is where it was at the start
  base_is : (i : ℕ) → i ≢ code → base_of n.mem i ≡ base_of s.mem i
  base_is i e = N.bases_are i e ∙ T.untouched.bases_are i

  in_x : (k i : ℕ) → i ≢ code → R X r.state k ≡ base_of s.mem i → R X n k ≡ base_of n.mem i
  in_x k i e q = ap (λ l. get_or l k 0 % 2 ^ 64) N.registers_are ∙ q ∙ sym (base_is i e)

  stack-size : size_of n.mem stack ≡ size_of s.mem stack
  stack-size = ap length (N.bytes_are stack (omega arith)) ∙ T.untouched.sizes_are stack

  sp_is : n.sp ≡ base_of n.mem stack + frame_at entry s
  sp_is = N.sp_is ∙ T.handed.sp ∙ ap (λ y. y + frame_at entry s) (sym (base_is stack (omega arith)))

  -- the frame is at the same place, with the same bytes
  saved_at : (k o : ℕ) {v : ℕ} → stack_word r.state (frame_at entry s + o) ≡ v → saved body n k o ≡ v
  saved_at k o q =
      ap₂ (λ l f. read_le l (f + o) 8) (N.bytes_are stack (omega arith)) (omega (arith, sp_is)) ∙ q

  started : Started b' entry limit d s n
  started = record {
    at_body = record {
      pc = N.pc_is ∙ T.to_body ∙ N.to_body;
      x19 = in_x 19 processor (omega arith) T.handed.x19;
      x20 = in_x 20 context (omega arith) T.handed.x20;
      x21 = in_x 21 ram (omega arith) T.handed.x21;
      x22 = in_x 22 xip (omega arith) T.handed.x22;
      w26 = ap (λ l. get_or l 26 0 % 2 ^ 32) N.registers_are ∙ T.done;
      w27 = ap (λ l. get_or l 27 0 % 2 ^ 32) N.registers_are ∙ T.handed.w27 ∙ limit_is entry P;
      x25 = λ e. in_x 25 map (omega arith) (T.handed.x25 (sym N.same_map ∙ e));
      room = omega (arith, sp_is);
      inside = omega (arith, sp_is, stack-size, frame-inside entry P);
    };
    saved_is = λ k l m. saved_at k (8 * k - 136) (T.handed.frame k l m);
    saved_29 = saved_at 29 0 T.handed.frame_29;
    saved_30 = saved_at 30 8 T.handed.frame_30;
  }

pub next_starts : NextStarts
next_starts b b' h entry limit c d s n r P T N = started P T N
