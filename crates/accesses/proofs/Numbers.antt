-- The card's bytes and the machine's, and the numbers of an access.
--     read_is, write_is           read_le and write_le have the same clauses
--     write_low                   a store takes the low bytes of a register
--     sign-is, extend_lt          the machine's sign extension and the card's; an extended number is 32 bits
--     even_is                     a halfword's offset with its lowest bit cleared
use mathlib.Core.Path.{◌≡◌, refl, ap, ap₂, ◌∙◌}
use mathlib.Core.Bool.{Bool, true, false}
use mathlib.Core.List.{List}
use Prim.Native.Nat.{ℕ, zero, suc, ◌+◌, ◌-◌, ◌*◌, ◌/◌, ◌%◌, ◌^◌, ◌≤◌, ◌<◌}
use native.Mathlib.Omega.{arith}
use lib.Bits.{bit_and, and_high}
use lib.ListN.{get_or, set}
use Rattle.block.specs.declared.Width.{Width}
use Rattle.block.specs.declared.Width.TheVariants.{Byte as B8, Half as B16, Word as B32}
use Rattle.block.specs.Block.{bytes}
use Rattle.machine.specs.Bits.{SignExtend}
use Rattle.machine.specs.Memory.{read_le, write_le}
use Rattle.machine.proofs.Bytes.{read_lt}
use Rattle.card.specs.Word.{bit, sign_extend}
use Rattle.card.specs.Memory.{read_le as card_read, write_le as card_write, extend}
use Rattle.registers.proofs.Basics.{test}

pub bytes_pos : (w : Width) → 0 < bytes w
bytes_pos B8 = omega arith
bytes_pos B16 = omega arith
bytes_pos B32 = omega arith

pub bytes_le : (w : Width) → bytes w ≤ 4
bytes_le B8 = omega arith
bytes_le B16 = omega arith
bytes_le B32 = omega arith

pub bytes_small : (w : Width) → bytes w < 2 ^ 32
bytes_small w = omega (arith, bytes_le w)

pub read_is : (l : List ℕ) (o n : ℕ) → card_read l o n ≡ read_le l o n
unfolding read_le card_read
read_is l o zero = refl
read_is l o (suc n) = ap (λ v. get_or l o 0 % 256 + 256 * v) (read_is l (suc o) n)

pub write_is : (l : List ℕ) (o n v : ℕ) → card_write l o n v ≡ write_le l o n v
unfolding write_le card_write
write_is l o zero v = refl
write_is l o (suc n) v = write_is (set l o (v % 256)) (suc o) n (v / 256)

pub write_low : (w : Width) (l : List ℕ) (o v : ℕ) → write_le l o (bytes w) v ≡ write_le l o (bytes w) (v % 2 ^ 32)
unfolding write_le
write_low B8 l o v = ap (λ x. set l o x) (omega arith)
write_low B16 l o v = ap₂ (λ x y. set (set l o x) (suc o) y) (omega arith) (omega arith)
write_low B32 l o v =
    ap₂ (λ x y. set (set (set (set l o x) (suc o) y) (suc (suc o)) (v / 256 / 256 % 256)) (suc (suc (suc o))) (v / 256 / 256 / 256 % 256)) (omega arith) (omega arith)
    ∙ ap₂ (λ x y. set (set (set (set l o (v % 2 ^ 32 % 256)) (suc o) (v % 2 ^ 32 / 256 % 256)) (suc (suc o)) x) (suc (suc (suc o))) y) (omega arith) (omega arith)

pub sign-is : (m v : ℕ) → SignExtend m 32 v ≡ sign_extend m v
unfolding SignExtend sign_extend
sign-is m v = refl

-- a number of so many bytes
pub bytes_lt : (w : Width) (l : List ℕ) (o : ℕ) → card_read l o (bytes w) < 2 ^ 32
bytes_lt B8 l o = let z : read_le l o 1 < 256 ^ 1 = read_lt l o 1 in rw (read_is l o 1) (omega arith)
bytes_lt B16 l o = let z : read_le l o 2 < 256 ^ 2 = read_lt l o 2 in rw (read_is l o 2) (omega arith)
bytes_lt B32 l o = let z : read_le l o 4 < 256 ^ 4 = read_lt l o 4 in rw (read_is l o 4) (omega arith)

signed_lt8 : (v : ℕ) → v < 256 → sign_extend 8 v < 2 ^ 32
unfolding sign_extend
signed_lt8 v h = test (bit v 7) (λ e. rw e (omega arith)) (λ e. rw e (omega arith))

signed_lt16 : (v : ℕ) → v < 65536 → sign_extend 16 v < 2 ^ 32
unfolding sign_extend
signed_lt16 v h = test (bit v 15) (λ e. rw e (omega arith)) (λ e. rw e (omega arith))

pub extend_lt : (signed : Bool) (w : Width) (v : ℕ) → v < 2 ^ 32 → extend signed w v < 2 ^ 32
extend_lt false w v h = h
extend_lt true B8 v h = signed_lt8 (v / 2 ^ 0 % 2 ^ 8) (omega arith)
extend_lt true B16 v h = signed_lt16 (v / 2 ^ 0 % 2 ^ 16) (omega arith)
extend_lt true B32 v h = h

pub even_is : (o : ℕ) → o < 2 ^ 32 → bit_and o (2 ^ 32 - 2) ≡ o - o % 2
even_is o h = and_high o 31 1 ∙ omega arith
