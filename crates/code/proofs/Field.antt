-- An instruction with its distance is the one with distance 0 and the field added.
use mathlib.Core.Path.{◌≡◌, sym, ap, ◌∙◌}
use Prim.Native.Nat.{ℕ, ◌+◌, ◌-◌, ◌%◌, ◌^◌, ◌<◌}
use native.Mathlib.Omega.{arith}
use lib.IntN.{ℤ, pos}
use mathlib.Core.List.{List}
use native.Mathlib.Nat.{mod-eq_of_lt}
use Rattle.arm.specs.Fields.{pack, Fits}
use Rattle.arm.proofs.Pieces.{pack_lt}
use Rattle.arm.specs.declared.Instr.{Instr}
use Rattle.arm.specs.Instr.{encode, Carried, format, operands, class, Class, move_wide, add_sub_imm, add_sub_shifted, logical_shifted}
use Rattle.arm.specs.Instr.{logical_imm, bitfield, one_source, two_source, three_source, cond_select, memory_imm, memory_reg, memory_pair}
use Rattle.arm.specs.Instr.{compare_branch, test_branch, cond_branch, branch, branch_reg, adr as adr_class, load_literal, nop, float_two}
use Rattle.arm.specs.Instr.{float_compare, float_convert}
use Rattle.code.specs.Items.{Hole, b, b_cond, cb, tb, adr, ldr, fill}
use Rattle.code.specs.Emit.{kind, patch}

pub patch_law : (h : Hole) (z : ℤ) → encode (fill h z) ≡ encode (fill h (pos 0)) + patch (kind h) z
unfolding patch kind
patch_law b z = omega arith
patch_law (b_cond c) z = omega arith
patch_law (cb s t rt) z = omega arith
patch_law (tb t n rt) z = omega arith
patch_law (adr rd) z = omega arith
patch_law (ldr rt) z = omega arith

-- ---- a word of what it carries has 32 bits
word_lt : (c : Class) (xs : List ℕ) → Fits (format c) xs → pack (format c) xs < 2 ^ 32
word_lt move_wide xs h = pack_lt (format move_wide) xs tt h
word_lt add_sub_imm xs h = pack_lt (format add_sub_imm) xs tt h
word_lt add_sub_shifted xs h = pack_lt (format add_sub_shifted) xs tt h
word_lt logical_shifted xs h = pack_lt (format logical_shifted) xs tt h
word_lt logical_imm xs h = pack_lt (format logical_imm) xs tt h
word_lt bitfield xs h = pack_lt (format bitfield) xs tt h
word_lt one_source xs h = pack_lt (format one_source) xs tt h
word_lt two_source xs h = pack_lt (format two_source) xs tt h
word_lt three_source xs h = pack_lt (format three_source) xs tt h
word_lt cond_select xs h = pack_lt (format cond_select) xs tt h
word_lt memory_imm xs h = pack_lt (format memory_imm) xs tt h
word_lt memory_reg xs h = pack_lt (format memory_reg) xs tt h
word_lt memory_pair xs h = pack_lt (format memory_pair) xs tt h
word_lt compare_branch xs h = pack_lt (format compare_branch) xs tt h
word_lt test_branch xs h = pack_lt (format test_branch) xs tt h
word_lt cond_branch xs h = pack_lt (format cond_branch) xs tt h
word_lt branch xs h = pack_lt (format branch) xs tt h
word_lt branch_reg xs h = pack_lt (format branch_reg) xs tt h
word_lt adr_class xs h = pack_lt (format adr_class) xs tt h
word_lt load_literal xs h = pack_lt (format load_literal) xs tt h
word_lt nop xs h = pack_lt (format nop) xs tt h
word_lt float_two xs h = pack_lt (format float_two) xs tt h
word_lt float_compare xs h = pack_lt (format float_compare) xs tt h
word_lt float_convert xs h = pack_lt (format float_convert) xs tt h

pub encode_lt : (i : Instr) → Carried i → encode i < 2 ^ 32
encode_lt i h = word_lt (class i) (operands i) h.0

-- THE FIELD IS ADDED, and nothing is lost
pub patch-word : (h : Hole) (z : ℤ) → Carried (fill h z) → (encode (fill h (pos 0)) + patch (kind h) z) % 2 ^ 32 ≡ encode (fill h z)
patch-word h z c = ap (λ w. w % 2 ^ 32) (sym (patch_law h z)) ∙ mod-eq_of_lt (encode_lt (fill h z) c)
