-- The instructions that an encoder of jit_a64.rs without float registers has. `decode` reads every instruction of an encoding class;
-- this table says which of them the board's code can hold: for each class the encoders' operands, from the left as in `operands`.
use Rattle.std.specs.Prelude.{Bool, true, false, ◌&&◌, ◌||◌, List, [], ◌∷◌, ℕ, suc, ltb, leb, eqb, get_or}
use Rattle.arm.specs.Instr.{class, operands}
use Rattle.machine.specs.Isa.{Instr}
use Rattle.arm.specs.Instr.{Class, move_wide, add_sub_imm, add_sub_shifted, logical_shifted, logical_imm, bitfield, one_source, two_source, three_source, cond_select, memory_imm, memory_reg, memory_pair, compare_branch, test_branch, cond_branch, branch, branch_reg, adr, load_literal, nop, float_two, float_compare, float_convert}

-- what is asked of an operand; k is another operand's place
pub data Want : Type 0 where
  any : Want
  is below : ℕ → Want
  from under before : (k : ℕ) → Want  -- at least, less than, and one less than that operand

abbrev pub meets : List ℕ → Want → ℕ → Bool
meets all any v = true
meets all (is n) v = eqb v n
meets all (below n) v = ltb v n
meets all (from k) v = leb (get_or all k 0) v
meets all (under k) v = ltb v (get_or all k 0)
meets all (before k) v = eqb (suc v) (get_or all k 0)

-- operands behind the last that is asked for are any
abbrev pub fits : List ℕ → List Want → List ℕ → Bool
fits all [] vs = true
fits all (w ∷ ws) [] = false
fits all (w ∷ ws) (v ∷ vs) = meets all w v && fits all ws vs

abbrev pub listed : List (List Want) → List ℕ → Bool
listed [] all = false
listed (e ∷ es) all = fits all e all || listed es all

unfoldable pub encoders : Class → List (List Want)
-- sf opc hw imm16 Rd
encoders move_wide =
    (is 0 ∷ [])  -- movz, movk, movn
    ∷ (is 1 ∷ is 2 ∷ [])  -- movz_x
    ∷ (is 1 ∷ is 3 ∷ [])  -- movk_x
    ∷ []
-- sf op S imm12 Rn Rd
encoders add_sub_imm =
    (is 0 ∷ is 0 ∷ is 0 ∷ [])  -- add_imm
    ∷ (is 0 ∷ is 1 ∷ [])  -- sub_imm, subs_imm, cmp_imm
    ∷ (is 1 ∷ is 0 ∷ is 0 ∷ [])  -- add_imm_x
    ∷ []
-- sf op S shift Rm imm6 Rn Rd
encoders add_sub_shifted =
    (is 0 ∷ is 0 ∷ is 0 ∷ is 0 ∷ [])  -- add, add_lsl
    ∷ (is 0 ∷ is 0 ∷ is 0 ∷ is 1 ∷ [])  -- add_lsr
    ∷ (is 1 ∷ is 0 ∷ is 0 ∷ is 0 ∷ [])  -- add_x, add_x_lsl
    ∷ (is 0 ∷ is 1 ∷ is 0 ∷ is 0 ∷ [])  -- sub, sub_lsl, neg
    ∷ (is 0 ∷ is 1 ∷ is 1 ∷ is 0 ∷ any ∷ is 0 ∷ [])  -- subs, cmp
    ∷ (is 1 ∷ is 1 ∷ is 1 ∷ is 0 ∷ any ∷ is 0 ∷ any ∷ is 31 ∷ [])  -- cmp_x
    ∷ []
-- sf opc shift N Rm imm6 Rn Rd
encoders logical_shifted =
    (is 0 ∷ is 0 ∷ is 0 ∷ any ∷ any ∷ is 0 ∷ [])  -- and, bic
    ∷ (is 0 ∷ is 1 ∷ is 0 ∷ is 0 ∷ [])  -- orr, orr_lsl, mov
    ∷ (is 0 ∷ is 1 ∷ is 0 ∷ is 1 ∷ any ∷ is 0 ∷ is 31 ∷ [])  -- mvn
    ∷ (is 0 ∷ is 2 ∷ is 0 ∷ is 0 ∷ any ∷ is 0 ∷ [])  -- eor
    ∷ (is 0 ∷ is 2 ∷ is 1 ∷ is 0 ∷ [])  -- eor_lsr
    ∷ (is 0 ∷ is 3 ∷ is 0 ∷ is 0 ∷ any ∷ is 0 ∷ [])  -- ands, tst
    ∷ (is 1 ∷ is 1 ∷ is 0 ∷ is 0 ∷ any ∷ is 0 ∷ [])  -- orr_x, mov_x
    ∷ []
-- opc immr imms Rn Rd; ones that do not wrap around
encoders logical_imm =
    (is 0 ∷ is 0 ∷ []) ∷ (is 0 ∷ any ∷ under 1 ∷ [])  -- and_mask
    ∷ (is 3 ∷ is 0 ∷ any ∷ any ∷ is 31 ∷ []) ∷ (is 3 ∷ any ∷ under 1 ∷ any ∷ is 31 ∷ [])  -- tst_mask
    ∷ []
-- sf opc N immr imms Rn Rd
encoders bitfield =
    (is 0 ∷ is 2 ∷ any ∷ any ∷ from 3 ∷ [])  -- ubfx, uxth, lsr_imm, lsl_imm by 0
    ∷ (is 0 ∷ is 2 ∷ any ∷ any ∷ before 3 ∷ [])  -- lsl_imm
    ∷ (is 0 ∷ is 0 ∷ any ∷ any ∷ from 3 ∷ [])  -- sbfx, sxth, asr_imm
    ∷ (is 1 ∷ is 2 ∷ any ∷ any ∷ is 63 ∷ [])  -- lsr_imm_x, lsl_imm_x by 0
    ∷ (is 1 ∷ is 2 ∷ any ∷ any ∷ before 3 ∷ [])  -- lsl_imm_x
    ∷ (is 1 ∷ is 0 ∷ any ∷ any ∷ is 63 ∷ [])  -- asr_imm_x
    ∷ []
encoders one_source = [] ∷ []  -- rev16, rev, clz
-- sf Rm opcode Rn Rd
encoders two_source =
    (is 0 ∷ [])  -- udiv, sdiv, lslv, lsrv, asrv
    ∷ (is 1 ∷ any ∷ is 9 ∷ [])  -- lsrv_x
    ∷ []
-- sf op31 Rm o0 Ra Rn Rd
encoders three_source =
    (any ∷ any ∷ any ∷ is 0 ∷ is 31 ∷ [])  -- mul, smull, umull
    ∷ (any ∷ any ∷ any ∷ is 1 ∷ [])  -- msub
    ∷ []
-- sf op Rm cond op2 Rn Rd
encoders cond_select =
    (is 0 ∷ is 0 ∷ any ∷ below 15 ∷ [])  -- csel, csinc, cset
    ∷ (is 0 ∷ is 1 ∷ any ∷ below 15 ∷ is 1 ∷ [])  -- csneg, cneg
    ∷ []
-- size opc imm12 Rn Rt
encoders memory_imm =
    (is 0 ∷ is 0 ∷ [])  -- strb
    ∷ (is 1 ∷ is 1 ∷ [])  -- ldrh
    ∷ (is 2 ∷ []) ∷ (is 3 ∷ [])  -- str, ldr, str_x, ldr_x
    ∷ []
-- size opc Rm S Rn Rt
encoders memory_reg =
    (below 2 ∷ any ∷ any ∷ is 0 ∷ [])  -- strb_u, ldrb_u, ldrsb_u, strh_u, ldrh_u, ldrsh_u
    ∷ (is 2 ∷ [])  -- str_u, ldr_u, str_idx, ldr_idx
    ∷ []
-- mode L imm7 Rt2 Rn Rt
encoders memory_pair =
    (is 1 ∷ is 1 ∷ [])  -- ldp_post
    ∷ (is 2 ∷ [])  -- stp, ldp
    ∷ (is 3 ∷ is 0 ∷ [])  -- stp_pre
    ∷ []
encoders compare_branch = [] ∷ []  -- cbz, cbnz, cbz_x, cbnz_x
encoders test_branch = [] ∷ []  -- tbz, tbnz
encoders cond_branch = (any ∷ below 15 ∷ []) ∷ []  -- b_cond
encoders branch = [] ∷ []  -- b
-- opc Rn
encoders branch_reg =
    (below 2 ∷ [])  -- br, blr
    ∷ (is 2 ∷ is 30 ∷ [])  -- ret
    ∷ []
encoders adr = (is 0 ∷ []) ∷ []  -- adr, to a word
encoders load_literal = [] ∷ []  -- ldr_lit_x
encoders nop = []  -- `finish` writes it before the pool, and no encoder does
encoders float_two = []
encoders float_compare = []
encoders float_convert = []

unfoldable pub has_encoder : Instr → Bool
unfolding encoders
has_encoder i = listed (encoders (class i)) (operands i)
