-- The instructions that the code calls by a name: with no operand to choose. And the conditions' numbers.
use Rattle.std.specs.Prelude.{ℕ}
use Rattle.arm.specs.declared.Instr.{Instr}
use Rattle.lowering.specs.Instrs.{KEEP, KEEP2, ZR, EQ, NE, HS, LO, HI, LS, GE, LT, GT, LE}
use Rattle.lowering.specs.Instrs.{mov, movz, add_i, sub_i, cmp_i, add, sub, cmp, neg, and, orr, eor, mvn, tst}
use Rattle.lowering.specs.Instrs.{rev, clz, sdiv, udiv, lslv, msub, csel, cneg_lt}
use Rattle.choices.specs.declared.Condition.{Condition}
use Rattle.choices.specs.declared.Condition.TheVariants.{Eq, Ne, Hs, Lo, Hi, Ls, Ge, Lt, Gt, Le}
use Rattle.choices.specs.declared.Fixed.{Fixed}
use Rattle.choices.specs.declared.Fixed.TheVariants.{Movz11, Lslv112, Cmp01, CmpI00, CmpI10, Tst01, Mvn00, Neg00, CnegLt00, Rev00}
use Rattle.choices.specs.declared.Fixed.TheVariants.{Clz00, Csel010Gt, Csel010Lt, Csel0z0Lt, Csel2z2Eq, Sdiv201, Udiv201, Msub2210}
use Rattle.choices.specs.declared.Fixed.TheVariants.{And002, And112, And102, Orr001, Orr102, Eor102, Add102, Sub102, AddI004}
use Rattle.choices.specs.declared.Fixed.TheVariants.{SubI004, SubI001, Mov0Keep, MovKeep0, Add00Keep, MovKeep21, Mov1Keep2, Mov10}

abbrev pub instr_of : Fixed → Instr
instr_of Movz11 = movz 1 1
instr_of Lslv112 = lslv 1 1 2
instr_of Cmp01 = cmp 0 1
instr_of CmpI00 = cmp_i 0 0
instr_of CmpI10 = cmp_i 1 0
instr_of Tst01 = tst 0 1
instr_of Mvn00 = mvn 0 0
instr_of Neg00 = neg 0 0
instr_of CnegLt00 = cneg_lt 0 0
instr_of Rev00 = rev 0 0
instr_of Clz00 = clz 0 0
instr_of Csel010Gt = csel 0 1 0 GT
instr_of Csel010Lt = csel 0 1 0 LT
instr_of Csel0z0Lt = csel 0 ZR 0 LT
instr_of Csel2z2Eq = csel 2 ZR 2 EQ
instr_of Sdiv201 = sdiv 2 0 1
instr_of Udiv201 = udiv 2 0 1
instr_of Msub2210 = msub 2 2 1 0
instr_of And002 = and 0 0 2
instr_of And112 = and 1 1 2
instr_of And102 = and 1 0 2
instr_of Orr001 = orr 0 0 1
instr_of Orr102 = orr 1 0 2
instr_of Eor102 = eor 1 0 2
instr_of Add102 = add 1 0 2
instr_of Sub102 = sub 1 0 2
instr_of AddI004 = add_i 0 0 4
instr_of SubI004 = sub_i 0 0 4
instr_of SubI001 = sub_i 0 0 1
instr_of Mov0Keep = mov 0 KEEP
instr_of MovKeep0 = mov KEEP 0
instr_of Add00Keep = add 0 0 KEEP
instr_of MovKeep21 = mov KEEP2 1
instr_of Mov1Keep2 = mov 1 KEEP2
instr_of Mov10 = mov 1 0

abbrev pub number_of : Condition → ℕ
number_of Eq = EQ
number_of Ne = NE
number_of Hs = HS
number_of Lo = LO
number_of Hi = HI
number_of Ls = LS
number_of Ge = GE
number_of Lt = LT
number_of Gt = GT
number_of Le = LE
