-- Kind 41: each number, region ends, breaks, the code map: each run reaches its end.
use mathlib.Core.Bool.{true, false}
use mathlib.Core.List.{List, [], ◌∷◌, ◌++◌}
use mathlib.Core.Path.{◌≡◌, refl}
use Rattle.block.specs.declared.Op.TheVariants.{Sub, RSub, AndNot, Or, Xor, Mul, Shl, Shr}
use Rattle.block.specs.declared.Op.TheVariants.{Sar}
use Rattle.block.specs.declared.Cond.TheVariants.{GeS}
use Rattle.block.specs.declared.Rk.TheVariants.{Bit as RkBit}
use Rattle.block.specs.declared.Part.TheVariants.{Half as PartHalf, Upper as PartUpper}
use Rattle.block.specs.declared.Choice.TheVariants.{MaxU}
use Rattle.block.specs.declared.UnKind.TheVariants.{Neg, SatS, SatU}
use Rattle.block.specs.declared.DivKind.TheVariants.{RemU}
use Rattle.block.specs.declared.Fast.TheVariants.{Nop, MovI, Mov, AddRI, ShlI, SarI, Alu3, Alu3I}
use Rattle.block.specs.declared.Fast.TheVariants.{Alu2, Alu2I, A4, Ext, MinMax, Un, Div, Mov2I}
use Rattle.block.specs.declared.Fast.TheVariants.{BitExt, BitIns, SpAdd, RFromSp, BrI, PushRets}
use Rattle.block.specs.Block.{up_from}
use Rattle.card.specs.Card.{write}
use Rattle.card.specs.Word.{signed_of, sign_extend, leading_zeros}
use Rattle.card.specs.Memory.{read_le, write_le, load, direct, store}
use Rattle.card.specs.Step.{op_step, push_all}
use Rattle.card.specs.Run.{ops_from, run}
use Rattle.card_runs.specs.Case.{Case, runs, reached, expected, block, memory, op, hex, regs, card}
use Rattle.card_runs.specs.Case.{outcome, entry, by_return, by_chain, reg, sp, hold, brk, pc, done, ram, map, ◌&◌}

abbrev cases : List Case
cases =
    -- 41-PushRets/n-0/0
    runs (block (memory 0xffffffe8 0x16 0x1000 0x17 false) 0x386d7e4 (op (PushRets 0) 4 false ∷ op (SarI 0xa 0xf 0x21) 4 true
    ∷ op (MovI 2 0x80000000) 2 true ∷ [])) (hex 23 0x9ae5e55cb5681f22ff6637d60726ebec968184ef671d36) 0xffffffff
    (card (regs 0x37bf932d2a03b7f9eef9e73d35768c4600000020175f81f800012345a514f7fd
    0x0133c62e0000ffff3240058d00000000000001007fffffff8b5770dbffff8000) 0xfffffffc 0x5c56fd80 0x19b74224 0 0x1c4bd42a 0
    (hex 22 0xc82058a6b160b315ca4e137fe234a5d899c60253d824) [] (outcome 0xad 1 (hex 22 0x05d1a05825e3a39e5a8aef5a6b985f6a97323ded5a33) []
    ∷ outcome 0xe7 0xffffffff (hex 22 0xc8434e5dd11729c19fa672337cd0e6626c0a41c18e69) [] ∷ []))
    (entry 0x2bf7 0x386d7ee ∷ []) (by_chain 0) (reg 2 0x80000000 & reg 10 0xffffc000 & sp 0xffffffe8 & pc 0x386d7ee & done 3
    & ram (hex 22 0x2d93bf37f9b7032a3de7f9ee468c763580fd565cd824)) []
    -- 41-PushRets/n-1/0
    ∷ runs (block (memory 0xfffffff0 0x10 0x1000 0x12 true) 0x2000000 (op (PushRets 1) 2 true ∷ []))
    (hex 18 0xeacfeb2f63b15180c257c33bd7bfce4b1e2b) 1
    (card (regs 0x0000ffff427e805dd26769ec71c417e9ef0838a00000007fffffffe200007fff
    0xe91ce1a7ffff0000800000000000001b00010000fffff001cceed7b53a8627c7) 0 0xd60e6a0e 0x3dac047f 0 0xedd95319 0
    (hex 16 0x88fa36dd51ed0d24f40dbd7071050b45) (hex 4 0x00000000)
    (outcome 0xfc 0 (hex 16 0xc4d99136e1f27d6f8fc9af346db632d6) (hex 4 0xa2923852) ∷ []))
    [] (by_chain 0) (sp 0xfffffff0 & pc 0x2000002 & done 1 & ram (hex 16 0x5d807e42ec6967d2e917c4710e6a0ed6)) []
    -- 41-PushRets/n-2/0
    ∷ runs (block (memory 0x7ffffffc 0x14 0x100 0xc true) 0x3ffffff (op (SpAdd 0xfffff000) 2 false ∷ op (PushRets 2) 6 true ∷ []))
    (hex 12 0xe0a960bf18608842e99554f7) 2
    (card (regs 0xfffff001b61d4d8286d5dec2bba11ca000010000c54c2ca5cf955a0130a4467a
    0x0000007fffffffe4fffffff400000004db5f5a5a3ef5ea4800007fff68b05ebc) 0x8000100c 0x6eeaa4d8 1 0 0xeb3653d0 0
    (hex 20 0x1590e3bd4eaf19954f00c371b05c8c13bd38c558) (hex 5 0x0100000001)
    (outcome 0x38 1 (hex 20 0x1635fae6e2015f952f96d2b3ba5f41a49849ae88) (hex 5 0xab195ce93c) ∷ []))
    (entry 3 0x4000007 ∷ []) (by_chain 0) (sp 0x80000000 & pc 0x4000007 & done 2 & ram (hex 20 0x1590e3bdc2ded586a01ca1bbd8a4ea6ebd38c558))
    []
    -- 41-PushRets/n-3/0
    ∷ runs (block (memory 0x1000 8 0xfffffff4 0xa false) 0x30c6544 (op (MovI 3 0x3090c575) 2 false ∷ op (PushRets 3) 2 true ∷ []))
    (hex 10 0x4da8cb5f6360afdd42a3) 0xfd8c772c
    (card (regs 0x0001234500007fff0000000000000fff000000020001234500000008c53a1130
    0xf982278a9ae9a25b000080005f2cf30ef7880ccb0000100000000100d85dcc66) 0x1008 0x581a977e 1 0 0xceca2ba9 0 (hex 8 0xf28b22e63573e30b) []
    (outcome 0xd9 1 (hex 8 0x24a42ae31deb5faf) [] ∷ outcome 0x2d 0 (hex 8 0xe28a12e9f8ec171a) [] ∷ []))
    (entry 0x32a4 0x30c6548 ∷ []) (by_chain 0) (reg 3 0x3090c575 & sp 0x1000 & pc 0x30c6548 & done 2 & ram (hex 8 0x75c590307e971a58)) []
    -- 41-PushRets/n-4/0
    ∷ runs (block (memory 0x300000c 0x14 0x3000000 0xa true) 0x2000000 (op (SpAdd 0x8aa015d6) 2 false ∷ op (PushRets 4) 6 false ∷ []))
    (hex 10 0x79a17a941decfca76f0e) 0xffffffff
    (card (regs 0x8a31464600000004968644a800000100fd738ec0000000000000010000000002
    0xd1415e24ffff0000000000200000000800000fff0282e74b00007fffe4c0448a) 0x785fea42 0xa578177c 0 0 0x8dba6a9d 0x1000
    (hex 20 0xd2b1cf5ac531629a5aa3c9301c7286711e937ff6) (hex 5 0x0000008001)
    (outcome 0xc2 0 (hex 20 0xad220b4c9c136efcbb1e98d98c3ae57b231eb50f) (hex 5 0x9174ddb63f) ∷ []))
    (entry 4 0x2000008 ∷ []) (by_chain 0) (sp 0x3000010 & pc 0x2000008 & done 0x1002
    & ram (hex 20 0xd2b1cf5ac08e73fd7c1778a51c7286711e937ff6)) []
    -- 41-PushRets/n-5/0
    ∷ runs (block (memory 0x1000000 0xc 0x2000000 0xf true) 0x28d9d42 (op (PushRets 5) 4 false ∷ []))
    (hex 15 0xf7511e713b518e5a5d8272efec22d5) 0xffffffff
    (card (regs 0xffffffff7997b720ffffffda000000086a54cb791178a37603a4017cffff0000
    0x61f3fc2c304e988cffff800000007fff00007fff7fffffff6163b21f41ccf88e) 0x100000c 0xee0eafb1 0x6fa1dfee 0 0x57642cd5 0xfffffffe
    (hex 12 0xdc18ef8feafad727b57580f2) (hex 3 0x000000) (outcome 0x8a 0xffffffff (hex 12 0x032368344bc8e2e2b4ebe8f7) (hex 3 0x68d587)
    ∷ outcome 0x5e 1 (hex 12 0x22d299df07d56e57f2fc57d6) (hex 3 0x7e9410) ∷ []))
    [] (by_chain 0) (sp 0x1000000 & pc 0x28d9d46 & done 0xffffffff & ram (hex 12 0x79cb546a76a37811b1af0eee)) []
    -- 41-PushRets/n-6/0
    ∷ runs (block (memory 0x1000000 0x18 0x2000000 0x11 false) 0x3ffffff (op (Mov 0xf 1) 6 false ∷ op (Mov 8 8) 0xa8 true
    ∷ op (SarI 0xe 2 0x1f) 2 false ∷ op (RFromSp 0xe 0xffff0000) 2 false ∷ op (MovI 4 0xa097bb53) 4 false ∷ op (MovI 6 0x3002555c) 2 false
    ∷ op (PushRets 6) 2 false ∷ [])) (hex 17 0x18031e866d5ae91849015df30b4d3d06ec) 0xffffffff
    (card (regs 0x31e8db9486130622ffff00003b25b1651c59e2e1fb7cb1469e7a4a0b3121669e
    0xfffffffe000000ff08b185e462f8ee8300000fffd875f17a00000002fffffffe) 0x1000014 0xfe284bc0 2 0 0xf2449e5 0xfffffff8
    (hex 24 0xa17667c9a20dabd37979521db78f9e415615d60f9e556bec) [] [])
    [] (by_chain 0) (reg 4 0xa097bb53 & reg 6 0x3002555c & reg 14 0xff0014 & reg 15 0x86130622 & sp 0x1000004 & pc 0x40000b9
    & done 0xffffffff & ram (hex 24 0xa17667c953bb97a046b17cfb5c550230c04b28fe9e556bec)) []
    -- 41-PushRets/n-7/0
    ∷ runs (block (memory 0x7ffffffc 0x1e 0x100 0x1c true) 0x23385b0 (op (MovI 4 0x7661f8fd) 2 false ∷ op (PushRets 7) 6 true ∷ []))
    (hex 28 0xaaedbfaacb59cd56e11e9cc88a17ad408cc768496daada087ebe6a81) 2
    (card (regs 0xffffffd824399b88ffff80004fb65d5d0000001fb982d08ad9a9f882b662ccc4
    0x64a94a91f3027a3afffffffffcdf4c3e7fffffff000001000001000000000fff) 0x80000014 0xe80eb8af 2 0 0xb6d8baa6 0
    (hex 30 0xfa5ed46ba75c0467805066d58a8f147470cfc57d122e9a0a903bc6c10a01) (hex 8 0x0100000000008080)
    (outcome 0xb4 0xffffffff (hex 30 0xabc2b2b7a3c5eb366e728c05effd9dc2bbc3b15a4d033397471616a925e9) (hex 8 0x0b08fb71ea8d1ecb) ∷ []))
    (entry 0x2dc 0x23385b8 ∷ []) (by_chain 0) (reg 4 0x7661f8fd & sp 0x80000000 & pc 0x23385b8 & done 2
    & ram (hex 30 0xfa5ed46bfdf861768ad082b982f8a9d9c4cc62b6afb80ee8903bc6c10a01)) []
    -- 41-PushRets/n-8/0
    ∷ runs (block (memory 0x1000 0x21 0xffffffe4 0x1c false) 0x2000000 (op (MovI 4 0x4f198047) 2 false ∷ op (MovI 8 0xda385f47) 2 false
    ∷ op (PushRets 8) 0 false ∷ [])) (hex 28 0xb31d1ad90bab58c5506c5a7f23b367e45b3495223286561d691038bb) 4
    (card (regs 0xa1725bce00000fffbf6237adbd2dc8ef0000000094327aacee49a9d2748f8706
    0x81921e9000000fff000000087ffffffffc46a8e700fff000fffff001ffffffe7) 0x101c 0xf1d89d9c 2 0 0x28c2388b 1
    (hex 33 0xe2a9b85f12281cccd187cf8cad5aaf7e3ed39a26bf7189ced0369e4faab002d867) []
    (outcome 0x71 0 (hex 33 0x3ecc2aaf2f9dae8a267ed3b2d07dd1ee8a9a59e91c63c08a5639685c4e6b35d97a) [] ∷ []))
    [] (by_chain 0) (reg 4 0x4f198047 & reg 8 0xda385f47 & sp 0x1004 & pc 0x2000004 & done 4
    & ram (hex 33 0xe2a9b85f4780194fac7a3294d2a949ee06878f74475f38da9c9dd8f1aab002d867)) []
    -- 41-PushRets/n-9/0
    ∷ runs (block (memory 0x7ffffffc 0x20 0x100 0x1d false) 0x3cc7e18 (op (Alu2 0xc 8 AndNot) 2 false ∷ op (Alu2I 0 0x7fffffff Mul) 2 true
    ∷ op (Mov 2 4) 0xff false ∷ op (RFromSp 0 0xfffff000) 0 false ∷ op (MovI 4 0xabbb619e) 2 false ∷ op (MovI 6 0xdc395481) 4 false
    ∷ op (PushRets 9) 2 false ∷ op (Un 0xe 0xc SatU) 0xce true ∷ op (Mov2I 3 9 0xffffffdb) 4 false ∷ []))
    (hex 29 0x2c7986bf9c347d12b2c9d264a5ad93bd6fee40b21dc5bf185d12aac001) 9
    (card (regs 0x49fb916c8000000028731854000010001011b5c3c56a0886000000033e7c4439
    0xafd5a80dc4d5dde12cae763800000fff000000ff7fffffffa7a161d500000003) 0x8000001c 0x9615c15 0 0 0xfcb7e988 0
    (hex 32 0xf70df518f6ac3793a15fe9865e52065d4fe6853219cb6b51d391ec8607444cf9) []
    (outcome 0x2f 0 (hex 32 0x3bd2c8d3f5d233ecc1ca4bf227698b2ca0909763f34a6ae11f234e5f20d393ee) []
    ∷ outcome 0xab 1 (hex 32 0x056f4867d46e391cfa23bd08fe65036eaf3d56060b1109ae95e3c5cdeafc304b) [] ∷ []))
    (entry 0x3ffa 0x3cc7ff5 ∷ []) (by_chain 0) (reg 0 0x7ffff01c & reg 2 0x1011b5c3 & reg 3 0xffffffff & reg 4 0xabbb619e
    & reg 6 0xdc395481 & reg 9 0xffffffdb & reg 12 0xf2 & reg 14 0xf2 & sp 0x80000000 & pc 0x3cc7ff5 & done 9
    & ram (hex 32 0xf70df5189e61bbab86086ac5815439dc39447c3e0da8d5afe1ddd5c4155c6109)) []
    -- 41-PushRets/n-10/0
    ∷ runs (block (memory 0xffffffe0 0x20 0x1000 0x24 false) 0x3ffffff (op (MovI 5 0x6958babf) 2 false ∷ op (MovI 0xa 0xa35dadad) 2 false
    ∷ op (PushRets 0xa) 2 false ∷ op (MinMax 6 8 0xb MaxU) 0xff true ∷ []))
    (hex 36 0x5b10cd4be87ed84c90412534216f0820d4714fe210dcdc2ebf3a94184b75ad1a827477fa) 0xffffffff
    (card (regs 0x00000001000000ff000100001b2a1fc4b389a5100eb874bb43c2900cac6cf3bf
    0xb2a530f0415a96c900fff000ffff8000fffff000ffc00d3c1716711effffffff) 0 0x9dd30ebd 1 0 0x14e136ce 0
    (hex 32 0xf516c323125701c9af218be95ceec416e442e49851f47038ff303b0f8d386398) []
    (outcome 0x4a 1 (hex 32 0x05a28441ce6e1e827f2f0ec89ce45d1fbd60b899a8695e598e7654b5ef94ebad) [] ∷ []))
    [] (by_chain 0) (reg 5 0x6958babf & reg 6 0xffff8000 & reg 10 0xa35dadad & sp 0xffffffe0 & pc 0x4000104 & done 4
    & ram (hex 32 0x10a589b3bfba58690c90c243bff36cacf030a5b2c9965a41adad5da3bd0ed39d)) []
    -- 41-PushRets/n-11/0
    ∷ runs (block (memory 0xffffffdc 0x24 0x1000 0x30 false) 0x25bd08e (op (Alu2 1 7 Sub) 2 true ∷ op (MinMax 1 4 3 MaxU) 2 true
    ∷ op (PushRets 0xb) 4 false ∷ []))
    (hex 48 0xdd400cdc374dbca3ee6e0e8747d1e89b21a9479805ca0092553b0c55c5fd99d52afb1899390d61eba5423542dcca933b) 0xa85c3721
    (card (regs 0x00fff00044e00aee00fff00000000080ea5f20bcdd87191cb0bb21a25f16c65a
    0x93662382073471d8a074abd2a98ebed200000080fffffffefffff0012ff1e0bc) 0 0x6200bd1d 1 0 0x5bc44cd1 0xa85c371e
    (hex 36 0xa4afe2f58c4d5809337649525de79211142cbabf5de32fe0b63b74e8797be9bf72d3fe19) []
    (outcome 0xd0 1 (hex 36 0x50f525da18efd3ec4d2429cd8661bd601c750d350e48061be3f826292ab9f4a81b995273) [] ∷ []))
    [] (by_chain 0) (reg 1 0xea5f20bc & sp 0xffffffdc & pc 0x25bd096 & done 0xa85c3721
    & ram (hex 36 0xbc205fea1c1987dda221bbb05ac6165f82236693d8713407d2ab74a0d2be8ea91dbd0062)) []
    -- 41-PushRets/n-12/0
    ∷ runs (block (memory 0x1000 0x2c 0xffffffd4 0x2b false) 0x2000000 (op (MovI 6 0x3f4a7eef) 4 false ∷ op (MovI 0xa 0x6390dc18) 4 false
    ∷ op (PushRets 0xc) 4 false ∷ op (Mov 6 8) 0xdd false ∷ op (Alu3I 7 1 4 Mul) 4 true ∷ []))
    (hex 43 0x06437fa4fdfca731564e96d6044f7b90a50f1cc5b72019997baad607fc8a14b0167b610d7c2dc143abb956) 0xffffffff
    (card (regs 0xfffff00100000000b3afff601d7313ac9f39ad3787c5cf3555bcd095dda75859
    0xfca9b8bbb7b60f19000001007d324220a76a998600000000fffff0010c0a8a09) 0x1028 0xa7c22466 0xae6dc184 0 0x4a755317 0xfffffffa
    (hex 44 0x5647e7eb19a295a68ad7131fb9404394879ac2c9ba04cc55dd5e761d8ac68a0d4d8e83ed3408a3b036f8e0b3) []
    (outcome 0x94 0xffffffff (hex 44 0x2b31679fa38f1df1d14ce06d44af672d74c889c7c3e8d247c0f76f489cef5877d0ce5aff7f6f8727843c304c) [] ∷ []))
    [] (by_chain 0) (reg 6 0xfca9b8bb & reg 7 0 & reg 10 0x6390dc18 & sp 0x1000 & pc 0x20000ed & done 0xffffffff
    & ram (hex 44 0x37ad399f35cfc587ef7e4a3f5958a7ddbbb8a9fc190fb6b718dc90632042327d86996aa76624c2a736f8e0b3)) []
    -- 41-PushRets/n-13/0
    ∷ runs (block (memory 0x10000 0x34 0x10034 0x2c true) 0x3ffffff (op (MovI 5 0xea0c2844) 4 false ∷ op (MovI 7 0xfc0a5aa6) 4 false
    ∷ op (PushRets 0xd) 4 false ∷ [])) (hex 44 0x31def05f34750cf64fedaee53c66fa1299c1b9b4b4c9217b3dded4c5370e3852538ff9dd0635fe1c35317ab1)
    0xa3003f2c
    (card (regs 0x03b8d48e00000007655fb72500000080ca2bd54700000007a924c6c600007fff
    0x121f2d4c3ca2226963d2b270b0d6b9f08bf5e5b972b0ab977fffffff0000001f) 0x10030 0xa4a1ee0b 0 0 0xc4f86563 0x2fc8481c
    (hex 52 0x7e207e884654d875f670d3949f9651ef531351ebee39c1ee89d62df19359750ea7c9b228162c178525c60e4b0e8cfb5c8e547c5a)
    (hex 13 0x01000000000000000000000001) (outcome 0x9b 1 (hex 52
    0x296ae34dcd1610e6db52cb023ec121626a7ad61b3be6b10e71ced2e402d4ce8fc650bad58de1c7a7b059165a67f4a26b271503bd) (hex 13
    0xbbfd6e74ea352f4622720f298d) ∷ []))
    [] (by_chain 0) (reg 5 0xea0c2844 & reg 7 0xfc0a5aa6 & sp 0x10004 & pc 0x400000b & done 0x2fc8481f
    & ram (hex 52 0x7e207e8847d52bca44280ceac6c624a9a65a0afc4c2d1f126922a23c70b2d263f0b9d6b0b9e5f58b97abb0720beea1a48e547c5a)) []
    -- 41-PushRets/n-14/0
    ∷ runs (block (memory 0x1000000 0x38 0 0x32 true) 0x2000000 (op (Alu3 2 5 0 Shr) 0xff true ∷ op (Alu3 2 5 8 Or) 0xe8 false
    ∷ op Nop 0 true ∷ op (MovI 7 0xd5d65ce3) 2 false ∷ op (MovI 0xc 0xa6ef7b6c) 4 false ∷ op (PushRets 0xe) 4 false
    ∷ op (A4 0xc 4 Shl RkBit 0xffffffe3) 6 true ∷ op (BitIns 0xa 9 0x16 0x21) 0 false ∷ []))
    (hex 50 0xfbbeb84f5e3aed1b13cff3f4213278fc7546f9fa14da178cced44c44c28971b872012a5d1b955a5f77b289a8f4828de177aa) 0x1007
    (card (regs 0x4194772139df9f4effffffff00000012e86e0094db383f57ea13a4c4bc9c1d59
    0x1220a7ede2d5dcb98051ba3fca5703a5ba5a8f14b27e8108c34849fa00001000) 0x1000038 0x451d655c 2 0 0x3370c703 0xfff
    (hex 56 0x2bc1fcf294e35c16a2172c6f9b12bde90c4e3380fa8432b9910ee502f969f0f022722b3bab75ad72fbaa57b39321dd054787d8c5f5892e27)
    (hex 14 0x8001000000000000000000000000) (outcome 0xdb 0 (hex 56
    0x806f9d810a28d856b15e8aa21ed3c52336646f9ebb585c2a3a8a9cecf690cf45f8f93b745d3bf338655f6d29a7411b16cbe93ab975c9abef) (hex 14
    0xba1c0279998cf3c09d0eab192627) ∷ []))
    [] (by_chain 0) (reg 2 0xdb38bfff & reg 7 0xd5d65ce3 & reg 12 0xe86e0094 & sp 0x1000008 & pc 0x20001f7 & done 0x1007
    & ram (hex 56 0x2bc1fcf294e35c1694006ee8573f38dbc4a413eae35cd6d5eda72012b9dcd5e23fba5180a50357ca6c7befa608817eb2fa4948c35c651d45)) []
    -- 41-PushRets/n-15/0
    ∷ runs (block (memory 0x10000 0x48 0x10048 0x35 false) 0x3ffffff (op (MovI 4 0x4fb990a7) 4 false ∷ op (MovI 0xa 0xe10549c5) 2 false
    ∷ op (MovI 0xf 0x5a5b9101) 2 false ∷ op (PushRets 0xf) 0 true ∷ op (Mov 6 0xe) 6 false ∷ []))
    (hex 53 0x9a1b179ee2d8af0d16af83f944f8bf0c7b1ff0971992869b1d63702ef0a37942ea3faf1872ddc7b3582e94ae7e405df72f1c4b7173) 5
    (card (regs 0x000000286aafe2c98b0db90ab433db570000ffff5373e4c05c3b0497ed0d9c7e
    0xee2555777a35df0dfffff000b75e33e9c531dcae6441734103e396c9edbab38f) 0x10038 0x321a2a27 1 0 0x4a482722 0 (hex 60
    0x671fde40938bb32dd87b848dab4aa43514bd2e6179729438e252fc4cd4ca75111cc083354aa8a665eb50ffdeaf84e74957c4d12c6549db975db404fc ++ hex 12
    0x161446fafd8e0d910052fcf8) [] [])
    [] (by_chain 0) (reg 4 0x4fb990a7 & reg 6 0x3e396c9 & reg 10 0xe10549c5 & reg 15 0x5a5b9101 & sp 0x10004 & pc 0x400000d & done 5 & ram
    (hex 60 0x671fde40a790b94fc0e4735397043b5c7e9c0ded775525ee0ddf357ac54905e1e9335eb7aedc31c541734164c996e30301915b5a272a1a325db404fc ++
    hex 12 0x161446fafd8e0d910052fcf8)) []
    -- 41-PushRets/ram-first/0
    ∷ runs (block (memory 0x1000 0xc 0xfffffff0 0xe false) 0x2000000 (op (MovI 5 0xdad4ad74) 2 false ∷ op (PushRets 5) 6 false
    ∷ op (Alu3 5 4 0xe Mul) 2 false ∷ [])) (hex 14 0x1910b2c041960bcc6ef12f31d9aa) 0xffffffff
    (card (regs 0x80c9b3a70710b9c2fffff0000000ffff37c1819b00000007ab3af6cb00000002
    0x000123450000ffffffffffffffff0000000000020000001f0000000480000000) 0x100c 0xed6bf17c 0 0 0x93b6f3fc 0
    (hex 12 0xc3f247b77ac8e17b2c55100d) [] (outcome 0x5b 0xffffffff (hex 12 0xd0d7edf4bd751e1435ddb488) [] ∷ []))
    [] (by_chain 0) (reg 5 0xdf06066c & sp 0x1000 & pc 0x200000a & done 3 & ram (hex 12 0x9b81c13774add4da7cf16bed)) []
    -- 41-PushRets/ram-last/0
    ∷ runs (block (memory 0x10000 0x10 0x10010 0xc true) 0x39d65fc (op (PushRets 2) 4 false ∷ [])) (hex 12 0x2d3686a1d2a82fe98d232b3c)
    0xffffffff
    (card (regs 0xffffffdafffffff11bef91ac99689b99000000269195505700000002222276db
    0x3ad55b65a9bdde84ffff8000000000036131d1c2000000ff72ba1e58a1142bf9) 0x10010 0x3f42f657 2 0 0xf4cba9a9 0
    (hex 16 0x5d9b82aace7b2220de0566279caf5d10) (hex 4 0x01000000) [])
    (entry 0x3300 0x39d6600 ∷ []) (by_chain 0) (sp 0x10004 & pc 0x39d6600 & done 1 & ram (hex 16 0x5d9b82aaac91ef1b999b689957f6423f)) []
    -- 41-PushRets/ram-over-1/0
    ∷ runs (block (memory 0x10000 0x18 0x10018 0x11 false) 0x3fc216c (op (Mov 9 0) 6 false ∷ op (Mov 8 0xc) 0xc7 true
    ∷ op (MovI 1 0x28be6446) 2 false ∷ op (MovI 2 0x6d39bcde) 4 false ∷ op (SpAdd 0x43960364) 2 false ∷ op (PushRets 1) 0 false ∷ []))
    (hex 17 0x0cf11f8e5dedb8146bce5b4b7b91dc3f27) 0xffffffff
    (card (regs 0x00010000000000082a95bbb825b42e6f3072bf5900001000a5d1c57e00000002
    0x00000fff4371d89b1b0ed07c7ec3d26dd08e5c81ebe4bf60ffffffff8fb9a4f1) 0xbc6afcb5 0xf55b2b57 0 0 0xaf3d5c10 1
    (hex 24 0x06c86cbb3846c861a482879fbc4e3ba3cd973d504a687efa) []
    (outcome 0x7fffffff 0 (hex 24 0x06c86cbb38f3c861a482879fbc4e3ba36c973d504a687efa) [] ∷ []))
    (entry 0x1120 0x3fc2241 ∷ []) (by_chain 0) (reg 1 0x28be6446 & reg 2 0x6d39bcde & reg 8 0xd08e5c81 & reg 9 0x10000 & sp 0x10009
    & pc 0x3fc2241 & done 7 & ram (hex 24 0x06c86cbb38f3c861a44664be28debc396d6f2eb425687efa)) (write 0x10015 4 6 0xf55b2b57 ∷ [])
    -- 41-PushRets/ram-over-4/0
    ∷ runs (block (memory 0x1000000 0xc 0 0xc true) 0x3ab26d9 (op (PushRets 5) 6 true ∷ [])) (hex 12 0xfef8ee7c1b2ee2aa3e3b6622) 0xffffffff
    (card (regs 0x53c2004b00012345c0464ea45ee436b3d2aa328eb0b9678a0000000493587b3f
    0xfffffff000fff00080000000fffff001c250e027952668420000800080000000) 0x1000010 0x7176fabc 1 0 0x74f7db13 0x1000
    (hex 12 0xa3b4aa3975b224a4f3132ac6) (hex 3 0x800000) (outcome 0x4bfc68c1 0 (hex 12 0xa3b4aa3975b224a4f3132ac6) (hex 3 0x800000) ∷ []))
    [] (by_chain 0) (sp 0x1000004 & pc 0x3ab26df & done 0x1001 & ram (hex 12 0xa3b4aa398e32aad28a67b9b0))
    (write 0x100000c 4 0x1000 0x7176fabc ∷ [])
    -- 41-PushRets/ram-before/0
    ∷ runs (block (memory 0x1000 0x18 0xfffffff4 0xc true) 0x3ffffff (op (MovI 3 0x6c6a80d8) 2 false ∷ op (PushRets 2) 6 false ∷ []))
    (hex 12 0x090b62e3c588b52fb41d0c6d) 0x8c713c9a
    (card (regs 0x8b0c42513cc2a55cf373623aec37229b00000002ffff8000d2d8afbd00000000
    0xede87f120000002000000003ffffffe0852594d7000000019acc16c10000001f) 0x1008 0xa2f861eb 0 0 0x349156b3 0
    (hex 24 0xd5adc647c06e252adb943756b899d71d53880daa7bc943c7) (hex 6 0x000000010000)
    (outcome 0xffffffff 0 (hex 24 0xd8806adaeb61f8a2db943756b899d71d74880daa7bc943c7) (hex 6 0x010000010100)
    ∷ outcome 0x56 1 (hex 24 0x8f2f69aae40f5e946ac148c651de7f6e622c4825481b9437) (hex 6 0x4c93c6741715) ∷ []))
    (entry 3 0x4000007 ∷ []) (by_chain 0) (reg 3 0x6c6a80d8 & sp 0xffc & pc 0x4000007 & done 2
    & ram (hex 24 0xd8806adaeb61f8a2db943756b899d71d74880daa7bc943c7) & map (hex 6 0x010000010100)) (write 0xffc 4 1 0xf373623a ∷ [])
    -- 41-PushRets/ram-odd/0
    ∷ runs (block (memory 0 0x18 0x2000000 0x17 true) 0x2417d6e (op (MovI 0 0xc7e7604c) 4 false ∷ op (SpAdd 0xffffffff) 2 false
    ∷ op (PushRets 0) 6 false ∷ [])) (hex 23 0x50fc765fb94053d95fb8e244454caa5d5318eb50d6da4c) 0xffffffff
    (card (regs 0x000010001abf3c44838868f86a5bba502ea797b000000020fffffffe248338ac
    0x000000ff52b50179c2bb958afffff0002318f27fa811b6e300000007fffff000) 0x16 0x6662f945 1 0 0x4e104023 0
    (hex 24 0x21f130c6c9846de022edeee23a60a1359238021a07ba2a57) (hex 6 0x000000000000) [])
    (entry 0x3ebd 0x2417d7a ∷ []) (by_chain 0) (reg 0 0xc7e7604c & sp 1 & pc 0x2417d7a & done 3
    & ram (hex 24 0x214c60e7c7443cbf1af868888350ba5b6a45f96266ba2a57)) []
    -- 41-PushRets/xip-last/0
    ∷ runs (block (memory 0xfffffff4 0xc 0x1000 0x10 false) 0x2000000 (op (Un 7 5 Neg) 4 true ∷ op (PushRets 2) 2 false
    ∷ op (Ext 2 0xe PartHalf true) 2 false ∷ op (Alu2I 0xd 3 Or) 4 false ∷ [])) (hex 16 0x0bd56b6e931dd78d8f8ce3571aea306a) 0xffffffff
    (card (regs 0xf399a52d000000ff06fc91f366b91ed8fffffff200000100000100000000000e
    0x40b52b8efffffffc0001234500000000fd4bff1c0001234500000025dea1e3b8) 0x1010 0x6fce2e9a 2 0 0xdc9b95a9 0
    (hex 12 0x17fb34efc27facca1e8b7ffa) [] (outcome 1 0 (hex 12 0x17fb34efc27facca1e8b7ffa) []
    ∷ outcome 0xffffffff 0 (hex 12 0x17fb34efc27facca1e8b7ffa) [] ∷ outcome 0 0 (hex 12 0x17fb34efc2d2acca1e8b7ffa) []
    ∷ outcome 0xa3 1 (hex 12 0xf5015f2c9bce439f4bc8bd40) [] ∷ outcome 0x2b 1 (hex 12 0xaafc311d8b7d8d28fb2f1535) [] ∷ []))
    [] (by_chain 0) (reg 2 0x25 & reg 7 0xffffff00 & reg 13 0x12347 & sp 0x1004 & pc 0x200000c & done 4
    & ram (hex 12 0x17fb34efc2d2acca1e8b7ffa)) (write 0x100c 4 1 0x6fce2e9a ∷ write 0x1008 4 1 0x66b91ed8 ∷ write 0x1004 4 1 0x6fc91f3
    ∷ [])
    -- 41-PushRets/ram-to-xip-odd/0
    ∷ runs (block (memory 0x10000 0x14 0x10014 0x1c true) 0x2a88b96 (op (PushRets 6) 0xff true ∷ []))
    (hex 28 0x299760edd9de36ff4e788e8417c5082ee5f541584cb158c45e50ddd1) 1
    (card (regs 0x48dcec814fde70c40000000effff000092d41ac65c56d3dde7cd477c03990a83
    0x00000000000000078bec2570ffffffffffffffff34d054ca93c6859800000001) 0x1001e 0x17892afa 0 0 0x989022cc 0
    (hex 20 0xb5aecd4e31ae39351b9cde9e43ef914f5804677d) (hex 5 0x0000800000)
    (outcome 0x80000000 0 (hex 20 0xb5aecd4e31ae39351b9cde9e43ef914f5804677d) (hex 5 0x0000800000)
    ∷ outcome 0xea2ed0dd 0 (hex 20 0xb5aecd4e31ae39351b9cde9e43ef914f5804677d) (hex 5 0x0000800000)
    ∷ outcome 0x7fffffff 0 (hex 20 0xb5aecd4ecdae39351b9cde9e43ef914f5804677d) (hex 5 0x0000800000)
    ∷ outcome 0xdc 0xffffffff (hex 20 0xf77007b9e715b4378e91ac5e5f5745f0b8b1d52d) (hex 5 0xa18638a79e)
    ∷ outcome 0xc3 0xffffffff (hex 20 0x4775b407b3e9b423d768dac704d77bc2d16d8ccf) (hex 5 0xc9321b9472) ∷ []))
    [] (by_chain 0) (sp 0x1000e & pc 0x2a88c95 & done 1 & ram (hex 20 0xb5aecd4ecdae39351b9cde9e43efc61ad492677d))
    (write 0x1001a 4 0 0x17892afa ∷ write 0x10016 4 0 0xe7cd477c ∷ write 0x10012 4 0 0x5c56d3dd ∷ [])
    -- 41-PushRets/ram-end-in-xip/0
    ∷ runs (block (memory 0x2000 0x11 0x2000 0x19 true) 0x33f3a90 (op (PushRets 6) 4 false ∷ []))
    (hex 25 0xdb294ac11dd48f6bf025f2b04029984d084624c74f82c387af) 1
    (card (regs 0xfffff0014cb95c8d000000200000001d4c11862af9810e9ed16094bc00000004
    0x4b3d92c30000010000000004cd4beb7a000000000000007f000000808acbe11d) 0x2014 0xb7cf317e 0xfcd07e6 0 0xf63dcb86 0
    (hex 17 0x1ab3164e1d5d39be4ccd2afdd49e7c73d5) (hex 5 0x0000000000)
    (outcome 0x80000000 0 (hex 17 0x1ab3164e1d5d39be4ccd2afdd49e7c73d5) (hex 5 0x0000000000) ∷ []))
    [] (by_chain 0) (sp 0x2004 & pc 0x33f3a94 & done 1 & ram (hex 17 0x1ab3164e2a86114c9e0e81f9bc9460d1d5)) (write 0x2010 4 0 0xb7cf317e
    ∷ [])
    -- 41-PushRets/top-wrap/0
    ∷ runs (block (memory 0 0xc 0xfffffff4 0xc true) 0x258ab8a (op (PushRets 3) 6 true ∷ [])) (hex 12 0x9a2f922c6435b9184252de5d) 1
    (card (regs 0x0000ffffffffffff7fffffff693ed5aa7fffffff6793499d000000200d2a1ad9
    0x00012345000000ffcea82b490000001900010000000000ff00000080f993c82b) 4 0xac6c584a 0xcb323778 0 0x482712b 0
    (hex 12 0x746339a711c0e011381cf007) (hex 3 0x000000) (outcome 0xc7a3ee13 0 (hex 12 0x4ad66cac11c0e011381ce807) (hex 3 0x000000)
    ∷ outcome 0x84 0xffffffff (hex 12 0x229ff6a500e9f0261a941fde) (hex 3 0xbfd3d5)
    ∷ outcome 0xe2 1 (hex 12 0xd2a6c76b0a686dd42b730f69) (hex 3 0x3ce9be) ∷ []))
    [] (by_chain 0) (sp 0xfffffffc & pc 0x258ab90 & done 1 & ram (hex 12 0x4ad66cac11c0e011381ce807)) (write 0xfffffffc 4 0 0x693ed5aa
    ∷ [])
    -- 41-PushRets/outside/0
    ∷ runs (block (memory 0 0x1c 0x2000000 0x1c true) 0x34c8311 (op (MovI 2 0xa1e4f12f) 2 false ∷ op (PushRets 1) 6 true
    ∷ op (Un 1 0xf SatS) 0 true ∷ [])) (hex 28 0x24bac98d1828ef7c4be47747264ef29babb0b8290602ad764892ab62) 0xffffffff
    (card (regs 0x000000227f5f370900000001c19e5c8bfffff0009a35ac39ffffffe900000000
    0x000000ffffffffff000000255c16efda000000172c976de487dc43c99146ff66) 0x7a62563c 0x9d800247 0 0 0xed76605d 1
    (hex 28 0x876ad61e01458d8f2d3ff1f23b60915363d38b8083a60499ffc1e76a) (hex 7 0x01800100008000)
    (outcome 0 0 (hex 28 0x876a981e01458d8f2d3ff1f23b60915363d38b8083a60499ffc1e76a) (hex 7 0x01800100008000)
    ∷ outcome 0x697a8429 0 (hex 28 0x876a981e01458d8f2d3ff1f23b60915363d38b8083a60499ffc1e76a) (hex 7 0x01800100008000)
    ∷ outcome 0x80000000 0 (hex 28 0x876a981e01458d8f2d3ff1f23b60915363d38b8083a60499ffc1e76a) (hex 7 0x01800100008000)
    ∷ outcome 0x80000000 0 (hex 28 0x876a981e01458d8f2d3ff1f23b60915363d38b8083a60499ffc1e76a) (hex 7 0x01800100008000)
    ∷ outcome 3 1 (hex 28 0xb23246234765f26191e773ed7a5a43b4b9574087198dae99bd14de38) (hex 7 0x85150ebf8c9ebd) ∷ []))
    [] (by_chain 0) (reg 1 0xffff8000 & reg 2 0xa1e4f12f & sp 0x7a62562c & pc 0x34c8319 & done 4
    & ram (hex 28 0x876a981e01458d8f2d3ff1f23b60915363d38b8083a60499ffc1e76a)) (write 0x7a625638 4 2 0x9d800247
    ∷ write 0x7a625634 4 2 0xc19e5c8b ∷ write 0x7a625630 4 2 0xa1e4f12f ∷ write 0x7a62562c 4 2 0x7f5f3709 ∷ [])
    -- 41-PushRets/break-start-glue-1/0
    ∷ runs (block (memory 0x3000010 0x17 0x3000000 0xd true) 0x395665e (op (PushRets 5) 4 true ∷ op (RFromSp 0xf 8) 0xd7 false
    ∷ op (Alu3 4 0xb 9 Or) 0 true ∷ [])) (hex 13 0x17c5f86a0bdb82b62af59cf8f9) 0xffffffff
    (card (regs 0xffff8000ffffffff00fff000f83ca8c99713b6388c97b2a67fffffff00000080
    0x0000000cdd7eef13fffffffe2e22ab53a9cedc2c6658eeee2411580cffff0000) 0x3000020 0x5586974c 1 0x80000000 0xda7d4571 0
    (hex 23 0xf3add244e900a9c5f5e0f0e37b8290d6ef6f3d60bce6fd) (hex 6 0x000000000101)
    (outcome 0x6e 1 (hex 23 0xa21411854040275aac72911e30633f89793a9504294e56) (hex 6 0x215d202baf41)
    ∷ outcome 0x18 0xffffffff (hex 23 0xc7e04e4d989e8f05d5309c026bf2fab4225bebfd895423) (hex 6 0xdd5a36c3b535) ∷ []))
    [] by_return (sp 0x3000014 & pc 0x3956662 & done 1 & ram (hex 23 0xf3add24438b61397a6b2978c4c978655ef6f3d60bce6fd)) []
    -- 41-PushRets/break-first-glue-0/0
    ∷ runs (block (memory 0x1000000 0x18 0x2000000 0xc false) 0x2000000 (op (A4 1 6 Or RkBit 0x64039914) 0x45 false
    ∷ op (MovI 2 0xd47335a4) 4 false ∷ op (PushRets 2) 4 false ∷ op (Alu3 0xf 0xc 5 Xor) 0xff false ∷ []))
    (hex 12 0x6e556365b7674767c10fea42) 0xffffffff
    (card (regs 0x0000007f00000007ffff80005a38cf9278cf3b1300fff000fffff001c640c155
    0xffffffe75b5b6ae4000000073b84166180000000fffff00000001000f0462c19) 0x100001c 0xbfab6e00 0x8a6cd170 0 0x9969d26 0
    (hex 24 0xaa186043e1cc40b2ad46d18b0ae755dd1d0215d62e154850) []
    (outcome 0xffffffff 0xffff0000 (hex 24 0xaa186043e1cc40b2ad46d18b0ae755dd1d0215d62e154850) [] ∷ []))
    (entry 0x26 0x200004d ∷ []) by_return (reg 1 0xfffff001 & reg 2 0xd47335a4 & sp 0x1000010 & brk 0xffff0000 & pc 0x200004d & done 3
    & ram (hex 24 0xaa186043e1cc40b2ad46d18b0ae755dda43573d492cf385a)) (write 0x1000018 4 2 0xbfab6e00 ∷ [])
    -- 41-PushRets/break-last-glue-1/0
    ∷ runs (block (memory 0x1000000 0x11 0x2000000 0x10 true) 0x3ffffff (op (Alu3 0xe 0xb 4 Sub) 2 true ∷ op (MovI 3 0x26037896) 2 false
    ∷ op (PushRets 1) 6 true ∷ op (Alu3 4 7 0xb RSub) 4 true ∷ op (SarI 1 0xc 0x51) 4 false ∷ []))
    (hex 16 0x1e8f6330962108624b3edf77f3bb0d82) 0xffffffff
    (card (regs 0xffffffecda158d83a8968b4700000017ffffffe0ffffffe8c0798409fffffff6
    0x00007fff000000247fffffffe85a6bc1000000205395e26f00007fffffffffff) 0x100000c 0x7d2f2876 0xd753eb76 0 0x6619b268 0xfff
    (hex 17 0x5dd3cda4f6b3696a642008398275ae0e55) (hex 5 0x0000008080)
    (outcome 1 0x80000000 (hex 17 0x478b96a89678032676282f7d8275ae0e55) (hex 5 0x0000008080) ∷ []))
    [] by_return (reg 3 0x26037896 & reg 14 0xe85a6be1 & sp 0xfffffc & hold 1 & brk 0x80000000 & pc 0x4000009 & done 0x1002
    & ram (hex 17 0x478b96a89678032676282f7d8275ae0e55)) (write 0xfffffc 4 0x1001 0xda158d83 ∷ [])
    -- 41-PushRets/break-all-glue-1/0
    ∷ runs (block (memory 0x10000 0x12 0x10014 0x14 true) 0x2db01c8 (op (Un 0xb 6 SatU) 4 false ∷ op (MovI 5 0x5f6ec71f) 4 false
    ∷ op (SpAdd 0x7accfc5d) 2 false ∷ op (PushRets 6) 4 true ∷ op (A4 1 4 Sar RkBit 0x12345) 6 false ∷ []))
    (hex 20 0x95d59cf13010147c66f960d309d1a80b47732771) 0x2d916ae2
    (card (regs 0x00000fff6715715f94e205e9402d3a3c7c5d8293fffffffe8b876e78ffffffd9
    0x58b78d815e4905662cce8aeefffff00100000100054fc046ffff80000000ffff) 0xa75a784b 0x27033638 2 0 0xaf5eb50d 0
    (hex 18 0x25a139ea04613908a02fb20162080077cce8) (hex 5 0x8001010000)
    (outcome 0 0xffff0000 (hex 18 0x256539ea04613908a02fb20162080077cc42) (hex 5 0x8001010000)
    ∷ outcome 0xd6f11895 1 (hex 18 0x256539ea04613908a02fb20162080077cc42) (hex 5 0x8001010000)
    ∷ outcome 0 0x80000000 (hex 18 0x256539ea04e33996a02fb20162080077cc42) (hex 5 0x8001010000)
    ∷ outcome 0xa01eabd2 1 (hex 18 0x259539ea71e33996a02fb20162080077cc42) (hex 5 0x8001010000) ∷ []))
    [] by_return (reg 5 0x5f6ec71f & reg 11 0 & sp 0x22277498 & hold 1 & brk 1 & pc 0x2db01d6 & done 4
    & ram (hex 18 0x259539ea71e33996a02fb20162080077cc42)) (write 0x222774a4 4 3 0x27033638 ∷ write 0x222774a0 4 3 0x8b876e78
    ∷ write 0x2227749c 4 3 0x5f6ec71f ∷ write 0x22277498 4 3 0x7c5d8293 ∷ [])
    -- 41-PushRets/break-set-cleared-glue-1/0
    ∷ runs (block (memory 0x10000 0xa 0x1000c 8 true) 0x2bcd3d6 (op (Div 7 5 0xd RemU) 2 true ∷ op (Mov2I 2 0xa 0xfff) 0 false
    ∷ op (Alu3 2 6 0xd Shr) 0 false ∷ op (SpAdd 0xfffff001) 2 false ∷ op (PushRets 4) 6 true ∷ op (Alu3I 0xb 8 0x8000 AndNot) 0xff true
    ∷ op (BitIns 0xb 5 0xa6 4) 0xff true ∷ [])) (hex 8 0x0b3996465965dfba) 0xd2f5ef1
    (card (regs 0x0000000a000000080000000180000000a6203d457fffffff00001000ffff0000
    0x00fff0006121388fc6e2e4a80000000000000080b5ec4fd9166067a18f3ed99f) 0x17467887 0x6e4ddf84 0x5f172a91 0 0x6d7cdc52 0
    (hex 10 0xd5470e427a6f5af2fafa) (hex 3 0x000000) (outcome 0x4667652f 0xffffffff (hex 10 0xd5470e427a6f5af2fafa) (hex 3 0x000000)
    ∷ outcome 0x31743483 0 (hex 10 0xd5470e427a6f5af2fafa) (hex 3 0x000000)
    ∷ outcome 0x64 1 (hex 10 0x286b0cbd85e548a7272c) (hex 3 0x10fe7a)
    ∷ outcome 0x86 0xffffffff (hex 10 0x7942a46a09dfc3bceb90) (hex 3 0x10f39c) ∷ []))
    [] (by_chain 0) (reg 2 0 & reg 7 0x7fffffff & reg 10 0xfff & reg 11 0xff73c0 & sp 0x17466880 & pc 0x2bcd5de & done 7)
    (write 0x17466884 4 4 0x6e4ddf84 ∷ write 0x17466880 4 4 0xa6203d45 ∷ [])
    -- 41-PushRets/map-first-set/0
    ∷ runs (block (memory 0 0x14 0x2000000 0xf true) 0x3ffffff (op (BitExt 5 8 0 0x21 false) 6 false ∷ op (AddRI 9 0xe 0x7478c180) 2 false
    ∷ op (Ext 0xa 9 PartUpper false) 0xff false ∷ op (MovI 3 0x5dde30c9) 2 false ∷ op (PushRets 2) 0xff false
    ∷ op (Alu2I 0xf 0xffff Xor) 0xff false ∷ [])) (hex 15 0xfe69309bd51bf5153d89e2a352df12) 0xdaa61e22
    (card (regs 0x00000008000000040ca9bc6644b0ca4f13cf7f5b07743a6e7e20955600000022
    0x326fa3a00000000039d377af00000018ffffffffdb3bd832f56469caffffffff) 0x10 0xa1d98f50 1 0 0x444acc73 0
    (hex 20 0x9405447d2fb5c17e7cbf03c11195d7da69e83cb8) (hex 5 0x0100000200)
    (outcome 0x971ccdaf 0 (hex 20 0x9405447d2fb5c17e7cbf03c11195d7da69e83cb8) (hex 5 0x0100000200)
    ∷ outcome 0x96 0 (hex 20 0xd1db9eeb2f269936aefaa50b053b918347386caf) (hex 5 0xb5519c18cb) ∷ []))
    [] (by_chain 0) (reg 3 0x5dde30c9 & reg 5 0 & reg 9 0x69dd2b4a & reg 10 0x69dd & reg 15 0xffff0000 & sp 4 & pc 0x4000306 & done 6
    & ram (hex 20 0x9405447d66bca90cc930de5d1195d7da69e83cb8)) (write 0xc 4 4 0xa1d98f50 ∷ [])
    -- 41-PushRets/map-last-set/0
    ∷ runs (block (memory 0x1000000 0x1b 0 0x12 true) 0x3cb128e (op (PushRets 1) 6 false ∷ op (BrI 8 0x7f GeS 0xe6627b9c) 0 true ∷ []))
    (hex 18 0x108fc578431f3e5efb8eb47c1edb0df6195e) 0x1002
    (card (regs 0x00000007d7f7b2a1e82f07fea3cccef5d0463c3ce0a5bd5e0000ffffcd73a6bb
    0x00007fffcb2f0dda2eaf2fe800000008c008e21a7fffffff0000007fffff0000) 0x1000014 0xf8e66c06 0xfdf5e9de 0 0xe1d6d264 0x1000
    (hex 27 0x092713091e3ea703e61a2135f6ba3eb3ca961e050cc99ea5991e06) (hex 7 0x01020000000000)
    (outcome 0x1d55ab39 0 (hex 27 0x092713091e3ea703fe072fe8f5cecca3066ce6f80cc99ea5991e06) (hex 7 0x01020000000000)
    ∷ outcome 0xd6 1 (hex 27 0x3f1ff11e7d9b0d1e977db672d9cf4fc1179c44b4c8c557571845de) (hex 7 0x5da10d250c14db)
    ∷ outcome 0x6a 0 (hex 27 0xf81aa56e44807edbf73ee36405caf50fbdf7b5e646725f4ce409d3) (hex 7 0x68b4feef80ec18) ∷ []))
    [] (by_chain 1) (sp 0x1000004 & pc 0xe6627b9c & done 0x1002 & ram (hex 27 0x092713091e3ea703fe072fe8f5cecca3066ce6f80cc99ea5991e06))
    (write 0x1000004 4 0x1000 0xd7f7b2a1 ∷ [])
    -- 41-PushRets/map-set-by-outcome/0
    ∷ runs (block (memory 0 0x18 0x2000000 0x10 true) 0x3ffffff (op (AddRI 0xc 0xc 0xff) 4 false ∷ op (MovI 7 0x8000) 6 false
    ∷ op (PushRets 3) 0xff true ∷ op (BitIns 1 8 0x15 8) 2 true ∷ op (Ext 3 6 PartUpper true) 4 true ∷ []))
    (hex 16 0x42fd7d67de8ede463cea530138beeb35) 0xffffffff
    (card (regs 0xde291dc7529951fe1694dcd8be5730c100000007ffffffff0000001633713240
    0xad76e92d0000008000000020d89d4d10fffff001509df17bfffffffe00000004) 0xc 0x16181d00 0 0 0xf4a49349 0
    (hex 24 0x01047ada044b2288bdcbd37e1439084a8cb7b26f944bf106) (hex 6 0x010080010001)
    (outcome 0xffffffff 0 (hex 24 0x01047ada044b2288bdcbd37e1439084a8cb7b26f944bf106) (hex 6 0x018080010001)
    ∷ outcome 1 0 (hex 24 0x01047ada044b2288bdcbd37e1439084a8cb7b26f944bf106) (hex 6 0x018080010001)
    ∷ outcome 0x14 1 (hex 24 0x5b830003ad83e3c01cff8e06f9be3476ec9db38fe2b39f2b) (hex 6 0xc2248b8e1af6) ∷ []))
    [] (by_chain 0) (reg 1 0x45b951fe & reg 3 0 & reg 7 0x8000 & reg 12 0xfffff100 & sp 4 & pc 0x400010e & done 5
    & map (hex 6 0x018080010001)) (write 8 4 2 0x16181d00 ∷ write 4 4 2 0xbe5730c1 ∷ [])
    -- 41-PushRets/ram-by-outcome/0
    ∷ runs (block (memory 0x3000010 0x1c 0x3000000 0x10 false) 0x2501792 (op (Ext 3 8 PartHalf true) 2 false
    ∷ op (ShlI 7 0xa 0x64) 0x33 false ∷ op (MovI 6 0x670b3443) 4 false ∷ op (PushRets 6) 2 true ∷ []))
    (hex 16 0xade991abaaaf453cb9bf81023c505d1b) 0xffffffff
    (card (regs 0x0000ffff00007fffffffffe200000fff1e59b60fb3a51f23552ce9b7486dba50
    0xf87194ce402b10cee277685effffffea802a927800008000000001004b81218f) 0x3000030 0x3e68202 1 0 0x7299e6b3 0xfffffffb
    (hex 28 0x76c8bc3d455e43dcd5f2b4a74c007518a8c8ca76dc58a55792f86bfe) []
    (outcome 0x80000000 0 (hex 28 0x76c8bc3d455e43dcd5f2b4a7641d1ab4a8e6f1dc9207bc57387dc037) []
    ∷ outcome 0x41 0xffffffff (hex 28 0x08e087c910c0388942cf3293486aefbe205e81c9a8f9c139e42f358f) []
    ∷ outcome 0x86 0 (hex 28 0x07b3df2999a831c6b3f807e594a63b2ea6a1914dad091ee90eefda89) [] ∷ []))
    (entry 0xbe6 0x25017cd ∷ []) (by_chain 0) (reg 3 0xffff94ce & reg 6 0x670b3443 & reg 7 0x277685e0 & sp 0x3000020 & pc 0x25017cd
    & done 0xffffffff & ram (hex 28 0x76c8bc3d455e43dcd5f2b4a7641d1ab40fb6591e231fa5b343340b67)) (write 0x300002c 4 0xfffffffe 0x3e68202
    ∷ [])
    -- 41-PushRets/last-of-11/0
    ∷ runs (block (memory 0x1000 0x18 0xfffffff0 0xe false) 0x276a356 (op (MovI 5 0x6c29fde3) 2 false ∷ op (AddRI 0xc 1 0xdec9e072) 2 false
    ∷ op (MovI 9 0xa975387f) 2 false ∷ op (AddRI 6 9 0x13) 2 false ∷ op (AddRI 7 6 0xbc1d536a) 2 false ∷ op (AddRI 0xf 9 0x7fff) 2 false
    ∷ op (MovI 1 0x78813c1a) 2 false ∷ op (MovI 0xd 0xa1d32a94) 2 false ∷ op (AddRI 0xe 7 0xc589aa7c) 2 false
    ∷ op (MovI 4 0x9e2963ce) 2 false ∷ op (PushRets 2) 2 false ∷ [])) (hex 14 0x0b2fb698ae29f87217d275e8c74b) 0xb
    (card (regs 0xffff80000000ffff87c80a1326a1f23985a630e5e075141febbef66b00000100
    0x000100006f0285346e5d0d67fffffff200000fff3df457360000008000007fff) 0x101c 0x695bee43 0xffafac7a 0 0xe5338e03 0
    (hex 24 0xfc4472cd779a9a73a1b1352a0fe2761b0af28d646ec0f926) []
    (outcome 0x796aa783 0 (hex 24 0xfc4472cd779a9a73a1b1352a0fe2761b0af28d646ec0f926) [] ∷ []))
    [] (by_chain 0) (reg 1 0x78813c1a & reg 4 0x9e2963ce & reg 5 0x6c29fde3 & reg 6 0xa9753892 & reg 7 0x65928bfc & reg 9 0xa975387f
    & reg 12 0xdecae071 & reg 13 0xa1d32a94 & reg 14 0x2b1c3678 & reg 15 0xa975b87e & sp 0x1010 & pc 0x276a36c & done 0xb
    & ram (hex 24 0xfc4472cd779a9a73a1b1352a0fe2761b130ac88739f2a126)) (write 0x1018 4 0xa 0x695bee43 ∷ [])
    ∷ []

pub all_reach : reached cases ≡ expected cases
unfolding run ops_from op_step load direct store read_le write_le signed_of sign_extend leading_zeros push_all up_from
all_reach = refl
