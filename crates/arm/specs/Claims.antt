-- What is proved of the instruction set, of all classes at once (proofs/Claims.antt).
use Rattle.std.specs.Prelude.{ℕ, ◌^◌, ◌<◌, ◌≡◌}
use Rattle.arm.specs.Instr.{Instr, encode, Carried}
use Rattle.arm.specs.Decode.{decode, valid}

pub record InstructionSet : Type 0 where
  -- the word of an instruction that carries its operands is decoded to it
  pub decode-encode : (i : Instr) → Carried i → decode (encode i) ≡ valid i
  -- a word that is decoded to an instruction is its word, and the instruction carries its operands
  pub decode-sound : (w : ℕ) (i : Instr) → decode w ≡ valid i → Carried i × (encode i ≡ w)
  -- two instructions with one word are equal
  pub encode_injective : (i j : Instr) → Carried i → Carried j → encode i ≡ encode j → i ≡ j
  -- and has 32 bits
  pub encode-fits : (i : Instr) → Carried i → encode i < 2 ^ 32
