-- The instruction set's claims hold. Assumes nothing.
use Rattle.arm.specs.Claims.{InstructionSet}
use Rattle.arm.proofs.RoundTrip.{decode-encode, decode-sound, encode_injective, encode-fits}

pub instruction-set : InstructionSet
instruction-set =
    record {
      decode-encode = decode-encode;
      decode-sound = λ w i h. ((decode-sound w i h).carries, (decode-sound w i h).word);
      encode_injective = encode_injective;
      encode-fits = encode-fits;
    }
