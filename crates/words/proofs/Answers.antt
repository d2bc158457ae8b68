-- An answer by cases is the answer of the definition. Assumes nothing.
use Prim.Native.Nat.{ℕ}
use mathlib.Core.Path.{◌≡◌, refl, ap, sym, ◌∙◌}
use mathlib.Core.Bool.{Bool, true, false}
use lib.Dec.{T}
use Rattle.std.specs.Prelude.{◌==◌, Result, Ok, Err}
use Rattle.arm.specs.declared.Instr.{Instr}
use Rattle.arm.specs.Instr.{encode, Carried}
use Rattle.arm.specs.Decode.{carried}
use Rattle.arm.proofs.RoundTrip.{true_carried, carried_true}
use Rattle.words.specs.declared.EncodeError.{EncodeError}
use Rattle.words.specs.declared.EncodeError.TheVariants.{Reach, Unaligned, Operand}
use Rattle.words.specs.Answers.{Answers, answer, pick, Told, accepted, refused, told}

answer_by : (i : Instr) (r : Result ℕ EncodeError) (b : Bool) → (T b → Carried i) → (Carried i → T b) → Answers i r → pick b (Ok (encode i)) (Err Operand) ≡ r
unfolding Answers
answer_by i (Ok w) true f g h = sym (ap Ok h.1)
answer_by i (Ok w) false f g h = absurd (g h.0)
answer_by i (Err x) true f g h = absurd (h.1 (f tt))
answer_by i (Err x) false f g h = sym (ap Err h.0)

pub answers_is : (i : Instr) (r : Result ℕ EncodeError) → Answers i r → answer i ≡ r
unfolding answer
answers_is i r h = answer_by i r (carried i) (true_carried i) (carried_true i) h

pub carried-word : (i : Instr) → Carried i → answer i ≡ Ok (encode i)
unfolding answer
carried-word i h = go (carried i) (carried_true i h)
  where
    go : (b : Bool) → T b → pick b (Ok (encode i)) (Err Operand) ≡ Ok (encode i)
    go true t = refl
    go false t = absurd t

-- ---- `told` is one to one: who promises what is told of an answer promises the answer
abbrev pub error_of : ℕ → EncodeError
error_of n = by_number (n == 11) (n == 12)
  where
    by_number : Bool → Bool → EncodeError
    by_number true b = Reach
    by_number false true = Unaligned
    by_number false false = Operand

abbrev untold : Told ℕ → Result ℕ EncodeError
untold (accepted w) = Ok w
untold (refused n p w) = Err (error_of n)

untold-told : (r : Result ℕ EncodeError) → untold (told r) ≡ r
untold-told (Ok w) = refl
untold-told (Err Reach) = refl
untold-told (Err Unaligned) = refl
untold-told (Err Operand) = refl

pub told-once : (r s : Result ℕ EncodeError) → told r ≡ told s → r ≡ s
told-once r s h = sym (untold-told r) ∙ ap untold h ∙ untold-told s
