-- Answers of several words, piece by piece. Assumes nothing.
use Rattle.std.proofs.Common.{◌≡◌, ◌<◌, ℕ, Bool, true, false, List, [], ◌∷◌, ◌++◌, sym, refl, ap, ap₂, ◌∙◌, arith, append_assoc, nat_lt, lt-ltb}
use Rattle.std.specs.Prelude.{Result, Ok, Err, IsErrAnd}
use Rattle.std.proofs.lemmas.Result.{err_from_is_err_and}
use Rattle.arm.specs.declared.Instr.{Instr}
use Rattle.arm.specs.Instr.{encode, Carried}
use Rattle.arm.specs.Decode.{both}
use Rattle.words.specs.declared.EncodeError.{EncodeError}
use Rattle.words.specs.declared.EncodeError.TheVariants.{Reach, Unaligned, Operand}
use Rattle.words.specs.Answers.{answer, word_of, Told, accepted, refused}
use Rattle.constants.specs.declared.Sequence.{Sequence}
use Rattle.constants.specs.declared.Sequence.TheVariants.{Empty, One, Two, Three, Four}
use Rattle.constants.specs.Constants.{words_of}
use Rattle.constants.specs.Sequences.{told_words, words_if}
use Rattle.words.proofs.Answers.{carried-word, error_of}

-- ---- registers that are there
pub two_fit : {x y : ℕ} → x < 32 → y < 32 → both (nat_lt x 32) (nat_lt y 32) ≡ true
two_fit {x} {y} p q = simp (lt-ltb x 32 p, lt-ltb y 32 q)

pub three_fit : {x y z : ℕ} → x < 32 → y < 32 → z < 32 → both (nat_lt x 32) (both (nat_lt y 32) (nat_lt z 32)) ≡ true
three_fit {x} {y} {z} p q r = simp (lt-ltb x 32 p, lt-ltb y 32 q, lt-ltb z 32 r)

-- the word of an instruction that carries its operands
pub word_is : (i : Instr) {w : ℕ} → w ≡ word_of (answer i) → Carried i → w ≡ encode i
word_is i h k = h ∙ ap word_of (carried-word i k)

abbrev pub one : ℕ → List ℕ
one w = w ∷ []

abbrev pub two : ℕ → ℕ → List ℕ
two v w = v ∷ w ∷ []

-- one word put, and two
pub one_put : {ws vs : List ℕ} {w i : ℕ} → ws ≡ [] → vs ≡ ws ++ (w ∷ []) → w ≡ i → vs ≡ one i
one_put e h k = h ∙ ap₂ (λ l x. l ++ (x ∷ [])) e k

pub two_put : {ws vs us : List ℕ} {v w i j : ℕ} → ws ≡ [] → vs ≡ ws ++ (v ∷ []) → us ≡ vs ++ (w ∷ []) → v ≡ i → w ≡ j → us ≡ two i j
two_put e h g k l = g ∙ ap₂ (λ m x. m ++ (x ∷ [])) (one_put e h k) l

pub no_words : (b : Bool) (ws : List ℕ) → b ≡ false → refused 13 0 [] ≡ words_if b ws
unfolding words_if
no_words true ws h = absurd (let z : ◌≡◌ {A = ℕ} 0 1 = cc in omega arith)
no_words false ws h = refl

-- at the exit of a `?`
pub refuses : (r : Result Sequence EncodeError) (e : EncodeError) (b : Bool) (ws : List ℕ)
    → IsErrAnd r (λ x. x ≡ e) → e ≡ Operand → b ≡ false → told_words r ≡ words_if b ws
refuses r e b ws h k n =
    let p = err_from_is_err_and r h in
    ap told_words (p.1 ∙ ap Err (p.2 ∙ k)) ∙ no_words b ws n

pub gives : (b : Bool) (ws vs : List ℕ) → b ≡ true → vs ≡ ws → accepted vs ≡ words_if b ws
unfolding words_if
gives true ws vs e h = ap accepted h
gives false ws vs e h = absurd (let z : ◌≡◌ {A = ℕ} 0 1 = cc in omega arith)

abbrev words_in : Told (List ℕ) → List ℕ
words_in (accepted ws) = ws
words_in (refused n p ws) = ws

pub given : (b : Bool) (ws : List ℕ) (t : Told (List ℕ)) → t ≡ words_if b ws → b ≡ true → t ≡ accepted ws
unfolding words_if
given true ws t h e = h
given false ws t h e = absurd (let z : ◌≡◌ {A = ℕ} 0 1 = cc in omega arith)

pub words_given : (b : Bool) (ws vs : List ℕ) → accepted vs ≡ words_if b ws → b ≡ true → vs ≡ ws
unfolding words_if
words_given true ws vs h e = ap words_in h
words_given false ws vs h e = absurd (let z : ◌≡◌ {A = ℕ} 0 1 = cc in omega arith)

abbrev is_accepted : Told (List ℕ) → ℕ
is_accepted (accepted ws) = 1
is_accepted (refused n p ws) = 0

pub not_refused : (b : Bool) (ws : List ℕ) (n : ℕ) → refused n 0 [] ≡ words_if b ws → b ≡ true → ⊥
unfolding words_if
not_refused true ws n h e = let z : ◌≡◌ {A = ℕ} 0 1 = ap is_accepted h in omega arith
not_refused false ws n h e = let z : ◌≡◌ {A = ℕ} 0 1 = cc in omega arith

-- ---- `told_words` is one to one
abbrev in_turn : List ℕ → Sequence
in_turn [] = Empty
in_turn (a ∷ []) = One a
in_turn (a ∷ b ∷ []) = Two a b
in_turn (a ∷ b ∷ c ∷ []) = Three a b c
in_turn (a ∷ b ∷ c ∷ d ∷ ws) = Four a b c d

abbrev untold : Told (List ℕ) → Result Sequence EncodeError
untold (accepted ws) = Ok (in_turn ws)
untold (refused n p ws) = Err (error_of n)

untold-told : (r : Result Sequence EncodeError) → untold (told_words r) ≡ r
untold-told (Ok Empty) = refl
untold-told (Ok (One a)) = refl
untold-told (Ok (Two a b)) = refl
untold-told (Ok (Three a b c)) = refl
untold-told (Ok (Four a b c d)) = refl
untold-told (Err Reach) = refl
untold-told (Err Unaligned) = refl
untold-told (Err Operand) = refl

pub told_words-once : (r s : Result Sequence EncodeError) → told_words r ≡ told_words s → r ≡ s
told_words-once r s h = sym (untold-told r) ∙ ap untold h ∙ untold-told s

-- ---- words behind words
pub words_append : (xs ys : List Instr) → words_of (xs ++ ys) ≡ words_of xs ++ words_of ys
words_append [] ys = refl
words_append (x ∷ xs) ys = ap (λ ws. encode x ∷ ws) (words_append xs ys)

pub quarters : (w0 w1 w2 w3 : List ℕ) (i : Instr) (q1 q2 q3 : List Instr)
    → w0 ≡ encode i ∷ [] → w1 ≡ w0 ++ words_of q1 → w2 ≡ w1 ++ words_of q2 → w3 ≡ w2 ++ words_of q3
    → w3 ≡ words_of (i ∷ (q1 ++ (q2 ++ q3)))
quarters w0 w1 w2 w3 i q1 q2 q3 e0 e1 e2 e3 =
    e3 ∙ ap (λ w. w ++ words_of q3) (e2 ∙ ap (λ w. w ++ words_of q2) (e1 ∙ ap (λ w. w ++ words_of q1) e0))
    ∙ ap (λ ws. encode i ∷ ws)
    (append_assoc (words_of q1) (words_of q2) (words_of q3)
    ∙ sym (words_append q1 (q2 ++ q3) ∙ ap (λ ws. words_of q1 ++ ws) (words_append q2 q3)))
