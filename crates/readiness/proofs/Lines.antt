-- Each line of a block: its instruction has an encoder, its jump reaches, its literal has 64 bits.
--     lines-known     the instructions of lines have encoders
--     lines-near      their distances and literals fit
-- Assumes nothing.
use mathlib.Core.Path.{◌≡◌, refl, sym, ap, subst}
use mathlib.Core.Bool.{true}
use mathlib.Core.List.{List, [], ◌∷◌, ◌++◌, map}
use Prim.Native.Nat.{ℕ, zero, suc, ◌+◌, ◌-◌, ◌*◌, ◌%◌, ◌^◌, ◌<◌, ◌≤◌}
use native.Mathlib.Omega.{arith}
use borrow.Author.Tests.{lt-ltb, eq-eqb}
use lib.Dec.{T}
use lib.IntN.{pos}
use lib.ListN.{length, drop}
use Rattle.arm.specs.declared.Instr.{Instr}
use Rattle.code.specs.Items.{Hole, b, b_cond, cb, tb, adr, ldr, fill, reach_of, dist}
use Rattle.code.specs.Tree.{Depth, Var, Code, code, lit, to, exit, block, start, ◌then◌, words, Line, plain, over, back, load, minus, inside, lines, Near}
use Rattle.code.proofs.Tree.{lines-length}
use Rattle.code.proofs.Fetch.{instr}
use Rattle.machine.specs.Encoders.{encoders, has_encoder}
use Rattle.execution.proofs.Steps.{is_jump}
use Rattle.readiness.proofs.Encodable.{Known, HoleKnown, Encodable}

-- ---- a property of each line, from position p on
abbrev pub Each : (ℕ → Line → Type 0) → ℕ → List Line → Type 0
Each P p [] = Unit {0}
Each P p (l ∷ ls) = P p l × Each P (suc p) ls

pub each_append : (P : ℕ → Line → Type 0) (p q : ℕ) (xs ys : List Line) → q ≡ p + length xs → Each P p xs → Each P q ys → Each P p (xs ++ ys)
each_append P p q [] ys e h k = subst (λ n. Each P n ys) (let z : q ≡ p = omega arith in z) k
each_append P p q (x ∷ xs) ys e h k = (h.0, each_append P (suc p) q xs ys (omega arith) h.1 k)

pub each_at : (P : ℕ → Line → Type 0) (p n : ℕ) (ls : List Line) (l : Line) (rest : List Line) → Each P p ls → drop n ls ≡ l ∷ rest → P (p + n) l
each_at P p zero [] l rest h e = absurd (let y : ◌≡◌ {A = ℕ} 0 1 = cc in omega arith)
each_at P p (suc n) [] l rest h e = absurd (let y : ◌≡◌ {A = ℕ} 0 1 = cc in omega arith)
each_at P p zero (k ∷ ls) l rest h e = subst (λ q. P q l) (let z : p ≡ p + 0 = omega arith in z) (subst (P p) (let y : k ≡ l = cc in y) h.0)
each_at P p (suc n) (k ∷ ls) l rest h e = subst (λ q. P q l) (let z : suc p + n ≡ p + suc n = omega arith in z) (each_at P (suc p) n ls l rest h.1 e)

-- ---- encoders
abbrev pub Has : (ℕ → ℕ) → ℕ → Line → Type 0
Has find p l = has_encoder (instr find p l) ≡ true

jump_known : (h : Hole) (n : ℕ) → HoleKnown h → has_encoder (fill h (pos (suc n))) ≡ true
unfolding has_encoder encoders
jump_known b n k = refl
jump_known (b_cond c) n k = rw (lt-ltb c 15 k)
jump_known (cb z t rt) n k = refl
jump_known (tb t m rt) n k = refl
jump_known (adr rd) n k = absurd k
jump_known (ldr rt) n k = absurd k

back-known : (rd n : ℕ) → has_encoder (fill (adr rd) (minus n)) ≡ true
unfolding has_encoder encoders
back-known rd zero = refl
back-known rd (suc n) = rw (eq-eqb ((2 ^ 21 - suc (4 * n + 3)) % 4) 0 (omega arith))

literal-known : (rt a p : ℕ) → has_encoder (fill (ldr rt) (dist a p)) ≡ true
unfolding has_encoder encoders
literal-known rt a p = refl

pub plain_known : (find : ℕ → ℕ) (p : ℕ) (is : List Instr) → Known is → Each (Has find) p (map plain is)
unfolding instr
plain_known find p [] h = tt
plain_known find p (i ∷ is) h = (h.0, plain_known find (suc p) is h.1)

pub lines-known : {n : Depth} (c : Code n) (d : Var n → ℕ) (x : ℕ) (find : ℕ → ℕ) (p : ℕ) → Encodable c → Each (Has find) p (lines c d x)
unfolding lines Encodable instr
lines-known (code is) d x find p h = plain_known find p is h
lines-known (lit rt v) d x find p h = (literal-known rt (find v) p, tt)
lines-known (to j v) d x find p h = (jump_known j (d v) h, tt)
lines-known (exit j) d x find p h = (jump_known j x h, tt)
lines-known (block c) d x find p h = lines-known c (inside 0 d) x find p h
lines-known (start rd c) d x find p h =
    each_append (Has find) p (p + words c) (lines c (λ v. suc (d v)) (suc x)) _ (ap (λ m. p + m) (sym (lines-length c (λ v. suc (d v)) (suc x))))
    (lines-known c (λ v. suc (d v)) (suc x) find p h) (back-known rd (words c), tt)
lines-known (c then e) d x find p h =
    each_append (Has find) p (p + words c) (lines c (λ v. words e + d v) (words e + x)) _ (ap (λ m. p + m) (sym (lines-length c (λ v. words e + d v) (words e + x))))
    (lines-known c (λ v. words e + d v) (words e + x) find p h.0) (lines-known e d x find (p + words c) h.1)

-- ---- distances and literals
unfoldable pub Reaches : ℕ → Line → Type 0
Reaches p (plain i) = Unit {0}
Reaches p (over h n) = T (is_jump h) × (suc n < reach_of h)
Reaches p (back rd n) = (n ≤ p) × (n < 2 ^ 18)
Reaches p (load rt v) = v < 2 ^ 64

jumps : (h : Hole) → HoleKnown h → T (is_jump h)
jumps b k = tt
jumps (b_cond c) k = tt
jumps (cb z t rt) k = tt
jumps (tb t m rt) k = tt
jumps (adr rd) k = absurd k
jumps (ldr rt) k = absurd k

pub plain-near : (p : ℕ) (is : List Instr) → Each Reaches p (map plain is)
unfolding Reaches
plain-near p [] = tt
plain-near p (i ∷ is) = (tt, plain-near (suc p) is)

pub lines-near : {n : Depth} (c : Code n) (d : Var n → ℕ) (x p : ℕ) → Encodable c → Near c d x → Each Reaches p (lines c d x)
unfolding lines Encodable Near Reaches
lines-near (code is) d x p h k = plain-near p is
lines-near (lit rt v) d x p h k = (h, tt)
lines-near (to j v) d x p h k = ((jumps j h, k), tt)
lines-near (exit j) d x p h k = ((jumps j h, k), tt)
lines-near (block c) d x p h k = lines-near c (inside 0 d) x p h k
lines-near (start rd c) d x p h k =
    each_append Reaches p (p + words c) (lines c (λ v. suc (d v)) (suc x)) _ (ap (λ m. p + m) (sym (lines-length c (λ v. suc (d v)) (suc x))))
    (lines-near c (λ v. suc (d v)) (suc x) p h k.1) ((omega arith, k.0), tt)
lines-near (c then e) d x p h k =
    each_append Reaches p (p + words c) (lines c (λ v. words e + d v) (words e + x)) _ (ap (λ m. p + m) (sym (lines-length c (λ v. words e + d v) (words e + x))))
    (lines-near c (λ v. words e + d v) (words e + x) p h.0 k.0) (lines-near e d x (p + words c) h.1 k.1)
