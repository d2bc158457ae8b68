-- What a machine over the words finds: at each position its line's instruction, at a literal's place its value.
use mathlib.Core.Path.{◌≡◌, refl, sym, ap, ap₂, subst, ◌∙◌}
use mathlib.Core.Bool.{Bool, true, false}
use mathlib.Core.List.{List, [], ◌∷◌, ◌++◌, map}
use Prim.Native.Nat.{ℕ, zero, suc, ◌+◌, ◌-◌, ◌*◌, ◌/◌, ◌%◌, ◌^◌, ◌<◌}
use native.Mathlib.Omega.{arith}
use lib.Dec.{eqb}
use lib.IntN.{pos}
use lib.ListN.{length, get_or, drop, length-map, length-append, get_or-append}
use lib.Seq.{get_or-append-add}
use borrow.Author.Tests.{eqb-true}
use Rattle.arm.specs.declared.Instr.{Instr}
use Rattle.arm.specs.Instr.{encode, Carried}
use Rattle.arm.specs.Decode.{decode, valid}
use Rattle.arm.proofs.RoundTrip.{decode-encode}
use Rattle.code.specs.Items.{pick, adr, ldr, fill, dist, index, add, halves, pad_of, base_of, Sound}
use Rattle.code.specs.Tree.{Line, plain, over, back, load, minus, instrs, pool_in, find_in, lines_words}
use Rattle.code.proofs.Emit.{has, Kept, kept_new, kept-add}
use Rattle.code.proofs.Reach.{halves-length}

-- ---- the instruction of a line at position p
unfoldable pub instr : (ℕ → ℕ) → ℕ → Line → Instr
instr find p (plain i) = i
instr find p (over h n) = fill h (pos (suc n))
instr find p (back rd n) = fill (adr rd) (minus n)
instr find p (load rt v) = fill (ldr rt) (dist (find v) p)

instrs_cons : (find : ℕ → ℕ) (p : ℕ) (l : Line) (ls : List Line) → instrs find p (l ∷ ls) ≡ instr find p l ∷ instrs find (suc p) ls
unfolding instrs instr
instrs_cons find p (plain i) ls = refl
instrs_cons find p (over h n) ls = refl
instrs_cons find p (back rd n) ls = refl
instrs_cons find p (load rt v) ls = refl

pub instrs-length : (find : ℕ → ℕ) (p : ℕ) (ls : List Line) → length (instrs find p ls) ≡ length ls
unfolding instrs
instrs-length find p [] = refl
instrs-length find p (l ∷ ls) = ap length (instrs_cons find p l ls) ∙ ap suc (instrs-length find (suc p) ls)

-- all the words: the lines', the nop's, and two a literal
pub words-length : (ls : List Line)
    → length (lines_words ls) ≡ length ls + (length (pad_of (length ls) (pool_in [] ls)) + 2 * length (pool_in [] ls))
unfolding lines_words
words-length ls =
    let is : List Instr = instrs (find_in ls) 0 ls in
    let pad : List ℕ = pad_of (length ls) (pool_in [] ls) in
    let pool : List ℕ = halves (pool_in [] ls) in
    omega (
      arith,
      length-append (map encode is) (pad ++ pool),
      length-append pad pool,
      length-map is encode,
      instrs-length (find_in ls) 0 ls,
      halves-length (pool_in [] ls),
    )

-- n further on
pub instrs_at : (find : ℕ → ℕ) (p n : ℕ) (ls : List Line) (l : Line) (rest : List Line) (d : Instr) → drop n ls ≡ l ∷ rest → get_or (instrs find p ls) n d ≡ instr find (p + n) l
unfolding instrs
instrs_at find p zero [] l rest d e = absurd (let y : ◌≡◌ {A = ℕ} 0 1 = cc in omega arith)
instrs_at find p (suc n) [] l rest d e = absurd (let y : ◌≡◌ {A = ℕ} 0 1 = cc in omega arith)
instrs_at find p zero (k ∷ ls) l rest d e =
    ap (λ is. get_or is 0 d) (instrs_cons find p k ls) ∙ ap₂ (λ (m : ℕ) (x : Line). instr find m x) (omega arith) (let y : k ≡ l = cc in y)
instrs_at find p (suc n) (k ∷ ls) l rest d e =
    ap (λ is. get_or is (suc n) d) (instrs_cons find p k ls) ∙ instrs_at find (suc p) n ls l rest d e ∙ ap (λ m. instr find m l) (omega arith)

sound_at : (is : List Instr) (n : ℕ) (d : Instr) → n < length is → Sound is → Carried (get_or is n d)
unfolding Sound
sound_at [] n d h s = absurd (omega arith)
sound_at (i ∷ is) zero d h s = s.0
sound_at (i ∷ is) (suc n) d h s = sound_at is n d (omega arith) s.1

map_at : (is : List Instr) (n : ℕ) (d : Instr) → n < length is → get_or (map encode is) n 0 ≡ encode (get_or is n d)
map_at [] n d h = absurd (omega arith)
map_at (i ∷ is) zero d h = refl
map_at (i ∷ is) (suc n) d h = map_at is n d (omega arith)

drop_lt : {A : Type 0} (n : ℕ) (xs : List A) (x : A) (ys : List A) → drop n xs ≡ x ∷ ys → n < length xs
drop_lt zero [] x ys e = absurd (let y : ◌≡◌ {A = ℕ} 0 1 = cc in omega arith)
drop_lt (suc n) [] x ys e = absurd (let y : ◌≡◌ {A = ℕ} 0 1 = cc in omega arith)
drop_lt zero (a ∷ xs) x ys e = omega arith
drop_lt (suc n) (a ∷ xs) x ys e = omega (arith, drop_lt n xs x ys e)

-- THE WORD FETCHED AT A POSITION DECODES TO THE INSTRUCTION OF THE LINE THERE
pub fetch : (ls : List Line) (n : ℕ) (l : Line) (rest : List Line) → Sound (instrs (find_in ls) 0 ls) → drop n ls ≡ l ∷ rest → decode (get_or (lines_words ls) n 0) ≡ valid (instr (find_in ls) n l)
unfolding lines_words
fetch ls n l rest s e =
    let is : List Instr = instrs (find_in ls) 0 ls in
    let h : n < length is = omega (arith, drop_lt n ls l rest e, instrs-length (find_in ls) 0 ls) in
    let k : n < length (map encode is) = omega (arith, length-map is encode) in
    let i : get_or is n Instr.Nop ≡ instr (find_in ls) n l = instrs_at (find_in ls) 0 n ls l rest Instr.Nop e ∙ ap (λ m. instr (find_in ls) m l) (omega arith) in
    ap decode (get_or-append (map encode is) (pad_of (length ls) (pool_in [] ls) ++ halves (pool_in [] ls)) 0 n k ∙ map_at is n Instr.Nop h)
    ∙ decode-encode (get_or is n Instr.Nop) (sound_at is n Instr.Nop h s) ∙ ap (λ j. valid j) i

-- ---- literals
halves-low : (v : ℕ) (ps : List ℕ) → has v ps ≡ true → get_or (halves ps) (2 * index v ps) 0 ≡ v % 2 ^ 32
unfolding has index halves
halves-low v [] h = absurd (let y : ◌≡◌ {A = ℕ} 0 1 = cc in omega arith)
halves-low v (x ∷ xs) h = by (λ k. halves-low v xs k) (eqb v x) refl h
  where
    by : (has v xs ≡ true → get_or (halves xs) (2 * index v xs) 0 ≡ v % 2 ^ 32) → (t : Bool) → eqb v x ≡ t → pick t true (has v xs) ≡ true → get_or (x % 2 ^ 32 ∷ x / 2 ^ 32 ∷ halves xs) (2 * pick t 0 (suc (index v xs))) 0 ≡ v % 2 ^ 32
    by rec true e k = ap (λ n. n % 2 ^ 32) (sym (eqb-true v x e))
    by rec false e k = ap (λ n. get_or (x % 2 ^ 32 ∷ x / 2 ^ 32 ∷ halves xs) n 0) (let z : 2 * suc (index v xs) ≡ suc (suc (2 * index v xs)) = omega arith in z) ∙ rec k

halves-high : (v : ℕ) (ps : List ℕ) → has v ps ≡ true → get_or (halves ps) (suc (2 * index v ps)) 0 ≡ v / 2 ^ 32
unfolding has index halves
halves-high v [] h = absurd (let y : ◌≡◌ {A = ℕ} 0 1 = cc in omega arith)
halves-high v (x ∷ xs) h = by (λ k. halves-high v xs k) (eqb v x) refl h
  where
    by : (has v xs ≡ true → get_or (halves xs) (suc (2 * index v xs)) 0 ≡ v / 2 ^ 32) → (t : Bool) → eqb v x ≡ t → pick t true (has v xs) ≡ true → get_or (x % 2 ^ 32 ∷ x / 2 ^ 32 ∷ halves xs) (suc (2 * pick t 0 (suc (index v xs)))) 0 ≡ v / 2 ^ 32
    by rec true e k = ap (λ n. n / 2 ^ 32) (sym (eqb-true v x e))
    by rec false e k = ap (λ n. get_or (x % 2 ^ 32 ∷ x / 2 ^ 32 ∷ halves xs) (suc n) 0) (let z : 2 * suc (index v xs) ≡ suc (suc (2 * index v xs)) = omega arith in z) ∙ rec k

kept-lines : (v i : ℕ) (ps : List ℕ) (ls : List Line) → Kept v i ps → Kept v i (pool_in ps ls)
unfolding pool_in
kept-lines v i ps [] k = k
kept-lines v i ps (plain j ∷ ls) k = kept-lines v i ps ls k
kept-lines v i ps (over h n ∷ ls) k = kept-lines v i ps ls k
kept-lines v i ps (back rd n ∷ ls) k = kept-lines v i ps ls k
kept-lines v i ps (load rt u ∷ ls) k = kept-lines v i (add u ps) ls (kept-add v u i ps k)

-- a literal that is loaded is in the pool
pub loaded : (ps : List ℕ) (ls : List Line) (n rt v : ℕ) (rest : List Line) → drop n ls ≡ load rt v ∷ rest → has v (pool_in ps ls) ≡ true
unfolding pool_in
loaded ps [] zero rt v rest e = absurd (let y : ◌≡◌ {A = ℕ} 0 1 = cc in omega arith)
loaded ps [] (suc n) rt v rest e = absurd (let y : ◌≡◌ {A = ℕ} 0 1 = cc in omega arith)
loaded ps (l ∷ ls) zero rt v rest e = subst (λ k. has v (pool_in ps (k ∷ ls)) ≡ true) (let y : load rt v ≡ l = cc in y) (kept-lines v (index v ps) (add v ps) ls (kept_new v ps)).here
loaded ps (plain i ∷ ls) (suc n) rt v rest e = loaded ps ls n rt v rest e
loaded ps (over h m ∷ ls) (suc n) rt v rest e = loaded ps ls n rt v rest e
loaded ps (back rd m ∷ ls) (suc n) rt v rest e = loaded ps ls n rt v rest e
loaded ps (load r u ∷ ls) (suc n) rt v rest e = loaded (add u ps) ls n rt v rest e

-- THE TWO WORDS AT A LITERAL'S PLACE ARE ITS HALVES
pub literal-words : (ls : List Line) (v : ℕ) → has v (pool_in [] ls) ≡ true → (get_or (lines_words ls) (find_in ls v) 0 ≡ v % 2 ^ 32) × (get_or (lines_words ls) (suc (find_in ls v)) 0 ≡ v / 2 ^ 32)
unfolding lines_words find_in base_of
literal-words ls v h = (at (2 * index v (pool_in [] ls)) (find_in ls v) (omega arith) ∙ halves-low v (pool_in [] ls) h, at (suc (2 * index v (pool_in [] ls))) (suc (find_in ls v)) (omega arith) ∙ halves-high v (pool_in [] ls) h)
  where
    is : List ℕ
    is = map encode (instrs (find_in ls) 0 ls)

    pad : List ℕ
    pad = pad_of (length ls) (pool_in [] ls)

    n_is : length is ≡ length ls
    n_is = length-map (instrs (find_in ls) 0 ls) encode ∙ instrs-length (find_in ls) 0 ls

    at : (k q : ℕ) → q ≡ length ls + length pad + k → get_or (is ++ (pad ++ halves (pool_in [] ls))) q 0 ≡ get_or (halves (pool_in [] ls)) k 0
    at k q e =
        ap (λ m. get_or (is ++ (pad ++ halves (pool_in [] ls))) m 0) (let z : q ≡ length is + (length pad + k) = omega (arith, n_is) in z)
        ∙ get_or-append-add is (pad ++ halves (pool_in [] ls)) (length pad + k) 0 ∙ get_or-append-add pad (halves (pool_in [] ls)) k 0
