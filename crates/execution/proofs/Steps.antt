-- One line, and the word that stands for it: where the line leads to another, one step of the machine leads from its word to that line's word.
--     Ready          the words can be fetched and decoded, and each jump and literal is within reach
--     Holds          the code is in memory as these words
--     line_does      one step of the machine does what the line does: it goes on (`Led`) or leaves (`Leaves`)
-- Assumes nothing.
use mathlib.Core.Path.{◌≡◌, refl, sym, ap, ap₂, ◌∙◌, subst}
use mathlib.Core.Bool.{Bool, true, false}
use mathlib.Core.List.{List, [], ◌∷◌}
use Prim.Native.Nat.{ℕ, zero, suc, ◌+◌, ◌-◌, ◌*◌, ◌/◌, ◌%◌, ◌^◌, ◌≤◌, ◌<◌}
use native.Mathlib.Nat.{mod-eq_of_lt, mod-add-mod}
use native.Mathlib.Omega.{arith}
use borrow.Author.Tests.{le-ltb}
use lib.Dec.{T, eqb}
use lib.IntN.{pos}
use lib.ListN.{length, get_or, drop}
use Rattle.arm.specs.declared.Instr.{Instr}
use Rattle.code.specs.Items.{pick, Hole, b, b_cond, cb, tb, adr, ldr, fill, reach_of, dist, index, Sound, base_of}
use Rattle.code.specs.Tree.{Line, plain, over, back, load, instrs, pool_in, find_in, lines_words}
use Rattle.code.specs.Machine.{Eff, fall, stop, Res, stopped, stuck, goes}
use Rattle.code.specs.Machine.{next as onward, step as line_step}
use Rattle.code.proofs.Emit.{has}
use Rattle.code.proofs.Fetch.{instr, words-length, literal-words}
use Rattle.code.proofs.Fetch.{fetch as decodes, loaded as pooled}
use Rattle.machine.specs.State.{Region, State, code, with_x}
use Rattle.machine.specs.Memory.{bytes_of_words, bytes_of}
use Rattle.machine.specs.Memory.{base_of as start_of}
use Rattle.machine.specs.Execute.{Helpers, Effect, next, returned, jumped, branch_if, done, execute}
use Rattle.machine.specs.Encoders.{has_encoder}
use Rattle.machine.specs.Machine.{running, at_return, at_jump, outcome, step}
use Rattle.machine.proofs.Keeps.{KeptMem}
use Rattle.machine.proofs.Control.{exec-b, exec-b_cond, exec-cb, exec-tb, exec-adr, exec-adr-back}
use Rattle.machine.proofs.Fetch.{step_ok, exec-literal_ok}
use Rattle.relation.specs.Lines.{Stop, returns, jumps, fails, at, exec, taken, arm}
use Rattle.execution.proofs.Plain.{Goes, exec_next, Lands, exec-stop}

-- ---- the code in memory
pub record Holds (ws : List ℕ) (base : ℕ) (m : List Region) : Type 0 where
  pub present : code < length m
  pub start : start_of m code ≡ base
  pub words : bytes_of m code ≡ bytes_of_words ws

pub holds_kept : {ws : List ℕ} {base : ℕ} {m m' : List Region} → KeptMem m m' → Holds ws base m → Holds ws base m'
holds_kept k p = record { present = subst (λ n. code < n) (sym k.regions) p.present; start = k.base code ∙ p.start; words = k.code_is ∙ p.words }

-- ---- what is asked of lines
abbrev pub is_jump : Hole → Bool
is_jump b = true
is_jump (b_cond c) = true
is_jump (cb z t rt) = true
is_jump (tb t n rt) = true
is_jump (adr rd) = false
is_jump (ldr rt) = false

abbrev pub LineFits : List Line → ℕ → Line → Type 0
LineFits ls p (plain i) = Unit {0}
LineFits ls p (over h n) = T (is_jump h) × (suc n < reach_of h)
LineFits ls p (back rd n) = (n ≤ p) × (n < 2 ^ 18)
LineFits ls p (load rt v) = (v < 2 ^ 64) × (find_in ls v < p + 2 ^ 18)

pub record Ready (ls : List Line) (base : ℕ) : Type 0 where
  pub sound : Sound (instrs (find_in ls) 0 ls)
  pub encoders : (p : ℕ) (l : Line) (rest : List Line) → drop p ls ≡ l ∷ rest → has_encoder (instr (find_in ls) p l) ≡ true
  pub fits : (p : ℕ) (l : Line) (rest : List Line) → drop p ls ≡ l ∷ rest → LineFits ls p l
  pub ends : base + 4 * length (lines_words ls) ≤ 2 ^ 64

-- the address of the word at a position
abbrev pub addr : (base p : ℕ) → ℕ
addr base p = (base + 4 * p) % 2 ^ 64

-- ---- positions
pub drop_lt : {A : Type 0} (n : ℕ) (xs : List A) (x : A) (ys : List A) → drop n xs ≡ x ∷ ys → n < length xs
drop_lt zero [] x ys e = absurd (let y : ◌≡◌ {A = ℕ} 0 1 = cc in omega arith)
drop_lt (suc n) [] x ys e = absurd (let y : ◌≡◌ {A = ℕ} 0 1 = cc in omega arith)
drop_lt zero (a ∷ xs) x ys e = omega arith
drop_lt (suc n) (a ∷ xs) x ys e = omega (arith, drop_lt n xs x ys e)

drop-behind : {A : Type 0} (n k : ℕ) (xs : List A) (x : A) (ys : List A) → drop n xs ≡ x ∷ ys → drop (suc n + k) xs ≡ drop k ys
drop-behind zero k [] x ys e = absurd (let y : ◌≡◌ {A = ℕ} 0 1 = cc in omega arith)
drop-behind (suc n) k [] x ys e = absurd (let y : ◌≡◌ {A = ℕ} 0 1 = cc in omega arith)
drop-behind zero k (a ∷ xs) x ys e = let z : 1 + k ≡ suc k = omega arith in ap (λ j. drop j (a ∷ xs)) z ∙ ap (drop k) (let y : xs ≡ ys = cc in y)
drop-behind (suc n) k (a ∷ xs) x ys e = let z : suc (suc n) + k ≡ suc (suc n + k) = omega arith in ap (λ j. drop j (a ∷ xs)) z ∙ drop-behind n k xs x ys e

pub drop_next : {A : Type 0} (n : ℕ) (xs : List A) (x : A) (ys : List A) → drop n xs ≡ x ∷ ys → drop (suc n) xs ≡ ys
drop_next n xs x ys e = let z : suc n + 0 ≡ suc n = omega arith in ap (λ j. drop j xs) (sym z) ∙ drop-behind n 0 xs x ys e

pub lines-words : (ls : List Line) → length ls ≤ length (lines_words ls)
lines-words ls = omega (arith, words-length ls)

-- ---- literals
index-lt : (v : ℕ) (ps : List ℕ) → has v ps ≡ true → index v ps < length ps
unfolding has index
index-lt v [] h = absurd (let y : ◌≡◌ {A = ℕ} 0 1 = cc in omega arith)
index-lt v (x ∷ xs) h = go (eqb v x) (index-lt v xs) h
  where
    go : (t : Bool) → (has v xs ≡ true → index v xs < length xs) → pick t true (has v xs) ≡ true → pick t 0 (suc (index v xs)) < suc (length xs)
    go true f k = omega arith
    go false f k = omega (arith, f k)

-- a literal stands behind the code, and both of its words are there
pub literal_in : (ls : List Line) (v : ℕ) → has v (pool_in [] ls) ≡ true → (length ls ≤ find_in ls v) × (suc (find_in ls v) < length (lines_words ls))
unfolding find_in base_of
literal_in ls v h = (omega arith, omega (arith, words-length ls, index-lt v (pool_in [] ls) h))

-- ---- a word at its position
module _ (h : Helpers) (ls : List Line) (base : ℕ) (ready : Ready ls base) (s : State) (holds : Holds (lines_words ls) base s.mem) (p n : ℕ) (l : Line) (rest : List Line) (here : drop p ls ≡ l ∷ rest) where
  position : p < length (lines_words ls)
  position = omega (arith, drop_lt p ls l rest here, lines-words ls)

  address : addr base p ≡ base + 4 * p
  address = mod-eq_of_lt (omega (arith, position, ready.ends))

  word-step : step h (at (addr base p) n s) ≡ outcome (at (addr base p) n s) (execute h (instr (find_in ls) p l) (at (addr base p) n s))
  word-step =
      step_ok h (at (addr base p) n s) (lines_words ls) p (instr (find_in ls) p l) holds.words (address ∙ ap (λ a. a + 4 * p) (sym holds.start)) position
      (decodes ls p l rest ready.sound here) (ready.encoders p l rest here)

-- ---- where a line leads, as the machine's step
-- to position p₁, where the lines ls₁ stand, with state s₁
pub record Led (h : Helpers) (ls : List Line) (base : ℕ) (s : State) (p n p₁ : ℕ) (ls₁ : List Line) (s₁ : State) : Type 0 where
  pub steps : step h (at (addr base p) n s) ≡ record { status = running; state = at (addr base p₁) (n + 1) s₁ }
  pub lines : drop p₁ ls ≡ ls₁
  pub ahead : p < p₁
  pub memory : KeptMem s.mem s₁.mem

-- out of the block
abbrev pub Leaves : (h : Helpers) (base : ℕ) (s : State) (p n : ℕ) → Stop → Type 0
Leaves h base s p n (returns to t) = step h (at (addr base p) n s) ≡ record { status = at_return; state = at to (n + 1) t }
Leaves h base s p n (jumps to t) = step h (at (addr base p) n s) ≡ record { status = at_jump; state = at to (n + 1) t }
Leaves h base s p n fails = Unit {0}

abbrev pub LedTo : (h : Helpers) (ls : List Line) (base : ℕ) (s : State) (p n : ℕ) → Res State Stop → Type 0
LedTo h ls base s p n (onward p₁ ls₁ s₁) = Led h ls base s p n p₁ ls₁ s₁
LedTo h ls base s p n (stopped r) = Leaves h base s p n r
LedTo h ls base s p n stuck = Unit {0}

unmoved : (m : List Region) → KeptMem m m
unmoved m = record { regions = refl; base = λ k. refl; code_is = refl; flash_is = refl }

-- a jump forward
hole-does : (h : Helpers) (hole : Hole) (k : ℕ) (s : State) → T (is_jump hole) → suc k < reach_of hole → execute h (fill hole (pos (suc k))) s ≡ branch_if (taken hole s) (suc k * 4) s
unfolding taken
hole-does h b k s j l = exec-b h s (suc k) l
hole-does h (b_cond c) k s j l = exec-b_cond h s (suc k) c l
hole-does h (cb z t rt) k s j l = exec-cb h s z t (suc k) rt l
hole-does h (tb t i rt) k s j l = exec-tb h s t i (suc k) rt l
hole-does h (adr rd) k s j l = absurd j
hole-does h (ldr rt) k s j l = absurd j

taken_at : (hole : Hole) (a n : ℕ) (s : State) → taken hole (at a n s) ≡ taken hole s
unfolding taken
taken_at b a n s = refl
taken_at (b_cond c) a n s = refl
taken_at (cb z t rt) a n s = refl
taken_at (tb t i rt) a n s = refl
taken_at (adr rd) a n s = refl
taken_at (ldr rt) a n s = refl

two_halves : (v : ℕ) → v < 2 ^ 64 → v % 2 ^ 32 % 2 ^ 32 + 2 ^ 32 * (v / 2 ^ 32 % 2 ^ 32) ≡ v
two_halves v h = omega arith

-- k words on
addr_on : (base p k : ℕ) → (addr base p + k * 4) % 2 ^ 64 ≡ addr base (p + k)
addr_on base p k = mod-add-mod (base + 4 * p) (2 ^ 64) (k * 4) ∙ ap (λ a. a % 2 ^ 64) (omega arith)

addr_next : (base p : ℕ) → (addr base p + 4) % 2 ^ 64 ≡ addr base (suc p)
addr_next base p = mod-add-mod (base + 4 * p) (2 ^ 64) 4 ∙ ap (λ a. a % 2 ^ 64) (omega arith)

module _ (h : Helpers) (ls : List Line) (base : ℕ) (ready : Ready ls base) (s : State) (holds : Holds (lines_words ls) base s.mem) (p n : ℕ) (rest : List Line) where
  -- a step whose effect is known
  by_effect : (l : Line) → drop p ls ≡ l ∷ rest → (e : Effect) → execute h (instr (find_in ls) p l) (at (addr base p) n s) ≡ e → step h (at (addr base p) n s) ≡ outcome (at (addr base p) n s) e
  by_effect l here e q = word-step h ls base ready s holds p n l rest here ∙ ap (outcome (at (addr base p) n s)) q

  -- on to the next line
  next_led : (l : Line) → drop p ls ≡ l ∷ rest → (s₁ : State) → KeptMem s.mem s₁.mem → execute h (instr (find_in ls) p l) (at (addr base p) n s) ≡ next (at ((addr base p + 4) % 2 ^ 64) (n + 1) s₁) → Led h ls base s p n (suc p) rest s₁
  next_led l here s₁ k q =
      record {
        steps = by_effect l here (next (at ((addr base p + 4) % 2 ^ 64) (n + 1) s₁)) q ∙ ap (λ a. record { status = running; state = at a (n + 1) s₁ }) (addr_next base p);
        lines = drop_next p ls l rest here;
        ahead = omega arith;
        memory = k;
      }

  leaves : (l : Line) → drop p ls ≡ l ∷ rest → (r : Stop) → Lands h (addr base p) n (execute h (instr (find_in ls) p l) (at (addr base p) n s)) r → Leaves h base s p n r
  leaves l here (returns to t) q = by_effect l here (returned (at to (n + 1) t)) q
  leaves l here (jumps to t) q = by_effect l here (jumped (at to (n + 1) t)) q
  leaves l here fails q = tt

  plain-does : (i : Instr) → drop p ls ≡ plain i ∷ rest → (f : Eff State Stop) → exec h i s ≡ f → LedTo h ls base s p n (goes (arm h base) p rest f)
  unfolding goes instr
  plain-does i here (fall s₁) e = let g : Goes h (addr base p) n i s s₁ = exec_next h (addr base p) n i s s₁ e in next_led (plain i) here s₁ g.memory g.does
  plain-does i here (stop r) e = leaves (plain i) here r (exec-stop h (addr base p) n i s r e)

  over-does : (hole : Hole) (k : ℕ) → drop p ls ≡ over hole k ∷ rest → (t : Bool) → taken hole s ≡ t → LedTo h ls base s p n (pick t (onward (suc p + k) (drop k rest) s) (onward (suc p) rest s))
  unfolding instr
  over-does hole k here true e =
      let f : T (is_jump hole) × (suc k < reach_of hole) = ready.fits p (over hole k) rest here in
      let q : p + suc k ≡ suc p + k = omega arith in
      record {
        steps = by_effect (over hole k) here (branch_if true (suc k * 4) (at (addr base p) n s))
            (hole-does h hole k (at (addr base p) n s) f.0 f.1 ∙ ap (λ t. branch_if t (suc k * 4) (at (addr base p) n s)) (taken_at hole (addr base p) n s ∙ e))
            ∙ ap (λ a. record { status = running; state = at a (n + 1) s }) (addr_on base p (suc k) ∙ ap (addr base) q);
        lines = drop-behind p k ls (over hole k) rest here;
        ahead = omega arith;
        memory = unmoved s.mem;
      }
  over-does hole k here false e =
      let f : T (is_jump hole) × (suc k < reach_of hole) = ready.fits p (over hole k) rest here in
      next_led (over hole k) here s (unmoved s.mem)
      (hole-does h hole k (at (addr base p) n s) f.0 f.1 ∙ ap (λ t. branch_if t (suc k * 4) (at (addr base p) n s)) (taken_at hole (addr base p) n s ∙ e))

  back-does : (rd k : ℕ) → drop p ls ≡ back rd k ∷ rest → Led h ls base s p n (suc p) rest (with_x rd ((base + 4 * (p - k)) % 2 ^ 64) s)
  unfolding instr
  back-does rd zero here =
      next_led (back rd 0) here (with_x rd ((base + 4 * (p - 0)) % 2 ^ 64) s) (unmoved s.mem)
      (exec-adr h (at (addr base p) n s) 0 rd (omega arith)
      ∙ ap (λ v. done (with_x rd v (at (addr base p) n s))) (mod-add-mod (base + 4 * p) (2 ^ 64) 0 ∙ ap (λ v. v % 2 ^ 64) (omega arith)))
  back-does rd (suc k) here =
      let f : (suc k ≤ p) × (suc k < 2 ^ 18) = ready.fits p (back rd (suc k)) rest here in
      let a : addr base p ≡ base + 4 * p = address h ls base ready s holds p n (back rd (suc k)) rest here in
      let d : suc (4 * k + 3) ≤ addr base p = subst (λ x. suc (4 * k + 3) ≤ x) (sym a) (omega arith) in
      let e : addr base p - suc (4 * k + 3) ≡ base + 4 * (p - suc k) = ap (λ x. x - suc (4 * k + 3)) a ∙ omega arith in
      next_led (back rd (suc k)) here (with_x rd ((base + 4 * (p - suc k)) % 2 ^ 64) s) (unmoved s.mem)
      (exec-adr-back h (at (addr base p) n s) (suc (4 * k + 3)) rd (omega arith) (omega arith) d ∙ ap (λ v. done (with_x rd (v % 2 ^ 64) (at (addr base p) n s))) e)

  load_does : (rt v : ℕ) → drop p ls ≡ load rt v ∷ rest → Led h ls base s p n (suc p) rest (with_x rt v s)
  unfolding instr
  load_does rt v here =
      let ws : List ℕ = lines_words ls in
      let now : State = at (addr base p) n s in
      let j : ℕ = find_in ls v in
      let f : (v < 2 ^ 64) × (j < p + 2 ^ 18) = ready.fits p (load rt v) rest here in
      let q : has v (pool_in [] ls) ≡ true = pooled [] ls p rt v rest here in
      let i : (length ls ≤ j) × (suc j < length ws) = literal_in ls v q in
      let l : p < length ls = drop_lt p ls (load rt v) rest here in
      let d : dist j p ≡ pos (j - p) = rw (le-ltb j p (omega arith)) in
      let m : p + (j - p) ≡ j = omega arith in
      let a : addr base p ≡ start_of s.mem code + 4 * p = address h ls base ready s holds p n (load rt v) rest here ∙ ap (λ x. x + 4 * p) (sym holds.start) in
      let c : start_of s.mem code + 4 * length ws ≤ 2 ^ 64 = subst (λ x. x + 4 * length ws ≤ 2 ^ 64) (sym holds.start) ready.ends in
      let u : (get_or ws j 0 ≡ v % 2 ^ 32) × (get_or ws (suc j) 0 ≡ v / 2 ^ 32) = literal-words ls v q in
      next_led (load rt v) here (with_x rt v s) (unmoved s.mem)
      (ap (λ z. execute h (fill (ldr rt) z) now) d
      ∙ exec-literal_ok h now ws p (j - p) rt holds.present holds.words c a (omega arith) (omega arith)
      ∙ ap (λ k. done (with_x rt (get_or ws k 0 % 2 ^ 32 + 2 ^ 32 * (get_or ws (suc k) 0 % 2 ^ 32)) now)) m
      ∙ ap (λ x. done (with_x rt x now)) (ap₂ (λ x y. x % 2 ^ 32 + 2 ^ 32 * (y % 2 ^ 32)) u.0 u.1 ∙ two_halves v f.0))

  -- THE MACHINE'S STEP IS THE LINE'S
  pub line_does : (l : Line) → drop p ls ≡ l ∷ rest → LedTo h ls base s p n (line_step (arm h base) p (l ∷ rest) s)
  unfolding line_step
  line_does (plain i) here = plain-does i here (exec h i s) refl
  line_does (over hole k) here = over-does hole k here (taken hole s) refl
  line_does (back rd k) here = back-does rd k here
  line_does (load rt v) here = load_does rt v here
