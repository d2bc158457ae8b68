-- ONE WALK OVER THE PATCHES: behind each patch the words up to it are final and those behind it as before; and what the assembler patches
-- is this walk, fix-up by fix-up.
use mathlib.Core.Path.{◌≡◌, refl, sym, ap, ap₂, ◌∙◌}
use mathlib.Core.Bool.{Bool, true, false}
use mathlib.Core.List.{List, [], ◌∷◌, ◌++◌, map, append-nil, map-append}
use Prim.Native.Nat.{ℕ, zero, suc, ◌+◌, ◌<◌, ◌≤◌}
use native.Mathlib.Omega.{arith}
use lib.IntN.{pos}
use lib.ListN.{length, get_or, set, take, drop, length-append, length-map, length-set, take-append-drop}
use lib.Seq.{take_all, take-append-le, drop-append-le, take-set-le, drop-set-lt, append_snoc, set_at, get_or_at}
use Rattle.arm.specs.declared.Instr.{Instr}
use Rattle.arm.specs.Instr.{encode}
use Rattle.code.specs.Items.{pick, b, adr, ldr, fill, label, literal, Item, ins, go, new, bind}
use Rattle.code.specs.Items.{index, add, halves, pad_of, base_of, Rise}
use Rattle.code.specs.Tree.{Depth, top, Var, Code, code, lit, to, exit, block, start, ◌then◌, inside, words, lines, after, items}
use Rattle.code.specs.Tree.{nowhere, whole_items, whole_lines, Line, plain, over, back, load, instrs, pool_in, find_in, lines_words}
use Rattle.code.specs.Emit.{St, patch_all, pooled_words, leads, fixes_at, run, finish, lay}
use Rattle.code.specs.Emit.{start as begin}
use Rattle.code.specs.Walk.{names_place, lines_at, patches_of, unpatched, unpatched_words, completed_at, walked_words, up_to, OneWalk}
use Rattle.code.proofs.Emit.{raw, fixes_of, run-words, run-pool, run-fixes}
use Rattle.code.proofs.Tree.{whole-pool}
use Rattle.code.proofs.Order.{rise_le, rise_from, lay-fits, walk-lent}

-- ---- rising positions, up to one of them and behind it
rise_take : (p q : ℕ) (xs : List ℕ) (n : ℕ) → n < length xs → Rise p q xs → Rise p (suc (get_or xs n 0)) (take (suc n) xs)
rise_take p q [] n h r = absurd (omega arith)
rise_take p q (x ∷ xs) zero h r = (r.0, omega arith)
rise_take p q (x ∷ xs) (suc n) h r = (r.0, rise_take (suc x) q xs n (omega arith) r.1)

rise_drop : (p q : ℕ) (xs : List ℕ) (n : ℕ) → n < length xs → Rise p q xs → Rise (suc (get_or xs n 0)) q (drop (suc n) xs)
rise_drop p q [] n h r = absurd (omega arith)
rise_drop p q (x ∷ xs) zero h r = r.1
rise_drop p q (x ∷ xs) (suc n) h r = rise_drop (suc x) q xs n (omega arith) r.1

lines_rise : (kind : Line → Bool) (p q : ℕ) (ls : List Line) → p + length ls ≤ q → Rise p q (lines_at kind p ls)
unfolding lines_at
lines_rise kind p q [] h = omega arith
lines_rise kind p q (l ∷ ls) h = by (kind l) (lines_rise kind (suc p) q ls (omega arith))
  where
    by : (t : Bool) → Rise (suc p) q (lines_at kind (suc p) ls) → Rise p q (pick t (p ∷ lines_at kind (suc p) ls) (lines_at kind (suc p) ls))
    by true r = (omega arith, r)
    by false r = rise_from p (suc p) q (lines_at kind (suc p) ls) (omega arith) r

-- ---- patches by position
module _ (final : List ℕ) where
  completed-append : (ps qs ws : List ℕ) → completed_at (ps ++ qs) final ws ≡ completed_at qs final (completed_at ps final ws)
  unfolding completed_at
  completed-append [] qs ws = refl
  completed-append (p ∷ ps) qs ws = completed-append ps qs (set ws p (get_or final p 0))

  completed-length : (ps ws : List ℕ) → length (completed_at ps final ws) ≡ length ws
  unfolding completed_at
  completed-length [] ws = refl
  completed-length (p ∷ ps) ws = completed-length ps (set ws p (get_or final p 0)) ∙ length-set ws p (get_or final p 0)

  -- patches from p on leave the words before p, patches below q those from q on
  kept-before : (p q : ℕ) (ps ws : List ℕ) → Rise p q ps → take p (completed_at ps final ws) ≡ take p ws
  unfolding completed_at
  kept-before p q [] ws r = refl
  kept-before p q (x ∷ ps) ws r =
      kept-before p q ps (set ws x (get_or final x 0)) (rise_from p (suc x) q ps (omega (arith, r.0)) r.1)
      ∙ take-set-le p ws x (get_or final x 0) r.0

  kept-behind : (p q : ℕ) (ps ws : List ℕ) → Rise p q ps → drop q (completed_at ps final ws) ≡ drop q ws
  unfolding completed_at
  kept-behind p q [] ws r = refl
  kept-behind p q (x ∷ ps) ws r =
      kept-behind (suc x) q ps (set ws x (get_or final x 0)) r.1
      ∙ drop-set-lt q ws x (get_or final x 0) (rise_le (suc x) q ps r.1)

-- ---- all patches leave the lines' words
abbrev bare_words : List Line → List ℕ
bare_words ls = map (λ l. encode (unpatched l)) ls

-- words `pre`, the lines' from there on, words `post`: final, and unpatched
abbrev final_in : (ℕ → ℕ) → ℕ → List Line → (pre post : List ℕ) → List ℕ
final_in find p ls pre post = pre ++ (map encode (instrs find p ls) ++ post)

abbrev bare_in : List Line → (pre post : List ℕ) → List ℕ
bare_in ls pre post = pre ++ (bare_words ls ++ post)

Completed : (ℕ → ℕ) → ℕ → List Line → Type 0
Completed find p ls =
    (pre post : List ℕ) → length pre ≡ p
    → completed_at (lines_at names_place p ls) (final_in find p ls pre post) (bare_in ls pre post) ≡ final_in find p ls pre post

module _ (find : ℕ → ℕ) (p : ℕ) (ls : List Line) (rec : Completed find (suc p) ls) (pre post : List ℕ) (e : length pre ≡ p) where
  abbrev rest : List ℕ
  rest = map encode (instrs find (suc p) ls) ++ post

  abbrev bare-rest : List ℕ
  bare-rest = bare_words ls ++ post

  -- the head's word is final, and the rest goes on behind it
  behind : (w : ℕ) → completed_at (lines_at names_place (suc p) ls) (pre ++ (w ∷ rest)) (pre ++ (w ∷ bare-rest)) ≡ pre ++ (w ∷ rest)
  unfolding Completed
  behind w =
      ap₂ (completed_at (lines_at names_place (suc p) ls)) (sym (append_snoc pre w rest)) (sym (append_snoc pre w bare-rest))
      ∙ rec (pre ++ (w ∷ [])) post (length-append pre (w ∷ []) ∙ omega arith) ∙ append_snoc pre w rest

  -- a word with a distance is put in its place
  one : (w v : ℕ) → completed_at (p ∷ lines_at names_place (suc p) ls) (pre ++ (w ∷ rest)) (pre ++ (v ∷ bare-rest)) ≡ pre ++ (w ∷ rest)
  unfolding completed_at
  one w v =
      ap (completed_at (lines_at names_place (suc p) ls) (pre ++ (w ∷ rest)))
      (ap (set (pre ++ (v ∷ bare-rest)) p) (get_or_at pre w rest 0 p e) ∙ set_at pre v bare-rest w p e)
      ∙ behind w

completed : (find : ℕ → ℕ) (p : ℕ) (ls : List Line) → Completed find p ls
unfolding Completed lines_at instrs completed_at
completed find p [] pre post e = refl
completed find p (plain i ∷ ls) pre post e = behind find p ls (completed find (suc p) ls) pre post e (encode i)
completed find p (over h n ∷ ls) pre post e = one find p ls (completed find (suc p) ls) pre post e _ _
completed find p (back rd n ∷ ls) pre post e = one find p ls (completed find (suc p) ls) pre post e _ _
completed find p (load rt v ∷ ls) pre post e = one find p ls (completed find (suc p) ls) pre post e _ _

-- ---- THE WALK
module _ (ls : List Line) where
  rises : Rise 0 (length ls) (patches_of ls)
  unfolding patches_of
  rises = lines_rise names_place 0 (length ls) ls (omega arith)

  whole : completed_at (patches_of ls) (lines_words ls) (unpatched_words ls) ≡ lines_words ls
  unfolding patches_of lines_words unpatched_words Completed
  whole = completed (find_in ls) 0 ls [] (pad_of (length ls) (pool_in [] ls) ++ halves (pool_in [] ls)) refl

  pub walked_all : (n : ℕ) → length (patches_of ls) ≤ n → walked_words n ls ≡ lines_words ls
  unfolding walked_words
  walked_all n h = ap (λ ps. completed_at ps (lines_words ls) (unpatched_words ls)) (take_all n (patches_of ls) h) ∙ whole

  bare-length : length (unpatched_words ls) ≡ length (lines_words ls)
  bare-length = sym (completed-length (lines_words ls) (patches_of ls) (unpatched_words ls)) ∙ ap length whole

  pub walked-length : (n : ℕ) → length (walked_words n ls) ≡ length (lines_words ls)
  unfolding walked_words
  walked-length n = completed-length (lines_words ls) (take n (patches_of ls)) (unpatched_words ls) ∙ bare-length

  -- behind patch number m
  module _ (m : ℕ) (h : m < length (patches_of ls)) where
    abbrev q : ℕ
    q = up_to ls m

    in_words : q ≤ length (lines_words ls)
    unfolding unpatched_words
    in_words =
        omega (
          arith,
          rise_le q (length ls) (drop (suc m) (patches_of ls)) (rise_drop 0 (length ls) (patches_of ls) m h rises),
          bare-length,
          length-append (bare_words ls) (pad_of (length ls) (pool_in [] ls) ++ halves (pool_in [] ls)),
          length-map ls (λ l. encode (unpatched l)),
        )

    up-to : take q (walked_words (suc m) ls) ≡ take q (lines_words ls)
    unfolding walked_words
    up-to =
        let ps : List ℕ = patches_of ls in
        sym (kept-before (lines_words ls) q (length ls) (drop (suc m) ps) (walked_words (suc m) ls) (rise_drop 0 (length ls) ps m h rises))
        ∙ ap (take q)
        (sym (completed-append (lines_words ls) (take (suc m) ps) (drop (suc m) ps) (unpatched_words ls))
        ∙ ap (λ qs. completed_at qs (lines_words ls) (unpatched_words ls)) (take-append-drop (suc m) ps)
        ∙ whole)

    from_there : drop q (walked_words (suc m) ls) ≡ drop q (unpatched_words ls)
    unfolding walked_words
    from_there =
        let ps : List ℕ = patches_of ls in
        kept-behind (lines_words ls) 0 q (take (suc m) ps) (unpatched_words ls) (rise_take 0 (length ls) ps m h rises)

-- ---- in a room that is large enough
lay-take : (k : ℕ) (xs lent : List ℕ) → k ≤ length xs → length xs ≤ length lent → take k (lay xs lent) ≡ take k xs
lay-take k xs lent h l = ap (take k) (lay-fits xs lent l) ∙ take-append-le k xs (drop (length xs) lent) h

lay-drop : (k : ℕ) (xs lent : List ℕ) → k ≤ length xs → length xs ≤ length lent → drop k (lay xs lent) ≡ drop k xs ++ drop (length xs) lent
lay-drop k xs lent h l = ap (drop k) (lay-fits xs lent l) ∙ drop-append-le k xs (drop (length xs) lent) h

-- THE WALK IN A LENT ROOM
module _ (ls : List Line) (lent : List ℕ) (fits : length (lines_words ls) ≤ length lent) where
  stopped-final : (m : ℕ) (h : m < length (patches_of ls)) → take (up_to ls m) (lay (walked_words (suc m) ls) lent) ≡ take (up_to ls m) (lines_words ls)
  stopped-final m h =
      let e : length (walked_words (suc m) ls) ≡ length (lines_words ls) = walked-length ls (suc m) in
      lay-take (up_to ls m) (walked_words (suc m) ls) lent (omega (arith, in_words ls m h)) (omega arith) ∙ up-to ls m h

  stopped-before : (m : ℕ) (h : m < length (patches_of ls))
      → drop (up_to ls m) (lay (walked_words (suc m) ls) lent) ≡ drop (up_to ls m) (lay (unpatched_words ls) lent)
  stopped-before m h =
      let e : length (walked_words (suc m) ls) ≡ length (unpatched_words ls) = walked-length ls (suc m) ∙ sym (bare-length ls) in
      let f : length (unpatched_words ls) ≡ length (lines_words ls) = bare-length ls in
      lay-drop (up_to ls m) (walked_words (suc m) ls) lent (omega (arith, in_words ls m h)) (omega arith)
      ∙ ap₂ (λ (xs : List ℕ) (n : ℕ). xs ++ drop n lent) (from_there ls m h) e
      ∙ sym (lay-drop (up_to ls m) (unpatched_words ls) lent (omega (arith, in_words ls m h)) (omega arith))

  pub one_walk : (n : ℕ) → OneWalk ls n lent (lay (walked_words n ls) lent)
  unfolding walked_words completed_at
  one_walk n = record {
    rising = rises ls;
    first = λ e. rw e;
    final = λ m e h. rw e (stopped-final m h);
    before = λ m e h. rw e (stopped-before m h);
    all = λ h. ap (λ ws. lay ws lent) (walked_all ls n h);
  }

-- ---- WHAT IS EMITTED: the items' words and fix-ups are those of the lines, whatever the distances
-- a line without its distance
bare : Line → Line
bare (plain i) = plain i
bare (over h n) = over h 0
bare (back rd n) = over (adr rd) 0
bare (load rt v) = over (ldr rt) 0

bare_of : List Item → List Line
bare_of [] = []
bare_of (ins i ∷ is) = plain i ∷ bare_of is
bare_of (go h t ∷ is) = over h 0 ∷ bare_of is
bare_of (new ∷ is) = bare_of is
bare_of (bind l ∷ is) = bare_of is

bare-append : (xs ys : List Item) → bare_of (xs ++ ys) ≡ bare_of xs ++ bare_of ys
unfolding bare_of
bare-append [] ys = refl
bare-append (ins i ∷ xs) ys = ap {B = List Line} (λ r. plain i ∷ r) (bare-append xs ys)
bare-append (go h t ∷ xs) ys = ap {B = List Line} (λ r. over h 0 ∷ r) (bare-append xs ys)
bare-append (new ∷ xs) ys = bare-append xs ys
bare-append (bind l ∷ xs) ys = bare-append xs ys

bare-ins : (is : List Instr) → bare_of (map ins is) ≡ map bare (map plain is)
unfolding bare_of bare
bare-ins [] = refl
bare-ins (i ∷ is) = ap {B = List Line} (λ r. plain i ∷ r) (bare-ins is)

bare-items : {n : Depth} (c : Code n) (e : Var n → ℕ) (x l : ℕ) (d : Var n → ℕ) (y : ℕ) → bare_of (items c e x l) ≡ map bare (lines c d y)
unfolding bare_of bare items lines
bare-items (code is) e x l d y = bare-ins is
bare-items (lit rt v) e x l d y = refl
bare-items (to h v) e x l d y = refl
bare-items (exit h) e x l d y = refl
bare-items (block c) e x l d y =
    bare-append (items c (inside l e) x (suc l)) (bind l ∷ []) ∙ append-nil (bare_of (items c (inside l e) x (suc l)))
    ∙ bare-items c (inside l e) x (suc l) (inside 0 d) y
bare-items (start rd c) e x l d y =
    bare-append (items c e x (suc l)) (go (adr rd) (label l) ∷ [])
    ∙ ap (λ r. r ++ (over (adr rd) 0 ∷ [])) (bare-items c e x (suc l) (λ v. suc (d v)) (suc y))
    ∙ sym (map-append bare (lines c (λ v. suc (d v)) (suc y)) (back rd (words c) ∷ []))
bare-items (c then k) e x l d y =
    bare-append (items c e x l) (items k e x (after c l))
    ∙ ap₂ (λ (r s : List Line). r ++ s) (bare-items c e x l (λ v. words k + d v) (words k + y)) (bare-items k e x (after c l) d y)
    ∙ sym (map-append bare (lines c (λ v. words k + d v) (words k + y)) (lines k d y))

bare-whole : (c : Code top) (end : List Instr) → bare_of (whole_items c end) ≡ map bare (whole_lines c end)
unfolding bare_of whole_items whole_lines
bare-whole c end =
    bare-append (items c nowhere 0 1) (bind 0 ∷ map ins end)
    ∙ ap₂ (λ (r s : List Line). r ++ s) (bare-items c nowhere 0 1 nowhere 0) (bare-ins end)
    ∙ sym (map-append bare (lines c nowhere 0) (map plain end))

-- the words, and the positions of the fix-ups
raw-bare : (is : List Item) → raw is ≡ bare_words (bare_of is)
unfolding raw bare_of
raw-bare [] = refl
raw-bare (ins i ∷ is) = ap {B = List ℕ} (λ r. encode i ∷ r) (raw-bare is)
raw-bare (go h t ∷ is) = ap {B = List ℕ} (λ r. encode (fill h (pos 0)) ∷ r) (raw-bare is)
raw-bare (new ∷ is) = raw-bare is
raw-bare (bind l ∷ is) = raw-bare is

fixes-bare : (p : ℕ) (ps : List ℕ) (is : List Item) → fixes_at (fixes_of p ps is) ≡ lines_at names_place p (bare_of is)
unfolding fixes_of bare_of lines_at
fixes-bare p ps [] = refl
fixes-bare p ps (ins i ∷ is) = fixes-bare (suc p) ps is
fixes-bare p ps (go h (label l) ∷ is) = ap {B = List ℕ} (λ r. p ∷ r) (fixes-bare (suc p) ps is)
fixes-bare p ps (go h (literal v) ∷ is) = ap {B = List ℕ} (λ r. p ∷ r) (fixes-bare (suc p) (add v ps) is)
fixes-bare p ps (new ∷ is) = fixes-bare p ps is
fixes-bare p ps (bind l ∷ is) = fixes-bare p ps is

words-bare : (ls : List Line) → bare_words (map bare ls) ≡ bare_words ls
unfolding bare
words-bare [] = refl
words-bare (plain i ∷ ls) = ap {B = List ℕ} (λ r. encode i ∷ r) (words-bare ls)
words-bare (over h n ∷ ls) = ap {B = List ℕ} (λ r. encode (fill h (pos 0)) ∷ r) (words-bare ls)
words-bare (back rd n ∷ ls) = ap {B = List ℕ} (λ r. encode (fill (adr rd) (pos 0)) ∷ r) (words-bare ls)
words-bare (load rt v ∷ ls) = ap {B = List ℕ} (λ r. encode (fill (ldr rt) (pos 0)) ∷ r) (words-bare ls)

lines-bare : (p : ℕ) (ls : List Line) → lines_at names_place p (map bare ls) ≡ lines_at names_place p ls
unfolding lines_at bare
lines-bare p [] = refl
lines-bare p (plain i ∷ ls) = lines-bare (suc p) ls
lines-bare p (over h n ∷ ls) = ap {B = List ℕ} (λ r. p ∷ r) (lines-bare (suc p) ls)
lines-bare p (back rd n ∷ ls) = ap {B = List ℕ} (λ r. p ∷ r) (lines-bare (suc p) ls)
lines-bare p (load rt v ∷ ls) = ap {B = List ℕ} (λ r. p ∷ r) (lines-bare (suc p) ls)

-- THE ASSEMBLER'S PATCHES IN THE LENT WORDS ARE THE WALK, for any structured code whose words are the lines' words
module _ (table : List ℕ) (c : Code top) (end : List Instr) where
  abbrev s : St
  s = run (whole_items c end) (begin table)

  pub pooled_is : pooled_words s ≡ unpatched_words (whole_lines c end)
  unfolding begin unpatched_words
  pooled_is = rw (words_are, pool_is, length-map (whole_lines c end) (λ l. encode (unpatched l)))
    where
      words_are : s.words ≡ bare_words (whole_lines c end)
      words_are =
          run-words (whole_items c end) (begin table) ∙ raw-bare (whole_items c end)
          ∙ ap bare_words (bare-whole c end) ∙ words-bare (whole_lines c end)

      pool_is : s.pool ≡ pool_in [] (whole_lines c end)
      pool_is = run-pool (whole_items c end) (begin table) ∙ whole-pool c end

  pub fixes_are : fixes_at s.fixes ≡ patches_of (whole_lines c end)
  unfolding begin patches_of
  fixes_are =
      ap fixes_at (run-fixes (whole_items c end) (begin table)) ∙ fixes-bare 0 [] (whole_items c end)
      ∙ ap (lines_at names_place 0) (bare-whole c end) ∙ lines-bare 0 (whole_lines c end)

  pub walked-lent : finish s ≡ lines_words (whole_lines c end) → (n : ℕ) (lent : List ℕ)
      → patch_all (leads s) (take n s.fixes) (lay (pooled_words s) lent) ≡ lay (walked_words n (whole_lines c end)) lent
  unfolding walked_words
  walked-lent f n lent = walk-lent table (whole_items c end) n lent ∙ rw (f, pooled_is, fixes_are)

-- ---- AN EXAMPLE: a branch over the next word, a literal's load, a nop; behind them a nop and the literal
abbrev three : List Line
three = over b 1 ∷ load 9 0x1111222233334444 ∷ plain Instr.Nop ∷ []

pub patches-computed : patches_of three ≡ 0 ∷ 1 ∷ []
unfolding patches_of lines_at
patches-computed = refl

pub walk-computed : (walked_words 0 three ≡ 0x14000000 ∷ 0x58000009 ∷ 0xd503201f ∷ 0xd503201f ∷ 0x33334444 ∷ 0x11112222 ∷ [])
    × (walked_words 1 three ≡ 0x14000002 ∷ 0x58000009 ∷ 0xd503201f ∷ 0xd503201f ∷ 0x33334444 ∷ 0x11112222 ∷ [])
    × (walked_words 2 three ≡ 0x14000002 ∷ 0x58000069 ∷ 0xd503201f ∷ 0xd503201f ∷ 0x33334444 ∷ 0x11112222 ∷ [])
unfolding patches_of lines_at unpatched_words completed_at walked_words lines_words instrs find_in pool_in index add halves pad_of base_of
walk-computed = (refl, refl, refl)
