-- What is emitted and finished is the block's words in the lent room.
use Rattle.std.proofs.Common.{◌≡◌, ℕ, suc, ◌+◌, ◌*◌, ◌<◌, ◌≤◌, Bool, true, false, eqb, ltb, List, [], ◌∷◌, ◌++◌, map, length, get_or, take, replicate, sym, refl, ap, ◌∙◌, subst, ap₂, append-nil, arith, length-append, length-take-le, get_or-take, ltb-false, ltb-true, le-ltb, eqb-true, Ok, Err}
use lib.ListN.{length-map}
use lib.Seq.{append_snoc}
use Rattle.arm.specs.declared.Instr.{Instr}
use Rattle.code.specs.Items.{pick, adr, label, literal, Item, ins, go, new, bind, size, binds, add, pool_of, halves, pad_of, base_of}
use Rattle.code.specs.Items.{places_of, Below}
use Rattle.code.specs.Emit.{kind, St, lead, pooled_words, lay}
use Rattle.code.specs.Emit.{run as run_e, start as start_e, finish as finish_e}
use Rattle.code.specs.Tree.{Depth, top, Var, Code, code, lit, to, exit, block, start, ◌then◌, inside, labels, jumps, after, items}
use Rattle.code.specs.Tree.{nowhere, Line, whole_items, whole_lines, lines_words}
use Rattle.code.specs.Walk.{patches_of, completed_at, walked_words}
use Rattle.code.proofs.Emit.{raw-size, table_of, fixes_of, run-words, run-labels, run-pool, run-fixes, placed_is, table-placed}
use Rattle.code.proofs.Tree.{whole-once, whole_met, whole_below, whole-size, whole-pool, whole_length}
use Rattle.code.proofs.Order.{lay-put, lay-length}
use Rattle.code.proofs.Walk.{walked_all, walked-length, pooled_is, fixes_are, walked-lent}
use Rattle.code.proofs.Reach.{halves-length, whole-reach, emitted}
use Rattle.asm.specs.State.{label_room, fixup_room, table_room, State, parts, begin, at_most, held, run}
use Rattle.finish.specs.Finish.{patched_to, write, zeros, written, needed, before_walk, walked_to, finished, finished_words, short_of}
use Rattle.finish.specs.Whole.{laid, told, count_of, Held}
use Rattle.finish.proofs.Track.{Tracks, kept_is, held_is, news, goes, Roomy, tracks-run}
use Rattle.finish.proofs.Walk.{Loads, Goods, goods, walk}

-- ---- counts of a tree's items
news-append : (xs ys : List Item) → news (xs ++ ys) ≡ news xs + news ys
unfolding news
news-append [] ys = omega arith
news-append (ins i ∷ xs) ys = news-append xs ys
news-append (go h t ∷ xs) ys = news-append xs ys
news-append (new ∷ xs) ys = omega (arith, news-append xs ys)
news-append (bind l ∷ xs) ys = news-append xs ys

goes-append : (xs ys : List Item) → goes (xs ++ ys) ≡ goes xs + goes ys
unfolding goes
goes-append [] ys = omega arith
goes-append (ins i ∷ xs) ys = goes-append xs ys
goes-append (go h t ∷ xs) ys = omega (arith, goes-append xs ys)
goes-append (new ∷ xs) ys = goes-append xs ys
goes-append (bind l ∷ xs) ys = goes-append xs ys

news-ins : (is : List Instr) → news (map ins is) ≡ 0
unfolding news
news-ins [] = refl
news-ins (i ∷ is) = news-ins is

goes-ins : (is : List Instr) → goes (map ins is) ≡ 0
unfolding goes
goes-ins [] = refl
goes-ins (i ∷ is) = goes-ins is

news-items : {n : Depth} (c : Code n) (e : Var n → ℕ) (x l : ℕ) → news (items c e x l) ≡ labels c
unfolding news items labels
news-items (code is) e x l = news-ins is
news-items (lit rt v) e x l = refl
news-items (to h v) e x l = refl
news-items (exit h) e x l = refl
news-items (block c) e x l = omega (arith, news-append (items c (inside l e) x (suc l)) (bind l ∷ []), news-items c (inside l e) x (suc l))
news-items (start rd c) e x l = omega (arith, news-append (items c e x (suc l)) (go (adr rd) (label l) ∷ []), news-items c e x (suc l))
news-items (c then d) e x l = omega (arith, news-append (items c e x l) (items d e x (after c l)), news-items c e x l, news-items d e x (after c l))

goes-items : {n : Depth} (c : Code n) (e : Var n → ℕ) (x l : ℕ) → goes (items c e x l) ≡ jumps c
unfolding goes items jumps
goes-items (code is) e x l = goes-ins is
goes-items (lit rt v) e x l = refl
goes-items (to h v) e x l = refl
goes-items (exit h) e x l = refl
goes-items (block c) e x l = omega (arith, goes-append (items c (inside l e) x (suc l)) (bind l ∷ []), goes-items c (inside l e) x (suc l))
goes-items (start rd c) e x l = omega (arith, goes-append (items c e x (suc l)) (go (adr rd) (label l) ∷ []), goes-items c e x (suc l))
goes-items (c then d) e x l = omega (arith, goes-append (items c e x l) (items d e x (after c l)), goes-items c e x l, goes-items d e x (after c l))

loads-append : (xs ys : List Item) → Loads xs → Loads ys → Loads (xs ++ ys)
unfolding Loads
loads-append [] ys h k = k
loads-append (ins i ∷ xs) ys h k = loads-append xs ys h k
loads-append (go g (label l) ∷ xs) ys h k = loads-append xs ys h k
loads-append (go g (literal v) ∷ xs) ys h k = (h.0, loads-append xs ys h.1 k)
loads-append (new ∷ xs) ys h k = loads-append xs ys h k
loads-append (bind l ∷ xs) ys h k = loads-append xs ys h k

loads-ins : (is : List Instr) → Loads (map ins is)
unfolding Loads
loads-ins [] = tt
loads-ins (i ∷ is) = loads-ins is

loads : {n : Depth} (c : Code n) (e : Var n → ℕ) (x l : ℕ) → Loads (items c e x l)
unfolding Loads items kind
loads (code is) e x l = loads-ins is
loads (lit rt v) e x l = (refl, tt)
loads (to h v) e x l = tt
loads (exit h) e x l = tt
loads (block c) e x l = loads-append (items c (inside l e) x (suc l)) (bind l ∷ []) (loads c (inside l e) x (suc l)) tt
loads (start rd c) e x l = loads-append (items c e x (suc l)) (go (adr rd) (label l) ∷ []) (loads c e x (suc l)) tt
loads (c then d) e x l = loads-append (items c e x l) (items d e x (after c l)) (loads c e x l) (loads d e x (after c l))

-- ---- of a whole block
module _ (c : Code top) (end : List Instr) where
  whole-news : news (whole_items c end) ≡ suc (labels c)
  unfolding news whole_items
  whole-news = omega (arith, news-append (items c nowhere 0 1) (bind 0 ∷ map ins end), news-items c nowhere 0 1, news-ins end)

  whole-goes : goes (whole_items c end) ≡ jumps c
  unfolding goes whole_items
  whole-goes = omega (arith, goes-append (items c nowhere 0 1) (bind 0 ∷ map ins end), goes-items c nowhere 0 1, goes-ins end)

  whole-loads : Loads (whole_items c end)
  unfolding Loads whole_items
  whole-loads = loads-append (items c nowhere 0 1) (bind 0 ∷ map ins end) (loads c nowhere 0 1) (loads-ins end)

below-binds : (n l : ℕ) (is : List Item) → Below n is → binds l is ≡ true → l < n
unfolding Below binds
below-binds n l [] w q = absurd (let y : ◌≡◌ {A = ℕ} 0 1 = cc in omega arith)
below-binds n l (ins i ∷ is) w q = below-binds n l is w q
below-binds n l (go h t ∷ is) w q = below-binds n l is w q
below-binds n l (new ∷ is) w q = below-binds n l is w q
below-binds n l (bind m ∷ is) w q = by (λ y. below-binds n l is w.1 y) (eqb l m) refl q
  where
    by : (binds l is ≡ true → l < n) → (r : Bool) → eqb l m ≡ r → pick r true (binds l is) ≡ true → l < n
    by rec true e x = subst (λ k. k < n) (sym (eqb-true l m e)) w.0
    by rec false e x = rec x

fixes-length : (q : ℕ) (ps : List ℕ) (is : List Item) → length (fixes_of q ps is) ≡ goes is
unfolding fixes_of goes
fixes-length q ps [] = refl
fixes-length q ps (ins i ∷ is) = fixes-length (suc q) ps is
fixes-length q ps (go h (label l) ∷ is) = ap suc (fixes-length (suc q) ps is)
fixes-length q ps (go h (literal v) ∷ is) = ap suc (fixes-length (suc q) (add v ps) is)
fixes-length q ps (new ∷ is) = fixes-length q ps is
fixes-length q ps (bind l ∷ is) = fixes-length q ps is

-- a block's patches are its fix-ups, one for each word with a distance
module _ (c : Code top) (end : List Instr) where
  patches-fixes : (table : List ℕ) → length (patches_of (whole_lines c end)) ≡ length (run_e (whole_items c end) (start_e table)).fixes
  patches-fixes table = ap length (sym (fixes_are table c end)) ∙ length-map (run_e (whole_items c end) (start_e table)).fixes _

  pub patches-jumps : length (patches_of (whole_lines c end)) ≡ jumps c
  unfolding start_e
  patches-jumps =
      patches-fixes [] ∙ ap length (run-fixes (whole_items c end) (start_e [])) ∙ fixes-length 0 [] (whole_items c end) ∙ whole-goes c end

-- ---- the lists
write-lay : (xs ys lent : List ℕ) → write (length xs) ys (lay xs lent) ≡ lay (xs ++ ys) lent
unfolding write
write-lay xs [] lent = ap (λ l. lay l lent) (sym (append-nil xs))
write-lay xs (y ∷ ys) lent =
    ap (write (suc (length xs)) ys) (lay-put xs lent y) ∙ ap (λ n. write n ys (lay (xs ++ (y ∷ [])) lent)) (sym (snoc xs y)) ∙ write-lay (xs ++ (y ∷ [])) ys lent
    ∙ ap (λ l. lay l lent) (append_snoc xs y ys)
  where
    snoc : (xs : List ℕ) (a : ℕ) → length (xs ++ (a ∷ [])) ≡ suc (length xs)
    snoc xs a = length-append xs (a ∷ []) ∙ omega arith

pick_same : {A : Type 0} (m m' n n' : ℕ) (x x' y y' : A) → m ≡ m' → n ≡ n' → x ≡ x' → y ≡ y' → pick (ltb m n) x y ≡ pick (ltb m' n') x' y'
pick_same m m' n n' x x' y y' a c d e = ap₂ (λ (u v : ℕ). pick (ltb u v) x y) a c ∙ ap₂ (λ u v. pick (ltb m' n') u v) d e

-- ---- THE BLOCK
module _ (tab : List ℕ) (full : length tab ≡ table_room) (c : Code top) (end : List Instr) (h : Held c end) where
  abbrev is : List Item
  is = whole_items c end

  abbrev table : List ℕ
  table = take label_room tab

  abbrev p : St
  p = run_e is (start_e table)

  abbrev ls : List Line
  ls = whole_lines c end

  abbrev base : ℕ
  base = base_of (length p.words) p.pool

  size_is : size is ≡ length (whole_lines c end)
  size_is = whole_length c end

  table-length : length table ≡ label_room
  table-length = length-take-le label_room tab (omega arith)

  below : Below label_room is
  below = whole_below label_room c end h.labels

  words-length : length p.words ≡ size is
  unfolding start_e
  words-length = ap length (run-words is (start_e table)) ∙ raw-size is

  roomy : Roomy is (start_e table)
  unfolding start_e
  roomy = record {
    words = omega (arith, size_is, h.short);
    made = omega (arith, whole-news c end, h.labels);
    fixes = omega (arith, whole-goes c end, h.jumps);
    pool = rw (whole-pool c end) h.literals;
    labels = below;
  }

  -- each fix-up is whole, and reaches
  whole-goods : Goods (lead (table_of 0 table is) (base_of (size is) (pool_of [] is))) (fixes_of 0 [] is)
  unfolding lead places_of
  whole-goods =
      goods (lead (table_of 0 table is) (base_of (size is) (pool_of [] is))) (places_of is) (pool_of [] is) is
      (λ l q. placed_is l 0 (λ k. get_or (table_of 0 table is) k 0) is (table-placed 0 table is (whole-once c end) (subst (λ n. Below n is) (sym table-length) below)) q)
      (λ v i k. ap (λ n. base_of (size is) (pool_of [] is) + 2 * n) (sym k.place))
      (λ l q. below-binds label_room l is below q) (rw (whole-pool c end) h.literals)
      0 [] is refl (omega (arith, size_is, h.short))
      (whole-reach c end h.tests (omega (arith, whole-size c end, size_is, ap length (whole-pool c end), h.short)))
      (whole-loads c end) (whole_met c end)

  goods_are : Goods (lead p.labels base) p.fixes
  unfolding start_e
  goods_are = rw (run-words is (start_e table), run-labels is (start_e table), run-fixes is (start_e table), run-pool is (start_e table), raw-size is) whole-goods

  fixes-few : length p.fixes ≤ fixup_room
  unfolding start_e
  fixes-few = omega (arith, ap length (run-fixes is (start_e table)), fixes-length 0 [] is, whole-goes c end, h.jumps)

  finish_is : finish_e p ≡ lines_words (whole_lines c end)
  finish_is = emitted table c end (rw table-length h.labels) h.fine h.sound h.tests h.short

  finish-length : length (lines_words (whole_lines c end)) ≡ base + 2 * length p.pool
  unfolding walked_words completed_at base_of
  finish-length =
      sym (walked-length ls 0) ∙ ap length (sym (pooled_is table c end))
      ∙ length-append p.words (pad_of (length p.words) p.pool ++ halves p.pool)
      ∙ omega (arith, length-append (pad_of (length p.words) p.pool) (halves p.pool), halves-length p.pool)

  module _ (lent : List ℕ) where
    abbrev s : State
    s = run is (parts lent tab begin)

    begun : Tracks lent (parts lent tab begin) (start_e table)
    unfolding start_e
    begun = record {
      words = refl;
      at = refl;
      made = refl;
      fixups = refl;
      literals = refl;
      table = full;
      labels_length = table-length;
      few = omega arith;
      labels = λ l m. sym (get_or-take label_room tab l 0 m);
      pool = λ i m. absurd (omega arith);
      fixes = λ n m. absurd (omega arith);
    }

    tracks : Tracks lent s p
    tracks = tracks-run lent is (parts lent tab begin) (start_e table) begun roomy

    written_is : written s ≡ length p.words
    written_is = ap (at_most 1048576) tracks.at ∙ rw (le-ltb 1048576 (length p.words) (omega (arith, words-length, size_is, h.short)))

    base_is : base_of (written s) (held s) ≡ base
    base_is = ap₂ base_of written_is (held_is lent s p tracks)

    needed_is : needed s ≡ length (lines_words (whole_lines c end))
    unfolding needed
    needed_is = ap₂ (λ (m n : ℕ). m + 2 * n) base_is (kept_is lent s p tracks) ∙ sym finish-length

    room_is : length s.words ≡ length lent
    room_is = ap length tracks.words ∙ lay-length p.words lent

    fixups_are : at_most fixup_room s.asm.fixups ≡ length p.fixes
    unfolding start_e
    fixups_are = ap (at_most fixup_room) tracks.fixups ∙ rw (le-ltb fixup_room (length p.fixes) (omega (arith, fixes-few)))

    laid_out : before_walk s ≡ lay (pooled_words p) lent
    laid_out =
        ap₂ (λ (n : ℕ) (ps : List ℕ). write n (pad_of n ps ++ halves ps) s.words) written_is (held_is lent s p tracks)
        ∙ ap (write (length p.words) (pad_of (length p.words) p.pool ++ halves p.pool)) tracks.words
        ∙ write-lay p.words (pad_of (length p.words) p.pool ++ halves p.pool) lent

    -- THE FIRST n PATCHES in the lent words, of as many as there are
    pub walked : (n : ℕ) → n ≤ length p.fixes → walked_to n s ≡ lay (walked_words n ls) lent
    walked n m =
        ap₂ (λ (x : ℕ) (ws : List ℕ). patched_to s.tab x n ws) base_is laid_out
        ∙ walk s.tab p.labels base tracks.labels p.fixes n (lay (pooled_words p) lent) m goods_are tracks.fixes
        ∙ walked-lent table c end finish_is n lent

    words_are : (n : ℕ) → walked_to (at_most fixup_room (at_most s.asm.fixups n)) s ≡ lay (walked_words n ls) lent
    words_are n = by (ltb s.asm.fixups n) refl
      where
        by : (t : Bool) → ltb s.asm.fixups n ≡ t → walked_to (at_most fixup_room (pick t s.asm.fixups n)) s ≡ lay (walked_words n ls) lent
        by true e =
            let l : length (patches_of ls) ≤ n = omega (arith, ltb-true s.asm.fixups n e, tracks.fixups, patches-fixes c end table) in
            ap (λ m. walked_to m s) fixups_are
            ∙ walked (length p.fixes) (omega arith)
            ∙ ap (λ ws. lay ws lent)
            (walked_all ls (length p.fixes) (omega (arith, patches-fixes c end table)) ∙ sym (walked_all ls n l))
        by false e =
            let l : n ≤ length p.fixes = omega (arith, ltb-false s.asm.fixups n e, tracks.fixups) in
            ap (λ m. walked_to m s) (rw (le-ltb fixup_room n (omega (arith, fixes-few)))) ∙ walked n l

    -- THE LENT WORDS ARE THE BLOCK'S BEHIND SO MANY PATCHES, or zeros, and the answer tells how many
    pub finished-block : ((n : ℕ) → finished_words n s ≡ laid (walked_words n ls) lent) × (finished s ≡ told (lines_words ls) lent)
    unfolding finished finished_words laid told zeros
    finished-block = (
      λ n.
          pick_same (length s.words) (length lent) (needed s) (length (walked_words n ls)) _ _ _ _ room_is (needed_is ∙ sym (walked-length ls n))
          (ap (λ n. replicate n 0) room_is) (words_are n),
      pick_same (length s.words) (length lent) (needed s) (length (lines_words ls)) _ _ _ _ room_is needed_is
          (ap (λ n. Err (short_of n)) needed_is) (ap Ok needed_is),
    )

-- words that fit are laid
pub laid-fits : (ws lent : List ℕ) → length ws ≤ length lent → laid ws lent ≡ lay ws lent
unfolding laid
laid-fits ws lent h = rw (le-ltb (length lent) (length ws) h)

-- whatever is lent, the number told is that of the words
pub count-told : (ws lent : List ℕ) → count_of (told ws lent) ≡ length ws
unfolding told
count-told ws lent = by (ltb (length lent) (length ws))
  where
    by : (t : Bool) → count_of (pick t (Err (short_of (length ws))) (Ok (length ws))) ≡ length ws
    by true = refl
    by false = refl
