-- Operations in sequence: where the card leaves, their code leaves in the same way.
--     ops-leave      the operations of a block from any position on
--     body-leaves    the block's code behind the opening words
-- Assumes nothing.
use mathlib.Core.Path.{◌≡◌, refl, sym, ap, subst, ◌∙◌}
use mathlib.Core.Bool.{Bool, true, false, cond, ◌||◌}
use mathlib.Core.Option.{none}
use mathlib.Core.List.{List, [], ◌∷◌, ◌++◌, append_assoc}
use Prim.Native.Nat.{ℕ, suc, ◌+◌, ◌^◌, ◌<◌, ◌≤◌}
use native.Mathlib.Numerals.{add-one}
use native.Mathlib.Nat.{mod-lt, min-eq_left}
use native.Mathlib.Omega.{arith}
use lib.Dec.{eqb, ltb}
use lib.ListN.{length, length-take}
use Rattle.arm.specs.declared.Size.TheVariants.{W}
use Rattle.block.specs.declared.Cond.TheVariants.{Eq, Ne}
use Rattle.block.specs.declared.Width.TheVariants.{Byte as B8, Half as B16, Word as B32}
use Rattle.block.specs.declared.Fast.{Fast}
use Rattle.block.specs.declared.Fast.TheVariants.{Nop, MovI, Mov, AddRI, ShlI, SarI, Alu3, Alu3I, Alu2, Alu2I, A4, Ext, MinMax, Un, Div}
use Rattle.block.specs.declared.Fast.TheVariants.{Mov2, Mov2I, BitExt, BitIns, SpAdd, RFromSp, Ld, St, LdIdx, StIdx, LdPost, StPost, Rmw}
use Rattle.block.specs.declared.Fast.TheVariants.{PushRet, PopRets, BrI, BrR, DecBr, BitBr, Goto, Call, Rts, GotoR, CallR, PopRet}
use Rattle.block.specs.declared.Fast.TheVariants.{BlockMove, PushRets, PopPc, LdPair, StPair, LdPre, StPre, LdPostR, MemA4, Tb}
use Rattle.block.specs.declared.Memory.{Memory}
use Rattle.block.specs.declared.BOp.{BOp}
use Rattle.block.specs.declared.Block.{Block}
use Rattle.block.specs.Block.{ops_of, may_jump, in_flash, saved}
use Rattle.block.specs.Checked.{Checked, OpsFit, NoneAfterJump}
use Rattle.code.specs.Items.{pick}
use Rattle.code.specs.Tree.{top, Code, words}
use Rattle.code.specs.Machine.{Machine, Out, fell, went, left, ended, and_then, straight, does}
use Rattle.machine.specs.State.{State, xip, R}
use Rattle.machine.specs.Memory.{bytes_of}
use Rattle.machine.specs.Execute.{Helpers}
use Rattle.card.specs.Card.{Card, arrive, reg, rhs, set_reg, add_sp, version_at}
use Rattle.card.specs.Card.{guard as card_guard}
use Rattle.card.specs.Word.{plus, minus, holds}
use Rattle.card.specs.Memory.{Access, got, unmet, ask}
use Rattle.card.specs.Memory.{load as load_card}
use lib.Bits.{bit_and}
use Rattle.card.specs.Step.{Way, exits, chains, After, on, out, starved, with_loaded, pop, ind_brk, pop_all, op_step}
use Rattle.card.specs.Step.{fork as fork_card, ind as ind_card}
use Rattle.card.specs.Run.{End, checked, ops_from, guarded, guard_test}
use Rattle.card.specs.Run.{left as leaves, and_then as then_card, run as run_card}
use Rattle.lowering.specs.declared.RegCache.{RegCache}
use Rattle.lowering.specs.Cache.{empty_cache}
use Rattle.lowering.specs.Steps.{Step, behind, op_steps, ops_steps, guard_steps, block_steps}
use Rattle.lowering.specs.Fragments.{step_code, step_cache, steps_code}
use Rattle.lowering.specs.Compile.{starts, targets}
use Rattle.relation.specs.Lines.{Stop, arm}
use Rattle.relation.specs.Abs.{Abs, Then, go, off, void, upd, kill, if_got, mstep, mrun}
use Rattle.relation.specs.Abs.{and_then as then_abs}
use Rattle.relation.specs.Relation.{Body, Sim, Leaves}
use Rattle.relation.specs.Fits.{StepFits}
use Rattle.kinds.specs.Agrees.{Agrees}
use Rattle.kinds.proofs.Agree.{op_agrees}
use Rattle.kinds.proofs.Fit.{op_fits}
use Rattle.readiness.proofs.Encodable.{op-known}
use Rattle.lowering.proofs.Targets.{targets-append}
use Rattle.simulation.proofs.Sites.{Aimed}
use Rattle.simulation.proofs.Sites.{sited as step-sited}
use Rattle.simulation.proofs.Guarded.{guard-meets}
use Rattle.simulation.proofs.Steps.{site_at, leaves_as, leaves-front, front_same, aimed_front}
use Rattle.simulation.proofs.Steps.{met_then, cache_after, step_met, StepsMet, steps_met}
use Rattle.registers.proofs.Frags.{frag_nil}

-- ---- a list of steps in two parts
module _ (b : Block) where
  starts-append : (rc : RegCache) (xs ys : List Step) (p : ℕ)
      → starts (steps_code b rc (xs ++ ys)) p
      ≡ starts (steps_code b rc xs) p ++ starts (steps_code b (cache_after rc xs) ys) (p + words (steps_code b rc xs))
  unfolding steps_code cache_after words starts
  starts-append rc [] ys p = ap (starts (steps_code b rc ys)) (omega arith)
  starts-append rc (x ∷ xs) ys p =
      let c : Code top = step_code b rc x in
      let d : Code top = steps_code b (step_cache rc x) xs in
      let e : Code top = steps_code b (cache_after (step_cache rc x) xs) ys in
      ap (λ l. starts c p ++ l) (starts-append (step_cache rc x) xs ys (p + words c))
      ∙ sym (append_assoc (starts c p) (starts d (p + words c)) (starts e (p + words c + words d)))
      ∙ ap (λ q. (starts c p ++ starts d (p + words c)) ++ starts e q) (omega arith)

  then_assoc : {S R : Type 0} (o : Out S R top) (f g : S → Out S R top) → and_then (and_then o f) g ≡ and_then o (λ s. and_then (f s) g)
  then_assoc (fell s) f g = refl
  then_assoc (went v s) f g = refl
  then_assoc (left s) f g = refl
  then_assoc (ended r) f g = refl

  then_same : {S R : Type 0} (o : Out S R top) (f g : S → Out S R top) → ((s : S) → f s ≡ g s) → and_then o f ≡ and_then o g
  then_same (fell s) f g e = e s
  then_same (went v s) f g e = refl
  then_same (left s) f g e = refl
  then_same (ended r) f g e = refl

  does-append : (M : Machine) (rc : RegCache) (xs ys : List Step) (p : ℕ) (s : M.State) → does M (steps_code b rc (xs ++ ys)) p s
      ≡ and_then (does M (steps_code b rc xs) p s) (λ s₁. does M (steps_code b (cache_after rc xs) ys) (p + words (steps_code b rc xs)) s₁)
  unfolding steps_code cache_after words does straight
  does-append M rc [] ys p s = ap (λ q. does M (steps_code b rc ys) q s) (omega arith)
  does-append M rc (x ∷ xs) ys p s =
      let c : Code top = step_code b rc x in
      let d : Code top = steps_code b (step_cache rc x) xs in
      let e : Code top = steps_code b (cache_after (step_cache rc x) xs) ys in
      then_same (does M c p s) _ _
      (λ s₁. does-append M (step_cache rc x) xs ys (p + words c) s₁
      ∙ ap (λ q. and_then (does M d (p + words c) s₁) (λ s₂. does M e q s₂)) (omega arith))
      ∙ sym (then_assoc (does M c p s) (λ s₁. does M d (p + words c) s₁) (λ s₂. does M e (p + (words c + words d)) s₂))

-- a jump does not go on
Gone : After → Type 0
Gone (on c) = ⊥
Gone (out w c) = Unit {0}
Gone starved = Unit {0}

fork_out : (u : Bool) (i next target : ℕ) (c : Card) → Gone (fork_card u i next target c)
unfolding Gone
fork_out true i next target c = tt
fork_out false i next target c = tt

loaded_out : (r : Access) (f : ℕ → Card → After) → ((v : ℕ) (c : Card) → Gone (f v c)) → Gone (with_loaded r f)
unfolding Gone
loaded_out (got v c) f h = h v c
loaded_out unmet f h = tt

looked_out : (i target : ℕ) (c : Card) → Gone (ind_brk i target c)
unfolding Gone
looked_out i target c = by (eqb c.brk 0)
  where
    by : (u : Bool) → Gone (cond u (ind_card i target c) (out exits (arrive target (suc i) c)))
    by true = tt
    by false = tt

module _ (m : Memory) (flash : List ℕ) (i : ℕ) where
  pc_out : (c : Card) → Gone (pop m flash i c (λ v c₁. ind_brk i v (add_sp 4 c₁)))
  pc_out c = loaded_out (load_card m flash i B32 false c.sp c) _ (λ v c₁. looked_out i v (add_sp 4 c₁))

  pops_out : (f : Card → After) → ((c : Card) → Gone (f c)) → (rs : List ℕ) (c : Card) → Gone (pop_all m flash i rs c f)
  unfolding pop_all
  pops_out f h [] c = h c
  pops_out f h (r ∷ rs) c = loaded_out (load_card m flash i B32 false c.sp c) _ (λ v c₁. pops_out f h rs (add_sp 4 (set_reg r v c₁)))

-- a kind that does not jump
no_jump : {A : Type 0} → false ≡ true → A
no_jump e = absurd (let z : ◌≡◌ {A = ℕ} 0 1 = cc in omega arith)

module _ (m : Memory) (flash : List ℕ) (i next : ℕ) (c : Card) where
  jump_out : (f : Fast) → may_jump f ≡ true → Gone (op_step m flash i next f c)
  unfolding op_step Gone
  jump_out Nop e = no_jump e
  jump_out (MovI d v) e = no_jump e
  jump_out (Mov d s) e = no_jump e
  jump_out (AddRI d s v) e = no_jump e
  jump_out (ShlI d s n) e = no_jump e
  jump_out (SarI d s n) e = no_jump e
  jump_out (Alu3 d a b op) e = no_jump e
  jump_out (Alu3I d a v op) e = no_jump e
  jump_out (Alu2 d b op) e = no_jump e
  jump_out (Alu2I d v op) e = no_jump e
  jump_out (A4 d s op rk rv) e = no_jump e
  jump_out (Ext d s part signed) e = no_jump e
  jump_out (MinMax d a b kind) e = no_jump e
  jump_out (Un d s k) e = no_jump e
  jump_out (Div d a b k) e = no_jump e
  jump_out (Mov2 dh dl sh sl) e = no_jump e
  jump_out (Mov2I dh dl v) e = no_jump e
  jump_out (BitExt d s p l signed) e = no_jump e
  jump_out (BitIns d s p l) e = no_jump e
  jump_out (SpAdd v) e = no_jump e
  jump_out (RFromSp d v) e = no_jump e
  jump_out (Ld d b o w signed) e = no_jump e
  jump_out (St s b o w) e = no_jump e
  jump_out (LdIdx d b x sh w signed) e = no_jump e
  jump_out (StIdx s b x sh w) e = no_jump e
  jump_out (LdPost d b w signed inc) e = no_jump e
  jump_out (StPost s b w inc) e = no_jump e
  jump_out (Rmw b w op o v) e = no_jump e
  jump_out PushRet e = no_jump e
  jump_out PopRets e = no_jump e
  jump_out (BrI a v q target) e = fork_out (holds q (reg c a) v) i next target c
  jump_out (BrR a b q target) e = fork_out (holds q (reg c a) (reg c b)) i next target c
  jump_out (DecBr r q v target) e = fork_out (holds q (minus (reg c r) 1) v) i next target (set_reg r (minus (reg c r) 1) c)
  jump_out (BitBr r mk ne mv target) e = fork_out (holds (cond ne Ne Eq) (bit_and (reg c r) (rhs c mk mv)) 0) i next target c
  jump_out (Goto target) e = tt
  jump_out (Call target) e = tt
  jump_out Rts e = tt
  jump_out (GotoR r) e = tt
  jump_out (CallR r) e = tt
  jump_out PopRet e = pc_out m flash i c
  jump_out (BlockMove r mask u post down) e = no_jump e
  jump_out (PushRets n) e = no_jump e
  jump_out (PopPc n) e = pops_out m flash i _ (pc_out m flash i) (saved n) c
  jump_out (LdPair p b o) e = no_jump e
  jump_out (StPair p b o) e = no_jump e
  jump_out (LdPre d b x w signed) e = no_jump e
  jump_out (StPre s b x w) e = no_jump e
  jump_out (LdPostR d b x w signed) e = no_jump e
  jump_out (MemA4 b o op rk rv) e = no_jump e
  jump_out (Tb r half) e = loaded_out (load_card m flash i (cond half B16 B8) false (plus (reg c r) next) c) _ (λ v c₁. looked_out i _ c₁)

jump-leaves : (b : Block) (flash : List ℕ) (o : BOp) (i next : ℕ) (c d : Card) → may_jump o.fast ≡ true
    → checked o i next (op_step b.memory flash i next o.fast c) ≡ on d → ⊥
unfolding Gone
jump-leaves b flash o i next c d u e = by (op_step b.memory flash i next o.fast c) (jump_out b.memory flash i next c o.fast u) e
  where
    by : (r : After) → Gone r → checked o i next r ≡ on d → ⊥
    by (on c₁) h e₁ = h
    by (out w c₁) h e₁ = let z : ◌≡◌ {A = ℕ} 0 1 = cc in omega arith
    by starved h e₁ = let z : ◌≡◌ {A = ℕ} 0 1 = cc in omega arith

-- ---- the operations
module _ {b : Block} {h : Helpers} {s0 : State} (B : Body b h s0) (C : Checked b) (base : ℕ) where
  abbrev flash : List ℕ
  flash = bytes_of s0.mem xip

  abbrev lim : ℕ
  lim = R W s0 27

  -- what the code of steps from position p on does
  abbrev does_all : RegCache → List Step → (p : ℕ) → State → Out State Stop top
  does_all rc ss p s = does (arm h base) (steps_code b rc ss) p s

  -- it leaves so, and the target listed for the site that it leaves by is the card's pc
  abbrev pub Leaving : RegCache → List Step → (p : ℕ) → State → Way → Card → Type 0
  Leaving rc ss p s w d = Leaves b s0 w d (site_at base w (starts (steps_code b rc ss) p)) (does_all rc ss p s) × Aimed w d (targets ss)

  -- steps that go on, before steps that leave
  leave_on : (rc : RegCache) (a a₁ : Abs) (xs ys : List Step) (w : Way) (d : Card) → StepsMet B C base rc a xs (go a₁)
      → ((p : ℕ) (s : State) → Sim b s0 (cache_after rc xs) a₁ s → Leaving (cache_after rc xs) ys p s w d)
      → (p : ℕ) (s : State) → Sim b s0 rc a s → Leaving rc (xs ++ ys) p s w d
  leave_on rc a a₁ xs ys w d x k p s i =
      let (s₁, e, j) = x.meets.runs p s i in
      let q : ℕ = p + words (steps_code b rc xs) in
      let rc₁ : RegCache = cache_after rc xs in
      let z : starts (steps_code b rc (xs ++ ys)) p ≡ starts (steps_code b rc₁ ys) q =
      starts-append b rc xs ys p ∙ ap (λ ss. ss ++ starts (steps_code b rc₁ ys) q) (x.sited p).0 in
      let o : does_all rc (xs ++ ys) p s ≡ does_all rc₁ ys q s₁ =
      does-append b (arm h base) rc xs ys p s ∙ ap (λ u. and_then u (λ s₂. does_all rc₁ ys q s₂)) e in
      let v : targets (xs ++ ys) ≡ targets ys = targets-append xs ys ∙ ap (λ ts. ts ++ targets ys) (x.sited p).1 in
      let l = k q s₁ j in (
        subst (λ ss. Leaves b s0 w d (site_at base w ss) (does_all rc (xs ++ ys) p s)) (sym z)
            (subst (λ u. Leaves b s0 w d (site_at base w (starts (steps_code b rc₁ ys) q)) u) (sym o) l.0),
        subst (Aimed w d) (sym v) l.1,
      )

  -- steps that leave, before any others
  leave_out : (rc : RegCache) (a : Abs) (xs ys : List Step) (w : Way) (d : Card) → StepsMet B C base rc a xs (off w d)
      → (p : ℕ) (s : State) → Sim b s0 rc a s → Leaving rc (xs ++ ys) p s w d
  leave_out rc a xs ys w d x p s i =
      let q : ℕ = p + words (steps_code b rc xs) in
      let ss : List ℕ = starts (steps_code b rc xs) p in
      let ts : List ℕ = starts (steps_code b (cache_after rc xs) ys) q in
      let rest : State → Out State Stop top = λ s₁. does_all (cache_after rc xs) ys q s₁ in
      let l = leaves-front b s0 w d (site_at base w ss) (does_all rc xs p s) rest (x.meets.leaves p s i) in (
        subst (λ n. Leaves b s0 w d (site_at base w n) (does_all rc (xs ++ ys) p s)) (sym (starts-append b rc xs ys p))
            (subst (λ u. Leaves b s0 w d (site_at base w (ss ++ ts)) u) (sym (does-append b (arm h base) rc xs ys p s))
            (leaves_as b s0 w d (site_at base w ss) (site_at base w (ss ++ ts)) (and_then (does_all rc xs p s) rest)
            (front_same base w ss ts (x.sited p).0) l)),
        subst (Aimed w d) (sym (targets-append xs ys)) (aimed_front w d (targets xs) (targets ys) (x.sited p).1),
      )

  -- off the end of the block
  end_leaves : (i pc : ℕ) → i < 4096 → pc < 2 ^ 32 → (rc : RegCache) (a : Abs) (p : ℕ) (s : State) → Sim b s0 rc a s
      → Leaving rc (Step.chain pc i ∷ []) p s (chains 0) (arrive pc i a.c)
  unfolding mrun mstep StepFits
  end_leaves i pc hi hp rc a p s j =
      let x = steps_met B C base (Step.chain pc i ∷ []) ((hp, hi), tt) (tt, tt) rc a in
      (x.meets.leaves p s j, (x.sited p).1)

  tail_jumps : (o : BOp) (os : List BOp) → NoneAfterJump (o ∷ os) → NoneAfterJump os
  tail_jumps o [] h = tt
  tail_jumps o (q ∷ os) h = h.1

  abbrev m : Memory
  m = b.memory

  ops-leave : (os : List BOp) (i pc : ℕ) → OpsFit os → NoneAfterJump os → i + length os ≤ 32 → pc < 2 ^ 32
      → (rc : RegCache) (a : Abs) (w : Way) (d : Card) → ops_from m flash i pc os a.c ≡ leaves w d
      → (p : ℕ) (s : State) → Sim b s0 rc a s → Leaving rc (ops_steps i pc os) p s w d
  unfolding ops_from ops_steps
  ops-leave [] i pc f n l hp rc a w d e p s j =
      let ew : chains 0 ≡ w = cc in
      let ed : arrive pc i a.c ≡ d = cc in
      subst (λ v. Leaving rc (Step.chain pc i ∷ []) p s v d) ew
      (subst (λ c. Leaving rc (Step.chain pc i ∷ []) p s (chains 0) c) ed (end_leaves i pc (omega arith) hp rc a p s j))
  ops-leave (o ∷ os) i pc f n l hp rc a w d e p s j =
      let hn : next < 2 ^ 32 = mod-lt (pc + o.len) (omega arith) in
      by (checked o i next (op_step m flash i next o.fast a.c)) (mrun b flash lim these a) refl
      (op_agrees b flash lim i next a j.kept.small o f.0)
      (steps_met B C base these (op_fits i next (omega arith) hn o f.0) (op-known o i next) rc a) e
      (λ a₁ d₁ e₁ q t j₁. ops-leave os (i + 1) next f.1 (tail_jumps o os n) (omega arith) hn
      (cache_after rc these) a₁ w d₁ e₁ q t j₁)
    where
      next : ℕ
      next = behind pc o

      these : List Step
      these = op_steps o i next

      those : List Step
      those = ops_steps (i + 1) next os

      rest : List Step
      rest = pick (may_jump o.fast) [] those

      by : (r : After) (t : Then) → checked o i next (op_step m flash i next o.fast a.c) ≡ r → Agrees r t
          → StepsMet B C base rc a these t
          → then_card r (arrive pc i a.c) (λ c₁. ops_from m flash (suc i) next os c₁) ≡ leaves w d
          → ((a₁ : Abs) (d₁ : Card) → ops_from m flash (i + 1) next os a₁.c ≡ leaves w d₁
          → (q : ℕ) (u : State) → Sim b s0 (cache_after rc these) a₁ u → Leaving (cache_after rc these) those q u w d₁)
          → Leaving rc (these ++ rest) p s w d
      by (on c) (go a₁) er ag x ec k = on_case (may_jump o.fast) refl
        where
          behind_this : ops_from m flash (i + 1) next os a₁.c ≡ leaves w d
          behind_this =
              subst (λ c₂. ops_from m flash (i + 1) next os c₂ ≡ leaves w d) (sym ag)
              (subst (λ n₁. ops_from m flash n₁ next os c ≡ leaves w d) (sym (add-one i)) ec)

          on_case : (u : Bool) → may_jump o.fast ≡ u → Leaving rc (these ++ pick u [] those) p s w d
          on_case true eu = absurd (jump-leaves b flash o i next a.c c eu er)
          on_case false eu = leave_on rc a a₁ these those w d x (λ q u ju. k a₁ d behind_this q u ju) p s j
      by (on c) (off v e₂) er ag x ec k = absurd ag
      by (on c) void er ag x ec k = absurd ag
      by (out v c) (go a₁) er ag x ec k = absurd ag
      by (out v c) (off v₁ c₁) er ag x ec k =
          let ew : v₁ ≡ w = ag.0 ∙ (cc) in
          let ed : c₁ ≡ d = ag.1 ∙ (cc) in
          subst (λ y. Leaving rc (these ++ rest) p s y d) ew
          (subst (λ y. Leaving rc (these ++ rest) p s v₁ y) ed (leave_out rc a these rest v₁ c₁ x p s j))
      by (out v c) void er ag x ec k = absurd ag
      by starved t er ag x ec k = absurd (let z : ◌≡◌ {A = ℕ} 0 1 = cc in omega arith)

  -- ---- the block behind its opening words
  ops-count : length (ops_of b) ≡ b.n
  ops-count = length-take b.n b.ops ∙ min-eq_left (omega (arith, C.size, C.count))

  -- the test of the limit alone, and what it leads to
  abbrev limit_step : Step
  limit_step = Step.limit b.pc0 b.n

  abbrev within : Abs → Abs
  within a = record { c = a.c; t = upd a.t 9 none; f = none }

  abbrev limited : (over : Bool) → Abs → Then
  limited u a = cond u (off exits (arrive b.pc0 0 a.c)) (go (within a))

  limit_met : (rc : RegCache) (a : Abs) → a.c.done + b.n < 2 ^ 32
      → StepsMet B C base rc a (limit_step ∷ []) (limited (ltb lim (a.c.done + b.n)) a)
  unfolding steps_code cache_after starts StepFits mstep
  limit_met rc a k =
      subst (λ r. StepsMet B C base rc a (limit_step ∷ []) r) (by (ltb lim (a.c.done + b.n)))
      (met_then (mstep b flash lim limit_step a) (λ a₁. go a₁)
      (step_met B C base rc a limit_step (omega (arith, C.pc0), omega (arith, C.count)) k)
      (λ a₁. record { meets = frag_nil; sited = λ p. (refl, refl) }))
    where
      by : (u : Bool) → then_abs (limited u a) (λ a₁. go a₁) ≡ limited u a
      by true = refl
      by false = refl

  -- ---- the guard of a RAM block, with nothing in the slots
  abbrev guard_step : Step
  guard_step = Step.guard b.guard.at b.guard.h_ram_ok b.pc0

  abbrev guard_same : Abs → Bool
  guard_same a = eqb a.c.version (version_at a.c.guards b.guard.at)

  abbrev kept : Abs → Card → Abs
  kept a c = record { c = c; t = kill a.t; f = none }

  -- what the answer leads to
  abbrev answered : Abs → (v : ℕ) → Card → Then
  answered a v c = cond (eqb v 0) (off exits (arrive b.pc0 0 c)) (go (kept a c))

  abbrev asking : (same : Bool) → Access → Abs → Then
  asking u r a = cond u (go (kept a a.c)) (if_got r (answered a))

  abbrev ask-guard : Abs → Access
  ask-guard a = ask (card_guard b.guard.at) a.c.outcomes a.c

  guard_met : in_flash b.pc0 ≡ false → (a : Abs) → StepsMet B C base empty_cache a (guard_step ∷ []) (asking (guard_same a) (ask-guard a) a)
  unfolding steps_code cache_after starts step_code step_cache mstep
  guard_met f a =
      subst (λ r. StepsMet B C base empty_cache a (guard_step ∷ []) r) (by (guard_same a) (ask-guard a))
      (met_then (asking (guard_same a) (ask-guard a) a) (λ a₁. go a₁)
      (record {
        meets = guard-meets B C base top (B.guarded f) a b.pc0 C.pc0;
        sited = λ p. step-sited b empty_cache p a flash lim guard_step;
      })
      (λ a₁. record { meets = frag_nil; sited = λ p. (refl, refl) }))
    where
      way : (u : Bool) (c : Card)
          → then_abs (cond u (off exits (arrive b.pc0 0 c)) (go (kept a c))) (λ a₁. go a₁)
          ≡ cond u (off exits (arrive b.pc0 0 c)) (go (kept a c))
      way true c = refl
      way false c = refl

      by : (u : Bool) (r : Access) → then_abs (asking u r a) (λ a₁. go a₁) ≡ asking u r a
      by true r = refl
      by false (got v c) = way (eqb v 0) c
      by false unmet = refl

  -- the operations, from any card
  operations : (a : Abs) (w : Way) (d : Card) → ops_from m flash 0 b.pc0 (ops_of b) a.c ≡ leaves w d
      → (q : ℕ) (u : State) → Sim b s0 empty_cache a u → Leaving empty_cache (ops_steps 0 b.pc0 (ops_of b)) q u w d
  operations a w d e q u j =
      ops-leave (ops_of b) 0 b.pc0 C.ops C.last-jumps (omega (arith, ops-count, C.count)) (omega (arith, C.pc0)) empty_cache a w d
      e q u j

  -- the guard, if there is one, and then they
  guard-leave : (a : Abs) (w : Way) (d : Card) → guard_test b a.c (λ c. ops_from m flash 0 b.pc0 (ops_of b) c) ≡ leaves w d
      → (q : ℕ) (u : State) → Sim b s0 empty_cache a u → Leaving empty_cache (guard_steps b ++ ops_steps 0 b.pc0 (ops_of b)) q u w d
  unfolding cache_after step_cache
  guard-leave a w d e q u j = start (in_flash b.pc0) refl e
    where
      rest : List Step
      rest = ops_steps 0 b.pc0 (ops_of b)

      ends : Card → End
      ends c = ops_from m flash 0 b.pc0 (ops_of b) c

      ask-ends : (flashed same : Bool) → Access → End
      ask-ends t y r = cond (t || y) (ends a.c) (guarded r (arrive b.pc0 0 a.c) b.pc0 ends)

      -- the block leaves with nothing done
      way : (v : ℕ) (c : Card) (z : Bool) → cond z (leaves exits (arrive b.pc0 0 c)) (ends c) ≡ leaves w d
          → StepsMet B C base empty_cache a (guard_step ∷ []) (cond z (off exits (arrive b.pc0 0 c)) (go (kept a c)))
          → Leaving empty_cache ((guard_step ∷ []) ++ rest) q u w d
      way v c true e₁ x =
          let ew : exits ≡ w = cc in
          let ed : arrive b.pc0 0 c ≡ d = cc in
          subst (λ y. Leaving empty_cache ((guard_step ∷ []) ++ rest) q u y d) ew
          (subst (λ y. Leaving empty_cache ((guard_step ∷ []) ++ rest) q u exits y) ed
          (leave_out empty_cache a (guard_step ∷ []) rest exits (arrive b.pc0 0 c) x q u j))
      way v c false e₁ x =
          leave_on empty_cache a (kept a c) (guard_step ∷ []) rest w d x (λ q₁ u₁ j₁. operations (kept a c) w d e₁ q₁ u₁ j₁) q u j

      by : (y : Bool) (r : Access) → ask-ends false y r ≡ leaves w d → StepsMet B C base empty_cache a (guard_step ∷ []) (asking y r a)
          → Leaving empty_cache ((guard_step ∷ []) ++ rest) q u w d
      by true r e₁ x =
          leave_on empty_cache a (kept a a.c) (guard_step ∷ []) rest w d x (λ q₁ u₁ j₁. operations (kept a a.c) w d e₁ q₁ u₁ j₁) q u j
      by false (got v c) e₁ x = way v c (eqb v 0) e₁ x
      by false unmet e₁ x = absurd (let z : ◌≡◌ {A = ℕ} 0 1 = cc in omega arith)

      start : (t : Bool) → in_flash b.pc0 ≡ t → ask-ends t (guard_same a) (ask-guard a) ≡ leaves w d
          → Leaving empty_cache (pick t [] (guard_step ∷ []) ++ rest) q u w d
      start true f e₁ = operations a w d e₁ q u j
      start false f e₁ = by (guard_same a) (ask-guard a) e₁ (guard_met f a)

  pub body-leaves : (a : Abs) (w : Way) (d : Card) → a.c.done + b.n < 2 ^ 32 → run_card b flash lim a.c ≡ leaves w d
      → (p : ℕ) (s : State) → Sim b s0 empty_cache a s → Leaving empty_cache (block_steps b) p s w d
  unfolding run_card block_steps cache_after step_cache
  body-leaves a w d k e p s j =
      by (ltb lim (a.c.done + b.n)) (subst (λ n. ends (ltb lim (a.c.done + n)) ≡ leaves w d) ops-count e) (limit_met empty_cache a k)
    where
      ends : (over : Bool) → End
      ends u = cond u (leaves exits (arrive b.pc0 0 a.c)) (guard_test b a.c (λ c. ops_from m flash 0 b.pc0 (ops_of b) c))

      rest : List Step
      rest = guard_steps b ++ ops_steps 0 b.pc0 (ops_of b)

      by : (u : Bool) → ends u ≡ leaves w d → StepsMet B C base empty_cache a (limit_step ∷ []) (limited u a)
          → Leaving empty_cache ((limit_step ∷ []) ++ rest) p s w d
      by true e₁ x =
          let ew : exits ≡ w = cc in
          let ed : arrive b.pc0 0 a.c ≡ d = cc in
          subst (λ y. Leaving empty_cache ((limit_step ∷ []) ++ rest) p s y d) ew
          (subst (λ y. Leaving empty_cache ((limit_step ∷ []) ++ rest) p s exits y) ed
          (leave_out empty_cache a (limit_step ∷ []) rest exits (arrive b.pc0 0 a.c) x p s j))
      by false e₁ x = leave_on empty_cache a (within a) (limit_step ∷ []) rest w d x (λ q u ju. guard-leave (within a) w d e₁ q u ju) p s j
