-- Steps in sequence: the code of a list of steps meets the machine between.
--     step_ok       each step, by the lemma of its kind
--     steps_met     a list of steps, with their chain sites
-- Assumes nothing.
use mathlib.Core.Path.{◌≡◌, refl, sym, ap, subst, ◌∙◌}
use mathlib.Core.List.{List, [], ◌∷◌, ◌++◌}
use Prim.Native.Nat.{ℕ, zero, suc, ◌+◌, ◌*◌, ◌%◌, ◌^◌, ◌<◌}
use native.Mathlib.Omega.{arith}
use lib.ListN.{length, get_or, length-append}
use Rattle.arm.specs.declared.Size.TheVariants.{W}
use Rattle.block.specs.declared.Block.{Block}
use Rattle.block.specs.Checked.{Checked}
use Rattle.code.specs.Tree.{Depth, top, Code, ◌then◌, words}
use Rattle.code.specs.Machine.{Out, fell, went, left, ended, and_then, does}
use Rattle.machine.specs.State.{State, xip, R}
use Rattle.machine.specs.Memory.{bytes_of}
use Rattle.machine.specs.Execute.{Helpers}
use Rattle.card.specs.Card.{Card}
use Rattle.card.specs.Step.{Way, exits, chains, looks_up}
use Rattle.lowering.specs.declared.RegCache.{RegCache}
use Rattle.lowering.specs.Steps.{Step}
use Rattle.lowering.specs.Fragments.{step_code, step_cache, steps_code}
use Rattle.lowering.specs.Compile.{starts, targets}
use Rattle.relation.specs.Lines.{Stop, arm}
use Rattle.relation.specs.Abs.{Abs, Then, go, off, void, mstep, mrun}
use Rattle.relation.specs.Abs.{and_then as then_abs}
use Rattle.relation.specs.Relation.{Body, site_of, Meets, Leaves}
use Rattle.relation.specs.Fits.{StepFits, AllFit}
use Rattle.registers.proofs.Frags.{frag_nil, frag_then}
use Rattle.registers.proofs.Steps.{ld_reg-meets, st_reg-meets, ld_field_meets, st_field_meets, mov32-meets, add_imm-meets, ins-step-meets}
use Rattle.accesses.proofs.Load.{load_ok}
use Rattle.accesses.proofs.Store.{store_ok}
use Rattle.exits.proofs.Exit.{check_brk-meets, limit-meets}
use Rattle.exits.proofs.Chain.{chain-meets, fork-meets}
use Rattle.exits.proofs.Lookup.{ind-meets}
use Rattle.readiness.proofs.Encodable.{StepKnown, AllKnown}
use Rattle.lowering.proofs.Targets.{targets-append}
use Rattle.simulation.proofs.Sites.{Has, Aimed, Sited}
use Rattle.simulation.proofs.Sites.{sited as step-sited}

-- ---- one step
-- the limit's test adds to the done count, which must not pass 32 bits; the guard stands behind it, with nothing in the slots (Guard.antt)
abbrev pub LimitFits : Step → Abs → Type 0
LimitFits (Step.ld_reg t r) a = Unit {0}
LimitFits (Step.st_reg t r) a = Unit {0}
LimitFits (Step.ld_field f t) a = Unit {0}
LimitFits (Step.st_field f t) a = Unit {0}
LimitFits (Step.mov32 t v) a = Unit {0}
LimitFits (Step.add_imm d s v) a = Unit {0}
LimitFits (Step.ins i) a = Unit {0}
LimitFits (Step.load w signed i) a = Unit {0}
LimitFits (Step.store w alone i) a = Unit {0}
LimitFits (Step.check_brk glue pc count) a = Unit {0}
LimitFits (Step.chain pc count) a = Unit {0}
LimitFits (Step.fork k pc target count) a = Unit {0}
LimitFits (Step.ind t count brk) a = Unit {0}
LimitFits (Step.limit pc count) a = a.c.done + count < 2 ^ 32
LimitFits (Step.guard at helper pc) a = ⊥

-- the steps of operations have no test of the limit and no guard
unlimited : (s : Step) (a : Abs) → StepKnown s → LimitFits s a
unlimited (Step.ld_reg t r) a h = tt
unlimited (Step.st_reg t r) a h = tt
unlimited (Step.ld_field f t) a h = tt
unlimited (Step.st_field f t) a h = tt
unlimited (Step.mov32 t v) a h = tt
unlimited (Step.add_imm d s v) a h = tt
unlimited (Step.ins i) a h = tt
unlimited (Step.load w signed i) a h = tt
unlimited (Step.store w alone i) a h = tt
unlimited (Step.check_brk glue pc count) a h = tt
unlimited (Step.chain pc count) a h = tt
unlimited (Step.fork k pc target count) a h = tt
unlimited (Step.ind t count brk) a h = tt
unlimited (Step.limit pc count) a h = absurd h
unlimited (Step.guard at helper pc) a h = absurd h

module _ {b : Block} {h : Helpers} {s0 : State} (B : Body b h s0) (C : Checked b) (base : ℕ) where
  abbrev flash : List ℕ
  flash = bytes_of s0.mem xip

  abbrev lim : ℕ
  lim = R W s0 27

  pub step_ok : (rc : RegCache) (a : Abs) (st : Step) → StepFits st → LimitFits st a → Meets h base b s0 rc a {n = top} (step_code b rc st) (step_cache rc st) (mstep b flash lim st a)
  step_ok rc a (Step.ld_reg t r) f k = ld_reg-meets B C base top flash lim rc a t r f
  step_ok rc a (Step.st_reg t r) f k = st_reg-meets B C base top flash lim rc a t r f
  step_ok rc a (Step.ld_field x t) f k = ld_field_meets B C base top flash lim rc a x t f
  step_ok rc a (Step.st_field x t) f k = st_field_meets B C base top flash lim rc a x t f
  step_ok rc a (Step.mov32 t v) f k = mov32-meets B C base top flash lim rc a t v f
  step_ok rc a (Step.add_imm d s v) f k = add_imm-meets B C base top flash lim rc a d s v f
  step_ok rc a (Step.ins i) f k = ins-step-meets B C base top flash lim rc a i f
  step_ok rc a (Step.load w signed i) f k = load_ok B C base top lim rc a w signed i
  step_ok rc a (Step.store w alone i) f k = store_ok B C base top lim rc a w alone i
  step_ok rc a (Step.check_brk glue pc count) f k = check_brk-meets B C base top flash rc a lim glue pc count f
  step_ok rc a (Step.chain pc count) f k = chain-meets B C base top flash lim rc a pc count f
  step_ok rc a (Step.fork q pc target count) f k = fork-meets B C base top flash lim rc a q pc target count f
  step_ok rc a (Step.ind t count brk) f k = ind-meets B C base top flash lim rc a t count brk f
  step_ok rc a (Step.limit pc count) f k = limit-meets B C base top flash rc a pc count f k
  step_ok rc a (Step.guard at helper pc) f k = absurd k

-- ---- code that leaves, with what stands before and behind it
-- the address of the site that a way out leads by, of the positions ss
abbrev pub site_at : (base : ℕ) → Way → (ss : List ℕ) → ℕ
site_at base w ss = (base + 4 * get_or ss (site_of w) 0) % 2 ^ 64

-- the site's address matters where a chain is left by
abbrev pub Same : Way → ℕ → ℕ → Type 0
Same exits x y = Unit {0}
Same (chains k) x y = x ≡ y
Same looks_up x y = Unit {0}

module _ (b : Block) (s0 : State) where
  -- another site, where none is asked for, or the same
  pub leaves_as : {n : Depth} (w : Way) (c : Card) (x y : ℕ) (o : Out State Stop n) → Same w x y → Leaves b s0 w c x o → Leaves b s0 w c y o
  leaves_as exits c x y (fell s) e l = l
  leaves_as exits c x y (went v s) e l = l
  leaves_as exits c x y (left s) e l = record { kept = l.kept; home = l.home; done_is = l.done_is; missed = l.missed }
  leaves_as exits c x y (ended r) e l = l
  leaves_as (chains k) c x y o e l = subst (λ z. Leaves b s0 (chains k) c z o) e l
  leaves_as looks_up c x y (fell s) e l = l
  leaves_as looks_up c x y (went v s) e l = l
  leaves_as looks_up c x y (left s) e l = record { kept = l.kept; home = l.home; done_is = l.done_is; missed = l.missed }
  leaves_as looks_up c x y (ended r) e l = l

  -- code behind is not reached
  pub leaves-front : {n : Depth} (w : Way) (c : Card) (x : ℕ) (o : Out State Stop n) (f : State → Out State Stop n) → Leaves b s0 w c x o → Leaves b s0 w c x (and_then o f)
  leaves-front w c x (fell s) f l = absurd l
  leaves-front w c x (went v s) f l = absurd l
  leaves-front w c x (left s) f l = l
  leaves-front w c x (ended r) f l = l

get_d_front : (xs ys : List ℕ) (k : ℕ) → k < length xs → get_or (xs ++ ys) k 0 ≡ get_or xs k 0
get_d_front [] ys k h = absurd (omega arith)
get_d_front (x ∷ xs) ys zero h = refl
get_d_front (x ∷ xs) ys (suc k) h = get_d_front xs ys k (omega arith)

-- the k-th site is in front
pub front_same : (base : ℕ) (w : Way) (xs ys : List ℕ) → Has w xs → Same w (site_at base w xs) (site_at base w (xs ++ ys))
front_same base exits xs ys h = tt
front_same base (chains k) xs ys h = ap (λ n. (base + 4 * n) % 2 ^ 64) (sym (get_d_front xs ys k h))
front_same base looks_up xs ys h = tt

longer : (xs ys : List ℕ) (k : ℕ) → k < length xs → k < length (xs ++ ys)
longer xs ys k h = omega (arith, length-append xs ys)

has-front : (w : Way) (xs ys : List ℕ) → Has w xs → Has w (xs ++ ys)
has-front exits xs ys h = tt
has-front (chains k) xs ys h = longer xs ys k h
has-front looks_up xs ys h = tt

pub aimed_front : (w : Way) (c : Card) (ts us : List ℕ) → Aimed w c ts → Aimed w c (ts ++ us)
aimed_front exits c ts us h = tt
aimed_front (chains k) c ts us h = (longer ts us k h.0, get_d_front ts us k h.0 ∙ h.1)
aimed_front looks_up c ts us h = tt

-- code without sites, before code with these
sited-behind : (r : Then) (xs ys ts us : List ℕ) → xs ≡ [] → ts ≡ [] → Sited r ys us → Sited r (xs ++ ys) (ts ++ us)
sited-behind r xs ys ts us e f h = subst (λ l. Sited r (l ++ ys) (ts ++ us)) (sym e) (subst (λ l. Sited r ys (l ++ us)) (sym f) h)

-- ---- a list of steps
-- the cache behind
unfoldable pub cache_after : RegCache → List Step → RegCache
cache_after rc [] = rc
cache_after rc (s ∷ ss) = cache_after (step_cache rc s) ss

-- code, its sites with the targets ts, and what the machine between makes of it
pub record Met (h : Helpers) (base : ℕ) (b : Block) (s0 : State) (rc : RegCache) (a : Abs)
    (f : Code top) (ts : List ℕ) (rc' : RegCache) (r : Then) : Type 0 where
  pub meets : Meets h base b s0 rc a f rc' r
  pub sited : (p : ℕ) → Sited r (starts f p) ts

module _ {b : Block} {h : Helpers} {s0 : State} {base : ℕ} where
  -- two pieces in sequence
  pub met_then : {rc rc₁ rc₂ : RegCache} {a : Abs} {f g : Code top} {ts us : List ℕ} (r : Then) (k : Abs → Then)
      → Met h base b s0 rc a f ts rc₁ r → ((a₁ : Abs) → Met h base b s0 rc₁ a₁ g us rc₂ (k a₁))
      → Met h base b s0 rc a (f then g) (ts ++ us) rc₂ (then_abs r k)
  unfolding does starts
  met_then {rc} {rc₁} {rc₂} {a} {f} {g} {ts} {us} (go a₁) k x y = by (k a₁) (y a₁)
    where
      behind-f : (r₁ : Then) → Met h base b s0 rc₁ a₁ g us rc₂ r₁ → (p : ℕ) → Sited r₁ (starts f p ++ starts g (p + words f)) (ts ++ us)
      behind-f r₁ z p = sited-behind r₁ (starts f p) (starts g (p + words f)) ts us (x.sited p).0 (x.sited p).1 (z.sited (p + words f))

      by : (r₁ : Then) → Met h base b s0 rc₁ a₁ g us rc₂ r₁ → Met h base b s0 rc a (f then g) (ts ++ us) rc₂ r₁
      by (go a₂) z = record { meets = frag_then x.meets z.meets; sited = behind-f (go a₂) z }
      by (off w c) z =
          record {
            meets = record {
              leaves = λ p s i.
                  let (s₁, e, j) = x.meets.runs p s i in
                  let q : ℕ = p + words f in
                  let v : starts f p ++ starts g q ≡ starts g q = ap (λ ss. ss ++ starts g q) (x.sited p).0 in
                  subst
                  (λ o. Leaves b s0 w c (site_at base w (starts f p ++ starts g q)) (and_then o (λ s₂. does (arm h base) g q s₂))) (sym e)
                  (subst (λ ss. Leaves b s0 w c (site_at base w ss) (does (arm h base) g q s₁)) (sym v) (z.meets.leaves q s₁ j));
            };
            sited = behind-f (off w c) z;
          }
      by void z = record { meets = tt; sited = behind-f void z }
  met_then {rc} {rc₁} {rc₂} {a} {f} {g} {ts} {us} (off w c) k x y =
      record {
        meets = record {
          leaves = λ p s i.
              let q : ℕ = p + words f in
              let rest : State → Out State Stop top = λ s₁. does (arm h base) g q s₁ in
              let first : Out State Stop top = does (arm h base) f p s in
              leaves_as b s0 w c (site_at base w (starts f p)) (site_at base w (starts f p ++ starts g q)) (and_then first rest)
              (front_same base w (starts f p) (starts g q) (x.sited p).0)
              (leaves-front b s0 w c (site_at base w (starts f p)) first rest (x.meets.leaves p s i));
        };
        sited = λ p. (has-front w (starts f p) (starts g (p + words f)) (x.sited p).0, aimed_front w c ts us (x.sited p).1);
      }
  met_then void k x y = record { meets = tt; sited = λ p. tt }

module _ {b : Block} {h : Helpers} {s0 : State} (B : Body b h s0) (C : Checked b) (base : ℕ) where
  abbrev flash_of : List ℕ
  flash_of = bytes_of s0.mem xip

  abbrev limit_of : ℕ
  limit_of = R W s0 27

  pub step_met : (rc : RegCache) (a : Abs) (st : Step) → StepFits st → LimitFits st a
      → Met h base b s0 rc a (step_code b rc st) (targets (st ∷ [])) (step_cache rc st) (mstep b flash_of limit_of st a)
  step_met rc a st f k = record { meets = step_ok B C base rc a st f k; sited = λ p. step-sited b rc p a flash_of limit_of st }

  -- a list of steps, with the targets that are listed for it
  abbrev pub StepsMet : RegCache → Abs → List Step → Then → Type 0
  StepsMet rc a ss r = Met h base b s0 rc a (steps_code b rc ss) (targets ss) (cache_after rc ss) r

  pub steps_met : (ss : List Step) → AllFit ss → AllKnown ss → (rc : RegCache) (a : Abs) → StepsMet rc a ss (mrun b flash_of limit_of ss a)
  unfolding steps_code cache_after mrun starts
  steps_met [] f u rc a = record { meets = frag_nil; sited = λ p. (refl, refl) }
  steps_met (s ∷ ss) f u rc a =
      subst (λ ts. Met h base b s0 rc a (steps_code b rc (s ∷ ss)) ts (cache_after rc (s ∷ ss)) (mrun b flash_of limit_of (s ∷ ss) a))
      (sym (targets-append (s ∷ []) ss))
      (met_then (mstep b flash_of limit_of s a) (λ a₁. mrun b flash_of limit_of ss a₁) (step_met rc a s f.0 (unlimited s a u.0))
      (λ a₁. steps_met ss f.1 u.1 (step_cache rc s) a₁))
