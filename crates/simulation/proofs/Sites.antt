-- Chain sites: a step that goes on has none, and a step that leaves by one has it, with the card's pc as its target.
--     Sited     what is said of the sites, by what the machine between makes of the code
--     sited     it holds of each step
-- Assumes nothing.
use mathlib.Core.Path.{◌≡◌, refl}
use mathlib.Core.Bool.{Bool, true, false, cond, not, ◌&&◌}
use mathlib.Core.Option.{Option, none, some}
use mathlib.Core.List.{List, [], ◌∷◌}
use Prim.Native.Nat.{ℕ, ◌+◌, ◌%◌, ◌^◌, ◌<◌}
use native.Mathlib.Omega.{arith}
use lib.Dec.{eqb, ltb}
use lib.ListN.{length, get_or}
use Rattle.block.specs.declared.Block.{Block}
use Rattle.block.specs.declared.Width.{Width}
use Rattle.block.specs.declared.Width.TheVariants.{Byte as B8, Half as B16, Word as B32}
use Rattle.code.specs.Tree.{Depth, top, under}
use Rattle.machine.specs.Bits.{Nzcv, ConditionHolds}
use Rattle.card.specs.Card.{Card, arrive, set_hold, version_at}
use Rattle.card.specs.Card.{guard as card_guard}
use Rattle.card.specs.Memory.{Access, got, unmet, ask}
use Rattle.card.specs.Memory.{load as load_card, store as store_card}
use Rattle.card.specs.Step.{Way, exits, chains, looks_up}
use Rattle.lowering.specs.declared.RegCache.{RegCache}
use Rattle.lowering.specs.Steps.{Step}
use Rattle.lowering.specs.Fragments.{try_region, align_test, map_test, call, exit_imm, chain, check_brk, fork, limit, guard, load, store}
use Rattle.lowering.specs.Fragments.{step_code}
use Rattle.lowering.specs.Compile.{starts, targets}
use Rattle.relation.specs.Data.{Data, data_of}
use Rattle.relation.specs.Abs.{Abs, Then, go, off, void, upd, kill, vals, or_stays, with_temp, known, if_got, mins, mdata, if_all, all_seen}
use Rattle.relation.specs.Abs.{flags_for, mstep}

-- the site that a way out leads by is one of the positions
abbrev pub Has : Way → (positions : List ℕ) → Type 0
Has exits ss = Unit {0}
Has (chains k) ss = k < length ss
Has looks_up ss = Unit {0}

-- its target is the card's pc
abbrev pub Aimed : Way → Card → (targets : List ℕ) → Type 0
Aimed exits c ts = Unit {0}
Aimed (chains k) c ts = (k < length ts) × (get_or ts k 0 ≡ c.pc)
Aimed looks_up c ts = Unit {0}

abbrev pub NoSites : (positions targets : List ℕ) → Type 0
NoSites ss ts = (ss ≡ []) × (ts ≡ [])

-- what is said of the sites of code, positions ss and targets ts, where the machine between makes r of it
abbrev pub Sited : Then → (positions targets : List ℕ) → Type 0
Sited (go a) ss ts = NoSites ss ts
Sited (off w c) ss ts = Has w ss × Aimed w c ts
Sited void ss ts = Unit {0}

-- ---- code without sites
none_align : (n : Depth) (words : Bool) (w : Width) (p : ℕ) → starts (align_test {n = n} words w) p ≡ []
unfolding align_test starts
none_align n u B8 p = refl
none_align n u B16 p = refl
none_align n false B32 p = refl
none_align n true B32 p = refl

none_map : (n : Depth) (u : Bool) (p : ℕ) → starts (map_test {n = n} u) p ≡ []
unfolding map_test starts
none_map n false p = refl
none_map n true p = refl

module _ (b : Block) (rc : RegCache) (p : ℕ) where
  abbrev sites_of : Step → List ℕ
  sites_of s = starts {n = top} (step_code b rc s) p

  -- of a step's code from position p on
  abbrev None : Step → Type 0
  None s = NoSites (sites_of s) (targets (s ∷ []))

  abbrev SitedStep : Then → Step → Type 0
  SitedStep r s = Sited r (sites_of s) (targets (s ∷ []))

  none_load : (w : Width) (signed : Bool) (i : ℕ) → None (Step.load w signed i)
  unfolding step_code load call starts try_region
  none_load w signed i = (refl, refl)

  none_store : (w : Width) (alone : Bool) (i : ℕ) → None (Step.store w alone i)
  unfolding step_code store call starts
  none_store w alone i = (rw (none_align (under top) (alone && b.memory.map) w, none_map (under top) b.memory.map) refl, refl)

  none_check : (glue : Bool) (pc count : ℕ) → None (Step.check_brk glue pc count)
  unfolding step_code check_brk exit_imm starts
  none_check glue pc count = (refl, refl)

  none_limit : (pc count : ℕ) → None (Step.limit pc count)
  unfolding step_code limit exit_imm starts
  none_limit pc count = (refl, refl)

  none_guard : (at helper pc : ℕ) → None (Step.guard at helper pc)
  unfolding step_code guard call exit_imm starts
  none_guard at helper pc = (refl, refl)

  -- straight steps
  abbrev Straight : Step → Type 0
  Straight (Step.ld_reg t r) = Unit {0}
  Straight (Step.st_reg t r) = Unit {0}
  Straight (Step.ld_field f t) = Unit {0}
  Straight (Step.st_field f t) = Unit {0}
  Straight (Step.mov32 t v) = Unit {0}
  Straight (Step.add_imm d s v) = Unit {0}
  Straight (Step.ins i) = Unit {0}
  Straight (Step.load w signed i) = ⊥
  Straight (Step.store w alone i) = ⊥
  Straight (Step.check_brk glue pc count) = ⊥
  Straight (Step.chain pc count) = ⊥
  Straight (Step.fork k pc target count) = ⊥
  Straight (Step.ind t count brk) = ⊥
  Straight (Step.limit pc count) = ⊥
  Straight (Step.guard at helper pc) = ⊥

  plain_none : (s : Step) → Straight s → None s
  unfolding step_code starts
  plain_none (Step.ld_reg t r) h = (refl, refl)
  plain_none (Step.st_reg t r) h = (refl, refl)
  plain_none (Step.ld_field f t) h = (refl, refl)
  plain_none (Step.st_field f t) h = (refl, refl)
  plain_none (Step.mov32 t v) h = (refl, refl)
  plain_none (Step.add_imm d s v) h = (refl, refl)
  plain_none (Step.ins i) h = (refl, refl)
  plain_none (Step.load w signed i) h = absurd h
  plain_none (Step.store w alone i) h = absurd h
  plain_none (Step.check_brk glue pc count) h = absurd h
  plain_none (Step.chain pc count) h = absurd h
  plain_none (Step.fork k pc target count) h = absurd h
  plain_none (Step.ind t count brk) h = absurd h
  plain_none (Step.limit pc count) h = absurd h
  plain_none (Step.guard at helper pc) h = absurd h

  one_site : (pc count : ℕ) (c : Card) → SitedStep (off (chains 0) (arrive pc count c)) (Step.chain pc count)
  unfolding step_code chain starts
  one_site pc count c = (omega arith, (omega arith, refl))

  -- the address behind comes first
  module _ (k pc target count : ℕ) (c : Card) where
    site-behind : SitedStep (off (chains 0) (arrive pc count c)) (Step.fork k pc target count)
    unfolding step_code fork chain starts
    site-behind = (omega arith, (omega arith, refl))

  -- ---- what the machine between gives
  of_known : {A : Type 0} (o : Option A) (f : A → Abs) (ss ts : List ℕ) → NoSites ss ts → Sited (known o (λ v. go (f v))) ss ts
  of_known none f ss ts e = tt
  of_known (some v) f ss ts e = e

  of_mins : (d : Option Data) (a : Abs) (ss ts : List ℕ) → NoSites ss ts → Sited (mins d a) ss ts
  unfolding mdata
  of_mins none a ss ts e = tt
  of_mins (some d) a ss ts e = by (all_seen a.t d.reads) (flags_for d.asks a.f)
    where
      after : Nzcv → Abs
      after g = record { c = a.c; t = upd a.t d.rd (some (d.value (vals a.t) g % 2 ^ 32)); f = or_stays (d.flags (vals a.t)) a.f }

      by : (u : Bool) (o : Option Nzcv) → Sited (if_all u (known o (λ g. go (after g)))) ss ts
      by true o = of_known o after ss ts e
      by false o = tt

  of_got : (r : Access) (f : ℕ → Card → Abs) (ss ts : List ℕ) → NoSites ss ts → Sited (if_got r (λ v c. go (f v c))) ss ts
  of_got (got v c) f ss ts e = e
  of_got unmet f ss ts e = tt

  pub sited : (a : Abs) (flash : List ℕ) (lim : ℕ) (s : Step) → SitedStep (mstep b flash lim s a) s
  unfolding mstep step_code fork chain starts
  sited a flash lim (Step.ld_reg t r) = plain_none (Step.ld_reg t r) tt
  sited a flash lim (Step.st_reg t r) = of_known (a.t t) _ _ _ (plain_none (Step.st_reg t r) tt)
  sited a flash lim (Step.ld_field f t) = plain_none (Step.ld_field f t) tt
  sited a flash lim (Step.st_field f t) = of_known (a.t t) _ _ _ (plain_none (Step.st_field f t) tt)
  sited a flash lim (Step.mov32 t v) = plain_none (Step.mov32 t v) tt
  sited a flash lim (Step.add_imm d s v) = of_known (a.t s) _ _ _ (plain_none (Step.add_imm d s v) tt)
  sited a flash lim (Step.ins i) = of_mins (data_of i) a _ _ (plain_none (Step.ins i) tt)
  sited a flash lim (Step.load w signed i) = by (a.t 0)
    where
      loads : ℕ → Access
      loads q = load_card b.memory flash i w signed q a.c

      after : ℕ → Card → Abs
      after v c = record { c = c; t = upd (kill a.t) 0 (some v); f = none }

      by : (o : Option ℕ) → SitedStep (known o (λ q. if_got (loads q) (λ v c. go (after v c)))) (Step.load w signed i)
      by none = tt
      by (some q) = of_got (loads q) after _ _ (none_load w signed i)
  sited a flash lim (Step.store w alone i) = by (a.t 0) (a.t 1)
    where
      stores : (q v : ℕ) → Access
      stores q v = store_card b.memory i w alone q v a.c

      after : ℕ → Card → Abs
      after x c = record { c = c; t = kill a.t; f = none }

      by : (o u : Option ℕ) → SitedStep (known o (λ q. known u (λ v. if_got (stores q v) (λ x c. go (after x c))))) (Step.store w alone i)
      by none u = tt
      by (some q) none = tt
      by (some q) (some v) = of_got (stores q v) after _ _ (none_store w alone i)
  sited a flash lim (Step.check_brk glue pc count) = by (eqb a.c.brk 0)
    where
      held : Card
      held = set_hold (cond glue 1 a.c.hold) a.c

      by : (u : Bool) → SitedStep (cond u (go (with_temp 9 none a)) (off exits (arrive pc count held))) (Step.check_brk glue pc count)
      by true = none_check glue pc count
      by false = (tt, tt)
  sited a flash lim (Step.chain pc count) = one_site pc count a.c
  sited a flash lim (Step.fork k pc target count) = by a.f
    where
      forked : Bool → Then
      forked u = cond u (off (chains 1) (arrive target count a.c)) (off (chains 0) (arrive pc count a.c))

      site-taken : SitedStep (off (chains 1) (arrive target count a.c)) (Step.fork k pc target count)
      site-taken = (omega arith, (omega arith, refl))

      way : (u : Bool) → SitedStep (forked u) (Step.fork k pc target count)
      way true = site-taken
      way false = site-behind k pc target count a.c

      by : (o : Option Nzcv) → SitedStep (known o (λ g. forked (ConditionHolds k g))) (Step.fork k pc target count)
      by none = tt
      by (some g) = way (ConditionHolds k g)
  sited a flash lim (Step.ind t count brk) = by (a.t t)
    where
      found : ℕ → Bool → Then
      found q u = cond u (off exits (arrive q count a.c)) (off looks_up (arrive q count a.c))

      way : (q : ℕ) (u : Bool) → SitedStep (found q u) (Step.ind t count brk)
      way q true = (tt, tt)
      way q false = (tt, tt)

      by : (o : Option ℕ) → SitedStep (known o (λ q. found q (brk && not (eqb a.c.brk 0)))) (Step.ind t count brk)
      by none = tt
      by (some q) = way q (brk && not (eqb a.c.brk 0))
  sited a flash lim (Step.limit pc count) = by (ltb lim (a.c.done + count))
    where
      within : Abs
      within = record { c = a.c; t = upd a.t 9 none; f = none }

      by : (u : Bool) → SitedStep (cond u (off exits (arrive pc 0 a.c)) (go within)) (Step.limit pc count)
      by true = (tt, tt)
      by false = none_limit pc count
  sited a flash lim (Step.guard at helper pc) =
      by (eqb a.c.version (version_at a.c.guards at)) (ask (card_guard at) a.c.outcomes a.c)
    where
      kept : Card → Abs
      kept c = record { c = c; t = kill a.t; f = none }

      answered : (u : Bool) (c : Card) → SitedStep (cond u (off exits (arrive pc 0 c)) (go (kept c))) (Step.guard at helper pc)
      answered true c = (tt, tt)
      answered false c = none_guard at helper pc

      by : (u : Bool) (r : Access)
          → SitedStep (cond u (go (kept a.c)) (if_got r (λ v c. cond (eqb v 0) (off exits (arrive pc 0 c)) (go (kept c)))))
          (Step.guard at helper pc)
      by true r = none_guard at helper pc
      by false (got v c) = answered (eqb v 0) c
      by false unmet = tt
