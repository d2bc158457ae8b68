-- Code that jumps behind a block around it, and code that leaves, put together.
--     Goes, goes_to, goes_then, goes-front, frag_caught     code that goes behind a block, and the block around it
--     frag_stays                                            a jump that does not jump
--     Exits, exits-then, exits-front, exits-block, exits_here     code that leaves, its chain site at this word position
--     exits_outs, exits_outs_exits, exits_outs_looks_up      as the relation says it
use mathlib.Core.Path.{◌≡◌, sym, ap, ◌∙◌, subst}
use mathlib.Core.Bool.{true, false}
use Prim.Native.Nat.{ℕ, ◌+◌, ◌*◌, ◌%◌, ◌^◌}
use lib.ListN.{get_or}
use Rattle.block.specs.declared.Block.{Block}
use Rattle.code.specs.Items.{pick, Hole}
use Rattle.code.specs.Items.{b as always}
use Rattle.code.specs.Tree.{Depth, under, Var, inner, Code, to, exit, block, ◌then◌, words}
use Rattle.code.specs.Machine.{Machine, Out, fell, went, left, ended, and_then, caught, does}
use Rattle.machine.specs.State.{State}
use Rattle.machine.specs.Execute.{Helpers}
use Rattle.card.specs.Card.{Card}
use Rattle.card.specs.Step.{Way, exits, looks_up}
use Rattle.lowering.specs.Compile.{starts}
use Rattle.relation.specs.Lines.{Stop, arm, taken}
use Rattle.relation.specs.Relation.{AtExit, Leaves, Frag, site_of, Outs}

-- code that goes behind the block v
pub record Goes (M : Machine) {n : Depth} (f : Code n) (A : M.State → Type 0) (v : Var n) (B : M.State → Type 0) : Type 0 where
  pub runs : (p : ℕ) (s : M.State) → A s → (s' : M.State) × (does M f p s ≡ went v s') × B s'

module _ {M : Machine} {n : Depth} where
  pub frag_stays : (h : Hole) (v : Var n) {A : M.State → Type 0} → ((s : M.State) → A s → M.taken h s ≡ false) → Frag M (to h v) A A
  unfolding does
  frag_stays h v t = record { runs = λ p s w. (s, ap (λ y. pick y (went v s) (fell s)) (t s w), w) }

  pub goes_to : (h : Hole) (v : Var n) {A : M.State → Type 0} → ((s : M.State) → A s → M.taken h s ≡ true) → Goes M (to h v) A v A
  unfolding does
  goes_to h v t = record { runs = λ p s w. (s, ap (λ y. pick y (went v s) (fell s)) (t s w), w) }

  pub goes_then : {f g : Code n} {A B C : M.State → Type 0} {v : Var n} → Frag M f A B → Goes M g B v C → Goes M (f then g) A v C
  unfolding does
  goes_then {f = f} {g = g} x y = record {
    runs = λ p s w.
        let (s₁, r₁, w₁) = x.runs p s w in
        let (s₂, r₂, w₂) = y.runs (p + words f) s₁ w₁ in
        (s₂, ap (λ o. and_then o (λ s₃. does M g (p + words f) s₃)) r₁ ∙ r₂, w₂);
  }

  pub goes-front : {f g : Code n} {A B : M.State → Type 0} {v : Var n} → Goes M f A v B → Goes M (f then g) A v B
  unfolding does
  goes-front {f = f} {g = g} x = record { runs = λ p s w. let (s₁, r₁, w₁) = x.runs p s w in (s₁, ap (λ o. and_then o (λ s₃. does M g (p + words f) s₃)) r₁, w₁) }

  pub goes_map : {f : Code n} {A B C : M.State → Type 0} {v : Var n} → Goes M f A v B → ((s : M.State) → B s → C s) → Goes M f A v C
  goes_map x g = record { runs = λ p s w. let (s₁, r₁, w₁) = x.runs p s w in (s₁, r₁, g s₁ w₁) }

  pub frag_caught : {f : Code (under n)} {A B : M.State → Type 0} → Goes M f A inner B → Frag M (block f) A B
  unfolding does
  frag_caught x = record { runs = λ p s w. let (s₁, r₁, w₁) = x.runs p s w in (s₁, ap caught r₁, w₁) }

-- code that leaves so
pub record Exits (h : Helpers) (base : ℕ) (b : Block) (s0 : State) {n : Depth} (f : Code n) (A : State → Type 0) (w : Way) (c : Card) (site : ℕ → ℕ) : Type 0 where
  pub leaves : (p : ℕ) (s : State) → A s → Leaves b s0 w c ((base + 4 * site p) % 2 ^ 64) (does (arm h base) f p s)

module _ (b : Block) (s0 : State) (w : Way) (c : Card) (site : ℕ) where
  left_caught : {n : Depth} (o : Out State Stop (under n)) → Leaves b s0 w c site o → Leaves b s0 w c site (caught o)
  left_caught (fell s) x = x
  left_caught (went v s) x = absurd x
  left_caught (left s) x = x
  left_caught (ended r) x = x

  left_front : {n : Depth} (o : Out State Stop n) (f : State → Out State Stop n) → Leaves b s0 w c site o → Leaves b s0 w c site (and_then o f)
  left_front (fell s) f x = absurd x
  left_front (went v s) f x = x
  left_front (left s) f x = x
  left_front (ended r) f x = x

module _ (b : Block) (s0 : State) (c : Card) (x y : ℕ) where
  at_exits : {n : Depth} (o : Out State Stop n) → Leaves b s0 exits c x o → Leaves b s0 exits c y o
  at_exits (fell s) w = w
  at_exits (went v s) w = w
  at_exits (left s) w = record { kept = w.kept; home = w.home; done_is = w.done_is; missed = w.missed }
  at_exits (ended r) w = w

  at_looks_up : {n : Depth} (o : Out State Stop n) → Leaves b s0 looks_up c x o → Leaves b s0 looks_up c y o
  at_looks_up (fell s) w = w
  at_looks_up (went v s) w = w
  at_looks_up (left s) w = record { kept = w.kept; home = w.home; done_is = w.done_is; missed = w.missed }
  at_looks_up (ended r) w = w

module _ {h : Helpers} {base : ℕ} {b : Block} {s0 : State} where
  module _ {n : Depth} {w : Way} {c : Card} where
    pub exits_pre : {f : Code n} {A B : State → Type 0} {t : ℕ → ℕ} → ((s : State) → A s → B s) → Exits h base b s0 f B w c t → Exits h base b s0 f A w c t
    exits_pre g y = record { leaves = λ p s u. y.leaves p s (g s u) }

    -- what is known of the first state may be used
    pub exits_with : {f : Code n} {A : State → Type 0} {t : ℕ → ℕ} → ((s : State) → A s → Exits h base b s0 f A w c t) → Exits h base b s0 f A w c t
    exits_with g = record { leaves = λ p s u. (g s u).leaves p s u }

    pub exits-then : {f g : Code n} {A B : State → Type 0} {t : ℕ → ℕ} → Frag (arm h base) f A B → Exits h base b s0 g B w c t → Exits h base b s0 (f then g) A w c (λ p. t (p + words f))
    unfolding does
    exits-then {f = f} {g = g} {t = t} x y = record {
      leaves = λ p s u.
          let (s₁, r₁, u₁) = x.runs p s u in
          subst (λ o. Leaves b s0 w c ((base + 4 * t (p + words f)) % 2 ^ 64) (and_then o (λ s₃. does (arm h base) g (p + words f) s₃))) (sym r₁) (y.leaves (p + words f) s₁ u₁);
    }

    pub exits-front : {f g : Code n} {A : State → Type 0} {t : ℕ → ℕ} → Exits h base b s0 f A w c t → Exits h base b s0 (f then g) A w c t
    unfolding does
    exits-front {f = f} {g = g} {t = t} x = record { leaves = λ p s u. left_front b s0 w c ((base + 4 * t p) % 2 ^ 64) (does (arm h base) f p s) (λ s₁. does (arm h base) g (p + words f) s₁) (x.leaves p s u) }

    pub exits-block : {f : Code (under n)} {A : State → Type 0} {t : ℕ → ℕ} → Exits h base b s0 f A w c t → Exits h base b s0 (block f) A w c t
    unfolding does
    exits-block {f = f} {t = t} x = record { leaves = λ p s u. left_caught b s0 w c ((base + 4 * t p) % 2 ^ 64) (does (arm h base) f p s) (x.leaves p s u) }

    pub exits_outs : {f : Code n} {A : State → Type 0} → Exits h base b s0 f A w c (λ p. get_or (starts f p) (site_of w) 0) → Outs h base b s0 f A w c
    exits_outs x = record { leaves = x.leaves }

  -- where no chain is left by, the site is any
  module _ {n : Depth} {c : Card} where
    pub exits_outs_exits : {f : Code n} {A : State → Type 0} {t : ℕ → ℕ} → Exits h base b s0 f A exits c t → Outs h base b s0 f A exits c
    exits_outs_exits {f = f} {t = t} x = record { leaves = λ p s u. at_exits b s0 c ((base + 4 * t p) % 2 ^ 64) ((base + 4 * get_or (starts f p) 0 0) % 2 ^ 64) (does (arm h base) f p s) (x.leaves p s u) }

    pub exits_outs_looks_up : {f : Code n} {A : State → Type 0} {t : ℕ → ℕ} → Exits h base b s0 f A looks_up c t → Outs h base b s0 f A looks_up c
    exits_outs_looks_up {f = f} {t = t} x = record { leaves = λ p s u. at_looks_up b s0 c ((base + 4 * t p) % 2 ^ 64) ((base + 4 * get_or (starts f p) 0 0) % 2 ^ 64) (does (arm h base) f p s) (x.leaves p s u) }

  -- at the jump to the common exit
  pub exits_here : {n : Depth} {w : Way} {c : Card} {t : ℕ → ℕ} {A : State → Type 0} → ((p : ℕ) (s : State) → A s → AtExit b s0 w c ((base + 4 * t p) % 2 ^ 64) s)
      → Exits h base b s0 {n = n} (exit always) A w c t
  unfolding does taken
  exits_here g = record { leaves = λ p s u. g p s u }
