-- The versions of a RAM block's guard: the context's is loaded, and that in the guard's record, and they are compared.
--     asks     the branch is taken where all 64 bits of the versions are equal
--     after    the card behind the request that is made where they differ
use mathlib.Core.Path.{◌≡◌, refl, sym, ap, ◌∙◌, subst}
use mathlib.Core.Logic.{◌≢◌, inl, inr}
use mathlib.Core.Option.{none}
use mathlib.Core.List.{List, [], ◌∷◌}
use Prim.Native.Nat.{ℕ, zero, suc, ◌+◌, ◌-◌, ◌^◌, ◌≤◌, ◌<◌}
use native.Mathlib.Nat.{mod-eq_of_lt}
use native.Mathlib.Omega.{arith}
use borrow.Author.Tests.{eq-eqb, ne_eqb}
use lib.Dec.{eqb}
use lib.ListN.{length, drop, length-drop}
use lib.Seq.{get_or-drop}
use Rattle.arm.specs.declared.Size.TheVariants.{X}
use Rattle.block.specs.declared.Block.{Block}
use Rattle.block.specs.Checked.{Checked}
use Rattle.code.specs.Items.{b_cond}
use Rattle.code.specs.Tree.{Depth, under, Code, code, lit}
use Rattle.machine.specs.Bits.{ConditionHolds}
use Rattle.machine.specs.State.{Region, State, R, with_x, with_flags, context, guards}
use Rattle.machine.specs.Memory.{read_le, nowhere, bytes_of, base_of, size_of, Disjoint}
use Rattle.machine.specs.Execute.{Helpers}
use Rattle.machine.proofs.Bytes.{read_lt}
use Rattle.machine.proofs.Data.{exec_cmp}
use Rattle.machine.proofs.Flags.{compared, eq_means}
use Rattle.machine.proofs.Registers.{R_same, R_other}
use Rattle.card.specs.Card.{Card, version_at, asked, Outcome as CardOutcome}
use Rattle.card.specs.Card.{guard as card_guard}
use Rattle.lowering.specs.Cache.{empty_cache}
use Rattle.lowering.specs.Instrs.{CTX, EQ, cmp_x, ldr_x}
use Rattle.lowering.specs.Fragments.{OFF_VER, guard}
use Rattle.demand.specs.Premises.{ram_guards, Guarded}
use Rattle.relation.specs.Lines.{arm, of_effect, bare, exec, taken}
use Rattle.relation.specs.Abs.{Abs, kill}
use Rattle.relation.specs.Relation.{cls, Body, Kept, Sim, Frag}
use Rattle.registers.proofs.Basics.{sim_at, sim-put_none, sim-flags}
use Rattle.registers.proofs.Frags.{frag-one, frag_cons, frag_lit}
use Rattle.registers.proofs.Access.{apart-now, count-now, size-now, start-now, ldr_x_at}
use Rattle.accesses.proofs.Temps.{below-kill, below_same, below-skip, forget}

-- ---- the version in a guard's record
-- that of the first region at an address
first_there : (m : List Region) (a k : ℕ) → k < length m → base_of m k ≡ a → ((j : ℕ) → j < k → base_of m j ≢ a)
    → version_at (ram_guards m) a ≡ read_le (bytes_of m k) 0 8
first_there [] a k l e f = absurd (omega arith)
first_there (r ∷ m) a zero l e f = rw (eq-eqb r.base a e) refl
first_there (r ∷ m) a (suc k) l e f =
    rw (ne_eqb r.base a (f 0 (omega arith))) (first_there m a k (omega arith) e (λ j z. f (suc j) (omega arith)))

module _ {b : Block} {h : Helpers} {s0 : State} (B : Body b h s0) (G : Guarded b.guard h s0) where
  -- no two guards stand at one address: they lie apart, and each has its version
  apart-bases : (i j : ℕ) → guards ≤ i → i < length s0.mem → guards ≤ j → j < length s0.mem → i ≢ j
      → base_of s0.mem i ≢ base_of s0.mem j
  apart-bases i j p q r t d e = by (B.apart.disjoint i j q t d)
    where
      by : Disjoint (base_of s0.mem i) (size_of s0.mem i) (base_of s0.mem j) (size_of s0.mem j) → ⊥
      by (inl x) = omega (arith, B.guard-sizes i p q)
      by (inr x) = omega (arith, B.guard-sizes j r t)

  version_there : {c : Card} {pc slot : ℕ} {s : State} → Kept b s0 c pc slot s
      → read_le (bytes_of s.mem G.region) 0 8 ≡ version_at c.guards b.guard.at
  version_there {c} {pc} {slot} {s} w =
      let k : ℕ = G.region - guards in
      let e : guards + k ≡ G.region = omega (arith, G.from) in
      let n : length s.mem ≡ length s0.mem = w.others.alike.count in
      let at_drop : (j : ℕ) → base_of (drop guards s.mem) j ≡ base_of s0.mem (guards + j) =
      λ j. ap (λ (r : Region). r.base) (get_or-drop guards s.mem j nowhere) ∙ w.others.alike.base (guards + j) in
      ap (λ i. read_le (bytes_of s.mem i) 0 8) (sym e)
      ∙ ap (λ (r : Region). read_le r.bytes 0 8) (sym (get_or-drop guards s.mem k nowhere))
      ∙ sym (first_there (drop guards s.mem) b.guard.at k (omega (arith, length-drop guards s.mem, G.inside))
      (at_drop k ∙ ap (base_of s0.mem) e ∙ G.at)
      (λ j l z. apart-bases (guards + j) G.region (omega arith) (omega (arith, G.inside)) G.from G.inside (omega arith)
      (sym (at_drop j) ∙ z ∙ sym G.at)))
      ∙ ap (λ gs. version_at gs b.guard.at) w.others.guards_are

-- ---- the code
module _ {b : Block} {h : Helpers} {s0 : State} (B : Body b h s0) (C : Checked b) (base : ℕ) (n : Depth) (G : Guarded b.guard h s0) (a : Abs) where
  abbrev pub at : ℕ
  at = b.guard.at

  abbrev pub helper : ℕ
  helper = b.guard.h_ram_ok

  abbrev pub guard_code : (pc : ℕ) → Code n
  guard_code pc = guard b empty_cache {n = n} at helper pc

  -- the context's version, and the guard's
  abbrev pub ours : ℕ
  ours = a.c.version

  abbrev pub theirs : ℕ
  theirs = version_at a.c.guards at

  -- nothing is known of the temporaries but of the two that a call keeps
  abbrev pub plain : Abs
  plain = record { c = a.c; t = kill a.t; f = none }

  abbrev pub Plain : State → Type 0
  Plain = Sim b s0 empty_cache plain

  -- another temporary is written
  pub put : (k v : ℕ) → cls k ≡ 0 → kill a.t k ≡ none → {s : State} → Plain s → Plain (with_x k v s)
  put k v q e w = forget (kill a.t) (below-skip (below_same (kill a.t)) k none e) (sim-put_none w k v q)

  -- x9 is the context's version
  unfoldable pub Versioned : State → Type 0
  Versioned s = Plain s × (R X s 9 ≡ ours)

  pub versions : Frag (arm h base) {n = under n} (code (ldr_x 9 CTX OFF_VER ∷ [])) (Sim b s0 empty_cache a) Versioned
  unfolding Versioned cls kill
  versions =
      frag-one (ldr_x 9 CTX OFF_VER) (λ s. bare (with_x 9 (there s) s))
      (λ s w. ldr_x_at h s (apart-now B w.kept) CTX context 0 40 (omega (arith, count-now B w.kept)) (omega arith)
      (start-now B w.kept CTX context refl B.x20 ∙ omega arith) 9 refl (omega (arith, size-now B w.kept context, B.context_in)))
      (λ s w. (
        sim_at (put 9 (there s) refl refl (forget (kill a.t) (below-kill a.t a.t refl refl) w)) 0 0,
        R_same X 9 (there s) s (omega (arith, w.kept.fixed.registers)) ∙ mod-eq_of_lt (read_lt (bytes_of s.mem context) 40 8)
            ∙ w.kept.ctx.version_is,
      ))
    where
      there : State → ℕ
      there s = read_le (bytes_of s.mem context) 40 8

  -- x1 is the guard's address
  unfoldable pub Addressed : State → Type 0
  Addressed s = Plain s × (R X s 9 ≡ ours) × (R X s 1 ≡ at)

  pub address : Frag (arm h base) {n = under n} (lit 1 at) Versioned Addressed
  unfolding Versioned Addressed cls kill
  address = frag_lit 1 at
      (λ s w. (
        put 1 at refl refl w.0,
        R_other X 1 at s 9 (omega arith) ∙ w.1,
        R_same X 1 at s (omega (arith, w.0.kept.fixed.registers)) ∙ mod-eq_of_lt C.guard.at,
      ))

  -- x10 is its version, and they are compared
  unfoldable pub Compared : State → Type 0
  Compared s = Plain s × (R X s 1 ≡ at) × (s.nzcv ≡ compared X ours theirs)

  pub compare : Frag (arm h base) {n = under n} (code (ldr_x 10 1 0 ∷ cmp_x 9 10 ∷ [])) Addressed Compared
  unfolding Addressed Compared cls kill exec
  compare =
      frag_cons {B = λ s. Plain s × (R X s 9 ≡ ours) × (R X s 1 ≡ at) × (R X s 10 ≡ theirs)}
      (frag-one (ldr_x 10 1 0) (λ s. bare (with_x 10 (there s) s))
      (λ s w. ldr_x_at h s (apart-now B w.0.kept) 1 G.region 0 0 (omega (arith, w.0.kept.others.alike.count, G.inside))
      (omega arith) (w.2 ∙ sym G.at ∙ sym (w.0.kept.others.alike.base G.region) ∙ omega arith) 10 refl
      (omega (arith, size-now B w.0.kept G.region, B.guard-sizes G.region G.from G.inside)))
      (λ s w. (
        sim_at (put 10 (there s) refl refl w.0) 0 0,
        R_other X 10 (there s) s 9 (omega arith) ∙ w.1,
        R_other X 10 (there s) s 1 (omega arith) ∙ w.2,
        R_same X 10 (there s) s (omega (arith, w.0.kept.fixed.registers)) ∙ mod-eq_of_lt (read_lt (bytes_of s.mem G.region) 0 8)
            ∙ version_there B G w.0.kept,
      )))
      (frag-one (cmp_x 9 10) (λ s. bare (with_flags (compared X (R X s 9) (R X s 10)) s))
      (λ s w. ap of_effect (exec_cmp h s X 10 9 w.0.kept.fixed.registers))
      (λ s w. (
        sim_at (sim-flags w.0 (compared X (R X s 9) (R X s 10)) none (λ u e. cc)) 0 0,
        w.2,
        ap (λ y. compared X y (R X s 10)) w.1 ∙ ap (λ y. compared X ours y) w.3,
      )))
    where
      there : State → ℕ
      there s = read_le (bytes_of s.mem G.region) 0 8

  -- the branch is taken where all 64 bits of the versions are equal
  pub asks : (s : State) → Compared s → taken (b_cond EQ) s ≡ eqb ours theirs
  unfolding Compared taken
  asks s w =
      ap (ConditionHolds 0) w.2
      ∙ eq_means X ours theirs (subst (λ y. y < 2 ^ 64) w.0.kept.ctx.version_is (read_lt (bytes_of s.mem context) 40 8))
      (subst (λ y. y < 2 ^ 64) (version_there B G w.0.kept) (read_lt (bytes_of s.mem G.region) 0 8))

  -- the card behind the request
  abbrev pub after : CardOutcome → List CardOutcome → Card
  after o os = asked (card_guard at) o os a.c
