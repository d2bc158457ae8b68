-- The code of a helper call.
--     move_frag, context_frag, count_frag, bytes_frag     its arguments
--     call_frag           flush, call, reload
--     read_frag           the read helper, its answer in w0
--     write_frag          the write helper
use mathlib.Core.Path.{◌≡◌, refl, sym, ap, ◌∙◌, subst, subst₂}
use mathlib.Core.Logic.{◌≢◌}
use mathlib.Core.Option.{Option, none, some}
use mathlib.Core.List.{List, [], ◌∷◌}
use Prim.Native.Nat.{ℕ, ◌+◌, ◌%◌, ◌^◌, ◌<◌}
use native.Mathlib.Nat.{mod-eq_of_lt}
use native.Mathlib.Omega.{arith}
use Rattle.arm.specs.declared.Size.TheVariants.{W, X}
use Rattle.block.specs.declared.Block.{Block}
use Rattle.block.specs.Checked.{Checked}
use Rattle.code.specs.Tree.{Depth, code}
use Rattle.code.specs.Machine.{fall, fell, go_on, of_eff, straight, does}
use Rattle.machine.specs.State.{Outcome, State, context, R, with_x}
use Rattle.machine.specs.Memory.{base_of}
use Rattle.machine.specs.Execute.{Helpers, called}
use Rattle.machine.proofs.Registers.{R_lt, R_same, R_other, answer}
use Rattle.machine.proofs.Data.{exec_mov, exec-add_imm}
use Rattle.card.specs.Word.{plus}
use Rattle.card.specs.Card.{asked, Outcome as CardOutcome, Request as CardRequest, read as card_read, write as card_write}
use Rattle.lowering.specs.declared.RegCache.{RegCache}
use Rattle.lowering.specs.Instrs.{CTX, DONE, mov, mov_x, mov32, add_i, blr}
use Rattle.lowering.specs.Fragments.{call}
use Rattle.demand.specs.Outside.{as_arm, as_card, all_card}
use Rattle.relation.specs.Lines.{arm, of_effect, bare, exec}
use Rattle.relation.specs.Abs.{Abs, upd, kill, with_temp}
use Rattle.relation.specs.Relation.{cls, Body, Sim, Home, Frag}
use Rattle.registers.proofs.Basics.{cls_lt, sim-put_none, sim_at}
use Rattle.registers.proofs.Frags.{frag_map, frag_then, frag-one, frag_cons, frag_lit}
use Rattle.registers.proofs.Fields.{home_to}
use Rattle.registers.proofs.Flush.{Homed, flush_frag, reload_frag}
use Rattle.registers.proofs.Slots.{exec-move}
use Rattle.registers.proofs.Access.{start-now}
use Rattle.registers.proofs.Constants.{below-upd, temp_frag, mov32-runs, mov32-sim}
use Rattle.accesses.proofs.Temps.{below-kill, forget}
use Rattle.accesses.proofs.Context.{InContext, in_frag, put_spares, flush_spares}
use Rattle.accesses.proofs.Call.{behind, homed_called, exec-read, exec-write}

-- ---- the arguments
module _ (h : Helpers) (base : ℕ) {b : Block} {s0 : State} {n : Depth} {rc : RegCache} (a : Abs) where
  pub move_frag : (d r v : ℕ) → cls d ≡ 0 → cls r ≡ 0 → a.t r ≡ some v → Frag (arm h base) {n = n} (code (mov d r ∷ [])) (Sim b s0 rc a) (Sim b s0 rc (with_temp d (some v) a))
  move_frag d r v p q k = temp_frag h base a (mov d r) d v (λ s. R W s r) p (λ s w. exec-move h s d r w.kept.fixed.registers) (λ s w. mod-eq_of_lt (R_lt W s r) ∙ w.temps r v q k)

  pub context_frag : Body b h s0 → Frag (arm h base) {n = n} (code (mov_x 0 CTX ∷ [])) (Sim b s0 rc a) (InContext s0 (Sim b s0 rc (with_temp 0 none a)))
  unfolding exec cls
  context_frag B =
      frag-one (mov_x 0 CTX) (λ s. bare (with_x 0 (R X s CTX) s)) (λ s w. ap of_effect (exec_mov h s X CTX 0 w.kept.fixed.registers))
      (λ s w. record {
        holds = sim_at (sim-put_none w 0 (R X s CTX) refl) 0 0;
        context_is = R_same X 0 (R X s CTX) s (omega (arith, w.kept.fixed.registers)) ∙ mod-eq_of_lt (R_lt X s CTX) ∙ start-now B w.kept CTX context refl B.x20 ∙ w.kept.others.alike.base context;
      })

  -- the done count plus the operation's position
  pub count_frag : (d i : ℕ) → cls d ≡ 0 → 0 ≢ d → Frag (arm h base) {n = n} (code (add_i d DONE i ∷ [])) (InContext s0 (Sim b s0 rc a)) (InContext s0 (Sim b s0 rc (with_temp d (some (plus a.c.done i)) a)))
  unfolding exec straight
  count_frag d i q k =
      in_frag h base
      (temp_frag h base a (add_i d DONE i) d (plus a.c.done i) (λ s. (R W s DONE + i) % 2 ^ 32) q (λ s w. ap of_effect (exec-add_imm h s W i DONE d (omega arith) (cls_lt d q (omega arith))))
      (λ s w. ap (λ u. (u + i) % 2 ^ 32 % 2 ^ 32) w.done_is ∙ omega arith))
      (λ p s s' w. put_spares h base (add_i d DONE i ∷ []) d ((R W s DONE + i) % 2 ^ 32) p s s' k
      (ap (λ f. go_on (of_effect f) (λ s₁. fall s₁)) (exec-add_imm h s W i DONE d (omega arith) (cls_lt d q (omega arith)))))

  -- the bytes of the access
  pub bytes_frag : (d v : ℕ) → cls d ≡ 0 → 0 ≢ d → v < 2 ^ 32 → Frag (arm h base) {n = n} (code (mov32 d v)) (InContext s0 (Sim b s0 rc a)) (InContext s0 (Sim b s0 rc (with_temp d (some v) a)))
  bytes_frag d v q k l =
      in_frag h base (mov32-sim h base a d v q l)
      (λ p s s' w. put_spares h base (mov32 d v) d v p s s' k (mov32-runs h base d v s (subst (λ m. d < m) (sym w.kept.fixed.registers) (cls_lt d q (omega arith))) l))

-- ---- the call
-- the guest registers are in the processor record, x9 holds a helper's address and x0 the context's
pub record Ready (b : Block) (s0 : State) (rc : RegCache) (a : Abs) (f : ℕ) (s : State) : Type 0 where
  pub sim : Sim b s0 rc a s
  pub home : Home b a.c s
  pub helper : R X s 9 ≡ f
  pub context_is : R X s 0 ≡ base_of s.mem context

-- the call asks q, and leaves v in w0
pub record Asks (h : Helpers) (q : CardRequest) (v : Option ℕ) (o : CardOutcome) (s : State) : Type 0 where
  pub asks : (x : Outcome) (xs : List Outcome) → s.outcomes ≡ x ∷ xs → exec h (blr 9) s ≡ fall (bare (called (as_arm q) x xs s))
  pub answers : (x : Outcome) (xs : List Outcome) → s.outcomes ≡ x ∷ xs → as_card x ≡ o → (u : ℕ) → v ≡ some u → R W (called (as_arm q) x xs s) 0 ≡ u

module _ {b : Block} {h : Helpers} {s0 : State} (B : Body b h s0) (C : Checked b) (base : ℕ) {n : Depth} (rc : RegCache) where
  blr_frag : (a : Abs) (f : ℕ) (q : CardRequest) (v : Option ℕ) (o : CardOutcome) (os : List CardOutcome) → a.c.outcomes ≡ o ∷ os → ((s : State) → Ready b s0 rc a f s → Asks h q v o s)
      → Frag (arm h base) {n = n} (code (blr 9 ∷ [])) (Ready b s0 rc a f) (Homed b s0 rc (behind a v (asked q o os a.c)))
  unfolding does straight
  blr_frag a f q v o os e k = record { runs = λ p s w. by p s w s.outcomes refl }
    where
      by : (p : ℕ) (s : State) → Ready b s0 rc a f s → (l : List Outcome) → s.outcomes ≡ l
          → (s' : State) × (does (arm h base) {n = n} (code (blr 9 ∷ [])) p s ≡ fell s') × Homed b s0 rc (behind a v (asked q o os a.c)) s'
      by p s w [] z = let y : ◌≡◌ {A = ℕ} 0 1 = cc (w.sim.kept.io.outcomes_are ∙ ap all_card z) in absurd (omega arith)
      by p s w (x ∷ xs) z =
          let m : o ∷ os ≡ as_card x ∷ all_card xs = sym e ∙ w.sim.kept.io.outcomes_are ∙ ap all_card z in
          let m₁ : as_card x ≡ o = cc in
          let m₂ : all_card xs ≡ os = cc in (
            bare (called (as_arm q) x xs s),
            ap (λ r. of_eff {n = n} (go_on r (λ s₁. fall s₁))) ((k s w).asks x xs z),
            subst₂ (λ y ys. Homed b s0 rc (behind a v (asked q y ys a.c)) (bare (called (as_arm q) x xs s))) m₁ m₂
                (homed_called B w.sim w.home q x xs z v (λ u r. (k s w).answers x xs z m₁ u r)),
          )

  pub call_frag : (a : Abs) (f : ℕ) (q : CardRequest) (v : Option ℕ) (o : CardOutcome) (os : List CardOutcome) → f < 2 ^ 64 → a.c.outcomes ≡ o ∷ os
      → ((s : State) → Ready b s0 rc (with_temp 9 none a) f s → Asks h q v o s)
      → Frag (arm h base) {n = n} (call b rc f) (InContext s0 (Sim b s0 rc a)) (Sim b s0 rc (behind a v (asked q o os a.c)))
  unfolding call kill upd cls
  call_frag a f q v o os l e k =
      frag_then (in_frag h base (flush_frag B C base rc a) (λ p s s' w. flush_spares h base b.layout rc p s s'))
      (frag_then (frag_lit 9 f {B = Ready b s0 rc (with_temp 9 none a) f} (λ s w. ready s w.holds.0 w.holds.1 w.context_is))
      (frag_cons (blr_frag (with_temp 9 none a) f q v o os e k)
      (frag_map (reload_frag B C base rc (behind (with_temp 9 none a) v (asked q o os a.c)))
      (λ s w. forget (upd (kill a.t) 0 v) (below-upd (below-kill a.t (kill (upd a.t 9 none)) refl refl) 0 v) w))))
    where
      ready : (s : State) → Sim b s0 rc a s → Home b a.c s → R X s 0 ≡ base_of s0.mem context → Ready b s0 rc (with_temp 9 none a) f (with_x 9 f s)
      ready s w y z = record {
        sim = sim-put_none w 9 f refl;
        home = home_to y (with_x 9 f s) refl;
        helper = R_same X 9 f s (omega (arith, w.kept.fixed.registers)) ∙ mod-eq_of_lt l;
        context_is = R_other X 9 f s 0 (omega arith) ∙ z ∙ sym (w.kept.others.alike.base context);
      }

  pub read_frag : (a : Abs) (p d w : ℕ) (o : CardOutcome) (os : List CardOutcome) → a.c.outcomes ≡ o ∷ os → a.t 1 ≡ some p → a.t 2 ≡ some d → a.t 3 ≡ some w
      → Frag (arm h base) {n = n} (call b rc b.addresses.h_read) (InContext s0 (Sim b s0 rc a)) (Sim b s0 rc (behind a (some (o.answer % 2 ^ 32)) (asked (card_read p w d) o os a.c)))
  unfolding cls upd
  read_frag a p d w o os e k₁ k₂ k₃ = call_frag a b.addresses.h_read (card_read p w d) (some (o.answer % 2 ^ 32)) o os C.addresses.h-read e asking
    where
      asking : (s : State) → Ready b s0 rc (with_temp 9 none a) b.addresses.h_read s → Asks h (card_read p w d) (some (o.answer % 2 ^ 32)) o s
      asking s y =
          let x₁ : R W s 1 ≡ p = y.sim.temps 1 p refl k₁ in
          let x₂ : R W s 2 ≡ d = y.sim.temps 2 d refl k₂ in
          let x₃ : R W s 3 ≡ w = y.sim.temps 3 w refl k₃ in
          record {
            asks = λ x xs z. exec-read h s x xs z (y.helper ∙ sym B.reads) y.context_is ∙ rw (x₁, x₂, x₃);
            answers = λ x xs z m u r. answer p w d x xs s y.sim.kept.fixed.registers ∙ ap (λ (g : CardOutcome). g.answer % 2 ^ 32) m ∙ some_is (o.answer % 2 ^ 32) u r;
          }
        where
          some_is : (x y : ℕ) → some x ≡ some y → x ≡ y
          some_is x y e = cc

  pub write_frag : (a : Abs) (p v d w : ℕ) (o : CardOutcome) (os : List CardOutcome) → a.c.outcomes ≡ o ∷ os → a.t 1 ≡ some p → a.t 2 ≡ some v → a.t 3 ≡ some d → a.t 4 ≡ some w
      → Frag (arm h base) {n = n} (call b rc b.addresses.h_write) (InContext s0 (Sim b s0 rc a)) (Sim b s0 rc (behind a none (asked (card_write p w d v) o os a.c)))
  unfolding cls upd
  write_frag a p v d w o os e k₁ k₂ k₃ k₄ = call_frag a b.addresses.h_write (card_write p w d v) none o os C.addresses.h-write e asking
    where
      asking : (s : State) → Ready b s0 rc (with_temp 9 none a) b.addresses.h_write s → Asks h (card_write p w d v) none o s
      asking s y =
          let x₁ : R W s 1 ≡ p = y.sim.temps 1 p refl k₁ in
          let x₂ : R W s 2 ≡ v = y.sim.temps 2 v refl k₂ in
          let x₃ : R W s 3 ≡ d = y.sim.temps 3 d refl k₃ in
          let x₄ : R W s 4 ≡ w = y.sim.temps 4 w refl k₄ in
          record {
            asks = λ x xs z. exec-write h s x xs z B.differ (y.helper ∙ sym B.writes) y.context_is ∙ rw (x₁, x₂, x₃, x₄);
            answers = λ x xs z m u r. cc;
          }
