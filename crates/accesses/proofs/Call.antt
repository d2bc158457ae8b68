-- A helper call: what the machine does where the block asks the outside.
--     kept-called         the relation's parts after a call that met an outcome
--     homed_called        the whole of it, the guest registers in the processor record
--     exec-read, exec-write    the branch to a helper
use mathlib.Core.Path.{◌≡◌, refl, sym, ap, ap₂, ◌∙◌, subst}
use mathlib.Core.Logic.{◌≢◌, ◌⊎◌, inl, inr}
use mathlib.Core.Bool.{Bool, true, false, not, ◌&&◌}
use mathlib.Core.Option.{Option, none, some}
use mathlib.Core.List.{List, [], ◌∷◌, ◌++◌}
use Prim.Native.Nat.{ℕ, zero, suc, ◌+◌, ◌%◌, ◌^◌, ◌≤◌, ◌<◌}
use native.Mathlib.Nat.{mod-eq_of_lt}
use native.Mathlib.Omega.{arith}
use borrow.Author.Tests.{eq-eqb, ne_eqb, eqb-true, eqb-false}
use lib.Dec.{eqb}
use lib.ListN.{length, get_or, drop, length-drop}
use lib.Seq.{get_or-drop}
use Rattle.arm.specs.declared.Size.TheVariants.{W, X}
use Rattle.block.specs.declared.Block.{Block}
use Rattle.code.specs.Machine.{fall}
use Rattle.machine.specs.State.{Region, read, write, Outcome, State, code, stack, processor, context, ram, xip, map, table, guards, R}
use Rattle.machine.specs.Memory.{read_le, write_le, nowhere, bytes_of, size_of, base_of}
use Rattle.machine.specs.Execute.{Helpers, called, ask, execute}
use Rattle.machine.proofs.Bytes.{read_same, read_above, read_below, get_or-write_le-below, get_or-write_le-above, length-write_le}
use Rattle.machine.proofs.Regions.{alike_trans}
use Rattle.machine.proofs.Versions.{renewed}
use Rattle.machine.proofs.Calls.{called-map, called-ram, called-context, called_other, called-outside, called-guards, called-alike}
use Rattle.machine.proofs.Registers.{length-called, kept}
use Rattle.card.specs.Card.{Card, versioned, asked, Request as CardRequest}
use Rattle.lowering.specs.declared.RegCache.{RegCache}
use Rattle.lowering.specs.Instrs.{blr}
use Rattle.lowering.specs.Cache.{off_reg}
use Rattle.demand.specs.Premises.{ram_guards}
use Rattle.demand.specs.Outside.{as_arm, all_arm, as_card, all_card}
use Rattle.demand.specs.Claim.{slot_of}
use Rattle.relation.specs.Lines.{of_effect, bare, exec}
use Rattle.relation.specs.Abs.{Abs, upd, kill}
use Rattle.relation.specs.Relation.{cls, Body, Good, Goods, Fields, Context, Kept, Sim, Home}
use Rattle.registers.proofs.Basics.{test, upd_same, upd_other, cls_lt, kept_at}
use Rattle.registers.proofs.Access.{count-now, size-now}
use Rattle.registers.proofs.Flush.{Homed}
use Rattle.accesses.proofs.Temps.{not_some}

-- ---- the registers that are left alone are among those that a call keeps
none_is2 : List ℕ → Bool
none_is2 [] = true
none_is2 (x ∷ l) = not (eqb x 2) && none_is2 l

behind2 : (l m : List ℕ) (k : ℕ) → none_is2 l ≡ true → get_or (l ++ m) k 3 ≡ 2 → length l ≤ k
unfolding none_is2
behind2 [] m k q e = omega arith
behind2 (x ∷ l) m zero q e = absurd (bad (rw (eq-eqb x 2 e) at q))
  where
    bad : false ≡ true → ⊥
    bad z = let y : ◌≡◌ {A = ℕ} 0 1 = cc in omega arith
behind2 (x ∷ l) m (suc k) q e = let z : length l ≤ k = behind2 l m k (rest (not (eqb x 2)) (none_is2 l) q) e in omega arith
  where
    rest : (b c : Bool) → (b && c) ≡ true → c ≡ true
    rest true c z = z
    rest false c z = cc

pub alone_kept : (k : ℕ) → cls k ≡ 2 → (19 ≤ k) × (k < 30)
unfolding cls none_is2
alone_kept k q = (
  behind2 (0 ∷ 0 ∷ 0 ∷ 0 ∷ 0 ∷ 1 ∷ 1 ∷ 1 ∷ 1 ∷ 0 ∷ 0 ∷ 0 ∷ 0 ∷ 0 ∷ 1 ∷ 1 ∷ 1 ∷ 1 ∷ 3 ∷ []) (2 ∷ 2 ∷ 2 ∷ 2 ∷ 0 ∷ 0 ∷ 2 ∷ 4 ∷ 2 ∷ 2 ∷ 2 ∷ 3 ∷ []) k refl q,
  (let l : k < 31 = cls_lt k q (omega arith) in test (eqb k 30) (λ e. last (eqb-true k 30 e)) (λ e. let z : k ≢ 30 = eqb-false k 30 e in omega arith)),
)
  where
    last : k ≡ 30 → k < 30
    last e = let z : ◌≡◌ {A = ℕ} 3 2 = ap cls (sym e) ∙ q in absurd (omega arith)

all_arm-append : (l : List CardRequest) (q : CardRequest) → all_arm (l ++ (q ∷ [])) ≡ all_arm l ++ (as_arm q ∷ [])
all_arm-append [] q = refl
all_arm-append (x ∷ l) q = ap (λ z. as_arm x ∷ z) (all_arm-append l q)

-- ---- the guards after a call
renewed-guards : (rs : List Region) (vs : List ℕ) → ((k : ℕ) → k < length rs → 8 ≤ length (get_or rs k nowhere).bytes)
    → ((k : ℕ) → get_or vs k 0 < 2 ^ 64)
    → ram_guards (renewed rs vs) ≡ versioned (ram_guards rs) vs
renewed-guards [] vs f g = refl
renewed-guards (r ∷ rs) [] f g = refl
renewed-guards (r ∷ rs) (v ∷ vs) f g =
    ap₂ (λ u us. record { at = r.base; version = u } ∷ us) (read_same r.bytes 0 8 v (f 0 (omega arith)) ∙ mod-eq_of_lt (g 0))
    (renewed-guards rs vs (λ k l. f (suc k) (omega arith)) (λ k. g (suc k)))

module _ {b : Block} {h : Helpers} {s0 : State} (B : Body b h s0) {c : Card} {pc : ℕ} {s : State} (w : Kept b s0 c pc (slot_of s0) s) (q : CardRequest) (o : Outcome) (os : List Outcome) (e : s.outcomes ≡ o ∷ os) where
  -- their versions are the outcome's
  guards-called : ram_guards (drop guards (called (as_arm q) o os s).mem) ≡ versioned c.guards o.guards
  guards-called =
      let good : Good s0 o × Goods s0 os = subst (λ l. Goods s0 l) e w.io.goods in
      ap ram_guards (called-guards (as_arm q) o os s)
      ∙ renewed-guards (drop guards s.mem) o.guards
      (λ k l. subst (λ (r : Region). 8 ≤ length r.bytes) (sym (get_or-drop guards s.mem k nowhere))
      (omega (arith, size-now B w (guards + k), B.guard-sizes (guards + k) (omega arith) (omega (arith, w.others.alike.count, length-drop guards s.mem)))))
      good.0.guards_lt
      ∙ ap (λ gs. versioned gs o.guards) w.others.guards_are

  kept-called : Kept b s0 (asked q (as_card o) (all_card os) c) pc (slot_of s0) (called (as_arm q) o os s)
  kept-called =
      let n : guards ≤ length s.mem = count-now B w in
      let good : Good s0 o × Goods s0 os = subst (λ l. Goods s0 l) e w.io.goods in
      let z : size_of s.mem context ≡ size_of s0.mem context = size-now B w context in
      let l : List ℕ = bytes_of s.mem context in
      record {
        fixed = record {
          registers = length-called (as_arm q) o os s ∙ w.fixed.registers;
          keeps = λ k r. kept (as_arm q) o os s k (alone_kept k r).0 (alone_kept k r).1 ∙ w.fixed.keeps k r;
          sp = w.fixed.sp;
        };
        fields = subst (λ l. Fields b.layout (asked q (as_card o) (all_card os) c) pc (bytes_of s0.mem processor) l) (sym (called_other (as_arm q) o os s processor (omega arith) (omega arith) (omega arith) (omega arith)))
            (record { sp_is = w.fields.sp_is; rets_is = w.fields.rets_is; hold_is = w.fields.hold_is; pc_is = w.fields.pc_is; outside = w.fields.outside });
        ctx = subst (λ l. Context (asked q (as_card o) (all_card os) c) (slot_of s0) (bytes_of s0.mem context) l) (sym (called-context (as_arm q) o os s (omega arith)))
            (record {
              brk_is = read_below (write_le l 24 4 o.brk) 40 8 o.version 24 4 (omega arith) ∙ read_same l 24 4 o.brk (omega (arith, B.context_in)) ∙ mod-eq_of_lt good.0.brk_lt;
              slot_is = read_below (write_le l 24 4 o.brk) 40 8 o.version 32 8 (omega arith) ∙ read_above l 24 4 o.brk 32 8 (omega arith) ∙ w.ctx.slot_is;
              version_is = read_same (write_le l 24 4 o.brk) 40 8 o.version (omega (arith, length-write_le l 24 4 o.brk, B.context_in)) ∙ mod-eq_of_lt good.0.version_lt;
              outside = λ j p r. past j r ∙ out j p ∙ w.ctx.outside j p r;
            });
        others = record {
          alike = alike_trans w.others.alike (called-alike (as_arm q) o os s (good.0.ram-len ∙ sym (size-now B w ram)) (good.0.map-len ∙ sym (size-now B w map)));
          code_is = called_other (as_arm q) o os s code (omega arith) (omega arith) (omega arith) (omega arith) ∙ w.others.code_is;
          stack_is = called_other (as_arm q) o os s stack (omega arith) (omega arith) (omega arith) (omega arith) ∙ w.others.stack_is;
          ram_is = called-ram (as_arm q) o os s (omega arith);
          xip_is = called_other (as_arm q) o os s xip (omega arith) (omega arith) (omega arith) (omega arith) ∙ w.others.xip_is;
          map_is = called-map (as_arm q) o os s (omega arith);
          table_is = called_other (as_arm q) o os s table (omega arith) (omega arith) (omega arith) (omega arith) ∙ w.others.table_is;
          guards_are = guards-called;
          guards_is = λ k i y m. called-outside (as_arm q) o os s k i y m ∙ w.others.guards_is k i y m;
        };
        io = record { outcomes_are = refl; requests_are = ap (λ l. l ++ (as_arm q ∷ [])) w.io.requests_are ∙ sym (all_arm-append c.requests q); goods = good.1 };
        small = record { count = w.small.count; regs_lt = w.small.regs_lt; sp_lt = w.small.sp_lt; rets_lt = w.small.rets_lt; hold_lt = w.small.hold_lt; brk_lt = good.0.brk_lt; pc_lt = w.small.pc_lt };
      }
    where
      past : (j : ℕ) → (j < 32) ⊎ (48 ≤ j) → get_or (write_le (write_le (bytes_of s.mem context) 24 4 o.brk) 40 8 o.version) j 0 ≡ get_or (write_le (bytes_of s.mem context) 24 4 o.brk) j 0
      past j (inl p) = get_or-write_le-below (write_le (bytes_of s.mem context) 24 4 o.brk) 40 8 o.version j (omega arith)
      past j (inr p) = get_or-write_le-above (write_le (bytes_of s.mem context) 24 4 o.brk) 40 8 o.version j p

      out : (j : ℕ) → (j < 24) ⊎ (28 ≤ j) → get_or (write_le (bytes_of s.mem context) 24 4 o.brk) j 0 ≡ get_or (bytes_of s.mem context) j 0
      out j (inl p) = get_or-write_le-below (bytes_of s.mem context) 24 4 o.brk j p
      out j (inr p) = get_or-write_le-above (bytes_of s.mem context) 24 4 o.brk j p

-- what is known behind a call: v of w0
abbrev pub behind : Abs → Option ℕ → Card → Abs
behind a v c = record { c = c; t = upd (kill a.t) 0 v; f = none }

module _ {b : Block} {h : Helpers} {s0 : State} (B : Body b h s0) {rc : RegCache} {a : Abs} {s : State} (w : Sim b s0 rc a s) (y : Home b a.c s) (q : CardRequest) (o : Outcome) (os : List Outcome) (e : s.outcomes ≡ o ∷ os) where
  pub homed_called : (v : Option ℕ) → ((u : ℕ) → v ≡ some u → R W (called (as_arm q) o os s) 0 ≡ u) → Homed b s0 rc (behind a v (asked q (as_card o) (all_card os) a.c)) (bare (called (as_arm q) o os s))
  unfolding kill cls
  homed_called v x =
      let n : guards ≤ length s.mem = count-now B w.kept in
      record {
        kept = kept_at (kept-called B w.kept q o os e) 0 0;
        slots = w.slots;
        uniq = w.cached.uniq;
        home = record { regs_are = λ r l. ap (λ k. read_le k (off_reg b.layout r) 4) (called_other (as_arm q) o os s processor (omega arith) (omega arith) (omega arith) (omega arith)) ∙ y.regs_are r l };
        temps = λ k u z p. after k u p;
        flags = λ f p. cc;
        done_is = same 26 (omega arith) (omega arith) ∙ w.done_is;
      }
    where
      same : (k : ℕ) → 19 ≤ k → k < 30 → R W (called (as_arm q) o os s) k ≡ R W s k
      same k l m = ap (λ z. z % 2 ^ 32) (kept (as_arm q) o os s k l m)

      kept' : (k u : ℕ) → kill a.t k ≡ some u → R W (called (as_arm q) o os s) k ≡ u
      kept' k u m = test (eqb k 23)
          (λ f. let z : k ≡ 23 = eqb-true k 23 f in ap (R W (called (as_arm q) o os s)) z ∙ same 23 (omega arith) (omega arith) ∙ w.temps 23 u refl (ap a.t (sym z) ∙ (rw f at m)))
          (λ f. test (eqb k 24)
          (λ i. let z : k ≡ 24 = eqb-true k 24 i in ap (R W (called (as_arm q) o os s)) z ∙ same 24 (omega arith) (omega arith) ∙ w.temps 24 u refl (ap a.t (sym z) ∙ (rw (f, i) at m)))
          (λ i. let z : none ≡ some u = rw (f, i) at m in not_some z))

      after : (k u : ℕ) → upd (kill a.t) 0 v k ≡ some u → R W (called (as_arm q) o os s) k ≡ u
      after k u m = test (eqb k 0)
          (λ f. let z : k ≡ 0 = eqb-true k 0 f in ap (R W (called (as_arm q) o os s)) z ∙ x u (sym (upd_same (kill a.t) 0 v) ∙ ap (upd (kill a.t) 0 v) (sym z) ∙ m))
          (λ f. kept' k u (sym (upd_other (kill a.t) 0 v k (eqb-false k 0 f)) ∙ m))

-- ---- the branch to a helper
module _ (h : Helpers) (s : State) (o : Outcome) (os : List Outcome) (e : s.outcomes ≡ o ∷ os) where
  pub exec-read : R X s 9 ≡ h.h-read → R X s 0 ≡ base_of s.mem context → exec h (blr 9) s ≡ fall (bare (called (read (R W s 1) (R W s 3) (R W s 2)) o os s))
  unfolding exec execute
  exec-read r c = rw (r, eq-eqb h.h-read h.h-read refl, eq-eqb (R X s 0) (base_of s.mem context) c) (ap (λ l. of_effect (ask (read (R W s 1) (R W s 3) (R W s 2)) l s)) e)

  pub exec-write : h.h-write ≢ h.h-read → R X s 9 ≡ h.h-write → R X s 0 ≡ base_of s.mem context → exec h (blr 9) s ≡ fall (bare (called (write (R W s 1) (R W s 4) (R W s 3) (R W s 2)) o os s))
  unfolding exec execute
  exec-write d r c = rw (r, ne_eqb h.h-write h.h-read d, eq-eqb h.h-write h.h-write refl, eq-eqb (R X s 0) (base_of s.mem context) c) (ap (λ l. of_effect (ask (write (R W s 1) (R W s 4) (R W s 3) (R W s 2)) l s)) e)
