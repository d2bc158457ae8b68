-- An instruction on temporaries writes the number and leaves the flags that `data_of` says.
--     ins-exec      each such instruction, as one equation of `exec`
--     ins-meets     the step
use mathlib.Core.Path.{◌≡◌, refl, sym, ap, ap₂, ◌∙◌, subst}
use mathlib.Core.Bool.{Bool, true, false, cond, ◌&&◌, ◌||◌}
use mathlib.Core.Option.{Option, none, some}
use mathlib.Core.List.{List, [], ◌∷◌}
use Prim.Native.Nat.{ℕ, ◌*◌, ◌%◌, ◌^◌, ◌<◌}
use native.Mathlib.Omega.{arith}
use borrow.Author.Tests.{eqb-true}
use lib.Dec.{T, eqb}
use lib.ListN.{length}
use Rattle.arm.specs.declared.Size.TheVariants.{W, X}
use Rattle.arm.specs.declared.Flags.TheVariants.{Keeps, Sets}
use Rattle.arm.specs.declared.Logic.TheVariants.{And, Orr, Eor, Ands}
use Rattle.arm.specs.declared.Move.TheVariants.{Movn, Movz, Movk}
use Rattle.arm.specs.declared.Extract.TheVariants.{Sbfm, Bfm, Ubfm}
use Rattle.arm.specs.declared.Three.TheVariants.{Madd, Msub, Smaddl, Umaddl}
use Rattle.arm.specs.declared.Instr.{Instr}
use Rattle.arm.specs.declared.Instr.TheVariants.{MoveWide, AddSubImm, AddSubShifted, LogicalShifted, LogicalImm, Bitfield, OneSource}
use Rattle.arm.specs.declared.Instr.TheVariants.{TwoSource, ThreeSource, CondSelect, MemoryImm, MemoryReg, MemoryPair, CompareBranch}
use Rattle.arm.specs.declared.Instr.TheVariants.{TestBranch, CondBranch, Branch, BranchReg, Adr, LoadLiteral, Nop, FloatTwo}
use Rattle.arm.specs.declared.Instr.TheVariants.{FloatCompare, FloatConvert}
use Rattle.block.specs.declared.Block.{Block}
use Rattle.code.specs.Tree.{Depth, code}
use Rattle.code.specs.Machine.{fall}
use Rattle.machine.specs.Bits.{Nzcv, Sum, insert, ConditionHolds}
use Rattle.machine.specs.State.{State, R, RSP, with_x, with_flags}
use Rattle.machine.specs.Execute.{Helpers, add_sub, shifted, second, logic, test_flags, extracted, one, two, three, otherwise, execute}
use Rattle.machine.proofs.Data.{RSP-reg, with_xsp-reg}
use Rattle.machine.proofs.Registers.{R_31, with_x_31}
use Rattle.lowering.specs.declared.RegCache.{RegCache}
use Rattle.relation.specs.Lines.{bare, exec}
use Rattle.relation.specs.Data.{Data, data_of}
use Rattle.relation.specs.Abs.{Abs, go, upd, known, seen, or_zero, is_some, all_seen, vals, or_stays, flags_for, mdata, mins, with_temp}
use Rattle.relation.specs.Relation.{cls, Sim, Meets}
use Rattle.relation.specs.Fits.{temp, temp_or_zero, on_temps}
use Rattle.registers.proofs.Basics.{test, absurd_bool, cls_lt, sim_at, sim-flags, sim-put_some, upd_other}
use Rattle.registers.proofs.Frags.{frag-one}

-- the flags set, or as they were
abbrev pub flagged : Option Nzcv → State → State
flagged none s = s
flagged (some f) s = with_flags f s

-- the registers of a list hold these numbers; and are temporaries or zero
abbrev pub Hold : State → (ℕ → ℕ) → List ℕ → Type 0
Hold s v [] = Unit {0}
Hold s v (r ∷ rs) = (R W s r ≡ v r) × Hold s v rs

abbrev pub Temps : List ℕ → Type 0
Temps [] = Unit {0}
Temps (r ∷ rs) = T (temp_or_zero r) × Temps rs

pub record Does (h : Helpers) (i : Instr) (d : Data) : Type 0 where
  pub writes : T (temp_or_zero d.rd)
  pub reads : Temps d.reads
  pub runs : (s : State) → length s.x ≡ 31 → (v : ℕ → ℕ) (g : Nzcv) → Hold s v d.reads → (d.asks ≡ true → s.nzcv ≡ g)
      → exec h i s ≡ fall (bare (with_x d.rd (d.value v g) (flagged (d.flags v) s)))

abbrev pub DoesIf : Helpers → Instr → Option Data → Type 0
DoesIf h i none = Unit {0}
DoesIf h i (some d) = Does h i d

-- ---- tests
and_T : (x y : Bool) → T (x && y) → T x × T y
and_T true y h = (tt, h)
and_T false y h = absurd h

or_left : (x y : Bool) → T x → T (x || y)
or_left true y h = tt
or_left false y h = absurd h

temp-zero : (r : ℕ) → T (temp r) → T (temp_or_zero r)
unfolding temp_or_zero
temp-zero r h = or_left (temp r) (eqb r 31) h

true_of : (b : Bool) → T b → b ≡ true
true_of true h = refl
true_of false h = absurd h

temp-cls : (r : ℕ) → T (temp r) → cls r ≡ 0
unfolding temp
temp-cls r h = eqb-true (cls r) 0 (true_of (eqb (cls r) 0) h)

temp_lt : (r : ℕ) → T (temp r) → r < 31
temp_lt r h = cls_lt r (temp-cls r h) (omega arith)

-- the three tests of an instruction with two sources
three_T : (x y z : Bool) → T (x && y && z) → T x × T y × T z
three_T x y z h = let (p, q) = and_T (x && y) z h in let (r, t) = and_T x y p in (r, t, q)

four_T : (x y z w : Bool) → T (x && y && z && w) → T x × T y × T z × T w
four_T x y z w h = let (p, q) = and_T (x && y && z) w h in let (r, t, u) = three_T x y z p in (r, t, u, q)

module _ (h : Helpers) where
  pub ins-exec : (i : Instr) → T (on_temps i) → DoesIf h i (data_of i)
  unfolding data_of on_temps exec execute
  ins-exec (MoveWide W Movn hw imm rd) q = record { writes = temp-zero rd q; reads = tt; runs = λ s e v g k f. refl }
  ins-exec (MoveWide W Movz hw imm rd) q = record { writes = temp-zero rd q; reads = tt; runs = λ s e v g k f. refl }
  ins-exec (MoveWide W Movk hw imm rd) q =
      record { writes = temp-zero rd q; reads = (temp-zero rd q, tt); runs = λ s e v g k f. ap (λ y. fall (bare (with_x rd (insert y (16 * hw) 16 imm) s))) k.0 }
  ins-exec (MoveWide X m hw imm rd) q = tt
  ins-exec (AddSubImm W o Keeps imm rn rd) q =
      let (p, r) = and_T (temp rn) (temp rd) q in
      record {
        writes = temp-zero rd r;
        reads = (temp-zero rn p, tt);
        runs = λ s e v g k f. ap (λ y. fall (bare y)) (with_xsp-reg rd (add_sub W o (RSP W s rn) imm).result s (temp_lt rd r) ∙ ap (λ y. with_x rd (add_sub W o y imm).result s) (RSP-reg W s rn (temp_lt rn p) ∙ k.0));
      }
  ins-exec (AddSubImm W o Sets imm rn rd) q =
      let (p, r) = and_T (temp rn) (temp_or_zero rd) q in
      record {
        writes = r;
        reads = (temp-zero rn p, tt);
        runs = λ s e v g k f. ap (λ y. let z : Sum = add_sub W o y imm in fall (bare (with_x rd z.result (with_flags z.nzcv s)))) (RSP-reg W s rn (temp_lt rn p) ∙ k.0);
      }
  ins-exec (AddSubImm X o k imm rn rd) q = tt
  ins-exec (AddSubShifted W o Keeps j rm n rn rd) q =
      let (p, r, t) = three_T (temp_or_zero rm) (temp_or_zero rn) (temp_or_zero rd) q in
      record { writes = t; reads = (r, (p, tt)); runs = λ s e v g k f. ap₂ (λ x y. fall (bare (with_x rd (add_sub W o x (shifted W j y n)).result s))) k.0 k.1.0 }
  ins-exec (AddSubShifted W o Sets j rm n rn rd) q =
      let (p, r, t) = three_T (temp_or_zero rm) (temp_or_zero rn) (temp_or_zero rd) q in
      record {
        writes = t;
        reads = (r, (p, tt));
        runs = λ s e v g k f. ap₂ (λ x y. let z : Sum = add_sub W o x (shifted W j y n) in fall (bare (with_x rd z.result (with_flags z.nzcv s)))) k.0 k.1.0;
      }
  ins-exec (AddSubShifted X o k j rm n rn rd) q = tt
  ins-exec (LogicalShifted W And i j rm n rn rd) q =
      let (p, r, t) = three_T (temp_or_zero rm) (temp_or_zero rn) (temp_or_zero rd) q in
      record { writes = t; reads = (r, (p, tt)); runs = λ s e v g k f. ap₂ (λ x y. fall (bare (with_x rd (logic And x (second W i (shifted W j y n))) s))) k.0 k.1.0 }
  ins-exec (LogicalShifted W Orr i j rm n rn rd) q =
      let (p, r, t) = three_T (temp_or_zero rm) (temp_or_zero rn) (temp_or_zero rd) q in
      record { writes = t; reads = (r, (p, tt)); runs = λ s e v g k f. ap₂ (λ x y. fall (bare (with_x rd (logic Orr x (second W i (shifted W j y n))) s))) k.0 k.1.0 }
  ins-exec (LogicalShifted W Eor i j rm n rn rd) q =
      let (p, r, t) = three_T (temp_or_zero rm) (temp_or_zero rn) (temp_or_zero rd) q in
      record { writes = t; reads = (r, (p, tt)); runs = λ s e v g k f. ap₂ (λ x y. fall (bare (with_x rd (logic Eor x (second W i (shifted W j y n))) s))) k.0 k.1.0 }
  ins-exec (LogicalShifted W Ands i j rm n rn rd) q =
      let (p, r, t) = three_T (temp_or_zero rm) (temp_or_zero rn) (temp_or_zero rd) q in
      record {
        writes = t;
        reads = (r, (p, tt));
        runs = λ s e v g k f. ap₂ (λ x y. let z : ℕ = logic Ands x (second W i (shifted W j y n)) in fall (bare (with_x rd z (with_flags (test_flags W z) s)))) k.0 k.1.0;
      }
  ins-exec (LogicalShifted X o i j rm n rn rd) q = tt
  ins-exec (LogicalImm o immr imms rn rd) q = tt
  ins-exec (Bitfield W Sbfm immr imms rn rd) q =
      let (p, r) = and_T (temp_or_zero rn) (temp rd) q in
      record { writes = temp-zero rd r; reads = (p, tt); runs = λ s e v g k f. ap (λ y. fall (bare (with_x rd (extracted W Sbfm immr imms 0 y) s))) k.0 }
  ins-exec (Bitfield W Bfm immr imms rn rd) q = tt
  ins-exec (Bitfield W Ubfm immr imms rn rd) q =
      let (p, r) = and_T (temp_or_zero rn) (temp rd) q in
      record { writes = temp-zero rd r; reads = (p, tt); runs = λ s e v g k f. ap (λ y. fall (bare (with_x rd (extracted W Ubfm immr imms 0 y) s))) k.0 }
  ins-exec (Bitfield X o immr imms rn rd) q = tt
  ins-exec (OneSource o rn rd) q =
      let (p, r) = and_T (temp_or_zero rn) (temp rd) q in
      record { writes = temp-zero rd r; reads = (p, tt); runs = λ s e v g k f. ap (λ y. fall (bare (with_x rd (one o y) s))) k.0 }
  ins-exec (TwoSource W o rm rn rd) q =
      let (p, r, t) = three_T (temp_or_zero rm) (temp_or_zero rn) (temp rd) q in
      record { writes = temp-zero rd t; reads = (r, (p, tt)); runs = λ s e v g k f. ap₂ (λ x y. fall (bare (with_x rd (two W o x y) s))) k.0 k.1.0 }
  ins-exec (TwoSource X o rm rn rd) q = tt
  ins-exec (ThreeSource Madd rm ra rn rd) q =
      let (p, u, r, t) = four_T (temp_or_zero rm) (temp_or_zero ra) (temp_or_zero rn) (temp rd) q in
      record {
        writes = temp-zero rd t;
        reads = (r, (p, (u, tt)));
        runs = λ s e v g k f. ap₂ (λ x y. fall (bare (with_x rd (three Madd (R W s ra) x y) s))) k.0 k.1.0 ∙ ap (λ x. fall (bare (with_x rd (three Madd x (v rn) (v rm)) s))) k.1.1.0;
      }
  ins-exec (ThreeSource Msub rm ra rn rd) q =
      let (p, u, r, t) = four_T (temp_or_zero rm) (temp_or_zero ra) (temp_or_zero rn) (temp rd) q in
      record {
        writes = temp-zero rd t;
        reads = (r, (p, (u, tt)));
        runs = λ s e v g k f. ap₂ (λ x y. fall (bare (with_x rd (three Msub (R W s ra) x y) s))) k.0 k.1.0 ∙ ap (λ x. fall (bare (with_x rd (three Msub x (v rn) (v rm)) s))) k.1.1.0;
      }
  ins-exec (ThreeSource Smaddl rm ra rn rd) q = tt
  ins-exec (ThreeSource Umaddl rm ra rn rd) q = tt
  ins-exec (CondSelect W o rm c rn rd) q =
      let (p, r, t) = three_T (temp_or_zero rm) (temp_or_zero rn) (temp rd) q in
      record {
        writes = temp-zero rd t;
        reads = (r, (p, tt));
        runs = λ s e v g k f. ap₂ (λ x y. fall (bare (with_x rd (cond (ConditionHolds c s.nzcv) x (otherwise W o y)) s))) k.0 k.1.0 ∙ ap (λ x. fall (bare (with_x rd (cond (ConditionHolds c x) (v rn) (otherwise W o (v rm))) s))) (f refl);
      }
  ins-exec (CondSelect X o rm k rn rd) q = tt
  ins-exec (MemoryImm a imm rn rt) q = tt
  ins-exec (MemoryReg a c rm rn rt) q = tt
  ins-exec (MemoryPair m p imm rt2 rn rt) q = tt
  ins-exec (CompareBranch z t imm rt) q = tt
  ins-exec (TestBranch t n imm rt) q = tt
  ins-exec (CondBranch imm k) q = tt
  ins-exec (Branch imm) q = tt
  ins-exec (BranchReg j rn) q = tt
  ins-exec (Adr imm rd) q = tt
  ins-exec (LoadLiteral imm rt) q = tt
  ins-exec Nop q = tt
  ins-exec (FloatTwo o rm rn rd) q = tt
  ins-exec (FloatCompare rm rn) q = tt
  ins-exec (FloatConvert o rn rd) q = tt

-- ---- the step
left_of : (x y : Bool) → (x && y) ≡ true → (x ≡ true) × (y ≡ true)
left_of true y h = (refl, h)
left_of false y h = (cc, cc)

or_cls : (r : ℕ) → T (temp_or_zero r) → eqb r 31 ≡ false → cls r ≡ 0
unfolding temp_or_zero
or_cls r h e = temp-cls r (first (temp r) (rw e at h))
  where
    first : (x : Bool) → T (x || false) → T x
    first true h = tt
    first false h = absurd h

no_none : {A : Type 0} → is_some {A = ℕ} none ≡ true → A
no_none h = absurd_bool (sym h)

module _ {b : Block} {s0 : State} {rc : RegCache} {a : Abs} {s : State} (w : Sim b s0 rc a s) where
  seen-is : (r : ℕ) → T (temp_or_zero r) → is_some (seen a.t r) ≡ true → R W s r ≡ vals a.t r
  unfolding seen
  seen-is r q e = test (eqb r 31)
      (λ z. rw z (ap (R W s) (eqb-true r 31 z) ∙ R_31 W s w.kept.fixed.registers))
      (λ z. rw z (by (a.t r) refl (or_cls r q z) (rw z at e)))
    where
      by : (o : Option ℕ) → a.t r ≡ o → cls r ≡ 0 → is_some o ≡ true → R W s r ≡ or_zero o
      by none f c k = no_none k
      by (some v) f c k = w.temps r v c f

  hold_all : (rs : List ℕ) → Temps rs → all_seen a.t rs ≡ true → Hold s (vals a.t) rs
  hold_all [] q e = tt
  hold_all (r ∷ rs) q e = let (p, k) = left_of (is_some (seen a.t r)) (all_seen a.t rs) e in (seen-is r q.0 p, hold_all rs q.1 k)

  -- register 31 keeps nothing
  put-or_zero : (rd v : ℕ) → T (temp_or_zero rd) → Sim b s0 rc (with_temp rd (some (v % 2 ^ 32)) a) (with_x rd v s)
  put-or_zero rd v q = test (eqb rd 31)
      (λ z. rw (eqb-true rd 31 z) (subst (λ y. Sim b s0 rc (with_temp 31 (some (v % 2 ^ 32)) a) y) (sym (with_x_31 v s w.kept.fixed.registers)) zero-put))
      (λ z. sim-put_some w rd v (v % 2 ^ 32) (or_cls rd q z) refl)
    where
      zero-put : Sim b s0 rc (with_temp 31 (some (v % 2 ^ 32)) a) s
      zero-put = record {
        kept = w.kept;
        slots = w.slots;
        cached = w.cached;
        temps = λ k u c p. w.temps k u c (sym (upd_other a.t 31 (some (v % 2 ^ 32)) k (λ e. omega (arith, cls_lt k c (omega arith)))) ∙ p);
        flags = w.flags;
        done_is = w.done_is;
      }

  flags-put : (o : Option Nzcv) → Sim b s0 rc (record { c = a.c; t = a.t; f = or_stays o a.f }) (flagged o s)
  flags-put none = w
  flags-put (some f) = sim-flags w f (some f) (λ u p. same f u p)
    where
      same : (f u : Nzcv) → some f ≡ some u → f ≡ u
      same f u p = cc

module _ (b : Block) (s0 : State) (h : Helpers) (base : ℕ) (n : Depth) (rc : RegCache) (a : Abs) where
  data_meets : (i : Instr) (d : Data) → Does h i d → Meets h base b s0 rc a {n = n} (code (i ∷ [])) rc (mdata d a)
  unfolding mdata
  data_meets i d q = test (all_seen a.t d.reads) (λ e. rw e (by (flags_for d.asks a.f) refl e)) (λ e. rw e tt)
    where
      asked : (x : Bool) (g : Nzcv) → flags_for x a.f ≡ some g → x ≡ true → a.f ≡ some g
      asked true g e k = e
      asked false g e k = absurd_bool (sym k)

      by : (o : Option Nzcv) → flags_for d.asks a.f ≡ o → all_seen a.t d.reads ≡ true
          → Meets h base b s0 rc a {n = n} (code (i ∷ [])) rc (known o (λ g. go (record { c = a.c; t = upd a.t d.rd (some (d.value (vals a.t) g % 2 ^ 32)); f = or_stays (d.flags (vals a.t)) a.f })))
      by none k e = tt
      by (some g) k e =
          frag-one i (λ s. bare (with_x d.rd (d.value (vals a.t) g) (flagged (d.flags (vals a.t)) s)))
          (λ s w. q.runs s w.kept.fixed.registers (vals a.t) g (hold_all w d.reads q.reads e) (λ z. w.flags g (asked d.asks g k z)))
          (λ s w. sim_at (put-or_zero (flags-put w (d.flags (vals a.t))) d.rd (d.value (vals a.t) g) q.writes) 0 0)

  pub ins-meets : (i : Instr) → T (on_temps i) → Meets h base b s0 rc a {n = n} (code (i ∷ [])) rc (mins (data_of i) a)
  ins-meets i q = by (data_of i) (ins-exec h i q)
    where
      by : (o : Option Data) → DoesIf h i o → Meets h base b s0 rc a {n = n} (code (i ∷ [])) rc (mins o a)
      by none k = tt
      by (some d) k = data_meets i d k
