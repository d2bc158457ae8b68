-- From the common exit and the closing words to the claim's return, and from the jump to a table's body to the claim's jump.
--     Entered, Loaded             what the state at the body is, of the state at the start; the registers that a block keeps, there
--     by-return, by-table         the claim's ends
--     left_return, left_table     the same by the way that the card leaves
use mathlib.Core.Path.{◌≡◌, refl, sym, ap, ◌∙◌}
use mathlib.Core.Bool.{true}
use mathlib.Core.Logic.{◌≢◌, ◌⊎◌, inl, inr}
use Prim.Native.Nat.{ℕ, ◌+◌, ◌-◌, ◌*◌, ◌%◌, ◌^◌, ◌≤◌, ◌<◌}
use native.Mathlib.Omega.{arith}
use lib.ListN.{length, get_or, drop}
use Rattle.arm.specs.declared.Size.TheVariants.{W, X}
use Rattle.block.specs.declared.Layout.{Layout}
use Rattle.block.specs.declared.Block.{Block}
use Rattle.machine.specs.State.{State, R, code, stack, processor, context, ram, xip, map, table, guards}
use Rattle.machine.specs.Memory.{read_le, bytes_of, base_of, size_of}
use Rattle.machine.specs.Machine.{at_return, at_jump}
use Rattle.machine.proofs.Regions.{Alike}
use Rattle.card.specs.Card.{Card}
use Rattle.card.specs.Step.{Way, exits, chains, looks_up}
use Rattle.demand.specs.Premises.{Entry, ram_guards}
use Rattle.demand.specs.Claim.{entry_at, guest_at, body_at, slot_of, frame_at, stack_word, saved, limit_at, site_address}
use Rattle.demand.specs.Claim.{Equals, Untouched, Handed, ByReturn, ByTable, LeavesFor, Left}
use Rattle.relation.specs.Lines.{at}
use Rattle.relation.specs.Relation.{cls, Kept, Home, AtExit, AtBody, slot_after}
use Rattle.exits.proofs.Closing.{word, frame_word, Returned}

-- what the state s0 at the body is, of the state s at the start: all but the frame is as it was
pub record Entered (entry : Entry) (s s0 : State) : Type 0 where
  pub registers : length s0.x ≡ 31
  pub alike : Alike s.mem s0.mem
  pub outcomes_are : s0.outcomes ≡ s.outcomes
  pub requests_are : s0.requests ≡ s.requests
  pub sp_is : s0.sp ≡ base_of s.mem stack + frame_at entry s
  pub guards_are : drop guards s0.mem ≡ drop guards s.mem
  pub bytes_are : (k : ℕ) → k ≢ stack → bytes_of s0.mem k ≡ bytes_of s.mem k
  pub stack_is : (o : ℕ) → (o < frame_at entry s) ⊎ (frame_at entry s + 96 ≤ o) → get_or (bytes_of s0.mem stack) o 0 ≡ get_or (bytes_of s.mem stack) o 0
  pub frame : (k : ℕ) → 19 ≤ k → k < 29 → word s0 (frame_at entry s) (8 * k - 136) ≡ saved entry s k (8 * k - 136)
  pub frame_29 : word s0 (frame_at entry s) 0 ≡ saved entry s 29 0
  pub frame_30 : word s0 (frame_at entry s) 8 ≡ saved entry s 30 8

-- the registers that a block keeps are set
pub record Loaded (b : Block) (limit : ℕ) (c : Card) (s s0 : State) : Type 0 where
  pub x19 : R X s0 19 ≡ base_of s.mem processor
  pub x20 : R X s0 20 ≡ base_of s.mem context
  pub x21 : R X s0 21 ≡ base_of s.mem ram
  pub x22 : R X s0 22 ≡ base_of s.mem xip
  pub x25 : b.memory.map ≡ true → R X s0 25 ≡ base_of s.mem map
  pub w26 : R W s0 26 ≡ c.done
  pub w27 : R W s0 27 ≡ limit

-- the claim's equations speak of memory and requests alone
equals_to : {lay : Layout} {c : Card} {t : State} → Equals lay c t → (e : State) → e.mem ≡ t.mem → e.requests ≡ t.requests → Equals lay c e
equals_to {lay} w e m r = record {
  regs = λ k l. ap (λ y. read_le (bytes_of y processor) (lay.regs + 4 * k) 4) m ∙ w.regs k l;
  sp = ap (λ y. read_le (bytes_of y processor) lay.sp 4) m ∙ w.sp;
  rets = ap (λ y. read_le (bytes_of y processor) lay.rets 4) m ∙ w.rets;
  hold = ap (λ y. read_le (bytes_of y processor) lay.hold 4) m ∙ w.hold;
  ram_is = ap (λ y. bytes_of y ram) m ∙ w.ram_is;
  requests = r ∙ w.requests;
  map_is = ap (λ y. bytes_of y map) m ∙ w.map_is;
  brk_is = ap (λ y. read_le (bytes_of y context) 24 4) m ∙ w.brk_is;
  version_is = ap (λ y. read_le (bytes_of y context) 40 8) m ∙ w.version_is;
  guards_are = ap (λ y. ram_guards (drop guards y)) m ∙ w.guards_are;
}

untouched_to : {lay : Layout} {entry : Entry} {s t : State} → Untouched lay entry s t → (e : State) → e.mem ≡ t.mem → Untouched lay entry s e
untouched_to v e m = record {
  bases_are = λ i. ap (λ y. base_of y i) m ∙ v.bases_are i;
  sizes_are = λ i. ap (λ y. size_of y i) m ∙ v.sizes_are i;
  code_is = ap (λ y. bytes_of y code) m ∙ v.code_is;
  xip_is = ap (λ y. bytes_of y xip) m ∙ v.xip_is;
  table_is = ap (λ y. bytes_of y table) m ∙ v.table_is;
  stack_is = λ o l. ap (λ y. get_or (bytes_of y stack) o 0) m ∙ v.stack_is o l;
  processor_is = λ o l. ap (λ y. get_or (bytes_of y processor) o 0) m ∙ v.processor_is o l;
  context_is = λ o l r. ap (λ y. get_or (bytes_of y context) o 0) m ∙ v.context_is o l r;
  guards_is = λ k o l r. ap (λ y. get_or (bytes_of y k) o 0) m ∙ v.guards_is k o l r;
}

module _ {entry : Entry} {s s0 : State} (E : Entered entry s s0) where
  frame-place : s0.sp - base_of s0.mem stack ≡ frame_at entry s
  frame-place = ap (λ y. y - base_of s0.mem stack) E.sp_is ∙ ap (λ y. base_of s.mem stack + frame_at entry s - y) (E.alike.base stack) ∙ omega arith

  frame-word : (o : ℕ) → frame_word s0 o ≡ word s0 (frame_at entry s) o
  frame-word o = ap (λ f. word s0 f o) frame-place

  pub slot-entered : slot_of s0 ≡ slot_of s
  slot-entered = ap (λ l. read_le l 32 8) (E.bytes_are context (omega arith))

  pub guest-entered : (p : ℕ) → guest_at s0 p ≡ guest_at s p
  guest-entered p = ap (λ l. read_le l (entry_at p) 4) (E.bytes_are table (omega arith))

  pub body-entered : (p : ℕ) → body_at s0 p ≡ body_at s p
  body-entered p = ap (λ l. read_le l (entry_at p + 8) 8) (E.bytes_are table (omega arith))

  module _ {b : Block} {c : Card} {pc slot : ℕ} {t : State} (w : Kept b s0 c pc slot t) (q : Home b c t) where
    pub equals_of : Equals b.layout c t
    equals_of = record {
      regs = q.regs_are;
      sp = w.fields.sp_is;
      rets = w.fields.rets_is;
      hold = w.fields.hold_is;
      ram_is = w.others.ram_is;
      requests = w.io.requests_are;
      map_is = w.others.map_is;
      brk_is = w.ctx.brk_is;
      version_is = w.ctx.version_is;
      guards_are = w.others.guards_are;
    }

    pub untouched_of : Untouched b.layout entry s t
    untouched_of = record {
      bases_are = λ i. w.others.alike.base i ∙ E.alike.base i;
      sizes_are = λ i. w.others.alike.size i ∙ E.alike.size i;
      code_is = w.others.code_is ∙ E.bytes_are code (omega arith);
      xip_is = w.others.xip_is ∙ E.bytes_are xip (omega arith);
      table_is = w.others.table_is ∙ E.bytes_are table (omega arith);
      stack_is = λ o m. ap (λ l. get_or l o 0) w.others.stack_is ∙ E.stack_is o m;
      processor_is = λ o m. w.fields.outside o m ∙ ap (λ l. get_or l o 0) (E.bytes_are processor (omega arith));
      context_is = λ o m n. w.ctx.outside o m n ∙ ap (λ l. get_or l o 0) (E.bytes_are context (omega arith));
      guards_is = λ k o m n. w.others.guards_is k o m n ∙ ap (λ l. get_or l o 0) (E.bytes_are k (omega arith));
    }

  -- "At the return": to is where the run then is, after n instructions
  pub by-return : {b : Block} {w : Way} {c : Card} {site to : ℕ} {t e : State} (slot n : ℕ) → AtExit b s0 w c site t → Returned s0 t to e → slot_after s0 w site ≡ slot
      → ByReturn b entry slot c s (record { status = at_return; state = at to n e })
  by-return {b} {c = c} {to = to} {t = t} {e = e} slot n x u k = record {
    status = refl;
    equals = equals_to (equals_of x.kept x.home) (at to n e) u.mem_is u.requests_are;
    pc = ap (λ y. read_le (bytes_of y processor) b.layout.pc 4) u.mem_is ∙ x.kept.fields.pc_is;
    done = u.x0 ∙ x.done_is;
    slot_is = ap (λ y. read_le (bytes_of y context) 32 8) u.mem_is ∙ x.kept.ctx.slot_is ∙ k;
    restored = record {
      sp = u.sp_is ∙ ap (λ y. (y + 96) % 2 ^ 64) E.sp_is;
      x29 = u.x29 ∙ frame-word 0 ∙ E.frame_29;
      x30 = u.x30 ∙ frame-word 8 ∙ E.frame_30;
      x19 = u.above 19 (omega arith) (omega arith) ∙ frame-word 16 ∙ E.frame 19 (omega arith) (omega arith);
      x20 = u.above 20 (omega arith) (omega arith) ∙ frame-word 24 ∙ E.frame 20 (omega arith) (omega arith);
      x21 = u.above 21 (omega arith) (omega arith) ∙ frame-word 32 ∙ E.frame 21 (omega arith) (omega arith);
      x22 = u.above 22 (omega arith) (omega arith) ∙ frame-word 40 ∙ E.frame 22 (omega arith) (omega arith);
      x23 = u.above 23 (omega arith) (omega arith) ∙ frame-word 48 ∙ E.frame 23 (omega arith) (omega arith);
      x24 = u.above 24 (omega arith) (omega arith) ∙ frame-word 56 ∙ E.frame 24 (omega arith) (omega arith);
      x25 = u.above 25 (omega arith) (omega arith) ∙ frame-word 64 ∙ E.frame 25 (omega arith) (omega arith);
      x26 = u.above 26 (omega arith) (omega arith) ∙ frame-word 72 ∙ E.frame 26 (omega arith) (omega arith);
      x27 = u.above 27 (omega arith) (omega arith) ∙ frame-word 80 ∙ E.frame 27 (omega arith) (omega arith);
      x28 = u.above 28 (omega arith) (omega arith) ∙ frame-word 88 ∙ E.frame 28 (omega arith) (omega arith);
      to_caller = u.to_is ∙ frame-word 8 ∙ E.frame_30;
    };
    untouched = untouched_to (untouched_of x.kept x.home) (at to n e) u.mem_is;
  }

  -- "At a table jump"
  module _ {b : Block} {limit : ℕ} {c₀ : Card} (L : Loaded b limit c₀ s s0) (G : limit_at entry s ≡ limit) where
    keeps-x : {c : Card} {pc slot : ℕ} {t : State} → Kept b s0 c pc slot t → (k : ℕ) → cls k ≡ 2 → R X t k ≡ R X s0 k
    keeps-x w k e = ap (λ y. y % 2 ^ 64) (w.fixed.keeps k e)

    frame-kept : {c : Card} {pc slot : ℕ} {t : State} → Kept b s0 c pc slot t
        → (o : ℕ) → stack_word t (frame_at entry s + o) ≡ word s0 (frame_at entry s) o
    frame-kept w o = ap (λ y. read_le y (frame_at entry s + o) 8) w.others.stack_is

    handed_of : {c : Card} {to : ℕ} {t : State} (n : ℕ) → AtBody b s0 c to t → Handed b entry s (at to n t)
    unfolding cls
    handed_of n x = record {
      sp = x.kept.fixed.sp ∙ E.sp_is;
      frame = λ k l m. frame-kept x.kept (8 * k - 136) ∙ E.frame k l m;
      frame_29 = frame-kept x.kept 0 ∙ E.frame_29;
      frame_30 = frame-kept x.kept 8 ∙ E.frame_30;
      x19 = keeps-x x.kept 19 refl ∙ L.x19;
      x20 = keeps-x x.kept 20 refl ∙ L.x20;
      x21 = keeps-x x.kept 21 refl ∙ L.x21;
      x22 = keeps-x x.kept 22 refl ∙ L.x22;
      x25 = λ e. keeps-x x.kept 25 refl ∙ L.x25 e;
      w27 = ap (λ y. y % 2 ^ 32) (x.kept.fixed.keeps 27 refl) ∙ L.w27 ∙ sym G;
    }

    pub by-table : {c : Card} {to : ℕ} {t : State} (n : ℕ) → AtBody b s0 c to t
        → ByTable b entry c s (record { status = at_jump; state = at to n t })
    by-table {c} {to} {t} n x = record {
      status = refl;
      equals = equals_to (equals_of x.kept x.home) (at to n t) refl refl;
      pc = x.pc_is;
      done = x.done_is;
      old_pc = x.kept.fields.pc_is ∙ ap (λ l. read_le l b.layout.pc 4) (E.bytes_are processor (omega arith));
      slot_is = x.kept.ctx.slot_is ∙ slot-entered;
      found = sym (guest-entered c.pc) ∙ x.found;
      to_body = x.to_is ∙ body-entered c.pc;
      handed = handed_of n x;
      untouched = untouched_to (untouched_of x.kept x.home) (at to n t) refl;
    }

  -- ---- both, as the claim says them
  -- the site's address and target, where a chain is left by
  abbrev pub SiteIs : Block → Way → (pc site : ℕ) → Type 0
  SiteIs b exits pc site = Unit {0}
  SiteIs b (chains k) pc site = LeavesFor b k pc × (site ≡ site_address b s k)
  SiteIs b looks_up pc site = Unit {0}

  pub left_return : {b : Block} (w : Way) {c : Card} {site to : ℕ} {t e : State} (n : ℕ)
      → SiteIs b w c.pc site → AtExit b s0 w c site t → Returned s0 t to e
      → Left b entry w c s (record { status = at_return; state = at to n e })
  left_return {b} exits n k x u = by-return (slot_of s) n x u slot-entered
  left_return {b} (chains j) n k x u = (k.0, by-return (site_address b s j) n x u k.1)
  left_return {b} looks_up {c = c} n k x u = inr (λ e. x.missed (guest-entered c.pc ∙ e), by-return (slot_of s) n x u slot-entered)

  pub left_table : {b : Block} {limit : ℕ} {c₀ : Card} → Loaded b limit c₀ s s0 → limit_at entry s ≡ limit
      → {c : Card} {to : ℕ} {t : State} (n : ℕ) → AtBody b s0 c to t
      → Left b entry looks_up c s (record { status = at_jump; state = at to n t })
  left_table L G n x = inl (by-table L G n x)
