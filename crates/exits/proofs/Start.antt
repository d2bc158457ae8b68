-- The premises for a run, at the body: what does not change, and the relation with nothing in the slots.
--     body_ok, start-sim          the premises at the body, and the relation there
--     entered-body, loaded-body   where the run starts at the body
use mathlib.Core.Logic.{◌⊎◌}
use mathlib.Core.Path.{◌≡◌, refl, sym, ap, ◌∙◌, subst, subst₂}
use mathlib.Core.Bool.{true, false}
use mathlib.Core.Option.{none}
use mathlib.Core.List.{List, [], ◌∷◌}
use Prim.Native.Nat.{ℕ, ◌+◌, ◌*◌, ◌^◌, ◌≤◌, ◌<◌}
use native.Mathlib.Omega.{arith}
use borrow.Author.Tests.{ltb-true, ltb-false}
use lib.Dec.{ltb}
use lib.ListN.{get_or-eq_default}
use Rattle.block.specs.declared.Guard.{Guard}
use Rattle.block.specs.declared.Block.{Block}
use Rattle.machine.specs.State.{State, Outcome, stack, processor, context, ram, xip, map, table}
use Rattle.machine.specs.Memory.{read_le, bytes_of, base_of}
use Rattle.machine.specs.Execute.{Helpers}
use Rattle.machine.proofs.Bytes.{read_lt}
use Rattle.machine.proofs.Regions.{Alike, alike_refl, apart-alike}
use Rattle.card.specs.Card.{Card, reg}
use Rattle.lowering.specs.Cache.{empty_cache}
use Rattle.demand.specs.Outside.{all_arm, all_card}
use Rattle.demand.specs.Premises.{Entry, body, ram_guards, Guarded, Premises, AllFit}
use Rattle.demand.specs.Claim.{slot_of}
use Rattle.demand.proofs.Next.{frame-inside}
use Rattle.relation.specs.Lines.{bare}
use Rattle.relation.specs.Abs.{nothing}
use Rattle.relation.specs.Relation.{pc_of, Body, Goods, Small, Kept, Sim, guest_of, dirty_of}
use Rattle.registers.proofs.Basics.{test, absurd_bool, below8}
use Rattle.exits.proofs.Ends.{Entered, Loaded}

-- a guard stays where it is
guarded-alike : {g : Guard} {h : Helpers} {s s0 : State} → Alike s.mem s0.mem → Guarded g h s → Guarded g h s0
guarded-alike {h = h} a g = record {
  region = g.region;
  from = g.from;
  inside = omega (arith, a.count, g.inside);
  at = a.base g.region ∙ g.at;
  h-ram-ok = g.h-ram-ok;
  differ-read = g.differ-read;
  differ-write = g.differ-write;
  elsewhere = λ i l. subst₂ (λ x y. (h.h-ram-ok < x) ⊎ (x + y ≤ h.h-ram-ok)) (sym (a.base i)) (sym (a.size i)) (g.elsewhere i (omega (arith, a.count)));
}

module _ {b : Block} {h : Helpers} {entry : Entry} {limit : ℕ} {c : Card} {s s0 : State} (P : Premises b h entry limit c s) (E : Entered entry s s0) (L : Loaded b limit c s s0) where
  at_base : (k : ℕ) {x : ℕ} → x ≡ base_of s.mem k → x ≡ base_of s0.mem k
  at_base k e = e ∙ sym (E.alike.base k)

  pub body_ok : Body b h s0
  body_ok = record {
    registers = E.registers;
    regions = omega (arith, E.alike.count, P.regions);
    apart = apart-alike E.alike P.apart;
    x19 = at_base processor L.x19;
    x20 = at_base context L.x20;
    x21 = at_base ram L.x21;
    x22 = at_base xip L.x22;
    x25 = λ e. at_base map (L.x25 e);
    regs_in = omega (arith, P.places.regs, E.alike.size processor);
    sp_in = omega (arith, P.places.sp, E.alike.size processor);
    rets_in = omega (arith, P.places.rets, E.alike.size processor);
    pc_in = omega (arith, P.places.pc, E.alike.size processor);
    hold_in = omega (arith, P.places.hold, E.alike.size processor);
    context_in = omega (arith, P.context-size, E.alike.size context);
    ram-size = E.alike.size ram ∙ P.ram-size;
    xip-size = E.alike.size xip ∙ P.xip-size;
    map_in = λ e o l. omega (arith, P.map-size e, E.alike.size map);
    table_in = omega (arith, P.table-size, E.alike.size table);
    table-at = E.alike.base table ∙ P.table-at;
    reads = P.h-read;
    writes = P.h-write;
    differ = P.differ;
    guard-sizes = λ k l m. omega (arith, E.alike.size k, P.guard-sizes k l (omega (arith, E.alike.count)));
    guarded = λ e. guarded-alike E.alike (P.guarded e);
    sp_at = omega (arith, E.sp_is, E.alike.base stack);
    frame_in = omega (arith, E.sp_is, E.alike.base stack, E.alike.size stack, frame-inside entry P);
  }

  goods_of : (os : List Outcome) → AllFit s os → Goods s0 os
  goods_of [] f = tt
  goods_of (o ∷ os) f = (record { brk_lt = f.0.brk; ram-len = f.0.ram ∙ sym (E.alike.size ram); map-len = f.0.map ∙ sym (E.alike.size map); version_lt = f.0.version; guards_lt = f.0.guards_lt }, goods_of os f.1)

  word_lt : (o v : ℕ) → read_le (bytes_of s.mem processor) o 4 ≡ v → v < 2 ^ 32
  word_lt o v e = subst (λ y. y < 2 ^ 32) e (read_lt (bytes_of s.mem processor) o 4)

  small_of : Small c
  small_of = record {
    count = P.sixteen;
    regs_lt = λ r. test (ltb r 16)
        (λ e. word_lt (b.layout.regs + 4 * r) (reg c r) (P.held.regs r (ltb-true r 16 e)))
        (λ e. let l : 16 ≤ r = ltb-false r 16 e in let z : reg c r ≡ 0 = get_or-eq_default c.regs 0 {n = r} (omega (arith, P.sixteen)) in omega arith);
    sp_lt = word_lt b.layout.sp c.sp P.held.sp;
    rets_lt = word_lt b.layout.rets c.rets P.held.rets;
    hold_lt = word_lt b.layout.hold c.hold P.held.hold;
    brk_lt = subst (λ y. y < 2 ^ 32) P.brk_is (read_lt (bytes_of s.mem context) 24 4);
    pc_lt = word_lt b.layout.pc c.pc P.held.pc;
  }

  record_word : (o : ℕ) {v : ℕ} → read_le (bytes_of s.mem processor) o 4 ≡ v → read_le (bytes_of s0.mem processor) o 4 ≡ v
  record_word o e = ap (λ l. read_le l o 4) (E.bytes_are processor (omega arith)) ∙ e

  kept_of : Kept b s0 c (pc_of b s0) (slot_of s0) s0
  kept_of = record {
    fixed = record { registers = E.registers; keeps = λ k q. refl; sp = refl };
    fields = record {
      sp_is = record_word b.layout.sp P.held.sp;
      rets_is = record_word b.layout.rets P.held.rets;
      hold_is = record_word b.layout.hold P.held.hold;
      pc_is = refl;
      outside = λ o q. refl;
    };
    ctx = record { brk_is = ap (λ l. read_le l 24 4) (E.bytes_are context (omega arith)) ∙ P.brk_is; slot_is = refl; version_is = ap (λ l. read_le l 40 8) (E.bytes_are context (omega arith)) ∙ P.version_is; outside = λ o p q. refl };
    others = record {
      alike = alike_refl s0.mem;
      code_is = refl;
      stack_is = refl;
      ram_is = E.bytes_are ram (omega arith) ∙ P.ram_is;
      xip_is = refl;
      map_is = E.bytes_are map (omega arith) ∙ P.map_is;
      table_is = refl;
      guards_are = ap ram_guards E.guards_are ∙ P.guards_are;
      guards_is = λ k o y n. refl;
    };
    io = record {
      outcomes_are = P.outcomes ∙ ap all_card (sym E.outcomes_are);
      requests_are = E.requests_are ∙ P.none_yet ∙ ap all_arm (sym P.none_yet-card);
      goods = subst (Goods s0) (sym E.outcomes_are) (goods_of s.outcomes P.fit);
    };
    small = small_of;
  }

  -- nothing is in the slots, and no temporary is known
  pub start-sim : Sim b s0 empty_cache (record { c = c; t = nothing; f = none }) s0
  start-sim = record {
    kept = kept_of;
    slots = record {
      guests = refl;
      dirties = refl;
      guest_le = λ i. test (ltb i 8) (λ e. omega (arith, free i (ltb-true i 8 e))) (λ e. omega (arith, past i (ltb-false i 8 e)));
      clean = λ i q. test (ltb i 8) (λ e. below8 (λ j. dirty_of empty_cache j ≡ false) refl refl refl refl refl refl refl refl i (ltb-true i 8 e))
          (λ e. get_or-eq_default empty_cache.dirty false {n = i} (ltb-false i 8 e));
    };
    cached = record {
      held = λ i l m. absurd (omega (arith, free i l));
      home = λ r l q. record_word (b.layout.regs + 4 * r) (P.held.regs r l);
      uniq = λ i j l m q e. absurd (omega (arith, free i l));
    };
    temps = λ k v q e. absurd_bool (let z : true ≡ false = cc in z);
    flags = λ g e. absurd_bool (let z : true ≡ false = cc in z);
    done_is = L.w26;
  }
    where
      free : (i : ℕ) → i < 8 → guest_of empty_cache i ≡ 16
      free = below8 (λ i. guest_of empty_cache i ≡ 16) refl refl refl refl refl refl refl refl

      past : (i : ℕ) → 8 ≤ i → guest_of empty_cache i ≡ 16
      past i l = get_or-eq_default empty_cache.guest 16 {n = i} l

-- ---- a start at the body
module _ {b : Block} {h : Helpers} {limit : ℕ} {c : Card} {s : State} (P : Premises b h body limit c s) where
  pub entered-body : Entered body s (bare s)
  entered-body = record {
    registers = P.registers;
    alike = alike_refl s.mem;
    outcomes_are = refl;
    requests_are = refl;
    sp_is = omega (arith, P.starts.room);
    bytes_are = λ k q. refl;
    guards_are = refl;
    stack_is = λ o q. refl;
    frame = λ k l m. refl;
    frame_29 = refl;
    frame_30 = refl;
  }

  pub loaded-body : Loaded b limit c s (bare s)
  loaded-body = record {
    x19 = P.starts.x19;
    x20 = P.starts.x20;
    x21 = P.starts.x21;
    x22 = P.starts.x22;
    x25 = P.starts.x25;
    w26 = P.starts.w26;
    w27 = P.starts.w27;
  }
