-- A run of a block: the start, and what the end must show. The numbers are those of an independent A64 emulator on the block's words.
use Rattle.std.specs.Prelude.{Bool, cond, List, [], ◌∷◌, ◌++◌, ℕ, zero, suc, ◌*◌, ◌/◌, ◌%◌, ◌^◌, eqb, length, set}
use Rattle.block.specs.declared.Fast.{Fast}
use Rattle.block.specs.declared.BOp.{BOp}
use Rattle.block.specs.declared.Memory.{Memory}
use Rattle.block.specs.declared.Block.{Block}
use Rattle.block.specs.Block.{no_guard}
use Rattle.card.specs.Card.{Request, Outcome, RamGuard, Card}
use Rattle.card.specs.Step.{Way, exits, chains, looks_up}
use Rattle.card.specs.Run.{End, left, stopped, run}

-- ---- how a run is written
-- n bytes as one hexadecimal number, lowest address first
abbrev pub hex : ℕ → ℕ → List ℕ
hex zero x = []
hex (suc n) x = x / 256 ^ n % 256 ∷ hex n x

-- n words, and the sixteen registers as two times eight, the first first
abbrev pub words : ℕ → ℕ → List ℕ
words zero x = []
words (suc n) x = x / 2 ^ (32 * n) % 2 ^ 32 ∷ words n x

abbrev pub regs : (low high : ℕ) → List ℕ
regs a b = words 8 a ++ words 8 b

abbrev pub memory : (ram_base ram_len xip_base xip_len : ℕ) → Bool → Memory
memory rb rl xb xl m = record { ram_base = rb; ram_len = rl; xip_base = xb; xip_len = xl; map = m }

abbrev pub op : Fast → (len : ℕ) → (glue : Bool) → BOp
op f n g = record { fast = f; len = n; glue = g }

-- the card reads neither the layout of the processor record nor host addresses, but for the address of a RAM block's guard
abbrev pub block : Memory → (pc0 : ℕ) → List BOp → Block
block m pc os =
    record {
      layout = record { regs = 0; sp = 64; rets = 68; pc = 72; hold = 76 };
      memory = m;
      addresses = record { h_read = 0; h_write = 0; table = 0 };
      pc0 = pc;
      guard = no_guard;
      ops = os;
      n = length os;
    }

-- a RAM block: one with a guard
abbrev pub guarded : (at : ℕ) → Block → Block
guarded a b =
    record {
      layout = b.layout;
      memory = b.memory;
      addresses = b.addresses;
      pc0 = b.pc0;
      guard = record { at = a; h_ram_ok = 0 };
      ops = b.ops;
      n = b.n;
    }

abbrev pub outcome : (answer brk : ℕ) → (ram map : List ℕ) → Outcome
outcome a b r m = record { answer = a; brk = b; ram = r; map = m; version = 0; guards = [] }

-- an outcome of a RAM block, with the versions afterwards: the context's and the guard's
abbrev pub leaving : (context guard : ℕ) → Outcome → Outcome
leaving v g o = record { answer = o.answer; brk = o.brk; ram = o.ram; map = o.map; version = v; guards = g ∷ [] }

abbrev pub card : (regs : List ℕ) → (sp rets hold brk pc done : ℕ) → (ram map : List ℕ) → List Outcome → Card
card rs s r h b p d ram map os =
    record {
      regs = rs;
      sp = s;
      rets = r;
      hold = h;
      ram = ram;
      map = map;
      brk = b;
      version = 0;
      guards = [];
      pc = p;
      done = d;
      requests = [];
      outcomes = os;
    }

-- the card of a RAM block: the context's version, the guard's address and version
abbrev pub versions : (context at guard : ℕ) → Card → Card
versions v a g c =
    record {
      regs = c.regs;
      sp = c.sp;
      rets = c.rets;
      hold = c.hold;
      ram = c.ram;
      map = c.map;
      brk = c.brk;
      version = v;
      guards = record { at = a; version = g } ∷ [];
      pc = c.pc;
      done = c.done;
      requests = c.requests;
      outcomes = c.outcomes;
    }

-- ---- what is seen of a way of leaving, given the entries of the jump table: index, guest address
pub record Entry : Type 0 where
  pub index : ℕ
  pub guest : ℕ

abbrev pub entry : ℕ → ℕ → Entry
entry i g = record { index = i; guest = g }

-- a lookup at a place whose entry is not given is `unknown`; `dry` is a request without an outcome
pub data Seen : Type 0 where
  by_return by_table unknown dry : Seen
  by_chain : (site : ℕ) → Seen

-- "chosen by guest address bits 1 to 14"
abbrev pub lookup : List Entry → (pc : ℕ) → Seen
lookup [] pc = unknown
lookup (e ∷ es) pc = cond (eqb e.index (pc / 2 % 2 ^ 14)) (cond (eqb e.guest pc) by_table by_return) (lookup es pc)

abbrev pub seen : List Entry → Way → (pc : ℕ) → Seen
seen es exits pc = by_return
seen es (chains k) pc = by_chain k
seen es looks_up pc = lookup es pc

-- ---- the end: cells are sp, rets, hold, break word, pc, done count, the context's version, address and version of each guard
pub record Shown : Type 0 where
  pub left_by : Seen
  pub regs : List ℕ
  pub cells : List ℕ
  pub ram : List ℕ
  pub map : List ℕ
  pub requests : List Request

abbrev pub shows : Seen → (regs cells ram map : List ℕ) → List Request → Shown
shows how rs cs ram map qs = record { left_by = how; regs = rs; cells = cs; ram = ram; map = map; requests = qs }

abbrev pub of_guards : List RamGuard → List ℕ
of_guards [] = []
of_guards (g ∷ gs) = g.at ∷ g.version ∷ of_guards gs

abbrev pub shown_by : Seen → Card → Shown
shown_by how c =
    shows how c.regs (c.sp ∷ c.rets ∷ c.hold ∷ c.brk ∷ c.pc ∷ c.done ∷ c.version ∷ of_guards c.guards) c.ram c.map
    c.requests

abbrev pub shown : List Entry → End → Shown
shown es (left w c) = shown_by (seen es w c.pc) c
shown es (stopped c) = shown_by dry c

-- in what the end differs from the start
pub data Changes : Type 0 where
  reg cell : (n value : ℕ) → Changes
  ram map : List ℕ → Changes
  ◌&◌ : Changes → Changes → Changes

infixr 80 ◌&◌
abbrev pub changed : Changes → Shown → Shown
changed (reg n v) s = shows s.left_by (set s.regs n v) s.cells s.ram s.map s.requests
changed (cell n v) s = shows s.left_by s.regs (set s.cells n v) s.ram s.map s.requests
changed (ram l) s = shows s.left_by s.regs s.cells l s.map s.requests
changed (map l) s = shows s.left_by s.regs s.cells s.ram l s.requests
changed (c & d) s = changed d (changed c s)

abbrev pub sp : ℕ → Changes
sp = cell 0

abbrev pub rets : ℕ → Changes
rets = cell 1

abbrev pub hold : ℕ → Changes
hold = cell 2

abbrev pub brk : ℕ → Changes
brk = cell 3

abbrev pub pc : ℕ → Changes
pc = cell 4

abbrev pub done : ℕ → Changes
done = cell 5

abbrev pub version : ℕ → Changes
version = cell 6

abbrev pub guard_version : ℕ → Changes
guard_version = cell 8

-- a run: the block, flash, the limit, the start, the entries of the jump table, and the end
pub data Case : Type 0 where
  runs : Block → (flash : List ℕ) → (limit : ℕ) → Card → List Entry → Seen → Changes → List Request → Case

abbrev pub ends : Case → Shown
ends (runs b f n c es w d qs) = shown es (run b f n c)

abbrev pub end : Case → Shown
end (runs b f n c es w d qs) = let s : Shown = changed d (shown_by w c) in shows w s.regs s.cells s.ram s.map qs

-- ---- lists of cases
abbrev pub reached : List Case → List Shown
reached [] = []
reached (k ∷ ks) = ends k ∷ reached ks

abbrev pub expected : List Case → List Shown
expected [] = []
expected (k ∷ ks) = end k ∷ expected ks
