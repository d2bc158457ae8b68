-- The assembler's state, and what each item does to it: lent words, one lent table, and counts that stop at 2 ^ 20.
use Rattle.std.specs.Prelude.{◌≡◌, List, [], ◌∷◌, ℕ, zero, suc, ◌+◌, ◌*◌, ◌/◌, ◌%◌, ◌^◌, ltb, eqb, pos, set, get_or}
use Rattle.arm.specs.Instr.{encode}
use Rattle.code.specs.Items.{pick, fill, label, literal, Item, ins, go, new, bind, index}
use Rattle.code.specs.declared.Fix.{Fix}
use Rattle.code.specs.declared.Fix.TheVariants.{B26, B19, B14, Adr21}
use Rattle.code.specs.Emit.{kind}
use Rattle.code.specs.Calls.{bumped}
use Rattle.asm.specs.declared.Asm.{Asm}
use Rattle.asm.specs.declared.Counts.{Counts}
use Rattle.asm.specs.declared.Label.{Label}
use Rattle.asm.specs.declared.Reference.{Reference}
use Rattle.asm.specs.declared.Reference.TheVariants.{ToLabel, ToPool}

pub record State : Type 0 where
  pub words : List ℕ
  pub tab : List ℕ
  pub asm : Counts

abbrev pub parts : List ℕ → List ℕ → Counts → State
parts ws t c = record { words = ws; tab = t; asm = c }

-- what an assembler has written
abbrev pub state : Asm → State
state a = parts a.words.now a.table.now a.counts

-- b is a with this state, in the same lent rooms
pub record Wrote (a : Asm) (s : State) (b : Asm) : Type 0 where
  pub code : state b ≡ s
  pub words : b.words.ghost_name ≡ a.words.ghost_name
  pub table : b.table.ghost_name ≡ a.table.ghost_name

abbrev pub counts : (at labels fixups literals : ℕ) → Counts
counts p l f k = record { at = p; labels = l; fixups = f; literals = k }

-- nothing emitted
abbrev pub begin : Counts
begin = counts 0 0 0 0

abbrev pub at_most : ℕ → ℕ → ℕ
at_most m n = pick (ltb m n) m n

-- ---- the table: the labels' positions, the literals, the fix-ups; sized for 32 operations that move groups of registers
abbrev pub label_room : ℕ
label_room = 2048

abbrev pub literal_room : ℕ
literal_room = 8

abbrev pub fixup_room : ℕ
fixup_room = 4096

abbrev pub literals_at : ℕ
literals_at = label_room

abbrev pub fixups_at : ℕ
fixups_at = literals_at + literal_room

abbrev pub table_room : ℕ
table_room = fixups_at + fixup_room

unfoldable pub labelled : ℕ → ℕ → List ℕ → List ℕ
labelled l p t = pick (ltb l label_room) (set t l p) t

-- ---- a fix-up's cell: its position, and its reference by two numbers, that of the label or the literal and that of the kind
abbrev pub label_of : ℕ → Label
label_of n = record { 0 = n }

abbrev pub fix_no : Fix → ℕ
fix_no B26 = 0
fix_no B19 = 1
fix_no B14 = 2
fix_no Adr21 = 3

abbrev pub kind_no : Reference → ℕ
kind_no (ToLabel l f) = fix_no f
kind_no (ToPool i) = 4

abbrev pub goal_no : Reference → ℕ
goal_no (ToLabel l f) = l.0
goal_no (ToPool i) = i

unfoldable pub ref_no : Reference → ℕ
ref_no r = goal_no r % 2 ^ 29 * 8 + kind_no r

unfoldable pub packed : ℕ → Reference → ℕ
packed p r = p * 2 ^ 32 + ref_no r

-- back, from any number
unfoldable pub fix_of : ℕ → Fix
fix_of k = pick (eqb k 0) B26 (pick (eqb k 2) B14 (pick (eqb k 3) Adr21 B19))

unfoldable pub ref_of : ℕ → Reference
ref_of n = pick (eqb (n % 8) 4) (ToPool (n / 8)) (ToLabel (label_of (n / 8)) (fix_of (n % 8)))

unfoldable pub fixup : ℕ → ℕ → List ℕ → List ℕ
fixup n f t = pick (ltb n fixup_room) (set t (fixups_at + n) f) t

-- so many literals, from number i on
unfoldable pub literals_from : ℕ → ℕ → List ℕ → List ℕ
literals_from i zero t = []
literals_from i (suc k) t = get_or t (literals_at + i) 0 ∷ literals_from (suc i) k t

-- ---- one word more
unfoldable pub word : ℕ → State → State
word w s = parts (set s.words s.asm.at w) s.tab (counts (bumped s.asm.at) s.asm.labels s.asm.fixups s.asm.literals)

-- the next label's number is given out
unfoldable pub made : Counts → Counts
made a = counts a.at (bumped a.labels) a.fixups a.literals

-- a word with its fix-up
unfoldable pub fixed : Reference → (w : ℕ) → State → State
fixed r w s =
    parts (set s.words s.asm.at w) (fixup s.asm.fixups (packed s.asm.at r) s.tab)
    (counts (bumped s.asm.at) s.asm.labels (bumped s.asm.fixups) s.asm.literals)

-- the literals so far
abbrev pub kept : State → ℕ
kept s = at_most literal_room s.asm.literals

unfoldable pub held : State → List ℕ
held s = literals_from 0 (kept s) s.tab

-- a literal is kept where its number i is none of those so far, if there is room
unfoldable pub keep_at : (i v : ℕ) → State → State
keep_at i v s =
    pick (ltb i (kept s)) s
    (pick (ltb (kept s) literal_room) (parts s.words (set s.tab (literals_at + kept s) v) (counts s.asm.at s.asm.labels s.asm.fixups (suc (kept s)))) s)

-- ---- ONE ITEM
unfoldable pub put : Item → State → State
put (ins i) s = word (encode i) s
put (go h (label l)) s = fixed (ToLabel (label_of l) (kind h)) (encode (fill h (pos 0))) s
put (go h (literal v)) s = fixed (ToPool (index v (held s))) (encode (fill h (pos 0))) (keep_at (index v (held s)) v s)
put new s = parts s.words s.tab (made s.asm)
put (bind l) s = parts s.words (labelled l s.asm.at s.tab) s.asm

unfoldable pub run : List Item → State → State
run [] s = s
run (i ∷ is) s = run is (put i s)
