-- Loads and stores. Document 01: "RAM is tried first, then XIP for loads, then the outside: a request, met by the next outcome."
use Rattle.std.specs.Prelude.{Bool, true, false, cond, not, ◌&&◌, List, [], ◌∷◌, ℕ, zero, suc, ◌+◌, ◌-◌, ◌*◌, ◌/◌, ◌%◌, ◌^◌, leb, eqb, get_or, set}
use Rattle.card.specs.Kinds.{Width, B8, B16, B32, bytes, Memory}
use Rattle.card.specs.Word.{plus, minus, field}
use Rattle.card.specs.Card.{Request, read, write, Outcome, Card, set_ram, asked}

-- ---- bytes, lowest first
-- n bytes from place o on, as a number; a byte is eight bits
unfoldable pub read_le : List ℕ → ℕ → ℕ → ℕ
read_le l o zero = 0
read_le l o (suc n) = get_or l o 0 % 256 + 256 * read_le l (suc o) n

unfoldable pub write_le : List ℕ → ℕ → ℕ → ℕ → List ℕ
write_le l o zero v = l
write_le l o (suc n) v = write_le (set l o (v % 256)) (suc o) n (v / 256)

-- ---- the outside
-- an access's number with the card after it; or a request that finds no outcome
pub data Access : Type 0 where
  got : ℕ → Card → Access
  unmet : Access

-- the answer is 32 bits
abbrev pub ask : Request → List Outcome → Card → Access
ask q [] c = unmet
ask q (o ∷ os) c = got (o.answer % 2 ^ 32) (asked q o os c)

-- ---- places in a region
abbrev pub even_if_half : Width → ℕ → ℕ
even_if_half B8 o = o
even_if_half B16 o = o - o % 2
even_if_half B32 o = o

-- "A halfword load reads at the address with its lowest bit cleared." "A word access is direct at any alignment": a load, and a store
-- but for `unaligned_store`
abbrev pub load_offset : Width → (address base : ℕ) → ℕ
load_offset w a base = even_if_half w (minus a base)

-- an access of w at an offset lies inside a region of that length
abbrev pub inside : Width → (offset len : ℕ) → Bool
inside w o len = leb o (len - bytes w)

-- a loaded number as 32 bits
abbrev pub extend : (signed : Bool) → Width → ℕ → ℕ
extend false w v = v
extend true B8 v = field true 0 8 v
extend true B16 v = field true 0 16 v
extend true B32 v = v

abbrev pub extended : Bool → Width → Access → Access
extended signed w (got v c) = got (extend signed w v) c
extended signed w unmet = unmet

-- ---- `load`, of operation number i
unfoldable pub load : Memory → (flash : List ℕ) → (i : ℕ) → Width → (signed : Bool) → (address : ℕ) → Card → Access
load m flash i w signed a c =
    let r : ℕ = load_offset w a m.ram_base in
    let x : ℕ = load_offset w a m.xip_base in
    extended signed w (
    cond (inside w r m.ram_len) (got (read_le c.ram r (bytes w)) c) (
    cond (inside w x m.xip_len) (got (read_le flash x (bytes w)) c) (
    ask (read a (bytes w) (plus c.done i)) c.outcomes c)))

-- ---- `store`, of operation number i
-- "An odd halfword store goes to the write helper." 2026-04: "With map flag 1 a word store whose address isn't a multiple of 4 goes to
-- the write helper."
abbrev pub unaligned_store : (words : Bool) → Width → (address : ℕ) → Bool
unaligned_store words B8 a = false
unaligned_store words B16 a = eqb (a % 2) 1
unaligned_store words B32 a = words && not (eqb (a % 4) 0)

-- "The code map (one byte per 4 RAM bytes, rounded up) is asked for the group holding the store's first byte; nonzero means the
-- write helper."
abbrev pub holds_code : Memory → (offset : ℕ) → Card → Bool
holds_code m o c = m.map && not (eqb (read_le c.map (o / 4) 1) 0)

-- alone: a store of its own, no word of a group: "A group of 2026-01 is no word store here"
unfoldable pub direct : Memory → Width → (alone : Bool) → (address : ℕ) → Card → Bool
direct m w alone a c =
    let o : ℕ = minus a m.ram_base in
    not (unaligned_store (alone && m.map) w a) && inside w o m.ram_len && not (holds_code m o c)

-- the number of a store means nothing
unfoldable pub store : Memory → (i : ℕ) → Width → (alone : Bool) → (address value : ℕ) → Card → Access
store m i w alone a v c =
    cond (direct m w alone a c) (got 0 (set_ram (write_le c.ram (minus a m.ram_base) (bytes w) v) c)) (
    ask (write a (bytes w) (plus c.done i) v) c.outcomes c)
