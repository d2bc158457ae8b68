-- What the loads and stores of the lowering do, for an address that is a place in a region (`At`).
--     exec_imm, exec-reg, exec-literal         the address of an access
--     access-load, access_signed, access-store     what it does; exec_imm .. come before, by `◌∙◌`
--     pair-load, pair-store                    two registers, sixteen bytes
--     exec-pair                                the address of a pair, and the base afterwards
-- Assumes nothing.
use mathlib.Core.Path.{◌≡◌, refl, ap, ◌∙◌}
use mathlib.Core.Bool.{true}
use mathlib.Core.List.{List}
use Prim.Native.Nat.{ℕ, ◌+◌, ◌*◌, ◌%◌, ◌^◌, ◌<◌}
use native.Mathlib.Omega.{arith}
use lib.ListN.{length}
use Rattle.machine.specs.Isa.{W, X, Access, Scale, Mode, Pair, Stp, Ldp, MemoryImm, MemoryReg, MemoryPair, LoadLiteral}
use Rattle.machine.specs.Bits.{SignExtend}
use Rattle.machine.specs.State.{Region, State, R, RSP, with_x, with_mem}
use Rattle.machine.specs.Memory.{read_le, write_le, bytes_of, with_bytes, load, store, writable, Apart}
use Rattle.machine.specs.Execute.{Helpers, done, accessed, stores, loads, loads_signed, direction, access_bytes, access, scale_by}
use Rattle.machine.specs.Execute.{pair_address, writeback, pair, words, execute}
use Rattle.machine.proofs.Regions.{At, Alike, load_ok, store_ok, at_part, at_alike, alike-store, apart-alike, bytes_same, with_with}

-- ---- addresses
module _ (h : Helpers) (s : State) where
  pub exec_imm : (a : Access) (imm rn rt : ℕ) → execute h (MemoryImm a imm rn rt) s ≡ access (direction a) (access_bytes a) ((RSP X s rn + imm * access_bytes a) % 2 ^ 64) rt s
  unfolding execute
  exec_imm a imm rn rt = refl

  pub exec-reg : (a : Access) (c : Scale) (rm rn rt : ℕ) → execute h (MemoryReg a c rm rn rt) s
      ≡ access (direction a) (access_bytes a) ((RSP X s rn + R W s rm * scale_by c (access_bytes a)) % 2 ^ 64) rt s
  unfolding execute
  exec-reg a c rm rn rt = refl

  pub exec-literal : (imm rt : ℕ) → execute h (LoadLiteral imm rt) s ≡ access loads 8 ((s.pc + words 19 imm) % 2 ^ 64) rt s
  unfolding execute
  exec-literal imm rt = refl

  pub exec-pair : (m : Mode) (p : Pair) (imm rt2 rn rt : ℕ) → execute h (MemoryPair m p imm rt2 rn rt) s
      ≡ (let d : ℕ = (RSP X s rn + SignExtend 10 64 (imm * 8)) % 2 ^ 64 in pair p (pair_address m (RSP X s rn) d) rt rt2 (writeback m rn d) s)
  unfolding execute
  exec-pair m p imm rt2 rn rt = refl

-- ---- one register
module _ (s : State) (apart : Apart s.mem) (rt : ℕ) {a k o n : ℕ} (here : At s.mem a k o n) where
  pub access-load : access loads n a rt s ≡ done (with_x rt (read_le (bytes_of s.mem k) o n) s)
  access-load = ap (λ q. accessed q (λ v. done (with_x rt v s))) (load_ok apart here)

  pub access_signed : access loads_signed n a rt s ≡ done (with_x rt (SignExtend (8 * n) 32 (read_le (bytes_of s.mem k) o n)) s)
  access_signed = ap (λ q. accessed q (λ v. done (with_x rt (SignExtend (8 * n) 32 v) s))) (load_ok apart here)

  pub access-store : writable k ≡ true → access stores n a rt s ≡ done (with_mem (with_bytes k (write_le (bytes_of s.mem k) o n (R X s rt)) s.mem) s)
  access-store w = ap (λ q. accessed q (λ m. done (with_mem m s))) (store_ok apart here (R X s rt) w)

-- ---- two registers
module _ (s : State) (apart : Apart s.mem) (rt rt2 : ℕ) (after : State → State) {a k o : ℕ} (here : At s.mem a k o 16) where
  first : At s.mem a k o 8
  first = record { region = here.region; address = here.address; fits = omega (arith, here.fits); positive = omega arith }

  second : At s.mem ((a + 8) % 2 ^ 64) k (o + 8) 8
  second = at_part apart here 8 8 (omega arith) (omega arith)

  pub pair-load : pair Ldp a rt rt2 after s ≡ done (after (with_x rt2 (read_le (bytes_of s.mem k) (o + 8) 8) (with_x rt (read_le (bytes_of s.mem k) o 8) s)))
  pair-load =
      ap (λ q. accessed q (λ u. accessed (load s.mem ((a + 8) % 2 ^ 64) 8) (λ v. done (after (with_x rt2 v (with_x rt u s)))))) (load_ok apart first)
      ∙ ap (λ q. accessed q (λ v. done (after (with_x rt2 v (with_x rt (read_le (bytes_of s.mem k) o 8) s))))) (load_ok apart second)

  pub pair-store : writable k ≡ true → pair Stp a rt rt2 after s
      ≡ done (after (with_mem (with_bytes k (write_le (write_le (bytes_of s.mem k) o 8 (R X s rt)) (o + 8) 8 (R X s rt2)) s.mem) s))
  pair-store w =
      let l : List ℕ = write_le (bytes_of s.mem k) o 8 (R X s rt) in
      let m : List Region = with_bytes k l s.mem in
      let q : Alike s.mem m = alike-store k o 8 (R X s rt) s.mem in
      ap (λ p. accessed p (λ u. accessed (store u ((a + 8) % 2 ^ 64) 8 (R X s rt2)) (λ v. done (after (with_mem v s))))) (store_ok apart first (R X s rt) w)
      ∙ ap (λ p. accessed p (λ v. done (after (with_mem v s)))) (store_ok (apart-alike q apart) (at_alike q second) (R X s rt2) w)
      ∙ ap (λ v. done (after (with_mem v s))) (twice k l (λ y. write_le y (o + 8) 8 (R X s rt2)) s.mem here.region)
    where
      twice : (k : ℕ) (l : List ℕ) (f : List ℕ → List ℕ) (m : List Region) → k < length m → with_bytes k (f (bytes_of (with_bytes k l m) k)) (with_bytes k l m) ≡ with_bytes k (f l) m
      twice k l f m h = ap (λ y. with_bytes k (f y) (with_bytes k l m)) (bytes_same k l m h) ∙ with_with k l (f l) m
