-- DEMAND 3: the block's words on the machine, from either entry, end as the card does.
--     demand_3     the claim of crate demand
-- Assumes nothing.
use mathlib.Core.Path.{◌≡◌, refl, sym, ap, ap₂, subst, ◌∙◌}
use mathlib.Core.Option.{none}
use mathlib.Core.List.{List, [], ◌∷◌, ◌++◌, map, append-nil, append_assoc}
use Prim.Native.Nat.{ℕ, zero, suc, ◌+◌, ◌*◌, ◌%◌, ◌^◌, ◌<◌, ◌≤◌}
use native.Mathlib.Omega.{arith}
use lib.ListN.{length, get_or, drop, length-map, length-append}
use lib.Seq.{drop-append_seam}
use Rattle.arm.specs.declared.Instr.{Instr}
use Rattle.arm.specs.Instr.{encode}
use Rattle.block.specs.declared.Block.{Block}
use Rattle.block.specs.Checked.{Checked}
use Rattle.code.specs.Items.{Sound, pad_of, halves}
use Rattle.code.specs.Tree.{top, Code, code, words, Line, plain, lines, nowhere, whole_lines, lines_words, instrs, find_in, pool_in}
use Rattle.code.specs.Machine.{stop, Reaches, Ends, Out, fell, went, left, ended, of_eff, straight, does, Follows}
use Rattle.code.proofs.Machine.{join, does_ok}
use Rattle.code.proofs.Reach.{halves-length, pad_le, whole-sound}
use Rattle.code.proofs.Fetch.{instrs-length}
use Rattle.machine.specs.State.{State, code as code_place, xip}
use Rattle.machine.specs.Memory.{bytes_of, base_of, size_of}
use Rattle.machine.specs.Execute.{Helpers}
use Rattle.machine.specs.Machine.{run}
use Rattle.machine.proofs.Keeps.{run-count}
use Rattle.machine.proofs.Fetch.{length-bytes}
use Rattle.card.specs.Card.{Card}
use Rattle.card.specs.Step.{Way, exits, chains, looks_up}
use Rattle.card.specs.Run.{left as leaves, run as run_card}
use Rattle.lowering.specs.Cache.{empty_cache}
use Rattle.lowering.specs.Steps.{block_steps}
use Rattle.lowering.specs.Fragments.{steps_code, opening, closing}
use Rattle.lowering.specs.Compile.{block_code, block_lines, block_words, body_offset, starts, targets, zip_sites, sites}
use Rattle.demand.specs.Premises.{Entry, first, body, Premises, AtFirst, AtBody}
use Rattle.demand.specs.Claim.{site_address, LeavesFor, Left, CalledInContext, Meets, Demand3}
use Rattle.demand.proofs.Next.{limit_is}
use Rattle.relation.specs.Lines.{Stop, returns, jumps, fails, bare, at, arm}
use Rattle.relation.specs.Abs.{nothing}
use Rattle.relation.specs.Relation.{Body, Leaves, ByTable}
use Rattle.bounds.proofs.Whole.{carries}
use Rattle.bounds.proofs.Sites.{sited}
use Rattle.execution.proofs.Steps.{Holds, Ready, addr, lines-words}
use Rattle.execution.proofs.Runs.{RunsTo, ends-run}
use Rattle.execution.proofs.Calls.{calls-run}
use Rattle.readiness.proofs.Ready.{block-ready}
use Rattle.exits.proofs.Closing.{closing_ok}
use Rattle.exits.proofs.Opening.{opening_ok}
use Rattle.exits.proofs.Start.{body_ok, start-sim, entered-body, loaded-body}
use Rattle.exits.proofs.Ends.{Entered, Loaded, SiteIs, left_return, left_table}
use Rattle.simulation.proofs.Sites.{Aimed}
use Rattle.simulation.proofs.Steps.{site_at}
use Rattle.simulation.proofs.Operations.{Leaving, body-leaves}

-- ---- the block's lines
-- the code behind the opening words
abbrev body_code : Block → Code top
body_code b = steps_code b empty_cache (block_steps b)

-- its lines, and the closing ones
abbrev body_lines : Block → List Line
body_lines b = lines (body_code b) nowhere 0 ++ map plain closing

-- thirteen opening words stand before them
lines_split : (b : Block) → block_lines b ≡ map plain opening ++ body_lines b
unfolding block_lines whole_lines block_code lines
lines_split b = append_assoc (map plain opening) (lines (body_code b) nowhere 0) (map plain closing)

opening-words : 13 ≡ 0 + words {n = top} (code opening)
unfolding opening words
opening-words = refl

opening-length : length (map plain opening) ≡ 13
unfolding opening
opening-length = refl

body-lines : (b : Block) → drop 13 (block_lines b) ≡ body_lines b
body-lines b =
    ap (drop 13) (lines_split b) ∙ ap (λ n. drop n (map plain opening ++ body_lines b)) (sym opening-length) ∙ drop-append_seam (map plain opening) (body_lines b)

-- ---- from the body to the end
module _ {b : Block} {h : Helpers} {s0 : State} (B : Body b h s0) (C : Checked b) (base : ℕ) where
  -- the closing instructions
  closing-ends : (q : ℕ) (t e : State) (to : ℕ) → straight (arm h base) closing t ≡ stop (returns to e) → Ends (arm h base) q (map plain closing) t (returns to e)
  unfolding does lines words Follows
  closing-ends q t e to r =
      let f = does_ok (arm h base) {n = top} (code closing) q (q + length closing) [] nowhere 0 t refl in
      subst (λ ls. Ends (arm h base) q ls t (returns to e)) (append-nil (map plain closing)) (subst (λ o. Follows (arm h base) q (map plain closing ++ []) t (q + length closing) [] nowhere 0 (of_eff o)) r f)

  -- the lines of the body do what its code does
  follows : (o : Out State Stop top) → does (arm h base) (body_code b) 13 s0 ≡ o → Follows (arm h base) 13 (body_lines b) s0 (13 + words (body_code b)) (map plain closing) nowhere 0 o
  follows o e = subst (λ u. Follows (arm h base) 13 (body_lines b) s0 (13 + words (body_code b)) (map plain closing) nowhere 0 u) e (does_ok (arm h base) (body_code b) 13 (13 + words (body_code b)) (map plain closing) nowhere 0 s0 refl)

  -- to the common exit, and through the closing instructions
  return_ends : (t e : State) (to : ℕ) → Reaches (arm h base) 13 (body_lines b) s0 (13 + words (body_code b) + 0) (map plain closing) t → straight (arm h base) closing t ≡ stop (returns to e) → Ends (arm h base) 13 (body_lines b) s0 (returns to e)
  return_ends t e to r s =
      let f = closing-ends (13 + words (body_code b) + 0) t e to s in
      record { p₁ = f.p₁; ls₁ = f.ls₁; s₁ = f.s₁; reaches = join (arm h base) r f.reaches; last = f.last }

  left_reaches : (t : State) → does (arm h base) (body_code b) 13 s0 ≡ left t → Reaches (arm h base) 13 (body_lines b) s0 (13 + words (body_code b) + 0) (map plain closing) t
  unfolding Follows
  left_reaches t e = follows (left t) e

  ended-ends : (r : Stop) → does (arm h base) (body_code b) 13 s0 ≡ ended r → Ends (arm h base) 13 (body_lines b) s0 r
  unfolding Follows
  ended-ends r e = follows (ended r) e

-- the opening instructions, and then the body
opened : (b : Block) (h : Helpers) (base : ℕ) (s s0 : State) (r : Stop) → does (arm h base) {n = top} (code opening) 0 (bare s) ≡ fell s0 → Ends (arm h base) 13 (body_lines b) s0 r → Ends (arm h base) 0 (drop 0 (block_lines b)) (bare s) r
unfolding lines words Follows
opened b h base s s0 r q x =
    let f : Reaches (arm h base) 0 (map plain opening ++ body_lines b) (bare s) 13 (body_lines b) s0 = subst (λ o. Follows (arm h base) {n = top} 0 (map plain opening ++ body_lines b) (bare s) 13 (body_lines b) nowhere 0 o) q (does_ok (arm h base) {n = top} (code opening) 0 13 (body_lines b) nowhere 0 (bare s) opening-words) in
    subst (λ ls. Ends (arm h base) 0 ls (bare s) r) (sym (lines_split b)) (record { p₁ = x.p₁; ls₁ = x.ls₁; s₁ = x.s₁; reaches = join (arm h base) f x.reaches; last = x.last })

-- the opening words and the closing ones are there
enough-words : (b : Block) → 13 < length (block_words b)
unfolding block_words closing
enough-words b =
    omega (arith, lines-words (block_lines b), ap length (lines_split b), length-append (map plain opening) (body_lines b), opening-length, length-append (lines (body_code b) nowhere 0) (map plain closing))

-- where the two entries are
pc_first : {b : Block} {limit : ℕ} {c : Card} {s : State} → AtFirst b limit c s → (n : ℕ) → 0 < n → base_of s.mem code_place + 4 * n ≤ 2 ^ 64 → s.pc ≡ addr (base_of s.mem code_place) 0
pc_first x n z l = x.pc ∙ omega arith

pc-body : {b : Block} {limit : ℕ} {c : Card} {s : State} → AtBody b limit c s → (n : ℕ) → 13 < n → base_of s.mem code_place + 4 * n ≤ 2 ^ 64 → s.pc ≡ addr (base_of s.mem code_place) 13
unfolding body_offset opening
pc-body x n z l = x.pc ∙ omega arith

-- ---- the words
words-short : (b : Block) → Checked b → length (lines_words (block_lines b)) < 2 ^ 18
unfolding lines_words
words-short b C =
    let is : List Instr = instrs (find_in (block_lines b)) 0 (block_lines b) in
    let ps : List ℕ = pool_in [] (block_lines b) in
    let pad : List ℕ = pad_of (length (block_lines b)) ps in
    omega (
      arith,
      (carries b C).short,
      instrs-length (find_in (block_lines b)) 0 (block_lines b),
      length-map is encode,
      halves-length ps,
      pad_le (length (block_lines b)) ps,
      length-append pad (halves ps),
      length-append (map encode is) (pad ++ halves ps),
    )

sound-lines : (b : Block) → Checked b → Sound (instrs (find_in (block_lines b)) 0 (block_lines b))
unfolding block_lines
sound-lines b C = let k = carries b C in whole-sound (block_code b) closing k.fine k.sound k.tests k.short

-- ---- the sites
zip-at : (ps ts : List ℕ) (k : ℕ) → length ps ≡ length ts → (get_or (zip_sites ps ts) k (record { at = 0; target = 0 })).at ≡ get_or ps k 0
zip-at [] ts k e = refl
zip-at (p ∷ ps) [] k e = absurd (omega arith)
zip-at (p ∷ ps) (t ∷ ts) zero e = refl
zip-at (p ∷ ps) (t ∷ ts) (suc k) e = zip-at ps ts k (omega arith)

zip-target : (ps ts : List ℕ) (k : ℕ) → length ps ≡ length ts
    → (get_or (zip_sites ps ts) k (record { at = 0; target = 0 })).target ≡ get_or ts k 0
zip-target [] [] k e = refl
zip-target [] (t ∷ ts) k e = absurd (omega arith)
zip-target (p ∷ ps) [] k e = absurd (omega arith)
zip-target (p ∷ ps) (t ∷ ts) zero e = refl
zip-target (p ∷ ps) (t ∷ ts) (suc k) e = zip-target ps ts k (omega arith)

zip_length : (ps ts : List ℕ) → length ps ≡ length ts → length (zip_sites ps ts) ≡ length ts
zip_length [] ts e = e
zip_length (p ∷ ps) [] e = absurd (omega arith)
zip_length (p ∷ ps) (t ∷ ts) e = ap suc (zip_length ps ts (omega arith))

body-sites : (b : Block) → starts (block_code b) 0 ≡ starts (body_code b) 13
unfolding block_code starts words opening
body-sites b = refl

site_is : (b : Block) (s : State) (k : ℕ) → (base_of s.mem code_place + 4 * get_or (starts (body_code b) 13) k 0) % 2 ^ 64 ≡ site_address b s k
unfolding sites
site_is b s k =
    ap (λ n. (base_of s.mem code_place + 4 * n) % 2 ^ 64)
    (ap (λ ps. get_or ps k 0) (sym (body-sites b)) ∙ sym (zip-at (starts (block_code b) 0) (targets (block_steps b)) k (sited b).all))

-- the target that is listed for a site is the pc that the card leaves for
leaves_for : (b : Block) (k : ℕ) (d : Card) → Aimed (chains k) d (targets (block_steps b)) → LeavesFor b k d.pc
unfolding sites
leaves_for b k d h = record {
  listed = omega (arith, zip_length (starts (block_code b) 0) (targets (block_steps b)) (sited b).all, h.0);
  target = zip-target (starts (block_code b) 0) (targets (block_steps b)) k (sited b).all ∙ h.1;
}

-- ---- a run of the machine, from a start of either kind
-- a state is itself at its own program counter and count
at_self : (s : State) {p n : ℕ} → s.pc ≡ p → s.count ≡ n → at p n (bare s) ≡ s
at_self s {p} {n} e k = ap (λ q. at q n (bare s)) (sym e) ∙ ap (λ m. at s.pc m (bare s)) (sym k)

-- the machine ends so, and calls helpers as it should
record Ran (b : Block) (h : Helpers) (s : State) (r : Stop) : Type 0 where
  leaving : RunsTo r (run (length (block_words b)) h s)
  in-context : (r ≡ fails → ⊥) → CalledInContext h s

module _ {b : Block} {h : Helpers} {entry : Entry} {limit : ℕ} {c : Card} {s : State} (C : Checked b) (P : Premises b h entry limit c s) where
  abbrev start : ℕ
  start = base_of s.mem code_place

  -- the code is in memory
  code-size : size_of s.mem code_place ≡ 4 * length (block_words b)
  code-size = ap length P.words ∙ length-bytes (block_words b)

  code-ends : start + 4 * length (block_words b) ≤ 2 ^ 64
  code-ends = omega (arith, code-size, P.apart.ends code_place (omega (arith, P.regions)))

  holds : Holds (lines_words (block_lines b)) start s.mem
  unfolding block_words
  holds = record { present = omega (arith, P.regions); start = refl; words = P.words }

  ready : Ready (block_lines b) start
  unfolding block_words
  ready = block-ready b C (carries b C).tests (words-short b C) (lines-words (block_lines b)) start (sound-lines b C) code-ends

  -- lines that end from position p on
  runs_from : (p : ℕ) (r : Stop) → s.pc ≡ addr start p → Ends (arm h start) p (drop p (block_lines b)) (bare s) r → Ran b h s r
  unfolding block_words
  runs_from p r e x =
      record {
        leaving = subst (λ t. RunsTo r (run (length (lines_words (block_lines b))) h t)) (at_self s e P.count)
            (ends-run h (block_lines b) start ready holds x 0 (length (lines_words (block_lines b))) (omega (arith, lines-words (block_lines b))));
        in-context = λ f. subst (CalledInContext h) (at_self s e P.count) (λ k t. calls-run h (block_lines b) start ready holds refl x.reaches x.last f 0 k t);
      }

  -- what the body's code does, and the claim
  module _ {s0 : State} (E : Entered entry s s0) (L : Loaded b limit c s s0) (runs : (r : Stop) → Ends (arm h start) 13 (body_lines b) s0 r → Ran b h s r) where
    B : Body b h s0
    B = body_ok P E L

    claimed : (w : Way) (d : Card) → run_card b (bytes_of s.mem xip) limit c ≡ leaves w d → Left b entry w d s (run (length (block_words b)) h s) × CalledInContext h s
    claimed w d e = by (does (arm h start) (body_code b) 13 s0) refl leaving.0
      where
        leaving : Leaving B C start empty_cache (block_steps b) 13 s0 w d
        leaving = body-leaves B C start (record { c = c; t = nothing; f = none }) w d P.done_lt
            (ap₂ (λ l n. run_card b l n c) (E.bytes_are xip (omega arith)) L.w27 ∙ e) 13 s0 (start-sim P E L)

        site : (v : Way) → Aimed v d (targets (block_steps b)) → SiteIs E b v d.pc (site_at start v (starts (body_code b) 13))
        site exits h = tt
        site (chains k) h = (leaves_for b k d h, site_is b s k)
        site looks_up h = tt

        table : (v : Way) (r : Stop) → ByTable b s0 v d r → Ends (arm h start) 13 (body_lines b) s0 r → Left b entry v d s (run (length (block_words b)) h s) × CalledInContext h s
        table exits r l x = absurd l
        table (chains k) r l x = absurd l
        table looks_up (returns to t) l x = absurd l
        table looks_up (jumps to t) l x =
            let z = runs (jumps to t) x in (
              subst (λ y. Left b entry looks_up d s y) (sym z.leaving.is) (left_table E L (limit_is entry P) z.leaving.count l),
              z.in-context (λ y. absurd (let f : ◌≡◌ {A = ℕ} 0 1 = cc in omega arith)),
            )
        table looks_up fails l x = absurd l

        by : (o : Out State Stop top) → does (arm h start) (body_code b) 13 s0 ≡ o
            → Leaves b s0 w d (site_at start w (starts (body_code b) 13)) o
            → Left b entry w d s (run (length (block_words b)) h s) × CalledInContext h s
        by (fell t) q l = absurd l
        by (went v t) q l = absurd l
        by (left t) q l =
            let (to, u, y, z) = closing_ok B l.kept start in
            let x = runs (returns to u) (return_ends B C start t u to (left_reaches B C start t q) y) in (
              subst (λ k. Left b entry w d s k) (sym x.leaving.is) (left_return E w x.leaving.count (site w leaving.1) l z),
              x.in-context (λ v. absurd (let f : ◌≡◌ {A = ℕ} 0 1 = cc in omega arith)),
            )
        by (ended r) q l = table w r l (ended-ends B C start r q)

    met : (w : Way) (d : Card) → run_card b (bytes_of s.mem xip) limit c ≡ leaves w d → Meets b h entry w d s (run (length (block_words b)) h s)
    met w d e = record { few = omega (arith, run-count (length (block_words b)) h s, P.count); left = (claimed w d e).0; in-context = (claimed w d e).1 }

-- ---- both entries
from_first : {b : Block} {h : Helpers} {limit : ℕ} {c : Card} {s : State} (C : Checked b) (P : Premises b h first limit c s) (w : Way) (d : Card) → run_card b (bytes_of s.mem xip) limit c ≡ leaves w d
    → Meets b h first w d s (run (length (block_words b)) h s)
from_first {b} {h} {limit} {c} {s} C P w d e =
    let (s0, q, k) = (opening_ok P (base_of s.mem code_place) {n = top}).runs 0 (bare s) refl in
    met C P k.0 k.1 (λ r x. runs_from C P 0 r (pc_first P.starts (length (block_words b)) (omega (arith, enough-words b)) (code-ends C P)) (opened b h (base_of s.mem code_place) s s0 r q x)) w d e

from_body : {b : Block} {h : Helpers} {limit : ℕ} {c : Card} {s : State} (C : Checked b) (P : Premises b h body limit c s) (w : Way) (d : Card) → run_card b (bytes_of s.mem xip) limit c ≡ leaves w d
    → Meets b h body w d s (run (length (block_words b)) h s)
from_body {b} {h} {limit} {c} {s} C P w d e =
    met C P (entered-body P) (loaded-body P) (λ r x. runs_from C P 13 r (pc-body P.starts (length (block_words b)) (enough-words b) (code-ends C P)) (subst (λ ls. Ends (arm h (base_of s.mem code_place)) 13 ls (bare s) r) (sym (body-lines b)) x)) w d e

pub demand_3 : Demand3
demand_3 b h first limit c s C P w d e = from_first C P w d e
demand_3 b h body limit c s C P w d e = from_body C P w d e
