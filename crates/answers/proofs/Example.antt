-- Document 01's whole listing, for every lent slice: 35 words, or 10; 35 are needed; and its walk over the patches. And a block of two
-- sites, listed in the other order.
use mathlib.Core.Path.{◌≡◌, refl, sym, ap, ◌∙◌}
use mathlib.Core.Bool.{false}
use mathlib.Core.List.Perm
use mathlib.Core.List.{List, [], ◌∷◌, ◌++◌}
use Prim.Native.Nat.{ℕ, ◌<◌, ◌≤◌, ◌/◌, ◌%◌}
use lib.ListN.{length, drop, replicate}
use Rattle.block.specs.declared.Block.{Block}
use Rattle.block.specs.Block.{no_guard}
use Rattle.record.specs.Record.{Accepted as NoFault, Reading, nop, num16, num32, num64, field_fault, layout_fault, region_fault, memory_fault, start_fault, contents_fault}
use Rattle.record.specs.Record.{operation_of, operation_fault, operations, header, refused_or, layout_field, memory_field, addresses_field}
use Rattle.record.specs.Record.{start_field, guard_field, within_ram, reading}
use Rattle.code.specs.Items.{index, add, halves, pad_of, base_of}
use Rattle.code.specs.Tree.{Line, words, lines, instrs, whole_lines, pool_in, find_in, lines_words}
use Rattle.code.specs.Walk.{lines_at, patches_of, unpatched_words, completed_at, walked_words}
use Rattle.lowering.specs.Instrs.{mov32}
use Rattle.lowering.specs.Cache.{flush_from, flush}
use Rattle.lowering.specs.Steps.{ops_steps, block_steps}
use Rattle.lowering.specs.Fragments.{chain, exit_imm, limit, step_code, step_cache, steps_code, opening, closing}
use Rattle.lowering.specs.Compile.{block_words, block_lines, block_code, body_offset, sites, starts}
use Rattle.lowering.specs.declared.Site.{Site}
use Rattle.lowering.proofs.Example.{second, second_sites}
use Rattle.finish.specs.Finish.{zeros}
use Rattle.answers.specs.Translation.{accepted, refused, translation, lent_after}
use Rattle.answers.specs.WordsNeeded.{takes, need_behind, words_needed}
use Rattle.answers.specs.Sites.{ListedOnce, by_position}
use Rattle.answers.proofs.Cases.{Short, Fits, is_short, does-fit}
use Rattle.answers.proofs.Sites.{in_order}

-- four bytes, lowest first
abbrev word : ℕ → List ℕ
word n = n % 256 ∷ n / 256 % 256 ∷ n / 65536 % 256 ∷ n / 16777216 ∷ []

-- "For offsets 0, 64, 68, 72, 76, RAM 01000000 length 00010000, XIP 02000000 length 00100000, flag 0, addresses zero, block 02000000, no
-- operations"
abbrev record_bytes : List ℕ
record_bytes =
    (1 ∷ 20 ∷ 0 ∷ word 0) ++ word 64 ++ word 68 ++ word 72 ++ word 76
    ++ (2 ∷ 17 ∷ 0 ∷ word 0x01000000) ++ word 0x00010000 ++ word 0x02000000 ++ word 0x00100000 ++ (0 ∷ [])
    ++ (3 ∷ 24 ∷ 0 ∷ replicate 24 0)
    ++ (4 ∷ 4 ∷ 0 ∷ word 0x02000000)

abbrev block : Block
block =
    record {
      layout = record { regs = 0; sp = 64; rets = 68; pc = 72; hold = 76 };
      memory = record { ram_base = 0x01000000; ram_len = 0x00010000; xip_base = 0x02000000; xip_len = 0x00100000; map = false };
      addresses = record { h_read = 0; h_write = 0; table = 0 };
      pc0 = 0x02000000;
      guard = no_guard;
      ops = replicate 32 nop;
      n = 0;
    }

abbrev listing : List ℕ
listing =
    0xa9ba7bfd ∷ 0xa90153f3 ∷ 0xa9025bf5 ∷ 0xa90363f7 ∷ 0xa9046bf9
    ∷ 0xa90573fb ∷ 0xaa0003f3 ∷ 0xaa0103f4 ∷ 0xaa0203f5 ∷ 0xaa0303f6
    ∷ 0x2a0403fb ∷ 0xaa0503f9 ∷ 0x5280001a ∷ 0x11000349 ∷ 0x6b1b013f
    ∷ 0x540000a9 ∷ 0x52a04009 ∷ 0xb9004a69 ∷ 0x11000340 ∷ 0x14000009
    ∷ 0x1100035a ∷ 0x14000001 ∷ 0x52a04009 ∷ 0xb9004a69 ∷ 0x10ffffaa
    ∷ 0xf900128a ∷ 0x2a1a03e0 ∷ 0x14000001 ∷ 0xa94573fb ∷ 0xa9446bf9
    ∷ 0xa94363f7 ∷ 0xa9425bf5 ∷ 0xa94153f3 ∷ 0xa8c67bfd ∷ 0xd65f03c0 ∷ []

read_is : reading record_bytes ≡ record { answer = NoFault; block = block }
unfolding
    num16 num32 num64 field_fault layout_fault region_fault memory_fault start_fault contents_fault operation_of operation_fault operations
    header refused_or layout_field memory_field addresses_field start_field guard_field within_ram reading
read_is = refl

words_are : block_words (reading record_bytes).block ≡ listing
unfolding
    block_words block_lines block_code chain exit_imm limit step_code step_cache steps_code opening closing flush_from flush mov32 ops_steps
    block_steps index add halves pad_of base_of words lines instrs whole_lines pool_in find_in lines_words
words_are = ap (λ (r : Reading). block_words r.block) read_is

sites_are : sites (reading record_bytes).block ≡ record { at = 21; target = 0x02000000 } ∷ []
unfolding block_code chain exit_imm limit step_code step_cache steps_code opening flush_from flush mov32 ops_steps block_steps words sites starts
sites_are = ap (λ (r : Reading). sites r.block) read_is

module _ (lent : List ℕ) where
  pub words_35 : 35 ≤ length lent
      → (translation record_bytes lent ≡ accepted 35 52 (record { at = 21; target = 0x02000000 } ∷ []))
      × (lent_after record_bytes lent ≡ listing ++ drop 35 lent)
  unfolding body_offset opening
  words_35 l =
      let f : Fits record_bytes lent = does-fit record_bytes lent (ap (λ (r : Reading). r.answer) read_is) (rw words_are l) in
      (f.answer ∙ rw (words_are, sites_are), f.words ∙ rw words_are)

  -- "34 lent"
  pub ten : length lent < 35 → (translation record_bytes lent ≡ refused 10 77) × (lent_after record_bytes lent ≡ zeros lent)
  ten l =
      let f : Short record_bytes lent = is_short record_bytes lent (ap (λ (r : Reading). r.answer) read_is) (rw words_are l) in
      (f.answer, f.words)

-- "the number of words the block takes"
pub needs_35 : words_needed record_bytes ≡ takes 35
unfolding words_needed need_behind
needs_35 =
    ap (λ (r : Reading). need_behind r.answer (reading record_bytes).block) read_is ∙ ap (λ ws. takes (length ws)) words_are

-- ---- the walk over the patches: the limit test's branch, the exit's, the chain site's, the site's address, the exit's; and the words where
-- it stops behind two of them
abbrev block-lines : List Line
block-lines = block_lines (reading record_bytes).block

pub patches_are : patches_of block-lines ≡ 15 ∷ 19 ∷ 21 ∷ 24 ∷ 27 ∷ []
unfolding
    block_lines block_code chain exit_imm limit step_code step_cache steps_code opening closing flush_from flush mov32 ops_steps block_steps
    words lines whole_lines patches_of lines_at
patches_are = ap (λ (r : Reading). patches_of (block_lines r.block)) read_is

pub walked_2 : walked_words 2 block-lines ≡
    0xa9ba7bfd ∷ 0xa90153f3 ∷ 0xa9025bf5 ∷ 0xa90363f7 ∷ 0xa9046bf9
    ∷ 0xa90573fb ∷ 0xaa0003f3 ∷ 0xaa0103f4 ∷ 0xaa0203f5 ∷ 0xaa0303f6
    ∷ 0x2a0403fb ∷ 0xaa0503f9 ∷ 0x5280001a ∷ 0x11000349 ∷ 0x6b1b013f
    ∷ 0x540000a9 ∷ 0x52a04009 ∷ 0xb9004a69 ∷ 0x11000340 ∷ 0x14000009
    ∷ 0x1100035a ∷ 0x14000000 ∷ 0x52a04009 ∷ 0xb9004a69 ∷ 0x1000000a
    ∷ 0xf900128a ∷ 0x2a1a03e0 ∷ 0x14000000 ∷ 0xa94573fb ∷ 0xa9446bf9
    ∷ 0xa94363f7 ∷ 0xa9425bf5 ∷ 0xa94153f3 ∷ 0xa8c67bfd ∷ 0xd65f03c0 ∷ []
unfolding
    block_lines block_code chain exit_imm limit step_code step_cache steps_code opening closing flush_from flush mov32 ops_steps block_steps
    index add halves pad_of base_of words lines instrs whole_lines pool_in find_in lines_words patches_of lines_at unpatched_words completed_at
    walked_words
walked_2 = ap (λ (r : Reading). walked_words 2 (block_lines r.block)) read_is

-- ---- the block `second` of crates/lowering/proofs/Example.antt has two sites, whose targets fall where their positions rise. Exchanged,
-- they are what document 01 asked for; sorted by position they are `sites second`.
abbrev exchanged : List Site
exchanged = record { at = 133; target = 0x02000200 } ∷ record { at = 121; target = 0x0200020e } ∷ []

pub exchanged-listed : ListedOnce (sites second) exchanged
exchanged-listed = (in_order second).one_order.was_free exchanged (rw second_sites (Perm.swap _ _ []))

pub exchanged-sorted : by_position exchanged ≡ sites second
exchanged-sorted = sym second_sites
